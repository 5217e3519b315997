-- A group of conses is made as the cells of one list.
use Rattle.std.proofs.Common.{◌≡◌, ℕ, zero, suc, ◌+◌, ◌-◌, ◌*◌, ◌<◌, ◌≤◌, ◌⊎◌, inl, inr, refl, sym, ap, ◌∙◌, subst, arith, List, [], ◌∷◌, ◌++◌, length, map, take, drop, replicate, Bool, true, false, Some}
use Rattle.std.specs.Prelude.{if◌then◌else◌, ◌==◌, slice_index}
use Rattle.std.proofs.lemmas.Bool.Decides.{nat_tests}
use Rattle.std.proofs.lemmas.List.Elements.{All-replicate}
use Rattle.std.proofs.lemmas.List.{length-drop, get_or-append-add, get_or-drop, get_or-take, get_or-replicate, get_or_past, length-map, length-replicate, length-take-le}
use Rattle.std.proofs.lemmas.List.Sums.{sum_by-cons}
use Rattle.std.proofs.lemmas.Bool.{cases_lt}
use Rattle.store_word.specs.Words.{Parts, null_word}
use Rattle.store_word.specs.declared.word.Content.TheVariants.{Null, Nil as NilWord, List as ListAt}
use Rattle.store_word.specs.declared.word.CdrCode.{CdrCode}
use Rattle.store_word.specs.declared.word.CdrCode.TheVariants.{Next}
use Rattle.lisp_graph.specs.declared.object.Value.{Value}
use Rattle.lisp_graph.specs.declared.object.Value.TheVariants as V
use Rattle.lisp_graph.specs.declared.object.Body.TheVariants.{Cons}
use Rattle.lisp_graph.specs.declared.object.Object.{Object}
use Rattle.lisp_graph.specs.declared.world.World.{World}
use Rattle.lisp_graph.specs.Graph.{no_object, object_at}
use Rattle.lisp_graph.specs.Groups.{to_tail}
use Rattle.lisp_graph.specs.Effect.{cell_of, link, list_from}
use Rattle.lisp_graph.proofs.GraphInvariant.{length-list_from}
use Rattle.mem_port.specs.Store as Memory
use Rattle.area_space.specs.Table.{Table}
use Rattle.block_store.specs.obj_layout.Forwards.{word_at, Final, forward_of, here}
use Rattle.block_store.specs.lisp_meaning.State.{object}
use Rattle.block_store.specs.lisp_meaning.Changes.{with_made}
use Rattle.block_store.specs.lisp_meaning.Roles.{AsCons, Role, as_ref, value_of}
use Rattle.heap_load.specs.Drafts.{IsDraft, car_of, charge_in}
use Rattle.heap_load.proofs.ConsGroups.{group_is}
use Rattle.block_store.specs.lisp_ground.Leading.{cdr_by, cdr_in}
use Rattle.block_store.proofs.lisp_ground.words.References.{references_lead}
use Rattle.block_store.specs.transporter.LiveWordsUnchanged.{OnlyGrows}
use Rattle.block_store.specs.transporter.Making.{HasQuota, MadeOn}
use Rattle.cdr_lists.specs.Lists.{CanList, ListedOn, MeansValues, cell_code, cell_word, item_word}
use Rattle.heap_load.specs.Places.{PlaceView, cell_place, place_at}
use Rattle.heap_load.specs.Loading.{Drafted, IsLoadable, IsPlace, tag_for, loaded}
use Rattle.heap_load.proofs.NewDrafts.{drafted_more, nil_word, quota_for, store_with}

-- Lists

-- cells of lists of the same length are drafts of each other
pub cells_alike : (area number : ℕ) (cars others : List Value) → length cars ≡ length others → (j : ℕ) → j < length cars → (name : ℕ)
    → IsDraft name (object_at (list_from area number cars) j) (object_at (list_from area number others) j) true
unfolding list_from
cells_alike area number [] others e j low name = absurd (omega arith)
cells_alike area number (car ∷ cars) [] e j low name = absurd (omega arith)
cells_alike area number (car ∷ cars) (other ∷ others) e zero low name = record {
  area = refl;
  charge = refl;
  header = refl;
  cell_cdr = λ is. same cars others (omega arith);
  car = λ pair known. absurd (cc (pair));
  cdr = λ pair known. absurd (cc (pair));
}
  where
    same : (xs ys : List Value) → length xs ≡ length ys → link number ys ≡ link number xs
    same [] [] e = refl
    same [] (y ∷ ys) e = absurd (omega arith)
    same (x ∷ xs) [] e = absurd (omega arith)
    same (x ∷ xs) (y ∷ ys) e = refl
cells_alike area number (car ∷ cars) (other ∷ others) e (suc j) low name = cells_alike area (suc number) cars others (omega arith) j (omega arith) name

-- the body of a cell that isn't the last
pub cell_body : (area number : ℕ) (cars : List Value) (j : ℕ) → suc j < length cars → (car : Value) × ((object_at (list_from area number cars) j).body ≡ Cons car (V.Ref (suc (number + j))))
unfolding list_from
cell_body area number [] j low = absurd (omega arith)
cell_body area number (car ∷ []) j low = absurd (omega arith)
cell_body area number (car ∷ next ∷ cars) zero low = let e : number ≡ number + 0 = omega arith in (car, ap (λ (n : ℕ). Cons car (V.Ref (suc n))) e)
cell_body area number (car ∷ next ∷ cars) (suc j) low =
    let e : suc number + j ≡ number + suc j = omega arith in
    let rest = cell_body area (suc number) (next ∷ cars) j (omega arith) in
    (rest.0, rest.1 ∙ ap (λ (n : ℕ). Cons rest.0 (V.Ref (suc n))) e)

-- each is a cons
cell_cons : (area number : ℕ) (cars : List Value) (i : ℕ) → i < length cars → (car : Value) × (cdr : Value) × ((object_at (list_from area number cars) i).body ≡ Cons car cdr)
unfolding list_from
cell_cons area number [] i low = absurd (omega arith)
cell_cons area number (car ∷ cars) zero low = (car, link number cars, refl)
cell_cons area number (car ∷ cars) (suc i) low = cell_cons area (suc number) cars i (omega arith)

pub cells_charge : (area number : ℕ) (cars : List Value) → charge_in area (list_from area number cars) ≡ 3 * length cars
unfolding list_from
cells_charge area number [] = refl
cells_charge area number (car ∷ cars) =
    let s = sum_by-cons (λ (o : Object). if o.area == area then o.charge else 0) (cell_of area car (link number cars)) (list_from area (suc number) cars) in
    let same : (area == area) ≡ true = grind (arith, nat_tests) in
    let pick : Bool → ℕ = λ b. if b then 3 else 0 in
    let one : pick (area == area) ≡ 3 = rw same refl in
    let i = cells_charge area (suc number) cars in
    omega (arith, s, one, i)

-- the conses of a group, and a list with nil in each car
module _ (world : World) (number count : ℕ) (group : to_tail (object_at world.objects number).area number (drop number world.objects) ≡ Some count) where
  abbrev pub group_area : ℕ
  group_area = (object_at world.objects number).area

  abbrev pub nils : List Value
  nils = replicate count V.Nil

  abbrev cars : List Value
  cars = map (λ (o : Object). car_of o.body) (take count (drop number world.objects))

  law : (1 ≤ count) × (count ≤ length (drop number world.objects)) × (take count (drop number world.objects) ≡ list_from group_area number cars)
  law = group_is group_area number count (drop number world.objects) group

  cars_count : length cars ≡ count
  cars_count = length-map (take count (drop number world.objects)) (λ (o : Object). car_of o.body) ∙ length-take-le count (drop number world.objects) (law).1

  pub nils_count : length (list_from group_area number nils) ≡ count
  nils_count = length-list_from group_area number nils ∙ length-replicate count V.Nil

  pub group_some : 1 ≤ count
  group_some = (law).0

  whole_at : (j : ℕ) → j < count → object_at (list_from group_area number cars) j ≡ object_at world.objects (number + j)
  whole_at j low = ap (λ (l : List Object). object_at l j) (sym (law).2) ∙ get_or-take count (drop number world.objects) j no_object low ∙ get_or-drop number world.objects j no_object

  pub group_drafts : (j : ℕ) → j < count → IsDraft (number + j) (object_at world.objects (number + j)) (object_at (list_from group_area number nils) j) true
  group_drafts j low =
      let size = cars_count in
      subst (λ (o : Object). IsDraft (number + j) o (object_at (list_from group_area number nils) j) true) (whole_at j low)
      (cells_alike group_area number cars nils (cars_count ∙ sym (length-replicate count V.Nil)) j (omega arith) (number + j))

  -- each is a cons
  pub group_conses : (j : ℕ) → j < count → (car : Value) × (cdr : Value) × ((object_at world.objects (number + j)).body ≡ Cons car cdr)
  group_conses j low =
      let size = cars_count in
      let c = cell_cons group_area number cars j (omega arith) in
      (c.0, c.1, ap (λ (o : Object). o.body) (sym (whole_at j low)) ∙ c.2)

  pub group_charge : charge_in group_area (list_from group_area number nils) ≡ 3 * count
  group_charge = cells_charge group_area number nils ∙ ap (λ (n : ℕ). 3 * n) (length-replicate count V.Nil)

-- The words of a list's cells

-- a list that has the first register `count` times
abbrev pub zeros : ℕ → List ℕ
zeros count = replicate count 0

zero_item : (count i : ℕ) → i < count → slice_index (zeros count) i ≡ 0
zero_item count i low = get_or-replicate count i 0 0 low

pub zeros_count : (count : ℕ) → length (zeros count) ≡ count
zeros_count count = length-replicate count 0

-- each item is the first register's word
pub item_nil : (nil : Parts) → nil ≡ nil_word → (count i : ℕ) → i < count → item_word (nil ∷ []) (zeros count) i ≡ nil_word
item_nil nil is count i low = ap (word_at (nil ∷ [])) (zero_item count i low) ∙ is

item_low : (count i : ℕ) → i < length (zeros count) → i < count
item_low count i low = let size = zeros_count count in omega arith

pub nils_mean : (role : ℕ → Role) (nil : Parts) → nil ≡ nil_word → (count : ℕ) → MeansValues role (nil ∷ []) (zeros count) (replicate count V.Nil)
nils_mean role nil is count = record {
  count = length-replicate count V.Nil ∙ sym (zeros_count count);
  each = λ i low.
      let here : i < count = item_low count i low in
      ap (λ (w : Parts). value_of role w.content) (item_nil nil is count i here) ∙ ap (λ (v : Value). Some v) (sym (get_or-replicate count i V.Nil V.Nil here));
}

-- a list of `count` conses can be made
module _ (m : Memory.Store) (t : Table) (world : World) (places : List PlaceView) (number count : ℕ) (group : to_tail (object_at world.objects number).area number (drop number world.objects) ≡ Some count)
    (w : IsLoadable world) (x : Drafted m t world places number) (low : number < length world.objects) where
  pub group_within : number + count ≤ length world.objects
  group_within =
      let few = (group_is (group_area world number count group) number count (drop number world.objects) group).1 in
      let size = length-drop number world.objects in
      omega arith

  group_quota : HasQuota (loaded world x.holds.map x.objects) (group_area world number count group) 0 (3 * length (zeros count))
  group_quota =
      let size = nils_count world number count group in
      quota_for m t world places number w x (list_from (group_area world number count group) number (nils world number count group)) (group_area world number count group)
      (let within = group_within in omega arith) (w.is.placed number no_object low)
      (λ j l. let d = group_drafts world number count group j (omega arith) in (d.area, d.charge))
      (3 * length (zeros count)) (group_charge world number count group ∙ ap (λ (n : ℕ). 3 * n) (sym (zeros_count count)))

  pub can_list : (nil : Parts) → nil ≡ nil_word → count ≤ 1024 → CanList m t (group_area world number count group) 0 (nil ∷ []) (zeros count)
  can_list nil is few = record {
    it = loaded world x.holds.map x.objects;
    kept = x.holds.kept;
    some = (let size = zeros_count count in let some = group_some world number count group in omega arith);
    few = (let size = zeros_count count in omega arith);
    inside = All-replicate (λ (item : ℕ). item < 1) count 0 (omega arith);
    quota = group_quota;
    values = replicate count V.Nil;
    means = nils_mean x.holds.map.role nil is count;
  }

  -- The list that was made

  module _ (m' : Memory.Store) (t' : Table) (nil : Parts) (nil_is : nil ≡ nil_word) (at : ℕ) (made : ListedOn m t m' t' (group_area world number count group) 0 (nil ∷ []) (zeros count) at)
      (words : (i : ℕ) → i < length (zeros count) → word_at m'.words (at + i) ≡ cell_word (nil ∷ []) (zeros count) i) where
    abbrev list : List Object
    list = list_from (group_area world number count group) number (nils world number count group)

    y : MadeOn m t m' t' (loaded world x.holds.map x.objects) (with_made (store_with world x.objects) list 0) AsCons at
    y = subst (λ (n : ℕ). MadeOn m t m' t' (loaded world x.holds.map x.objects) (with_made (store_with world x.objects) (list_from (group_area world number count group) n (nils world number count group)) 0) AsCons at) x.count_is
        (made (loaded world x.holds.map x.objects) (replicate count V.Nil) x.holds.kept group_quota (nils_mean x.holds.map.role nil nil_is count))

    pub word_here : (i : ℕ) → i < count → word_at m'.words (at + i) ≡ record { cdr = cell_code count i; content = NilWord }
    word_here i here_low =
        let size = zeros_count count in
        words i (omega arith)
        ∙ ap (λ (n : ℕ). let c : Parts = record { cdr = cell_code n i; content = (item_word (nil ∷ []) (zeros count) i).content } in c) size
        ∙ ap (λ (p : Parts). let c : Parts = record { cdr = cell_code count i; content = p.content } in c) (item_nil nil nil_is count i here_low)

    final_here : (i : ℕ) → i < count → Final m'.words (at + i) (at + i)
    final_here i l = (0, omega arith, here (ap (λ (p : Parts). forward_of p.content) (word_here i l)))

    -- all its words are in the memory
    pub cells_inside : at + count ≤ length m'.words
    cells_inside = go (cases_lt (length m'.words) (at + count))
      where
        go : (length m'.words < at + count) ⊎ (at + count ≤ length m'.words) → at + count ≤ length m'.words
        go (inr r) = r
        go (inl l) =
            let some = group_some world number count group in
            let last : at + (count - 1) ≡ at + count - 1 = omega arith in
            let e : word_at m'.words (at + (count - 1)) ≡ null_word = get_or_past m'.words (at + (count - 1)) null_word (omega arith) in
            let both = sym (ap (λ (p : Parts). p.content) e) ∙ ap (λ (p : Parts). p.content) (word_here (count - 1) (omega arith)) in
            absurd (let z : Null ≡ NilWord = both in cc)

    -- the object of a cell that isn't the last refers to the next
    body_here : (i : ℕ) → suc i < count → (car : Value) × ((object (with_made (store_with world x.objects) list 0) (number + i)).body ≡ Cons car (V.Ref (suc (number + i))))
    body_here i l =
        let size = length-replicate count V.Nil in
        let c = cell_body (group_area world number count group) number (nils world number count group) i (omega arith) in
        let is : object_at (x.objects ++ list) (number + i) ≡ object_at list i = ap (λ (k : ℕ). object_at (x.objects ++ list) (k + i)) (sym x.count_is) ∙ get_or-append-add x.objects list i no_object in
        (c.0, ap (λ (o : Object). o.body) is ∙ c.1)

    -- each cell's address means its object
    cells_named : (i : ℕ) → i < count → value_of y.map.role (ListAt (at + i)) ≡ Some (V.Ref (number + i))
    cells_named zero l =
        let a : at + 0 ≡ at = omega arith in
        let n : length x.objects ≡ number + 0 = (let c = x.count_is in omega arith) in
        ap (λ (b : ℕ). value_of y.map.role (ListAt b)) a ∙ ap as_ref y.there ∙ ap (λ (k : ℕ). Some (V.Ref k)) n
    cells_named (suc i) l =
        let before = cells_named i (omega arith) in
        let r = references_lead.values m' t' (record (loaded world y.map x.objects) { store = with_made (store_with world x.objects) list 0 }) y.kept AsCons (at + i) (V.Ref (number + i)) before in
        let name : number + i ≡ r.name = cc (r.value) in
        let place : at + i ≡ y.map.at r.name = r.leads.only (at + i) (final_here i (omega arith)) in
        let c = references_lead.conses m' t' (record (loaded world y.map x.objects) { store = with_made (store_with world x.objects) list 0 }) y.kept r.name r.leads.used r.leads.kind_is in
        let b = body_here i l in
        let body : Cons c.car c.cdr ≡ Cons b.0 (V.Ref (suc (number + i))) = sym c.body ∙ ap (λ (n : ℕ). (object (with_made (store_with world x.objects) list 0) n).body) (sym name) ∙ b.1 in
        let cdr : c.cdr ≡ V.Ref (suc (number + i)) = cc (body) in
        let code : cell_code count i ≡ Next = not_last i l in
        let here_cdr : cdr_in m'.words (at + i) ≡ ListAt (suc (at + i)) = ap (λ (p : Parts). cdr_by p.cdr (at + i) (word_at m'.words (suc (at + i))).content) (word_here i (omega arith)) ∙ ap (λ (q : CdrCode). cdr_by q (at + i) (word_at m'.words (suc (at + i))).content) code in
        let step : at + suc i ≡ suc (at + i) = omega arith in
        let next : suc (number + i) ≡ number + suc i = omega arith in
        ap (λ (b : ℕ). value_of y.map.role (ListAt b)) step
        ∙ ap (value_of y.map.role) (sym here_cdr)
        ∙ ap (λ (a : ℕ). value_of y.map.role (cdr_in m'.words a)) place
        ∙ c.cdr_value
        ∙ ap (λ (v : Value). Some v) cdr
        ∙ ap (λ (k : ℕ). Some (V.Ref k)) next
      where
        not_last : (j : ℕ) → suc j < count → cell_code count j ≡ Next
        not_last j less = let ne : (suc j == count) ≡ false = grind (arith, nat_tests) in rw ne refl

    -- the group is made
    pub drafted_group : (places' : List PlaceView) → OnlyGrows t t' → ((i : ℕ) → i < number → place_at places' i ≡ place_at places i) → ((i : ℕ) → i < count → place_at places' (number + i) ≡ cell_place (at + i))
        → Drafted m' t' world places' (number + count)
    drafted_group places' g before cells =
        let size = nils_count world number count group in
        subst (λ (n : ℕ). Drafted m' t' world places' (number + n)) size
        (drafted_more m m' t t' world places places' number x list AsCons at y g before
        (λ j l. placed j (omega arith)) (λ j l. drafted j (omega arith)))
      where
        drafted : (j : ℕ) → j < count → IsDraft (number + j) (object_at world.objects (number + j)) (object_at list j) (place_at places' (number + j)).cell
        drafted j l = subst (λ (p : PlaceView). IsDraft (number + j) (object_at world.objects (number + j)) (object_at list j) p.cell) (sym (cells j l)) (group_drafts world number count group j l)

        placed : (j : ℕ) → j < count → IsPlace y.map (place_at places' (number + j)) (number + j) (object_at world.objects (number + j)).body
        placed j l =
            let c = group_conses world number count group j l in
            subst (λ (p : PlaceView). IsPlace y.map p (number + j) (object_at world.objects (number + j)).body) (sym (cells j l))
            (record { names = cells_named j l; tag = ap tag_for (sym c.2) })
