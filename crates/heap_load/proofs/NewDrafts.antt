-- More drafts are made.
use Rattle.std.proofs.Common.{◌≡◌, ℕ, zero, suc, ◌+◌, ◌-◌, ◌<◌, ◌≤◌, ◌⊎◌, inl, inr, refl, sym, ap, ◌∙◌, subst, arith, List, [], ◌∷◌, ◌++◌, length, length-append, Bool, true, false, Some}
use Rattle.std.specs.Prelude.{if◌then◌else◌, ◌==◌, nat_lt, slice_set}
use Rattle.std.proofs.lemmas.Bool.{cases_lt, le-ltb, lt-ltb}
use Rattle.std.proofs.lemmas.Bool.Decides.{nat_tests}
use Rattle.std.proofs.lemmas.List.Sums.{sum_by-cons}
use Rattle.std.proofs.lemmas.List.{get_or_append_left, get_or-append-add, get_or-set_same, get_or-set_other, length-replicate}
use Rattle.store_word.specs.Words.{Parts, tag_of}
use Rattle.store_word.specs.declared.word.CdrCode.TheVariants.{Next}
use Rattle.store_word.specs.declared.word.Content.TheVariants.{Nil as NilWord}
use Rattle.lisp_graph.specs.declared.object.Value.{Value}
use Rattle.lisp_graph.specs.declared.object.Value.TheVariants as V
use Rattle.lisp_graph.specs.declared.object.Body.{Body}
use Rattle.lisp_graph.specs.declared.object.Body.TheVariants.{Cons, Block}
use Rattle.lisp_graph.specs.declared.object.Object.{Object}
use Rattle.lisp_graph.specs.declared.world.World.{World}
use Rattle.lisp_graph.specs.Graph.{no_object, object_at, width}
use Rattle.lisp_graph.specs.World.{IsCharge}
use Rattle.lisp_graph.specs.Effect.{block_of}
use Rattle.mem_port.specs.Store.{Store}
use Rattle.area_space.specs.Table.{Table}
use Rattle.block_store.specs.lisp_meaning.State as M
use Rattle.block_store.specs.lisp_meaning.State.{Idle}
use Rattle.block_store.specs.lisp_meaning.Changes.{with_made}
use Rattle.block_store.specs.lisp_meaning.Opening.{opening}
use Rattle.block_store.specs.lisp_meaning.Roles.{Kind, AsCons, AsBlock, as_ref, names_as, value_of}
use Rattle.block_store.proofs.lisp_meaning.maps.Frames.{refined}
use Rattle.heap_load.specs.Drafts.{IsDraft, car_of, cdr_of, charge_in, header_of, is_known, known_part, with_objects}
use Rattle.heap_load.proofs.AreaCharges.{account_more, account_most}
use Rattle.heap_load.proofs.LaterObjects.{opening_more}
use Rattle.block_store.specs.lisp_ground.GroundInvariant.{GroundInvariant}
use Rattle.block_store.specs.lisp_ground.Leading.{reference}
use Rattle.block_store.specs.transporter.LiveWordsUnchanged.{OnlyGrows}
use Rattle.block_store.specs.transporter.Making.{HasQuota, MadeOn}
use Rattle.block_store.specs.transporter.Transports.{WordsUnchanged}
use Rattle.cdr_lists.specs.Pairs.{CanPair, PairedOn}
use Rattle.block_store.specs.Making.{CanMake, MakesBlock}
use Rattle.heap_state.proofs.SettledRegister.{aims_grown}
use Rattle.heap_load.specs.Places.{PlaceView, block_place, no_place, pair_place, place_at, word_of}
use Rattle.heap_load.specs.Loading.{Drafted, Holds, HoldsSome, IsLoadable, IsPlace, tag_for, loaded}

-- the store of these objects
abbrev pub store_with : World → List Object → M.Store
store_with world objects = (opening (with_objects world objects)).store

-- the ground represents more objects
holds_more : (m m' : Store) (t t' : Table) (world : World) (objects made : List Object) (x : Holds m t world objects) (kind : Kind) (at : ℕ)
    → MadeOn m t m' t' (loaded world x.map objects) (with_made (store_with world objects) made 0) kind at → OnlyGrows t t' → Holds m' t' world (objects ++ made)
holds_more m m' t t' world objects made x kind at y g = record {
  map = y.map;
  kept = subst (λ (s : M.Store). GroundInvariant m' t' (record (loaded world y.map objects) { store = s })) (sym (opening_more (with_objects world objects) made)) y.kept;
  aims = aims_grown t t' Idle g x.aims;
}

module _ (m m' : Store) (t t' : Table) (world : World) (places places' : List PlaceView) (n : ℕ) (x : Drafted m t world places n) (made : List Object) (kind : Kind) (at : ℕ)
    (y : MadeOn m t m' t' (loaded world x.holds.map x.objects) (with_made (store_with world x.objects) made 0) kind at)
    (g : OnlyGrows t t') (before : (i : ℕ) → i < n → place_at places' i ≡ place_at places i)
    (placed : (j : ℕ) → j < length made → IsPlace y.map (place_at places' (n + j)) (n + j) (object_at world.objects (n + j)).body)
    (drafts : (j : ℕ) → j < length made → IsDraft (n + j) (object_at world.objects (n + j)) (object_at made j) (place_at places' (n + j)).cell) where
  place_before : (i : ℕ) → i < n → IsPlace y.map (place_at places' i) i (object_at world.objects i).body
  place_before i low =
      let was = x.places_are i low in
      subst (λ (p : PlaceView). IsPlace y.map p i (object_at world.objects i).body) (sym (before i low))
      (record { names = refined x.holds.map.role y.map.role y.refines (place_at places i).word.content (V.Ref i) was.names; tag = was.tag })

  place_of : (i : ℕ) → i < n + length made → IsPlace y.map (place_at places' i) i (object_at world.objects i).body
  place_of i low = go (cases_lt i n)
    where
      go : (i < n) ⊎ (n ≤ i) → IsPlace y.map (place_at places' i) i (object_at world.objects i).body
      go (inl l) = place_before i l
      go (inr r) =
          let e : n + (i - n) ≡ i = omega arith in
          subst (λ (k : ℕ). IsPlace y.map (place_at places' k) k (object_at world.objects k).body) e (placed (i - n) (omega arith))

  draft_before : (i : ℕ) → i < n → IsDraft i (object_at world.objects i) (object_at (x.objects ++ made) i) (place_at places' i).cell
  draft_before i low =
      let count = x.count_is in
      let same : object_at (x.objects ++ made) i ≡ object_at x.objects i = get_or_append_left x.objects made no_object i (omega arith) in
      let P : Object → PlaceView → Type 0 = λ o p. IsDraft i (object_at world.objects i) o p.cell in
      subst (λ (p : PlaceView). P (object_at (x.objects ++ made) i) p) (sym (before i low)) (subst (λ (o : Object). P o (place_at places i)) (sym same) (x.drafts i low))

  made_at : (j : ℕ) → object_at (x.objects ++ made) (n + j) ≡ object_at made j
  made_at j = ap (λ (k : ℕ). object_at (x.objects ++ made) (k + j)) (sym x.count_is) ∙ get_or-append-add x.objects made j no_object

  draft_of : (i : ℕ) → i < n + length made → IsDraft i (object_at world.objects i) (object_at (x.objects ++ made) i) (place_at places' i).cell
  draft_of i low = go (cases_lt i n)
    where
      go : (i < n) ⊎ (n ≤ i) → IsDraft i (object_at world.objects i) (object_at (x.objects ++ made) i) (place_at places' i).cell
      go (inl l) = draft_before i l
      go (inr r) =
          let e : n + (i - n) ≡ i = omega arith in
          let here = subst (λ (o : Object). IsDraft (n + (i - n)) (object_at world.objects (n + (i - n))) o (place_at places' (n + (i - n))).cell) (sym (made_at (i - n))) (drafts (i - n) (omega arith)) in
          subst (λ (k : ℕ). IsDraft k (object_at world.objects k) (object_at (x.objects ++ made) k) (place_at places' k).cell) e here

  pub drafted_more : Drafted m' t' world places' (n + length made)
  unfolding holds_more
  drafted_more =
      let count = x.count_is in
      record {
        objects = x.objects ++ made;
        holds = holds_more m m' t t' world x.objects made x.holds kind at y g;
        count_is = omega (arith, length-append x.objects made);
        places_are = place_of;
        drafts = draft_of;
      }

-- there is quota for more drafts
module _ (m : Store) (t : Table) (world : World) (places : List PlaceView) (n : ℕ) (w : IsLoadable world) (x : Drafted m t world places n) (made : List Object) (area : ℕ)
    (few : n + length made ≤ length world.objects) (low : area < length world.areas)
    (same : (j : ℕ) → j < length made → ((object_at made j).area ≡ (object_at world.objects (n + j)).area) × ((object_at made j).charge ≡ (object_at world.objects (n + j)).charge)) where
  alike : (i : ℕ) → i < length (x.objects ++ made) → ((object_at (x.objects ++ made) i).area ≡ (object_at world.objects i).area) × ((object_at (x.objects ++ made) i).charge ≡ (object_at world.objects i).charge)
  alike i inside = go (cases_lt i n)
    where
      go : (i < n) ⊎ (n ≤ i) → ((object_at (x.objects ++ made) i).area ≡ (object_at world.objects i).area) × ((object_at (x.objects ++ made) i).charge ≡ (object_at world.objects i).charge)
      go (inl l) =
          let is : object_at (x.objects ++ made) i ≡ object_at x.objects i = get_or_append_left x.objects made no_object i (let c = x.count_is in omega arith) in
          let d = x.drafts i l in
          (ap (λ (o : Object). o.area) is ∙ d.area, ap (λ (o : Object). o.charge) is ∙ d.charge)
      go (inr r) =
          let e : n + (i - n) ≡ i = omega arith in
          let is : object_at (x.objects ++ made) (n + (i - n)) ≡ object_at made (i - n) = ap (λ (k : ℕ). object_at (x.objects ++ made) (k + (i - n))) (sym x.count_is) ∙ get_or-append-add x.objects made (i - n) no_object in
          let s = same (i - n) (let l = length-append x.objects made in let c = x.count_is in omega arith) in
          subst (λ (k : ℕ). ((object_at (x.objects ++ made) k).area ≡ (object_at world.objects k).area) × ((object_at (x.objects ++ made) k).charge ≡ (object_at world.objects k).charge)) e
          (ap (λ (o : Object). o.area) is ∙ s.0, ap (λ (o : Object). o.charge) is ∙ s.1)

  pub quota_for : (charge : ℕ) → charge_in area made ≡ charge → HasQuota (loaded world x.holds.map x.objects) area 0 charge
  quota_for charge is =
      let more = account_more (with_objects world x.objects) made area in
      let size = length-append x.objects made in
      let count = x.count_is in
      let most = account_most world (x.objects ++ made) area (omega arith) alike in
      let within = w.fits area low in
      record { area_in = low; level_in = omega arith; fits = omega arith }

-- if nothing was made the ground represents the same objects
pub drafted_left : (m m' : Store) (t t' : Table) (world : World) (places : List PlaceView) (n : ℕ) → Drafted m t world places n → WordsUnchanged m t m' t' → OnlyGrows t t' → HoldsSome m' t' world
drafted_left m m' t t' world places n x stays g = record {
  objects = x.objects;
  holds = record { map = x.holds.map; kept = stays.kept (loaded world x.holds.map x.objects) x.holds.kept; aims = aims_grown t t' Idle g x.holds.aims };
}

-- One object alone

-- what holds of 0 holds of all below 1
below_one : (P : ℕ → Type 0) → P 0 → (j : ℕ) → j < 1 → P j
below_one P here zero low = here
below_one P here (suc j) low = absurd (omega arith)

charge_alone : (o : Object) → charge_in o.area (o ∷ []) ≡ o.charge
charge_alone o =
    let s = sum_by-cons (λ (p : Object). if p.area == o.area then p.charge else 0) o [] in
    let same : (o.area == o.area) ≡ true = grind (arith, nat_tests) in
    let pick : Bool → ℕ = λ b. if b then o.charge else 0 in
    let one : pick (o.area == o.area) ≡ o.charge = rw same refl in
    let none : charge_in o.area [] ≡ 0 = refl in
    omega (arith, s, one, none)

module _ (m : Store) (t : Table) (world : World) (places : List PlaceView) (n : ℕ) (w : IsLoadable world) (x : Drafted m t world places n) (low : n < length world.objects) (made : Object) (draft : IsDraft n (object_at world.objects n) made false) where
  here_is : n + 0 ≡ n
  here_is = omega arith

  area_low : made.area < length world.areas
  area_low = let placed = w.is.placed n no_object low in let is = draft.area in omega arith

  pub quota_alone : HasQuota (loaded world x.holds.map x.objects) made.area 0 made.charge
  quota_alone = quota_for m t world places n w x (made ∷ []) made.area (omega arith) area_low
      (below_one (λ j. ((object_at (made ∷ []) j).area ≡ (object_at world.objects (n + j)).area) × ((object_at (made ∷ []) j).charge ≡ (object_at world.objects (n + j)).charge))
      (draft.area ∙ ap (λ (k : ℕ). (object_at world.objects k).area) (sym here_is), draft.charge ∙ ap (λ (k : ℕ). (object_at world.objects k).charge) (sym here_is)))
      made.charge (charge_alone made)

  pub drafted_alone : (m' : Store) (t' : Table) (kind : Kind) (at : ℕ) → MadeOn m t m' t' (loaded world x.holds.map x.objects) (with_made (store_with world x.objects) (made ∷ []) 0) kind at
      → OnlyGrows t t' → length places ≡ length world.objects → (word : Parts) → word.content ≡ reference kind at → tag_of word.content ≡ tag_for (object_at world.objects n).body
      → Drafted m' t' world (slice_set places n (record { word = word; cell = false })) (n + 1)
  drafted_alone m' t' kind at y g size word is tag = drafted_more m m' t t' world places (slice_set places n place) n x (made ∷ []) kind at y g
      (λ i before. get_or-set_other places n i place no_place (λ e. omega arith))
      (below_one (λ j. IsPlace y.map (place_at (slice_set places n place) (n + j)) (n + j) (object_at world.objects (n + j)).body)
      (subst (λ (k : ℕ). IsPlace y.map (place_at (slice_set places n place) k) k (object_at world.objects k).body) (sym here_is)
      (subst (λ (p : PlaceView). IsPlace y.map p n (object_at world.objects n).body) (sym place_here) (record { names = named kind y.there is; tag = tag }))))
      (below_one (λ j. IsDraft (n + j) (object_at world.objects (n + j)) (object_at (made ∷ []) j) (place_at (slice_set places n place) (n + j)).cell)
      (subst (λ (k : ℕ). IsDraft k (object_at world.objects k) made (place_at (slice_set places n place) k).cell) (sym here_is)
      (subst (λ (p : PlaceView). IsDraft n (object_at world.objects n) made p.cell) (sym place_here) draft)))
    where
      place : PlaceView
      place = record { word = word; cell = false }

      place_here : place_at (slice_set places n place) n ≡ place
      place_here = get_or-set_same places n place no_place (omega arith)

      named : (k : Kind) → names_as k (y.map.role at) ≡ Some (length x.objects) → word.content ≡ reference k at → value_of y.map.role word.content ≡ Some (V.Ref n)
      named AsCons there is = ap (value_of y.map.role) is ∙ ap as_ref there ∙ ap (λ (k : ℕ). Some (V.Ref k)) x.count_is
      named AsBlock there is = ap (value_of y.map.role) is ∙ ap as_ref there ∙ ap (λ (k : ℕ). Some (V.Ref k)) x.count_is

-- a word of nil
abbrev pub nil_word : Parts
nil_word = record { cdr = Next; content = NilWord }

-- Parts that are known

-- such a part is stored when the object is made
part_given : (n : ℕ) (v : Value) → is_known n v ≡ true → known_part n v ≡ v
part_given n v e = rw e refl

-- its word means it
pub given_means : (m : Store) (t : Table) (world : World) (places : List PlaceView) (n : ℕ) (x : Drafted m t world places n) (v : Value) → value_of x.holds.map.role (word_of places (known_part n v)).content ≡ Some (known_part n v)
given_means m t world places n x (V.Fix i) = refl
given_means m t world places n x V.Nil = refl
given_means m t world places n x (V.Ref name) = go (cases_lt name n)
  where
    go : (name < n) ⊎ (n ≤ name) → value_of x.holds.map.role (word_of places (known_part n (V.Ref name))).content ≡ Some (known_part n (V.Ref name))
    go (inl l) = let one : nat_lt name n ≡ true = lt-ltb name n l in rw one ((x.places_are name l).names)
    go (inr r) = let one : nat_lt name n ≡ false = le-ltb name n r in rw one refl

-- A cons

module _ (m : Store) (t : Table) (world : World) (places : List PlaceView) (n : ℕ) (w : IsLoadable world) (x : Drafted m t world places n) (low : n < length world.objects) (o : Object) (is : o ≡ object_at world.objects n) where
  module _ (car cdr : Value) (body : o.body ≡ Cons car cdr) where
    pub whole_cons : (object_at world.objects n).body ≡ Cons car cdr
    whole_cons = ap (λ (p : Object). p.body) (sym is) ∙ body

    abbrev pair_made : Object
    pair_made = record { area = o.area; charge = o.charge; body = Cons (known_part n car) (known_part n cdr) }

    pair_draft : IsDraft n (object_at world.objects n) pair_made false
    pair_draft = record {
      area = ap (λ (p : Object). p.area) is;
      charge = ap (λ (p : Object). p.charge) is;
      header = sym (ap header_of whole_cons);
      cell_cdr = λ e. absurd (cc (e));
      car = λ pair known. part_given n car (ap (λ (b : Body). is_known n (car_of b)) (sym whole_cons) ∙ known) ∙ ap car_of (sym whole_cons);
      cdr = λ pair known. part_given n cdr (ap (λ (b : Body). is_known n (cdr_of b)) (sym whole_cons) ∙ known) ∙ ap cdr_of (sym whole_cons);
    }

    pair_charge : (o.charge ≡ 2) ⊎ (o.charge ≡ 3)
    pair_charge = subst (λ (p : Object). IsCharge (Cons car cdr) p.charge) (sym is) (subst (λ (b : Body). IsCharge b (object_at world.objects n).charge) whole_cons (w.is.charged n no_object low))

    -- the word of a part that is given means it
    part_means : (v : Value) (word : Parts) → word ≡ word_of places (known_part n v) → value_of x.holds.map.role word.content ≡ Some (known_part n v)
    part_means v word word_is = ap (λ (p : Parts). value_of x.holds.map.role p.content) word_is ∙ given_means m t world places n x v

    pub can_pair : (first second : Parts) → first ≡ word_of places (known_part n car) → second ≡ word_of places (known_part n cdr) → CanPair m t o.area 0 o.charge first second
    can_pair first second first_is second_is = record {
      it = loaded world x.holds.map x.objects;
      kept = x.holds.kept;
      charges = pair_charge;
      quota = quota_alone m t world places n w x low pair_made pair_draft;
      car_value = (known_part n car, part_means car first first_is);
      cdr_value = (known_part n cdr, part_means cdr second second_is);
    }

    pub pair_drafted : (m' : Store) (t' : Table) (first second : Parts) → first ≡ word_of places (known_part n car) → second ≡ word_of places (known_part n cdr) → (at : ℕ) → PairedOn m t m' t' o.area 0 o.charge first second at → OnlyGrows t t' → length places ≡ length world.objects
        → Drafted m' t' world (slice_set places n (pair_place at)) (n + 1)
    pair_drafted m' t' first second first_is second_is at made g size = drafted_alone m t world places n w x low pair_made pair_draft m' t' AsCons at
        (made (loaded world x.holds.map x.objects) (known_part n car) (known_part n cdr) x.holds.kept (quota_alone m t world places n w x low pair_made pair_draft) (part_means car first first_is) (part_means cdr second second_is))
        g size (pair_place at).word refl (sym (ap tag_for whole_cons))

  -- A block

  module _ (code : ℕ) (fields : List Value) (body : o.body ≡ Block code fields) where
    pub whole_block : (object_at world.objects n).body ≡ Block code fields
    whole_block = ap (λ (p : Object). p.body) (sym is) ∙ body

    block_charge : o.charge ≡ suc (length fields)
    block_charge = subst (λ (p : Object). IsCharge (Block code fields) p.charge) (sym is) (subst (λ (b : Body). IsCharge b (object_at world.objects n).charge) whole_block (w.is.charged n no_object low))

    pub fields_few : length fields ≤ 2047
    fields_few = subst (λ (b : Body). width b ≤ 2047) whole_block (w.is.graph.objects n no_object low).wide

    block_draft : IsDraft n (object_at world.objects n) (block_of o.area code (length fields)) false
    block_draft = record {
      area = ap (λ (p : Object). p.area) is;
      charge = sym block_charge ∙ ap (λ (p : Object). p.charge) is;
      header = ap (λ (k : ℕ). Some (code, k)) (length-replicate (length fields) V.Nil) ∙ sym (ap header_of whole_block);
      cell_cdr = λ e. absurd (cc (e));
      car = λ pair known. sym (ap car_of whole_block);
      cdr = λ pair known. sym (ap cdr_of whole_block);
    }

    pub can_make : CanMake m t o.area 0 (length fields)
    can_make = record {
      it = loaded world x.holds.map x.objects;
      kept = x.holds.kept;
      quota = quota_alone m t world places n w x low (block_of o.area code (length fields)) block_draft;
    }

    pub block_drafted : (m' : Store) (t' : Table) (at : ℕ) → MakesBlock m t m' t' o.area 0 code (length fields) at → OnlyGrows t t' → length places ≡ length world.objects
        → Drafted m' t' world (slice_set places n (block_place at)) (n + 1)
    block_drafted m' t' at made g size = drafted_alone m t world places n w x low (block_of o.area code (length fields)) block_draft m' t' AsBlock at
        (made (loaded world x.holds.map x.objects) x.holds.kept (quota_alone m t world places n w x low (block_of o.area code (length fields)) block_draft))
        g size (block_place at).word refl (sym (ap tag_for whole_block))
