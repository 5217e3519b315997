-- Objects that are made get their parts.
use Rattle.std.proofs.Common.{◌≡◌, ℕ, ◌+◌, ◌<◌, ◌≤◌, inl, inr, refl, sym, ap, ◌∙◌, subst, arith, List, [], length, length-set, get_or, true, false, Some, None}
use Rattle.std.specs.Prelude.{if◌then◌else◌, nat_lt, slice_set}
use Rattle.std.proofs.lemmas.Bool.{cases_eq}
use Rattle.std.proofs.lemmas.List.{ext_get_or, get_or_default, get_or-set_same, get_or-set_other}
use Rattle.store_word.specs.Words.{Parts}
use Rattle.store_word.specs.declared.word.Content.{Content}
use Rattle.lisp_graph.specs.declared.object.Value.{Value}
use Rattle.lisp_graph.specs.declared.object.Value.TheVariants as V
use Rattle.lisp_graph.specs.declared.object.Body.{Body}
use Rattle.lisp_graph.specs.declared.object.Body.TheVariants.{Cons, Block}
use Rattle.lisp_graph.specs.declared.object.Object.{Object}
use Rattle.lisp_graph.specs.declared.world.World.{World}
use Rattle.lisp_graph.specs.Graph.{PartsReferBelow, RefersBelow, no_object, object_at}
use Rattle.mem_port.specs.Store.{Store, StoresNothing}
use Rattle.area_space.specs.Table.{Table}
use Rattle.block_store.specs.lisp_meaning.State as M
use Rattle.block_store.specs.lisp_meaning.State.{Idle}
use Rattle.block_store.specs.lisp_meaning.Changes.{put_body}
use Rattle.block_store.specs.lisp_meaning.Roles.{RoleMap, Refines, value_of}
use Rattle.block_store.proofs.lisp_meaning.maps.Frames.{refined}
use Rattle.heap_load.specs.Drafts.{IsDraft, car_of, cdr_of, header_of, is_known}
use Rattle.block_store.specs.lisp_ground.GroundInvariant.{GroundInvariant}
use Rattle.block_store.proofs.lisp_ground.invariant.WordStores.{kept_on_same}
use Rattle.block_store.specs.transporter.LiveWordsUnchanged.{OnlyGrows}
use Rattle.cdr_lists.specs.Parts.{CanSet, SetsCar, SetsCdr}
use Rattle.cdr_lists.specs.Reading.{CanRead}
use Rattle.heap_state.specs.PhaseAgrees.{PhaseAgrees}
use Rattle.heap_state.proofs.SettledRegister.{aims_grown}
use Rattle.heap_load.specs.Places.{PlaceView, no_place, place_at, word_of}
use Rattle.heap_load.specs.Loading.{Drafted, Filled, Filling, Holds, HoldsSome, IsLoadable, loaded}
use Rattle.heap_load.proofs.NewDrafts.{store_with}

-- all drafts are made
pub filled_none : (m : Store) (t : Table) (world : World) (places : List PlaceView) → Drafted m t world places (length world.objects) → Filled m t world places 0
filled_none m t world places x = record {
  objects = x.objects;
  holds = x.holds;
  count_is = x.count_is;
  places_are = x.places_are;
  filled = λ i low. absurd (omega arith);
  drafts = λ i from low. x.drafts i low;
}

-- Bodies of drafts

pub draft_cons : (body : Body) → None ≡ header_of body → (car : Value) × (cdr : Value) × (body ≡ Cons car cdr)
draft_cons (Cons car cdr) e = (car, cdr, refl)
draft_cons (Block code fields) e = absurd (cc (e))

-- a block of this code and number of fields
pub draft_block : (body : Body) (code count : ℕ) → Some (code, count) ≡ header_of body → (fields : List Value) × (length fields ≡ count) × (body ≡ Block code fields)
draft_block (Cons car cdr) code count e = absurd (cc (e))
draft_block (Block other fields) code count e =
    let same : (code, count) ≡ (other, length fields) = cc (e) in
    (fields, sym (ap (λ (p : ℕ × ℕ). p.1) same), ap (λ (p : ℕ × ℕ). Block p.0 fields) (sym same))

-- One object gets its parts

module _ (m : Store) (t : Table) (world : World) (places : List PlaceView) (n : ℕ) where
  pub filling_from : (x : Filled m t world places n) → n < length world.objects → Filling m t world places n (object_at x.objects n).body
  filling_from x low =
      let d = x.drafts n (omega arith) low in
      record {
        objects = x.objects;
        holds = x.holds;
        count_is = x.count_is;
        places_are = x.places_are;
        filled = x.filled;
        next = λ i. record { area = d.area i; charge = d.charge i; body = (object_at x.objects n).body };
        drafts = λ i from inside. x.drafts i (omega arith) inside;
      }

  pub filled_next : Filling m t world places n (object_at world.objects n).body → Filled m t world places (n + 1)
  filled_next x = record {
    objects = x.objects;
    holds = x.holds;
    count_is = x.count_is;
    places_are = x.places_are;
    filled = λ i low. elim (cases_eq i n) [
      | inl e ↦ ap (object_at x.objects) e ∙ x.next ∙ sym (ap (object_at world.objects) e)
      | inr ne ↦ x.filled i (omega arith)
    ];
    drafts = λ i from inside. x.drafts i (omega arith) inside;
  }

  -- the store with another body for an object
  put_store : (objects : List Object) (body : Body) → put_body (store_with world objects) n body ≡ store_with world (slice_set objects n (record (object_at objects n) { body = body }))
  put_store objects body =
      let o : Object = record (object_at objects n) { body = body } in
      let size = length-set objects n o in
      λ i. record { objects = slice_set objects n o; held = λ k. if nat_lt k (sym size i) then Some 0 else None; husks = λ area level. 0 }

  -- the object gets another body
  module _ (m' : Store) (t' : Table) (body new : Body) (x : Filling m t world places n body) (low : n < length world.objects) where
    abbrev next_object : Object
    next_object = record (object_at x.objects n) { body = new }

    set_same : object_at (slice_set x.objects n next_object) n ≡ next_object
    set_same = get_or-set_same x.objects n next_object no_object (let count = x.count_is in omega arith)

    set_other : (i : ℕ) → (i ≡ n → ⊥) → object_at (slice_set x.objects n next_object) i ≡ object_at x.objects i
    set_other i ne = get_or-set_other x.objects n i next_object no_object ne

    pub refilled : (map : RoleMap) → GroundInvariant m' t' (record (loaded world map x.objects) { store = put_body (store_with world x.objects) n new }) → Refines x.holds.map.role map.role → PhaseAgrees t' Idle → Filling m' t' world places n new
    refilled map kept refines aims = record {
      objects = slice_set x.objects n next_object;
      holds = record { map = map; kept = subst (λ (s : M.Store). GroundInvariant m' t' (record (loaded world map x.objects) { store = s })) (put_store x.objects new) kept; aims = aims };
      count_is = length-set x.objects n next_object ∙ x.count_is;
      places_are = λ i inside. let was = x.places_are i inside in record { names = refined x.holds.map.role map.role refines (place_at places i).word.content (V.Ref i) was.names; tag = was.tag };
      filled = λ i before. set_other i (λ e. omega arith) ∙ x.filled i before;
      next = set_same ∙ ap (λ (o : Object). let p : Object = record o { body = new } in p) x.next;
      drafts = λ i from inside. subst (λ (o : Object). IsDraft i (object_at world.objects i) o (place_at places i).cell) (sym (set_other i (λ e. omega arith))) (x.drafts i from inside);
    }

-- Words of values

-- the word of a value has it
pub word_means : (m : Store) (t : Table) (world : World) (places : List PlaceView) (n : ℕ) (body : Body) (x : Filling m t world places n body) → length places ≡ length world.objects
    → (v : Value) → RefersBelow (length world.objects) v → value_of x.holds.map.role (word_of places v).content ≡ Some v
word_means m t world places n body x same (V.Fix i) below = refl
word_means m t world places n body x same V.Nil below = refl
word_means m t world places n body x same (V.Ref name) below = (x.places_are name below).names

-- A cons

module _ (m : Store) (t : Table) (world : World) (places : List PlaceView) (n : ℕ) (body : Body) (x : Filling m t world places n body) (low : n < length world.objects) where
  can_read : CanRead m t (loaded world x.holds.map x.objects) [] (place_at places n).word.content (V.Ref n)
  can_read = record { kept = x.holds.kept; value_is = (x.places_are n low).names; survives = λ region old. absurd (x.holds.aims.1 region old) }

  pub can_set : (written : Parts) (v : Value) → value_of x.holds.map.role written.content ≡ Some v → CanSet m t (place_at places n).word written
  can_set written v is = record {
    can = record {
      it = loaded world x.holds.map x.objects;
      registers = [];
      value = V.Ref n;
      can = can_read;
      fresh = λ old. x.holds.aims.1 _ old.2;
    };
    new = v;
    new_is = is;
    young = λ old. x.holds.aims.1 _ old.2;
  }

  pub body_here : (object_at x.objects n).body ≡ body
  body_here = ap (λ (o : Object). o.body) x.next

  module _ (m' : Store) (t' : Table) where
    pub car_filled : (old cdr new : Value) (written : Content) → body ≡ Cons old cdr → value_of x.holds.map.role written ≡ Some new → t' ≡ t → SetsCar m t m' t' (place_at places n).word.content written → Filling m' t' world places n (Cons new cdr)
    car_filled old cdr new written is value same sets =
        let s = sets (loaded world x.holds.map x.objects) [] n old cdr new can_read (body_here ∙ is) value in
        refilled m t world places n m' t' body (Cons new cdr) x low s.map s.kept s.refines (subst (λ (u : Table). PhaseAgrees u Idle) (sym same) x.holds.aims)

    pub cdr_filled : (car old new : Value) (written : Content) → body ≡ Cons car old → value_of x.holds.map.role written ≡ Some new → OnlyGrows t t' → SetsCdr m t m' t' (place_at places n).word.content written → Filling m' t' world places n (Cons car new)
    cdr_filled car old new written is value g sets =
        let s = sets (loaded world x.holds.map x.objects) [] n car old new can_read (body_here ∙ is) value in
        refilled m t world places n m' t' body (Cons car new) x low s.map s.kept s.refines (aims_grown t t' Idle g x.holds.aims)

    -- nothing was stored
    pub filling_read : t' ≡ t → StoresNothing m m' → HoldsSome m' t' world
    filling_read same nothing = record {
      objects = x.objects;
      holds = subst (λ (u : Table). Holds m' u world x.objects) (sym same)
          (record { map = x.holds.map; kept = kept_on_same m m' t (loaded world x.holds.map x.objects) x.holds.kept nothing; aims = x.holds.aims });
    }

  -- a field of the block was stored
  pub field_filled : (m' : Store) (code : ℕ) (fields : List Value) (index : ℕ) (new : Value) → GroundInvariant m' t (record (loaded world x.holds.map x.objects) { store = put_body (store_with world x.objects) n (Block code (slice_set fields index new)) })
      → Filling m' t world places n (Block code (slice_set fields index new))
  field_filled m' code fields index new kept = refilled m t world places n m' t body (Block code (slice_set fields index new)) x low x.holds.map kept (λ kind a k e. e) x.holds.aims

-- The fields of a block

-- the next object is a block with its first fields
pub record FieldsFilled (m : Store) (t : Table) (world : World) (places : List PlaceView) (n : ℕ) (fields : List Value) (done : ℕ) : Type 0 where
  pub code : ℕ
  pub body : (object_at world.objects n).body ≡ Block code fields
  pub so_far : List Value
  pub filling : Filling m t world places n (Block code so_far)
  pub length_is : length so_far ≡ length fields
  pub first : (i : ℕ) → i < done → get_or so_far i V.Nil ≡ get_or fields i V.Nil

pub fields_none : (m : Store) (t : Table) (world : World) (places : List PlaceView) (n code : ℕ) (fields : List Value) → (object_at world.objects n).body ≡ Block code fields → n < length world.objects → Filled m t world places n → FieldsFilled m t world places n fields 0
fields_none m t world places n code fields body low x =
    let d = x.drafts n (omega arith) low in
    let b = draft_block (object_at x.objects n).body code (length fields) (sym (d.header ∙ ap header_of body)) in
    record {
      code = code;
      body = body;
      so_far = b.0;
      filling = subst (Filling m t world places n) b.2 (filling_from m t world places n x low);
      length_is = b.1;
      first = λ i before. absurd (omega arith);
    }

pub fields_more : (m m' : Store) (t t' : Table) (world : World) (places : List PlaceView) (n : ℕ) (fields : List Value) (done : ℕ) (x : FieldsFilled m t world places n fields done) → done < length fields
    → Filling m' t' world places n (Block x.code (slice_set x.so_far done (get_or fields done V.Nil))) → FieldsFilled m' t' world places n fields (done + 1)
fields_more m m' t t' world places n fields done x low filling = record {
  code = x.code;
  body = x.body;
  so_far = slice_set x.so_far done (get_or fields done V.Nil);
  filling = filling;
  length_is = length-set x.so_far done (get_or fields done V.Nil) ∙ x.length_is;
  first = λ i before. elim (cases_eq i done) [
    | inl e ↦ ap (λ (k : ℕ). get_or (slice_set x.so_far done (get_or fields done V.Nil)) k V.Nil) e
        ∙ get_or-set_same x.so_far done (get_or fields done V.Nil) V.Nil (let size = x.length_is in omega arith)
        ∙ sym (ap (λ (k : ℕ). get_or fields k V.Nil) e)
    | inr ne ↦ get_or-set_other x.so_far done i (get_or fields done V.Nil) V.Nil ne ∙ x.first i (omega arith)
  ];
}

pub fields_all : (m : Store) (t : Table) (world : World) (places : List PlaceView) (n : ℕ) (fields : List Value) (done : ℕ) → FieldsFilled m t world places n fields done → length fields ≤ done → Filled m t world places (n + 1)
fields_all m t world places n fields done x past =
    let same : x.so_far ≡ fields = ext_get_or V.Nil x.so_far fields x.length_is (λ i low. x.first i (let size = x.length_is in omega arith)) in
    filled_next m t world places n (subst (Filling m t world places n) (ap (Block x.code) same ∙ sym x.body) x.filling)

-- The parts of a cons

-- the next object is a cons; a cell has the cdr of the world, and a pair the parts that were known when it was made
pub record ConsFilling (m : Store) (t : Table) (world : World) (places : List PlaceView) (n : ℕ) (car cdr : Value) : Type 0 where
  pub old : Value
  pub rest : Value
  pub filling : Filling m t world places n (Cons old rest)
  pub cell : (place_at places n).cell ≡ true → rest ≡ cdr
  pub first : (place_at places n).cell ≡ false → is_known n car ≡ true → old ≡ car
  pub second : (place_at places n).cell ≡ false → is_known n cdr ≡ true → rest ≡ cdr

pub cons_start : (m : Store) (t : Table) (world : World) (places : List PlaceView) (n : ℕ) (car cdr : Value) → (object_at world.objects n).body ≡ Cons car cdr → n < length world.objects → Filled m t world places n → ConsFilling m t world places n car cdr
cons_start m t world places n car cdr body low x =
    let d = x.drafts n (omega arith) low in
    let b = draft_cons (object_at x.objects n).body (sym (d.header ∙ ap header_of body)) in
    record {
      old = b.0;
      rest = b.1;
      filling = subst (Filling m t world places n) b.2 (filling_from m t world places n x low);
      cell = λ is. sym (ap cdr_of b.2) ∙ d.cell_cdr is ∙ ap cdr_of body;
      first = λ pair known. sym (ap car_of b.2) ∙ d.car pair (ap (λ (w : Body). is_known n (car_of w)) body ∙ known) ∙ ap car_of body;
      second = λ pair known. sym (ap cdr_of b.2) ∙ d.cdr pair (ap (λ (w : Body). is_known n (cdr_of w)) body ∙ known) ∙ ap cdr_of body;
    }

-- the place that is read
pub place_there : (places : List PlaceView) (n : ℕ) (read : PlaceView) (objects : List Object) → length places ≡ length objects → n < length objects → get_or places n read ≡ place_at places n
place_there places n read objects same low = get_or_default places n read no_place (omega arith)

-- each part refers to an object of the world
pub parts_below : (world : World) → IsLoadable world → (n : ℕ) → n < length world.objects → (body : Body) → (object_at world.objects n).body ≡ body → PartsReferBelow (length world.objects) body
parts_below world w n low body is = subst (PartsReferBelow (length world.objects)) is (w.is.graph.objects n no_object low).refers
