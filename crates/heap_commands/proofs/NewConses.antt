-- New conses, each with a register for it.
use Rattle.std.proofs.Common.{◌≡◌, ℕ, ◌+◌, ◌*◌, ◌<◌, ◌≤◌, inl, inr, ◌||◌, ◌==◌, true, false, refl, sym, ◌∙◌, ap, subst, List, [], ◌∷◌, length, get_or, slice_index, slice_set, map, Some, IsTrue, arith}
use Rattle.std.specs.Prelude.{eqb}
use Rattle.std.specs.List.{All, list_any}
use Rattle.std.proofs.lemmas.Bool.{eqb-true}
use Rattle.std.proofs.Math.ListN.{get_or-map}
use Rattle.std.proofs.lemmas.List.{get_or_default, get_or_read, length-map}
use Rattle.std.proofs.lemmas.List.Elements.{All-get_or, All-head, All-tail}
use Rattle.store_word.specs.Words.{Parts, null_word}
use Rattle.store_word.specs.declared.word.Content.TheVariants.{List as ListAt}
use Rattle.lisp_graph.specs.declared.command.Command.{Command}
use Rattle.lisp_graph.specs.declared.command.Command.TheVariants as C
use Rattle.lisp_graph.specs.declared.reply.Reply.TheVariants as R
use Rattle.lisp_graph.specs.declared.object.Object.{Object}
use Rattle.lisp_graph.specs.declared.object.Value.{Value}
use Rattle.lisp_graph.specs.declared.object.Value.TheVariants as V
use Rattle.lisp_graph.specs.Effect.{effect, list_from, made, pair_of}
use Rattle.lisp_graph.specs.Graph.{value_at}
use Rattle.mem_port.specs.Store.{Store}
use Rattle.area_space.specs.Accounts.{account_of}
use Rattle.area_space.specs.Table.{Table, areas_of, levels_of, quota_of}
use Rattle.block_store.specs.lisp_meaning.State.{State}
use Rattle.block_store.specs.lisp_meaning.Changes.{with_made}
use Rattle.block_store.specs.lisp_meaning.Flip.{graph_of}
use Rattle.block_store.specs.lisp_meaning.Roles.{AsCons, RoleMap, as_ref, value_of}
use Rattle.block_store.specs.lisp_meaning.Interpretation.{interpretation}
use Rattle.block_store.specs.lisp_meaning.Step.{allocated}
use Rattle.block_store.specs.transporter.Making.{HasQuota, MadeOn, PlacesNew}
use Rattle.block_store.specs.transporter.Marking.{MarksFollow}
use Rattle.block_store.specs.transporter.Preserving.{NoOldAddresses, FreshOn, RegistersPreserved, PreservesScanned}
use Rattle.block_store.specs.transporter.Transports.{WordsUnchanged}
use Rattle.heap_state.specs.Consistent.{RepresentsState}
use Rattle.heap_state.specs.Marks.{MarksOf}
use Rattle.heap_state.specs.Represents.{Represents}
use Rattle.heap_state.specs.RepresentsLater.{RepresentsLater}
use Rattle.heap_state.specs.Performs.{PerformsAt, PerformsOn}
use Rattle.heap_state.specs.Reads.{reads}
use Rattle.heap_state.specs.Settled.{IsSettled, NoOldAddressesInRegisters}
use Rattle.heap_state.proofs.Allocations.{allocation_answers, fits_quota, list_fresh, made_represented, placed_more, quota_left}
use Rattle.heap_state.proofs.SettledRegister.{registers_same, settled_on, stays_represented}
use Rattle.heap_state.proofs.CommandEffects.{Leaves, set_others}
use Rattle.cdr_lists.specs.Lists.{CanList, ListedOn, MeansValues, item_word}
use Rattle.cdr_lists.specs.Pairs.{CanPair, PairedOn}
use Rattle.heap_commands.proofs.ConsRegisters.{either, only_two, value_there}

-- after a swap error the same states are represented
pub stays_leaves_at : (m m' : Store) (t t' : Table) (registers : List Parts) → WordsUnchanged m t m' t' → PreservesScanned m t m' t' → (NoOldAddressesInRegisters t registers → NoOldAddresses m t → NoOldAddresses m' t') → MarksFollow m t m' t' → Leaves m t registers m' t' registers
stays_leaves_at m m' t t' registers stays preserves stays_fresh marks = record { represented = stays_represented m m' t t' registers preserves.grows stays; preserves = preserves; others = registers_same t' registers; stays_fresh = stays_fresh; marks = marks }

-- objects were made in a class, and a register refers to the first of them
module _ (m m' : Store) (t t' : Table) (registers : List Parts) (c : Command) (to area level at words charge : ℕ) (word : Parts) (to_in : to < length registers) (word_is : word.content ≡ ListAt at) (preserves : PreservesScanned m t m' t') (placed : PlacesNew t t' area level at words charge) (few : words ≤ charge)
    (stays_fresh : NoOldAddressesInRegisters t registers → NoOldAddresses m t → NoOldAddresses m' t') (marks : MarksOf c R.Fine m t m' t') (settled : (i : ℕ) → IsTrue (reads c i) → (i < length registers) × IsSettled t registers i) where
  made_performs : (k : RoleMap) (s : State) (objects : List Object) → Represents m t registers k s → HasQuota (interpretation k s) area level charge → effect (graph_of s) c ≡ Some (made (graph_of s) to area charge objects)
      → MadeOn m t m' t' (interpretation k s) (with_made s.store objects level) AsCons at
      → allocated s c area (made (graph_of s) to area charge objects).graph ≡ record s { registers = slice_set s.registers to (V.Ref (length s.store.objects)); store = with_made s.store objects level }
      → PerformsOn m t registers m' t' (slice_set registers to word) c R.Fine k s
  made_performs k s objects b quota is x after = record {
    performed = inr (allocation_answers m m' t t' (slice_set registers to word) k s c (made (graph_of s) to area charge objects) (record { area = area; charge = charge }) is refl refl (fits_quota s area level charge quota)
        (subst (λ (next : State). RepresentsLater m t m' t' (slice_set registers to word) k s next charge) (sym after)
        (made_represented m m' t t' registers k x.map s (with_made s.store objects level) to word (V.Ref (length s.store.objects)) words charge preserves.grows b x.kept x.refines to_in (ap (value_of x.map.role) word_is ∙ ap as_ref x.there) x.old (placed_more t t' area level at words charge placed) few)));
    preserves = preserves;
    others = others;
    stays_fresh = stays_fresh;
    marks = marks;
    settled = λ done i read. settled_on t t' registers (slice_set registers to word) i preserves.grows others (settled i read).0 (settled i read).1;
  }
    where
      others : RegistersPreserved t' registers (slice_set registers to word)
      others = set_others t' registers to word to_in (subst (FreshOn t') (sym word_is) (list_fresh t t' area level at words charge x.kept.table placed))

-- A pair

module _ (m : Store) (t : Table) (registers : List Parts) (area level car cdr : ℕ) (car_in : car < length registers) (cdr_in : cdr < length registers) (first second : Parts) (first_is : first ≡ get_or registers car first) (second_is : second ≡ get_or registers cdr second)
    (area_in : area < areas_of t) (level_in : level < levels_of t) (fits : account_of t area + 2 ≤ quota_of t area) where
  pub can_pair : RepresentsState m t registers → CanPair m t area level 2 first second
  can_pair x = record {
    it = interpretation x.map x.state;
    kept = x.represents.kept;
    charges = inl refl;
    quota = quota_left m t registers x.map x.state area level 2 x.represents area_in level_in fits;
    car_value = (get_or x.state.registers car V.Nil, value_there m t registers car car_in first first_is x.map x.state x.represents);
    cdr_value = (get_or x.state.registers cdr V.Nil, value_there m t registers cdr cdr_in second second_is x.map x.state x.represents);
  }

  -- no register has an old address, so neither word has one
  pub pair_stays_fresh : (m' : Store) (t' : Table) → (FreshOn t first.content → FreshOn t second.content → NoOldAddresses m t → NoOldAddresses m' t') → NoOldAddressesInRegisters t registers → NoOldAddresses m t → NoOldAddresses m' t'
  pair_stays_fresh m' t' stays_fresh fresh words = stays_fresh (subst (λ (w : Parts). FreshOn t w.content) (sym (get_or_read registers car first car_in first_is null_word)) (fresh car car_in)) (subst (λ (w : Parts). FreshOn t w.content) (sym (get_or_read registers cdr second cdr_in second_is null_word)) (fresh cdr cdr_in)) words

  pub pair_performs : (m' : Store) (t' : Table) (to at : ℕ) (word : Parts) → to < length registers → word.content ≡ ListAt at → PreservesScanned m t m' t' → PlacesNew t t' area level at 2 2 → (FreshOn t first.content → FreshOn t second.content → NoOldAddresses m t → NoOldAddresses m' t') → MarksFollow m t m' t'
      → IsSettled t registers car → IsSettled t registers cdr → PairedOn m t m' t' area level 2 first second at → PerformsAt m t registers m' t' (slice_set registers to word) (C.Cons to area car cdr) R.Fine area level
  pair_performs m' t' to at word to_in word_is preserves placed stays_fresh marks car_settled cdr_settled paired k s b reach level_is =
      let quota = quota_left m t registers k s area level 2 b area_in level_in fits in
      let a = value_at s.registers car in
      let d = value_at s.registers cdr in
      let x = paired (interpretation k s) a d b.kept quota (value_there m t registers car car_in first first_is k s b) (value_there m t registers cdr cdr_in second second_is k s b) in
      made_performs m m' t t' registers (C.Cons to area car cdr) to area level at 2 2 word to_in word_is preserves placed (omega arith) (pair_stays_fresh m' t' stays_fresh) marks settled k s (pair_of area a d ∷ []) b quota refl x
      (ap (λ (l : ℕ). record s { registers = slice_set s.registers to (V.Ref (length s.store.objects)); store = with_made s.store (pair_of area a d ∷ []) l }) (sym level_is))
    where
      settled : (i : ℕ) → IsTrue (i == car || i == cdr) → (i < length registers) × IsSettled t registers i
      settled i h = elim (only_two car cdr i h) [
        | inl e ↦ (subst (λ (j : ℕ). j < length registers) (sym e) car_in, subst (IsSettled t registers) (sym e) car_settled)
        | inr e ↦ (subst (λ (j : ℕ). j < length registers) (sym e) cdr_in, subst (IsSettled t registers) (sym e) cdr_settled)
      ]

-- A list

-- what holds of all items holds of each that is among them
item_among : (P : ℕ → Type 0) (items : List ℕ) (i : ℕ) → All P items → IsTrue (list_any (eqb i) items) → P i
item_among P [] i all h = absurd (let z : false ≡ true = h in cc)
item_among P (x ∷ xs) i all h = elim (either (eqb i x) (list_any (eqb i) xs) h) [
  | inl e ↦ subst P (sym (eqb-true i x e)) (All-head P x xs all)
  | inr rest ↦ item_among P xs i (All-tail P x xs all) rest
]

module _ (m : Store) (t : Table) (registers : List Parts) (area level : ℕ) (items : List ℕ) (some : 1 ≤ length items) (few : length items ≤ 1024) (inside : All (λ item. item < length registers) items)
    (area_in : area < areas_of t) (level_in : level < levels_of t) (fits : account_of t area + 3 * length items ≤ quota_of t area) where
  item_in : (i : ℕ) → i < length items → slice_index items i < length registers
  item_in i low = All-get_or (λ item. item < length registers) items i 0 low inside

  means : (k : RoleMap) (s : State) → Represents m t registers k s → MeansValues k.role registers items (map (value_at s.registers) items)
  means k s b = record { count = length-map items (value_at s.registers); each = each }
    where
      each : (i : ℕ) → i < length items → value_of k.role (item_word registers items i).content ≡ Some (get_or (map (value_at s.registers) items) i V.Nil)
      each i low =
          let size = length-map items (value_at s.registers) in
          value_there m t registers (slice_index items i) (item_in i low) (item_word registers items i) (get_or_default registers (slice_index items i) null_word (item_word registers items i) (item_in i low)) k s b
          ∙ ap (λ (v : Value). Some v) (sym (get_or-map (value_at s.registers) items i 0) ∙ get_or_default (map (value_at s.registers) items) i (value_at s.registers 0) V.Nil (omega arith))

  pub can_list : RepresentsState m t registers → CanList m t area level registers items
  can_list x = record {
    it = interpretation x.map x.state;
    kept = x.represents.kept;
    some = some;
    few = few;
    inside = inside;
    quota = quota_left m t registers x.map x.state area level (3 * length items) x.represents area_in level_in fits;
    values = map (value_at x.state.registers) items;
    means = means x.map x.state x.represents;
  }

  pub list_stays_fresh : (m' : Store) (t' : Table) → (((i : ℕ) → i < length items → FreshOn t (item_word registers items i).content) → NoOldAddresses m t → NoOldAddresses m' t') → NoOldAddressesInRegisters t registers → NoOldAddresses m t → NoOldAddresses m' t'
  list_stays_fresh m' t' stays_fresh fresh words = stays_fresh (λ i low. fresh (slice_index items i) (item_in i low)) words

  pub list_performs : (m' : Store) (t' : Table) (to at : ℕ) (word : Parts) → to < length registers → word.content ≡ ListAt at → PreservesScanned m t m' t' → PlacesNew t t' area level at (length items) (3 * length items)
      → (((i : ℕ) → i < length items → FreshOn t (item_word registers items i).content) → NoOldAddresses m t → NoOldAddresses m' t') → MarksFollow m t m' t' → All (IsSettled t registers) items → ListedOn m t m' t' area level registers items at
      → PerformsAt m t registers m' t' (slice_set registers to word) (C.List to area items) R.Fine area level
  list_performs m' t' to at word to_in word_is preserves placed stays_fresh marks all_settled listed k s b reach level_is =
      let quota = quota_left m t registers k s area level (3 * length items) b area_in level_in fits in
      let values = map (value_at s.registers) items in
      let x = listed (interpretation k s) values b.kept quota (means k s b) in
      made_performs m m' t t' registers (C.List to area items) to area level at (length items) (3 * length items) word to_in word_is preserves placed (omega arith) (list_stays_fresh m' t' stays_fresh) marks
      (λ i h. (item_among (λ item. item < length registers) items i inside h, item_among (IsSettled t registers) items i all_settled h)) k s (list_from area (length s.store.objects) values) b quota refl x
      (ap (λ (l : ℕ). record s { registers = slice_set s.registers to (V.Ref (length s.store.objects)); store = with_made s.store (list_from area (length s.store.objects) values) l }) (sym level_is))
