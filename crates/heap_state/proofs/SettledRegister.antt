-- A register is settled.
use Rattle.std.proofs.Common.{◌≡◌, ℕ, ◌+◌, ◌<◌, inl, inr, refl, sym, ◌∙◌, ap, subst, List, length, get_or, slice_index, slice_set, length-set, Some, None, arith}
use Rattle.std.specs.List.{All, AllWithin}
use Rattle.std.proofs.lemmas.Bool.{cases_eq}
use Rattle.std.proofs.lemmas.List.{get_or_default, get_or-set_same, get_or-set_other}
use Rattle.store_word.specs.Words.{Parts, null_word, address_of}
use Rattle.store_word.specs.declared.word.Content.{Content}
use Rattle.store_word.specs.declared.word.Content.TheVariants.{Null, Nil as NilWord, List as ListAt, Struct as StructAt, Header, HeaderForward, GcForward, Fixnum}
use Rattle.lisp_graph.specs.declared.object.Value.TheVariants as V
use Rattle.mem_port.specs.Store.{Store}
use Rattle.area_space.specs.Table.{Table}
use Rattle.transporter.specs.lisp_meaning.State.{State, Phase, Idle, Running}
use Rattle.transporter.specs.lisp_meaning.Roles.{RoleMap, value_of}
use Rattle.transporter.specs.lisp_meaning.Interpretation.{interpretation}
use Rattle.transporter.specs.lisp_meaning.Sound.{Reach}
use Rattle.transporter.specs.LiveWordsUnchanged.{OnlyGrows}
use Rattle.transporter.specs.Settling.{reference_of, RefersToOld, CanSettle, IsSettleable, Settles, SettlesOn, SettlesAlways}
use Rattle.transporter.specs.Preserving.{FreshOn, RegistersPreserved, PreservesScanned}
use Rattle.transporter.specs.Transports.{WordsUnchanged}
use Rattle.transporter.proofs.LiveObjects.{old-before}
use Rattle.transporter.proofs.ScannedWords.{fresh-grown, fresh-value}
use Rattle.heap_state.specs.PhaseAgrees.{PhaseAgrees}
use Rattle.heap_state.specs.Consistent.{RepresentsState}
use Rattle.heap_state.specs.Represents.{Represents}
use Rattle.heap_state.specs.RepresentsLater.{RepresentsSame}
use Rattle.heap_state.specs.Settled.{IsSettled, NoOldAddressesInRegisters}
use Rattle.heap_state.proofs.StateChanges.{kept_register, later_means, represented_twice}

-- what the table records of the collection is unchanged if it only grows
pub aims_grown : (t t' : Table) (p : Phase) → OnlyGrows t t' → PhaseAgrees t p → PhaseAgrees t' p
aims_grown t t' Idle g a = (g.aim ∙ a.0, λ region old. a.1 region (old-before g old))
aims_grown t t' (Running c) g a = g.aim ∙ a

-- Fresh words and settled ones

reference_address : (c : Content) (at : ℕ) → reference_of c ≡ Some at → address_of c ≡ Some at
reference_address (ListAt a) at e = e
reference_address (StructAt a) at e = e
reference_address (HeaderForward a) at e = absurd (let x : None ≡ Some at = e in cc)
reference_address (GcForward a) at e = absurd (let x : None ≡ Some at = e in cc)
reference_address (Header i j) at e = absurd (let x : None ≡ Some at = e in cc)
reference_address (Fixnum i) at e = absurd (let x : None ≡ Some at = e in cc)
reference_address Null at e = absurd (let x : None ≡ Some at = e in cc)
reference_address NilWord at e = absurd (let x : None ≡ Some at = e in cc)

-- a fresh word has no old address
pub fresh_settled : (t : Table) (w : Parts) → FreshOn t w.content → RefersToOld t w → ⊥
fresh_settled t w fresh old = fresh old.0 (reference_address w.content old.0 old.1) old.2

-- a settled register stays settled if the table grows and registers are preserved
pub settled_on : (t t' : Table) (registers registers' : List Parts) (r : ℕ) → OnlyGrows t t' → RegistersPreserved t' registers registers' → r < length registers → IsSettled t registers r → IsSettled t' registers' r
settled_on t t' registers registers' r g x low settled = elim (x.each r low) [
  | inl same ↦ λ old. settled (let was = subst (λ (w : Parts). RefersToOld t' w) same old in (was.0, was.1, old-before g was.2))
  | inr fresh ↦ fresh_settled t' (get_or registers' r null_word) fresh
]

-- Registers

pub registers_same : (t : Table) (registers : List Parts) → RegistersPreserved t registers registers
registers_same t registers = record { count = refl; each = λ r low. inl refl }

pub registers_then : (t t' : Table) (r0 r1 r2 : List Parts) → OnlyGrows t t' → RegistersPreserved t r0 r1 → RegistersPreserved t' r1 r2 → RegistersPreserved t' r0 r2
registers_then t t' r0 r1 r2 g x y = record {
  count = y.count ∙ x.count;
  each = λ r low. elim (y.each r (let z = x.count in omega arith)) [
    | inl same ↦ elim (x.each r low) [
      | inl was ↦ inl (same ∙ was)
      | inr fresh ↦ inr (subst (λ (w : Parts). FreshOn t' w.content) (sym same) (fresh-grown (get_or r1 r null_word).content g fresh))
    ]
    | inr fresh ↦ inr fresh
  ];
}

pub registers_fresh : (t t' : Table) (registers registers' : List Parts) → OnlyGrows t t' → RegistersPreserved t' registers registers' → NoOldAddressesInRegisters t registers → NoOldAddressesInRegisters t' registers'
registers_fresh t t' registers registers' g x fresh r low =
    let count = x.count in
    let here : r < length registers = omega arith in
    elim (x.each r here) [
      | inl same ↦ subst (λ (w : Parts). FreshOn t' w.content) (sym same) (fresh-grown (get_or registers r null_word).content g (fresh r here))
      | inr new ↦ new
    ]

-- What a caller must ensure

pub consistent_on : (m m' : Store) (t t' : Table) (registers registers' : List Parts) → RepresentsState m t registers → RepresentsSame m t registers m' t' registers' → RepresentsState m' t' registers'
consistent_on m m' t t' registers registers' x represented =
    let y = represented x.map x.state x.represents x.reach in
    record { map = y.map; state = x.state; represents = y.represents; reach = x.reach; some = x.some }

pub represented_then : (m m1 m2 : Store) (t t1 t2 : Table) (r0 r1 r2 : List Parts) → RepresentsSame m t r0 m1 t1 r1 → RepresentsSame m1 t1 r1 m2 t2 r2 → RepresentsSame m t r0 m2 t2 r2
represented_then m m1 m2 t t1 t2 r0 r1 r2 x y k s b reach =
    let p = x k s b reach in
    represented_twice m m1 m2 t t1 t2 r1 r2 k s s s 0 0 p (y p.map s p.represents reach)

-- One register

register_can : (m : Store) (t : Table) (registers : List Parts) (k : RoleMap) (s : State) (r : ℕ) → Represents m t registers k s → Reach s s.phase → r < length registers
    → CanSettle m t (interpretation k s) s.registers (get_or registers r null_word) (get_or s.registers r V.Nil)
register_can m t registers k s r b reach low =
    let count = b.count in
    let here : r < length s.registers = omega arith in
    record {
      kept = b.kept;
      value = λ at e. b.means r here;
      survives = λ old. kept_register m t registers k s r _ b reach here old.2;
    }

pub register_settleable : (m : Store) (t : Table) (registers : List Parts) (r : ℕ) → RepresentsState m t registers → r < length registers → IsSettleable m t (get_or registers r null_word)
register_settleable m t registers r x low = record {
  it = interpretation x.map x.state;
  registers = x.state.registers;
  value = get_or x.state.registers r V.Nil;
  can = register_can m t registers x.map x.state r x.represents x.reach low;
}

pub stays_represented : (m m' : Store) (t t' : Table) (registers : List Parts) → OnlyGrows t t' → WordsUnchanged m t m' t' → RepresentsSame m t registers m' t' registers
stays_represented m m' t t' registers g x k s b reach =
    let placed = x.placed in
    let old = x.old (interpretation k s) b.kept in
    record {
      map = k;
      represents = record { kept = x.kept (interpretation k s) b.kept; count = b.count; means = b.means; aims = aims_grown t t' s.phase g b.aims };
      refines = λ kind a n e. e;
      work = omega arith;
    }

pub settles_here : (m m' : Store) (t t' : Table) (read old new : Parts) → old ≡ read → SettlesAlways m t m' t' old new → SettlesAlways m t m' t' read new
settles_here m m' t t' read old new e x = subst (λ (w : Parts). SettlesAlways m t m' t' w new) e x

module _ (m m' : Store) (t t' : Table) (registers : List Parts) (r : ℕ) (new : Parts) (low : r < length registers) (preserves : PreservesScanned m t m' t') (word : Settles t t' (get_or registers r null_word) new)
    (settles : SettlesAlways m t m' t' (get_or registers r null_word) new) where
  settles_as : (k : RoleMap) (s : State) → Represents m t registers k s → Reach s s.phase → SettlesOn m t m' t' (interpretation k s) (get_or registers r null_word) new
  settles_as k s b reach = settles (interpretation k s) s.registers (get_or s.registers r V.Nil) (register_can m t registers k s r b reach low)

  pub settled_represented : RepresentsSame m t registers m' t' (slice_set registers r new)
  settled_represented k s b reach =
      let on = settles_as k s b reach in
      let count = b.count in
      let value = on.value (get_or s.registers r V.Nil) (b.means r (omega arith)) in
      let work = on.later.work in
      let means : (i : ℕ) → i < length s.registers → value_of on.later.map.role (get_or (slice_set registers r new) i null_word).content ≡ Some (get_or s.registers i V.Nil) = λ i l.
      elim (cases_eq i r) [
        | inl e ↦
            let is : get_or (slice_set registers r new) i null_word ≡ new = ap (λ (j : ℕ). get_or (slice_set registers r new) j null_word) e ∙ get_or-set_same registers r new null_word low in
            ap (λ (w : Parts). value_of on.later.map.role w.content) is ∙ value ∙ ap (λ (j : ℕ). Some (get_or s.registers j V.Nil)) (sym e)
        | inr ne ↦ ap (λ (w : Parts). value_of on.later.map.role w.content) (get_or-set_other registers r i new null_word ne) ∙ later_means k on.later.map registers s.registers on.later.refines b.means i l
      ] in
      record {
        map = on.later.map;
        represents = record { kept = on.later.kept; count = length-set registers r new ∙ b.count; means = means; aims = aims_grown t t' s.phase preserves.grows b.aims };
        refines = on.later.refines;
        work = omega arith;
      }

  pub settled_others : RepresentsState m t registers → RegistersPreserved t' registers (slice_set registers r new)
  settled_others x =
      let on = settles_as x.map x.state x.represents x.reach in
      let count = x.represents.count in
      let value = on.value (get_or x.state.registers r V.Nil) (x.represents.means r (omega arith)) in
      record {
        count = length-set registers r new;
        each = λ i l. elim (cases_eq i r) [
          | inl e ↦
              let is : get_or (slice_set registers r new) i null_word ≡ new = ap (λ (j : ℕ). get_or (slice_set registers r new) j null_word) e ∙ get_or-set_same registers r new null_word low in
              inr (subst (λ (w : Parts). FreshOn t' w.content) (sym is) (fresh-value on.later.map.role t' new.content (get_or x.state.registers r V.Nil) value word.fresh))
          | inr ne ↦ inl (get_or-set_other registers r i new null_word ne)
        ];
      }

-- The registers of a list

-- the first items are settled, and one more
pub one_more : (t t' : Table) (registers registers' : List Parts) (items : List ℕ) (i : ℕ) → OnlyGrows t t' → RegistersPreserved t' registers registers' → All (λ item. item < length registers) items → i < length items
    → AllWithin (IsSettled t registers) items 0 i → IsSettled t' registers' (slice_index items i) → AllWithin (IsSettled t' registers') items 0 (i + 1)
one_more t t' registers registers' items i g x inside here before settled j d zero low = elim (cases_eq j i) [
  | inl e ↦ subst (λ (n : ℕ). IsSettled t' registers' (get_or items n d)) (sym e) (subst (λ (n : ℕ). IsSettled t' registers' n) (get_or_default items i 0 d here) settled)
  | inr ne ↦ settled_on t t' registers registers' (get_or items j d) g x (inside j d (omega arith)) (before j d zero (omega arith))
]

pub item_within : (t : Table) (registers registers' : List Parts) (items : List ℕ) → RegistersPreserved t registers registers' → All (λ item. item < length registers) items → All (λ item. item < length registers') items
item_within t registers registers' items x inside j d low = let count = x.count in let here = inside j d low in omega arith
