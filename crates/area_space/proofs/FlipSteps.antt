-- A flip, slot by slot, and the flip marks.
use Rattle.std.proofs.Common.{◌≡◌, ℕ, ◌+◌, ◌<◌, Bool, Some, None, List, [], ◌∷◌, length, slice_index, slice_set, refl, sym, ◌∙◌, ap, subst, arith, inl, inr, length-set, get_or-set_same, get_or-set_other}
use Rattle.std.specs.Prelude.{Contains}
use Rattle.std.proofs.lemmas.Bool.{cases_eq}
use Rattle.lisp_graph.specs.declared.command.Condemn.{Condemn}
use Rattle.index_lists.specs.Chains.{IsFree}
use Rattle.area_space.specs.Flips.{state_of, after_flip, condemns, begun, IsFlipMark, FlipsSlot, SameSizes, Condemns, IsFlipping}
use Rattle.area_space.specs.Sound.{IsTable}
use Rattle.area_space.specs.Table.{Table, slots_of, lists_of}

pub nothing_in : (xs : List ℕ) → ((r : ℕ) → Contains xs r → ⊥) → xs ≡ []
nothing_in [] h = refl
nothing_in (x ∷ xs) h = absurd (h x (0, omega arith, refl))

pub flipping_start : (old now : Table) (what : Condemn) → now ≡ begun old what → IsFlipping old now what 0
flipping_start old now what e = subst (λ (t : Table). IsFlipping old t what 0) (sym e) (record { same = refl; done = λ k l. absurd (omega arith); rest = λ k l. refl })

pub flipping_more : (old now next : Table) (what : Condemn) (k : ℕ) → IsFlipping old now what k → FlipsSlot now next what k → IsFlipping old next what (k + 1)
flipping_more old now next what k f s =
    let test : (m : ℕ) → condemns now what m ≡ condemns old what m = λ m. ap (λ (t : Table). condemns t what m) f.same in
    record {
      same = s.same ∙ ap (λ (t : Table). (let w : Table = record t { chains = next.chains; charges = next.charges; husks = next.husks } in w)) f.same;
      done = λ m l.
          elim (cases_eq m k) [
            | inl e ↦
                let here : state_of next k ≡ after_flip (condemns old what k) (state_of old k) = s.here ∙ (ap (λ (b : Bool). after_flip b (state_of now k)) (test k) ∙ ap (after_flip (condemns old what k)) (f.rest k (omega arith))) in
                subst (λ (q : ℕ). state_of next q ≡ after_flip (condemns old what q) (state_of old q)) (sym e) here
            | inr ne ↦ s.others m ne ∙ f.done m (omega arith)
          ];
      rest = λ m l. s.others m (λ e. omega arith) ∙ f.rest m (omega arith);
    }

pub mark_again : (t : Table) (marks : List ℕ) (region mark : ℕ) → IsFlipMark (record t { marks = marks }) region mark → IsFlipMark t region mark
mark_again t marks region mark m = record { alive = m.alive; old = m.old; free = m.free }

pub mark_after : (t : Table) (marks : List ℕ) (region mark : ℕ) → IsFlipMark t region mark → IsFlipMark (record t { marks = marks }) region mark
mark_after t marks region mark m = record { alive = m.alive; old = m.old; free = m.free }

-- two tables of as many regions and slots
pub same_sizes : (old new : Table) → IsTable old → IsTable new → new.regions ≡ old.regions → slots_of new ≡ slots_of old → SameSizes old new
same_sizes old new v w regions slots = record {
  chains = (let a = v.chains_size in let b = w.chains_size in omega arith);
  charges = (let a = v.charges_size in let b = w.charges_size in omega arith);
  husks = (let a = v.husks_size in let b = w.husks_size in omega arith);
  used = w.used_size ∙ (regions ∙ sym v.used_size);
  marks = w.marks_size ∙ (regions ∙ sym v.marks_size);
}

pub flipping_end : (old mid new : Table) (what : Condemn) → IsTable old → IsTable new → IsFlipping old mid what (slots_of old) → new ≡ record mid { marks = new.marks }
    → ((region : ℕ) → region < mid.regions → IsFlipMark mid region (slice_index new.marks region)) → Condemns old new what
flipping_end old mid new what v w f e marks =
    let ms = new.marks in
    let chains_same : new.chains ≡ mid.chains = ap (λ (t : Table). t.chains) e in
    let charges_same : new.charges ≡ mid.charges = ap (λ (t : Table). t.charges) e in
    let husks_same : new.husks ≡ mid.husks = ap (λ (t : Table). t.husks) e in
    let whole : new ≡ record old { chains = mid.chains; charges = mid.charges; husks = mid.husks; marks = new.marks; aim = Some what; last = None; pages = []; placed = 0 } = e ∙ ap (λ (t : Table). (let w : Table = record t { marks = new.marks } in w)) f.same in
    record {
      same = whole ∙ ap (λ (t : Table). (let w : Table = record old { chains = t.chains; charges = t.charges; husks = t.husks; marks = new.marks; aim = Some what; last = None; pages = []; placed = 0 } in w)) (sym (e ∙ refl));
      sizes = same_sizes old new v w (ap (λ (t : Table). t.regions) whole) (ap slots_of whole);
      slots = λ slot l. ap (λ (t : Table). state_of t slot) e ∙ f.done slot l;
      marks = λ region l. subst (λ (t : Table). IsFlipMark t region (slice_index new.marks region)) (sym e) (mark_after mid new.marks region (slice_index new.marks region) (marks region (let r : mid.regions ≡ old.regions = ap (λ (t : Table). t.regions) f.same in omega arith)));
    }

pub marked_is : (t : Table) (region mark : ℕ) → IsTable t → region < t.regions → (IsFree (lists_of t) region → mark ≡ 0) → IsTable (record t { marks = slice_set t.marks region mark })
marked_is t region mark v inside free = record {
  few_regions = v.few_regions;
  few_levels = v.few_levels;
  few_areas = v.few_areas;
  small = v.small;
  kinds_size = v.kinds_size;
  chains_size = v.chains_size;
  charges_size = v.charges_size;
  husks_size = v.husks_size;
  used_size = v.used_size;
  marks_size = length-set t.marks region mark ∙ v.marks_size;
  sound = v.sound;
  full = v.full;
  blank = v.blank;
  unmarked = λ r f.
      elim (cases_eq r region) [
        | inl e ↦ ap (slice_index (slice_set t.marks region mark)) e ∙ (get_or-set_same t.marks region mark 0 (let s = v.marks_size in omega arith) ∙ free (subst (IsFree (lists_of t)) e f))
        | inr ne ↦ get_or-set_other t.marks region r mark 0 ne ∙ v.unmarked r f
      ];
  owing = v.owing;
  packed = v.packed;
  fitting = v.fitting;
  paid = v.paid;
  counted = v.counted;
  idle = v.idle;
}

-- the marks of the regions below a number are set
pub marks_more : (t now next : Table) (region mark : ℕ) → IsTable t → region < t.regions → now ≡ record t { marks = now.marks } → length now.marks ≡ t.regions → next ≡ record now { marks = slice_set now.marks region mark } → IsFlipMark now region mark
    → ((r : ℕ) → r < region → IsFlipMark t r (slice_index now.marks r)) → (r : ℕ) → r < region + 1 → IsFlipMark t r (slice_index next.marks r)
marks_more t now next region mark v inside same size e m before r l =
    let written : next.marks ≡ slice_set now.marks region mark = ap (λ (w : Table). w.marks) e in
    elim (cases_eq r region) [
      | inl is ↦
          let here : slice_index next.marks region ≡ mark = ap (λ (xs : List ℕ). slice_index xs region) written ∙ get_or-set_same now.marks region mark 0 (omega arith) in
          let right : IsFlipMark t region mark = mark_again t now.marks region mark (subst (λ (w : Table). IsFlipMark w region mark) same m) in
          subst (λ (q : ℕ). IsFlipMark t q (slice_index next.marks q)) (sym is) (subst (IsFlipMark t region) (sym here) right)
      | inr ne ↦
          let there : slice_index next.marks r ≡ slice_index now.marks r = ap (λ (xs : List ℕ). slice_index xs r) written ∙ get_or-set_other now.marks region r mark 0 ne in
          subst (IsFlipMark t r) (sym there) (before r (omega arith))
    ]
