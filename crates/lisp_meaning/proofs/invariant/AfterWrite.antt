-- The invariant after a word of an object was written again, and how long runs are.
use Rattle.std.proofs.Common.{◌≡◌, ℕ, suc, Bool, ◌&&◌, sym, ◌∙◌, ap, arith, List, length, nat_eq}
use Rattle.lisp_meaning.specs.machine.Charges.{account, charges, per_area}
use Rattle.lisp_meaning.specs.invariants.ChargesIn.{spare_in, spares_in, is_cell}
use Rattle.lisp_meaning.specs.reading.Classes.{Class, class_at, in_class, in_old_class, classes}
use Rattle.lisp_meaning.specs.invariants.Fits.{Roled}
use Rattle.lisp_meaning.specs.reading.Image.{Image, word}
use Rattle.lisp_meaning.specs.invariants.Invariant.{MemoryInvariant}
use Rattle.lisp_meaning.specs.reading.Marks.{Marks}
use Rattle.lisp_meaning.specs.invariants.Roles.{RoleMap}
use Rattle.lisp_meaning.specs.invariants.Interpretation.{Interpretation}
use Rattle.lisp_meaning.specs.machine.State.{Store, Condemned, object, is_held}
use Rattle.lisp_graph.specs.store_word.Words.{Parts}
use Rattle.std.specs.Prelude.{is_some}
use Rattle.lisp_graph.specs.Totals.{total, if_true}
use Rattle.lisp_graph.proofs.Totals.{total-cong}

-- as many objects, each in its area with its charge
pub record SameSizes (s s' : Store) : Type 0 where
  pub size : length s'.objects ≡ length s.objects
  pub held : (n : ℕ) → s'.held n ≡ s.held n
  pub area : (n : ℕ) → (object s' n).area ≡ (object s n).area
  pub charge : (n : ℕ) → (object s' n).charge ≡ (object s n).charge
  pub husks : (area level : ℕ) → s'.husks area level ≡ s.husks area level

module _ (s s' : Store) (c : SameSizes s s') where
  pub sums_same : (test test' : ℕ → Bool) → ((n : ℕ) → test' n ≡ test n) → charges s' test' ≡ charges s test
  sums_same test test' e =
      ap (total (λ n. if_true (test' n) (object s' n).charge)) c.size
      ∙ total-cong (λ n. if_true (test' n) (object s' n).charge) (λ n. if_true (test n) (object s n).charge) (length s.objects)
      (λ n l. ap (λ (b : Bool). if_true b (object s' n).charge) (e n) ∙ ap (if_true (test n)) (c.charge n))

  held_same : (n : ℕ) → is_held s' n ≡ is_held s n
  held_same n = ap is_some (c.held n)

  spares_same : (k : RoleMap) (regions : ℕ → Class) (passes : ℕ → Class → Bool) → spares_in s' k regions passes ≡ spares_in s k regions passes
  spares_same k regions passes =
      ap (total (spare_in s' k regions passes)) c.size
      ∙ total-cong (spare_in s' k regions passes) (spare_in s k regions passes) (length s.objects)
      (λ n l. ap (λ (b : Bool). if_true (b && (passes n (class_at regions (k.at n)) && is_cell (k.role (k.at n)))) 2) (held_same n))

  account_same : (top : ℕ) (aim : Condemned) (a : ℕ) → account top s' aim a ≡ account top s aim a
  account_same top aim a =
      let x = sums_same (λ n. is_held s n && per_area s a n) (λ n. is_held s' n && per_area s' a n)
      (λ n. ap (λ (b : Bool). b && per_area s' a n) (held_same n) ∙ ap (λ (i : ℕ). is_held s n && nat_eq i a) (c.area n)) in
      let y = total-cong (s'.husks a) (s.husks a) (suc top) (λ l q. c.husks a l) in
      omega arith

-- after a store, or a word settled in memory: the map is the same
pub kept_written : (g : Image) (it : Interpretation) (s' : Store) (ws : List Parts) → MemoryInvariant g it → SameSizes it.store s'
    → Roled (word (record g { words = ws })) (classes g) it.map s' → Marks (record g { words = ws }) → MemoryInvariant (record g { words = ws }) (record it { store = s' })
kept_written g it s' ws h c roled marks = record {
  roled = roled;
  covered = record { used = h.covered.used; unused = h.covered.unused; free = h.covered.free; done = h.covered.done };
  names = λ n u. (let x = h.names n (sym (held_same it.store s' c n) ∙ u) in let y = c.size in omega arith);
  condemned = λ n e. held_same it.store s' c n ∙ h.condemned n e;
  bound = λ n e. held_same it.store s' c n ∙ h.bound n e;
  classes_of = record {
    area = λ n u. h.classes_of.area n (sym (held_same it.store s' c n) ∙ u) ∙ sym (c.area n);
    spared = λ n l e x. h.classes_of.spared n l (sym (c.held n) ∙ e) x;
    doomed = λ n l e x. h.classes_of.doomed n l (sym (c.held n) ∙ e) x;
  };
  levels = λ n u. h.levels n (sym (held_same it.store s' c n) ∙ u);
  live_charges = λ x y. h.live_charges x y ∙ sym (sums_same it.store s' c (λ n. is_held it.store n && in_class x y n (class_at (classes g) (it.map.at n))) (λ n. is_held s' n && in_class x y n (class_at (classes g) (it.map.at n)))
      (λ n. ap (λ (b : Bool). b && in_class x y n (class_at (classes g) (it.map.at n))) (held_same it.store s' c n)));
  old_charges = λ x y. h.old_charges x y ∙ sym (sums_same it.store s' c (λ n. is_held it.store n && in_old_class x y n (class_at (classes g) (it.map.at n))) (λ n. is_held s' n && in_old_class x y n (class_at (classes g) (it.map.at n)))
      (λ n. ap (λ (b : Bool). b && in_old_class x y n (class_at (classes g) (it.map.at n))) (held_same it.store s' c n)));
  live_husks = λ x y. h.live_husks x y ∙ sym (c.husks x y);
  old_husks = h.old_husks;
  quota = λ a l. (let x = h.quota a l in let y = account_same it.store s' c it.top it.aim a in omega arith);
  room_live = λ x y. (let a = h.room_live x y in let b = spares_same it.store s' c it.map (classes g) (in_class x y) in omega arith);
  room_husks = h.room_husks;
  room_old = λ x. (let a = h.room_old x in
      let b = sums_same it.store s' c (λ n. it.aim.condemned n && per_area it.store x n) (λ n. it.aim.condemned n && per_area s' x n) (λ n. ap (λ (i : ℕ). it.aim.condemned n && nat_eq i x) (c.area n)) in omega arith);
  chains = h.chains;
  marks = marks;
}
