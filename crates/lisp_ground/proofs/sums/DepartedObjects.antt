-- What moves out of an old class is charged there.
use Rattle.std.proofs.Common.{◌≡◌, ℕ, zero, suc, ◌+◌, ◌<◌, ◌≤◌, ◌⊎◌, inl, inr, Bool, true, false, ◌&&◌, ◌||◌, ◌==◌, nat_eq, length, refl, sym, ◌∙◌, ap, arith}
use Rattle.std.proofs.lemmas.Bool.{cases_Bool, eq-eqb, ne_eqb, eqb-true}
use Rattle.area_space.specs.lisp_graph.Totals.{total, if_true}
use Rattle.area_space.proofs.lisp_graph.Totals.{total-zero, total-suc, total-at, total-le, total-cong}
use Rattle.area_space.specs.mem_port.Store.{Store}
use Rattle.area_space.specs.Table.{Table}
use Rattle.lisp_meaning.specs.Maps.{some_below}
use Rattle.lisp_meaning.specs.State.{in_use, is_held, object}
use Rattle.lisp_meaning.specs.Image.{Image, Old}
use Rattle.lisp_meaning.specs.Classes.{Class, classes, class_at, in_old_class}
use Rattle.lisp_meaning.specs.ChargesIn.{charge_in}
use Rattle.lisp_meaning.proofs.sums.Charges.{total-none}
use Rattle.lisp_meaning.proofs.sums.SomeBelow.{some_below-which}
use Rattle.lisp_ground.specs.Image.{ground_image}
use Rattle.lisp_ground.specs.GroundInvariant.{GroundInvariant}
use Rattle.lisp_meaning.specs.Interpretation.{Interpretation}

-- A sum over some numbers, no two of them the same, is at most the sum over all

abbrev among : (ℕ → ℕ) → ℕ → ℕ → Bool
among name count m = some_below (λ i. name i == m) count

among-suc : (name : ℕ → ℕ) (count m : ℕ) → among name (suc count) m ≡ ((name count == m) || among name count m)
unfolding some_below
among-suc name count m = refl

among-zero : (name : ℕ → ℕ) (m : ℕ) → among name 0 m ≡ false
unfolding some_below
among-zero name m = refl

sum_among : (f : ℕ → ℕ) (name : ℕ → ℕ) (n count : ℕ) → ((i j : ℕ) → i < count → j < count → name i ≡ name j → i ≡ j) → ((i : ℕ) → i < count → name i < n)
    → total (λ m. if_true (among name count m) (f m)) n ≡ total (λ i. f (name i)) count
sum_among f name n zero one below =
    total-none (λ m. if_true (among name 0 m) (f m)) n (λ m l. ap (λ (b : Bool). if_true b (f m)) (among-zero name m)) ∙ sym (total-zero (λ i. f (name i)))
sum_among f name n (suc count) one below =
    let rest = sum_among f name n count (λ i j l q e. one i j (omega arith) (omega arith) e) (λ i l. below i (omega arith)) in
    let sum = total-at (λ m. if_true (among name (suc count) m) (f m)) (λ m. if_true (among name count m) (f m)) (name count) n (below count (omega arith))
    (λ m l ne. ap (λ (b : Bool). if_true b (f m)) (among-suc name count m ∙ ap (λ (b : Bool). b || among name count m) (ne_eqb (name count) m (λ e. ne (sym e))))) in
    let here : if_true (among name (suc count) (name count)) (f (name count)) ≡ f (name count) =
    ap (λ (b : Bool). if_true b (f (name count))) (among-suc name count (name count) ∙ ap (λ (b : Bool). b || among name count (name count)) (eq-eqb (name count) (name count) refl)) in
    let before : if_true (among name count (name count)) (f (name count)) ≡ 0 = ap (λ (b : Bool). if_true b (f (name count))) (fresh (cases_Bool (among name count (name count)))) in
    let step = total-suc (λ i. f (name i)) count in
    omega arith
  where
    fresh : (among name count (name count) ≡ true) ⊎ (among name count (name count) ≡ false) → among name count (name count) ≡ false
    fresh (inr e) = e
    fresh (inl e) =
        let which = some_below-which (λ i. name i == name count) count e in
        let low = which.1 in
        let same : name which.0 ≡ name count = eqb-true (name which.0) (name count) which.2 in
        let is : which.0 ≡ count = one which.0 count (omega arith) (omega arith) same in
        absurd (omega arith)

pub some_of_all : (f : ℕ → ℕ) (name : ℕ → ℕ) (n count : ℕ) → ((i j : ℕ) → i < count → j < count → name i ≡ name j → i ≡ j) → ((i : ℕ) → i < count → name i < n)
    → total (λ i. f (name i)) count ≤ total f n
some_of_all f name n count one below =
    let e = sum_among f name n count one below in
    let l = total-le (λ m. if_true (among name count m) (f m)) f n (λ m low. at_most (among name count m) (f m)) in
    omega arith
  where
    at_most : (b : Bool) (x : ℕ) → if_true b x ≤ x
    at_most true x = omega arith
    at_most false x = omega arith

-- The objects in one class, from one address on, are charged there

module _ (m : Store) (t : Table) (it : Interpretation) (on : GroundInvariant m t it) where
  abbrev g : Image
  g = ground_image m t

  pub standing_charged : (a count area level : ℕ) (name : ℕ → ℕ) → ((i : ℕ) → i < count → in_use it.store (name i)) → ((i : ℕ) → i < count → it.map.at (name i) ≡ a + i)
      → ((i : ℕ) → i < count → class_at (classes g) (a + i) ≡ record { area = area; level = level; standing = Old })
      → total (λ i. (object it.store (name i)).charge) count ≤ g.old_charge area level
  standing_charged a count area level name used place class =
      let f : ℕ → ℕ = charge_in it.store it.map.at (classes g) (in_old_class area level) in
      let sum = some_of_all (charge_in it.store it.map.at (classes g) (in_old_class area level)) name (length it.store.objects) count
      (λ i j l q e. (let x = place i l in let y = place j q in let z = ap it.map.at e in omega arith)) (λ i l. on.kept.names (name i) (used i l)) in
      let same = total-cong (λ i. charge_in it.store it.map.at (classes g) (in_old_class area level) (name i)) (λ i. (object it.store (name i)).charge) count (λ i l. here i l) in
      let all = on.kept.old_charges area level in
      omega arith
    where
      here : (i : ℕ) → i < count → charge_in it.store it.map.at (classes g) (in_old_class area level) (name i) ≡ (object it.store (name i)).charge
      here i l =
          let u : is_held it.store (name i) ≡ true = used i l in
          let c : class_at (classes g) (it.map.at (name i)) ≡ record { area = area; level = level; standing = Old } = ap (class_at (classes g)) (place i l) ∙ class i l in
          ap (λ (b : Bool). if_true (b && in_old_class area level (name i) (class_at (classes g) (it.map.at (name i)))) (object it.store (name i)).charge) u
          ∙ (ap (λ (x : Class). if_true (in_old_class area level (name i) x) (object it.store (name i)).charge) c
          ∙ ap (λ (b : Bool). if_true b (object it.store (name i)).charge) (ap (λ (b : Bool). b && nat_eq level level) (eq-eqb area area refl) ∙ eq-eqb level level refl))
