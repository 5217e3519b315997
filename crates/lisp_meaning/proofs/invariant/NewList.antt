-- The list that `list` makes, from the invariant to the invariant.
use Rattle.std.proofs.Common.{◌≡◌, ℕ, suc, ◌+◌, ◌*◌, ◌<◌, ◌≤◌, ◌⊎◌, inl, inr, ◌∙◌, ap, arith, Some, List, length, get_or, nat_eq}
use Rattle.std.proofs.lemmas.Bool.{cases_lt}
use Rattle.lisp_graph.specs.store_word.declared.word.CdrCode.TheVariants.{Next as CdrNext, Nil as CdrNil}
use Rattle.lisp_graph.specs.declared.object.Value.{Value}
use Rattle.lisp_graph.specs.declared.object.Value.TheVariants as V
use Rattle.lisp_graph.specs.declared.object.Object.{Object}
use Rattle.lisp_graph.specs.Graph.{object_at}
use Rattle.lisp_graph.specs.Effect.{list_from}
use Rattle.lisp_graph.specs.Totals.{total, if_true}
use Rattle.lisp_meaning.specs.machine.State.{rule_of, object, in_use}
use Rattle.lisp_meaning.specs.machine.Changes.{with_made}
use Rattle.lisp_meaning.specs.machine.Charges.{account}
use Rattle.lisp_meaning.specs.reading.Image.{Image, word}
use Rattle.lisp_meaning.specs.reading.Classes.{classes, in_old}
use Rattle.lisp_meaning.specs.reading.Marks.{Marks}
use Rattle.lisp_meaning.specs.invariants.Roles.{AsCons, Scratch, value_of, kind_of, car_of, cdr_of, Refines}
use Rattle.lisp_meaning.specs.invariants.Fits.{Holds, Roled}
use Rattle.lisp_meaning.specs.invariants.ChargesIn.{charges_in}
use Rattle.lisp_meaning.specs.invariants.Invariant.{MemoryInvariant}
use Rattle.lisp_meaning.specs.invariants.Laid.{between, scratched, cells_laid}
use Rattle.lisp_meaning.specs.invariants.Placed.{Placed, Charged}
use Rattle.lisp_meaning.proofs.sums.Charges.{total-const}
use Rattle.lisp_meaning.proofs.maps.Frames.{Frame, refined}
use Rattle.lisp_meaning.proofs.maps.StoreChanges.{made_new, made_same, made_used, made_uses, made_fresh, made_news, list_inner, list_last}
use Rattle.lisp_graph.proofs.GraphInvariant.{length-list_from}
use Rattle.lisp_meaning.specs.invariants.Interpretation.{Interpretation}
use Rattle.lisp_graph.proofs.Totals.{total-cong}
use Rattle.lisp_meaning.proofs.layout.NewObjects.{make_cells, make_cells_frame}
use Rattle.lisp_meaning.proofs.layout.Placement.{ground, scratch_role, ground_frame}
use Rattle.lisp_meaning.proofs.invariant.NewObject.{account_made, quota_made}
use Rattle.lisp_meaning.proofs.invariant.NewCells.{kept_cells_made, cells_made_old, cells_made_refines}

list_area : (area n : ℕ) (values : List Value) (i : ℕ) → i < length (list_from area n values) → (object_at (list_from area n values) i).area ≡ area
list_area area n values i l = go (cases_lt (suc i) (length values))
  where
    go : (suc i < length values) ⊎ (length values ≤ suc i) → (object_at (list_from area n values) i).area ≡ area
    go (inl x) = ap (λ (o : Object). o.area) (list_inner area n values i x)
    go (inr x) = ap (λ (o : Object). o.area) (list_last area n values i (let z = length-list_from area n values in omega arith))

list_charge : (area n : ℕ) (values : List Value) (i : ℕ) → i < length (list_from area n values) → (object_at (list_from area n values) i).charge ≡ 3
list_charge area n values i l = go (cases_lt (suc i) (length values))
  where
    go : (suc i < length values) ⊎ (length values ≤ suc i) → (object_at (list_from area n values) i).charge ≡ 3
    go (inl x) = ap (λ (o : Object). o.charge) (list_inner area n values i x)
    go (inr x) = ap (λ (o : Object). o.charge) (list_last area n values i (let z = length-list_from area n values in omega arith))

list_kind : (area n : ℕ) (values : List Value) (i : ℕ) → i < length values → kind_of (object_at (list_from area n values) i).body ≡ AsCons
list_kind area n values i l = go (cases_lt (suc i) (length values))
  where
    go : (suc i < length values) ⊎ (length values ≤ suc i) → kind_of (object_at (list_from area n values) i).body ≡ AsCons
    go (inl x) = ap (λ (o : Object). kind_of o.body) (list_inner area n values i x)
    go (inr x) = ap (λ (o : Object). kind_of o.body) (list_last area n values i (omega arith))

list_car : (area n : ℕ) (values : List Value) (i : ℕ) → i < length values → car_of (object_at (list_from area n values) i).body ≡ Some (get_or values i V.Nil)
list_car area n values i l = go (cases_lt (suc i) (length values))
  where
    go : (suc i < length values) ⊎ (length values ≤ suc i) → car_of (object_at (list_from area n values) i).body ≡ Some (get_or values i V.Nil)
    go (inl x) = ap (λ (o : Object). car_of o.body) (list_inner area n values i x)
    go (inr x) = ap (λ (o : Object). car_of o.body) (list_last area n values i (omega arith))

module _ (g g1 : Image) (it : Interpretation) (h : MemoryInvariant g it) (b area level : ℕ) (values : List Value) (few : length values ≤ 1024)
    (p : Placed g g1 b (length values) area level) (c : Charged g g1 area level (3 * length values)) (marks : Marks g1) (low : level < suc it.top)
    (fits : account it.top it.store it.aim area + 3 * length values ≤ (rule_of it.areas area).quota)
    (cars : (i : ℕ) → i < length values → value_of it.map.role (word g1 (b + i)).content ≡ Some (get_or values i V.Nil))
    (inner : (i : ℕ) → suc i < length values → (word g1 (b + i)).cdr ≡ CdrNext) (last : (i : ℕ) → suc i ≡ length values → (word g1 (b + i)).cdr ≡ CdrNil) where
  conses : List Object
  conses = list_from area (length it.store.objects) values

  size : length (list_from area (length it.store.objects) values) ≡ length values
  size = length-list_from area (length it.store.objects) values

  new_is : (i : ℕ) → object (with_made it.store (list_from area (length it.store.objects) values) level) (length it.store.objects + i) ≡ object_at (list_from area (length it.store.objects) values) i
  new_is i = made_new it.store (list_from area (length it.store.objects) values) level i

  beside : (m : ℕ) → ((length it.store.objects ≤ m) × (m < length it.store.objects + length values) → ⊥) → (length it.store.objects ≤ m) × (m < length it.store.objects + length (list_from area (length it.store.objects) values)) → ⊥
  beside m ne x = let l = x.0 in let y = x.1 in let z = size in ne (omega arith, omega arith)

  list_quota : (a : ℕ) → a < length it.areas → account it.top (with_made it.store (list_from area (length it.store.objects) values) level) it.aim a ≤ (rule_of it.areas a).quota
  list_quota = quota_made it.top it.areas it.store (with_made it.store (list_from area (length it.store.objects) values) level) it.aim area (3 * length values) h.quota
      (λ a. account_made it.store (list_from area (length it.store.objects) values) level it.top area it.aim h.names (list_area area (length it.store.objects) values) a
      ∙ ap (λ (x : ℕ). account it.top it.store it.aim a + if_true (nat_eq area a) x) sum) fits
    where
      sum : total (λ i. (object_at (list_from area (length it.store.objects) values) i).charge) (length (list_from area (length it.store.objects) values)) ≡ 3 * length values
      sum = total-cong (λ i. (object_at (list_from area (length it.store.objects) values) i).charge) (λ i. 3) (length (list_from area (length it.store.objects) values)) (λ i l. list_charge area (length it.store.objects) values i l)
          ∙ total-const 3 (length (list_from area (length it.store.objects) values)) ∙ ap (λ (x : ℕ). 3 * x) size

  list_ground : Roled (word g1) (classes g1) (scratched it.map b (length values)) it.store
  list_ground = ground g g1 it h b (length values) area level p

  list_scratch : (j : ℕ) → j < length values → (scratched it.map b (length values)).role (b + j) ≡ Scratch
  list_scratch j l = scratch_role g g1 it h b (length values) area level p (b + j) (omega arith, omega arith)

  new_fresh : (j : ℕ) → j < length values → in_use it.store (length it.store.objects + j) → ⊥
  new_fresh j l = made_fresh it.store (list_from area (length it.store.objects) values) level h.names j

  new_used : (j : ℕ) → j < length values → in_use (with_made it.store (list_from area (length it.store.objects) values) level) (length it.store.objects + j)
  new_used j l = let z = size in made_used it.store (list_from area (length it.store.objects) values) level j (omega arith)

  new_kind : (j : ℕ) → j < length values → kind_of (object (with_made it.store (list_from area (length it.store.objects) values) level) (length it.store.objects + j)).body ≡ AsCons
  new_kind j l = ap (λ (o : Object). kind_of o.body) (new_is j) ∙ list_kind area (length it.store.objects) values j l

  new_three : (j : ℕ) → j < length values → (object (with_made it.store (list_from area (length it.store.objects) values) level) (length it.store.objects + j)).charge ≡ 3
  new_three j l = ap (λ (o : Object). o.charge) (new_is j) ∙ list_charge area (length it.store.objects) values j (let z = size in omega arith)

  new_car : (j : ℕ) → j < length values → Holds (scratched it.map b (length values)).role (word g1 (b + j)).content (car_of (object (with_made it.store (list_from area (length it.store.objects) values) level) (length it.store.objects + j)).body)
  new_car j l = (
    get_or values j V.Nil,
    ap (λ (o : Object). car_of o.body) (new_is j) ∙ list_car area (length it.store.objects) values j l,
    refined it.map.role (scratched it.map b (length values)).role (ground_frame g g1 it h b (length values) area level p).refine (word g1 (b + j)).content (get_or values j V.Nil) (cars j l),
  )

  new_inner : (j : ℕ) → suc j < length values → ((word g1 (b + j)).cdr ≡ CdrNext) × (cdr_of (object (with_made it.store (list_from area (length it.store.objects) values) level) (length it.store.objects + j)).body ≡ Some (V.Ref (length it.store.objects + suc j)))
  new_inner j l = (inner j l, ap (λ (o : Object). cdr_of o.body) (new_is j ∙ list_inner area (length it.store.objects) values j l))

  new_last : (j : ℕ) → suc j ≡ length values → ((word g1 (b + j)).cdr ≡ CdrNil) × (cdr_of (object (with_made it.store (list_from area (length it.store.objects) values) level) (length it.store.objects + j)).body ≡ Some V.Nil)
  new_last j l = (last j l, ap (λ (o : Object). cdr_of o.body) (new_is j ∙ list_last area (length it.store.objects) values j l))

  list_roled : Roled (word g1) (classes g1) (cells_laid it.map (length it.store.objects) b (length values)) (with_made it.store (list_from area (length it.store.objects) values) level)
  list_roled = make_cells (word g1) (classes g1) (scratched it.map b (length values)) it.store (with_made it.store (list_from area (length it.store.objects) values) level) list_ground (length it.store.objects) b (length values) few new_fresh new_used
      (made_uses it.store (list_from area (length it.store.objects) values) level h.names) (λ m u ne. made_news it.store (list_from area (length it.store.objects) values) level m u (beside m ne))
      (λ m ne. made_same it.store (list_from area (length it.store.objects) values) level m (beside m ne)) list_scratch p.near new_kind new_three new_car new_inner new_last

  list_frame : Frame (scratched it.map b (length values)) (cells_laid it.map (length it.store.objects) b (length values)) it.store (with_made it.store (list_from area (length it.store.objects) values) level) (between (length it.store.objects) (length values))
  list_frame = make_cells_frame (word g1) (classes g1) (scratched it.map b (length values)) it.store (with_made it.store (list_from area (length it.store.objects) values) level) list_ground (length it.store.objects) b (length values) few new_fresh new_used
      (made_uses it.store (list_from area (length it.store.objects) values) level h.names) (λ m u ne. made_news it.store (list_from area (length it.store.objects) values) level m u (beside m ne))
      (λ m ne. made_same it.store (list_from area (length it.store.objects) values) level m (beside m ne)) list_scratch p.near new_kind new_three new_car new_inner new_last

  pub kept_list_made : MemoryInvariant g1 (record it { map = cells_laid it.map (length it.store.objects) b (length values); store = with_made it.store (list_from area (length it.store.objects) values) level })
  kept_list_made = kept_cells_made g g1 it h b area level (length values) (list_from area (length it.store.objects) values) size p c marks
      (list_area area (length it.store.objects) values) (list_charge area (length it.store.objects) values) low list_quota list_roled list_frame

  pub list_made_old : charges_in (with_made it.store (list_from area (length it.store.objects) values) level) (cells_laid it.map (length it.store.objects) b (length values)).at (classes g1) in_old ≡ charges_in it.store it.map.at (classes g) in_old
  list_made_old = cells_made_old g g1 it h b area level (length values) (list_from area (length it.store.objects) values) size p c marks
      (list_area area (length it.store.objects) values) (list_charge area (length it.store.objects) values) low list_quota list_roled list_frame

  pub list_made_refines : Refines it.map.role (cells_laid it.map (length it.store.objects) b (length values)).role
  list_made_refines = cells_made_refines g g1 it h b area level (length values) (list_from area (length it.store.objects) values) size p c marks
      (list_area area (length it.store.objects) values) (list_charge area (length it.store.objects) values) low list_quota list_roled list_frame
