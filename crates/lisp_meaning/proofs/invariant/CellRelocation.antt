-- RPLACD of a cell, from the invariant to the invariant.
use Rattle.std.proofs.Common.{◌≡◌, ℕ, suc, ◌+◌, ◌<◌, ◌≤◌, inr, ◌==◌, refl, sym, ◌∙◌, ap, subst, arith, Some, List, length}
use Rattle.std.proofs.Math.ListN.{length-set}
use Rattle.lisp_graph.specs.store_word.Words.{Parts}
use Rattle.lisp_graph.specs.store_word.declared.word.CdrCode.TheVariants.{Next as CdrNext, Normal as CdrNormal}
use Rattle.lisp_graph.specs.store_word.declared.word.Content.{Content}
use Rattle.lisp_graph.specs.store_word.declared.word.Content.TheVariants.{HeaderForward}
use Rattle.lisp_graph.specs.declared.object.Value.{Value}
use Rattle.lisp_graph.specs.declared.object.Body.TheVariants.{Cons}
use Rattle.lisp_graph.specs.declared.object.Object.{Object}
use Rattle.lisp_meaning.specs.machine.State.{rule_of, object}
use Rattle.lisp_meaning.specs.machine.Changes.{put_body}
use Rattle.lisp_meaning.specs.machine.Charges.{account}
use Rattle.lisp_meaning.specs.reading.Image.{Image, word, region, is_free, Live}
use Rattle.lisp_meaning.specs.reading.Classes.{Class, class_at, region_of, classes, in_old}
use Rattle.lisp_meaning.specs.reading.Marks.{Marks}
use Rattle.lisp_meaning.specs.invariants.Roles.{Scratch, Cell, owner, value_of, kind_of, car_of, cdr_of, Refines}
use Rattle.lisp_meaning.specs.invariants.Fits.{Holds, IsCell, Roled}
use Rattle.lisp_meaning.specs.invariants.ChargesIn.{charges_in}
use Rattle.lisp_meaning.specs.invariants.Invariant.{MemoryInvariant}
use Rattle.lisp_meaning.specs.invariants.Interpretation.{Interpretation}
use Rattle.lisp_meaning.specs.invariants.Laid.{ACell, APair, scratched, relaid_to}
use Rattle.lisp_meaning.specs.invariants.Placed.{Placed, Recharged}
use Rattle.lisp_meaning.proofs.maps.Frames.{Frame, refined}
use Rattle.lisp_meaning.proofs.layout.ObjectWords.{cell_fits, stands_cell}
use Rattle.lisp_meaning.proofs.maps.StoreChanges.{object_put, object_kept}
use Rattle.lisp_meaning.proofs.layout.Relocation.{relay_cell, relay_cell_frame}
use Rattle.lisp_meaning.proofs.layout.Placement.{ground, scratch_role, other_role, ground_frame}
use Rattle.lisp_meaning.proofs.invariant.ObjectTransport.{not_placed}
use Rattle.lisp_meaning.proofs.invariant.AfterRelocation.{Relays, quota_relaid}
use Rattle.lisp_meaning.proofs.invariant.Relocation.{kept_laid_anew, laid_anew_old, laid_anew_refines}

module _ (g g1 : Image) (it : Interpretation) (h : MemoryInvariant g it) (n a b i area level : ℕ) (car cdr new : Value)
    (p : Placed g g1 b 2 area level) (c : Recharged g g1 area level 3 3 0) (ws : List Parts) (marks : Marks (record g1 { words = ws }))
    (ra : it.map.role a ≡ Cell n i) (body : (object it.store n).body ≡ Cons car cdr) (there : class_at (classes g) a ≡ record { area = area; level = level; standing = Live })
    (first : value_of it.map.role (word g1 b).content ≡ Some car) (first_code : (word g1 b).cdr ≡ CdrNormal)
    (second : value_of it.map.role (word g1 (suc b)).content ≡ Some new) (second_code : (word g1 (suc b)).cdr ≡ CdrNext)
    (forward : (word (record g1 { words = ws }) a).content ≡ HeaderForward b) (others : (j : ℕ) → (j ≡ a → ⊥) → word (record g1 { words = ws }) j ≡ word g1 j) where
  was : IsCell it.map it.store a (word g a) n i
  was = cell_fits (word g) (classes g) it.map it.store h.roled n a i ra

  below : n < length it.store.objects
  below = h.names n was.used

  now : object (put_body it.store n (Cons car new)) n ≡ record (object it.store n) { body = Cons car new }
  now = object_put it.store n (record (object it.store n) { body = Cons car new }) below

  cell_area : (object it.store n).area ≡ area
  cell_area = sym (h.classes_of.area n was.used) ∙ ap (λ (x : ℕ). (region g x).area) was.place ∙ ap (λ (x : Class). x.area) there

  cell_charge : (object (put_body it.store n (Cons car new)) n).charge ≡ 3
  cell_charge = ap (λ (o : Object). o.charge) now ∙ was.charge

  cell_relays : Relays it.store (put_body it.store n (Cons car new)) n area level 0
  cell_relays = record {
    used = was.used;
    size = length-set it.store.objects n (record (object it.store n) { body = Cons car new });
    held = λ m. refl;
    same = λ m ne. object_kept it.store n (record (object it.store n) { body = Cons car new }) m ne;
    area_is = cell_area;
    area_now = ap (λ (o : Object). o.area) now ∙ cell_area;
    no_less = (let x = cell_charge in let y = was.charge in omega arith);
    husks_here = (let z : it.store.husks area level ≡ it.store.husks area level + 0 = omega arith in z);
    husks_else = λ x y ne. refl;
  }

  ra0 : (scratched it.map b 2).role a ≡ Cell n i
  ra0 = other_role g g1 it h b 2 area level p a (not_placed g g1 it h b 2 area level p a n (ap owner ra)) ∙ ra

  cell_scratch : (scratched it.map b 2).role b ≡ Scratch
  cell_scratch = scratch_role g g1 it h b 2 area level p b (omega arith, omega arith)

  cell_scratch2 : (scratched it.map b 2).role (suc b) ≡ Scratch
  cell_scratch2 = scratch_role g g1 it h b 2 area level p (suc b) (omega arith, omega arith)

  cell_near : region_of (suc b) ≡ region_of b
  cell_near = ap region_of (let z : suc b ≡ b + 1 = omega arith in z) ∙ p.near 1 (omega arith)

  cell_class : class_at (classes g1) b ≡ class_at (classes g1) a
  cell_class = p.class_there ∙ sym (p.class a (ap (λ (x : Class). is_free x.standing) there) ∙ there)

  value : (w : Content) (v : Value) → value_of it.map.role w ≡ Some v → value_of (scratched it.map b 2).role w ≡ Some v
  value w v e = refined it.map.role (scratched it.map b 2).role (ground_frame g g1 it h b 2 area level p).refine w v e

  cell_car : Holds (scratched it.map b 2).role (word g1 b).content (car_of (object (put_body it.store n (Cons car new)) n).body)
  cell_car = (car, ap (λ (o : Object). car_of o.body) now, value (word g1 b).content car first)

  cell_cdr : Holds (scratched it.map b 2).role (word g1 (suc b)).content (cdr_of (object (put_body it.store n (Cons car new)) n).body)
  cell_cdr = (new, ap (λ (o : Object). cdr_of o.body) now, value (word g1 (suc b)).content new second)

  cell_roled : Roled (word (record g1 { words = ws })) (classes g1) (relaid_to it.map n a (ACell i) b APair) (put_body it.store n (Cons car new))
  cell_roled = relay_cell (word g1) (word (record g1 { words = ws })) (classes g1) (scratched it.map b 2) it.store (put_body it.store n (Cons car new)) (ground g g1 it h b 2 area level p) n a b was.used cell_class forward
      (λ m u. u) (λ m u. u) cell_relays.same i ra0 cell_scratch cell_scratch2 cell_near others (ap (λ (o : Object). kind_of o.body) now) cell_charge first_code second_code cell_car cell_cdr

  cell_frame : Frame (scratched it.map b 2) (relaid_to it.map n a (ACell i) b APair) it.store (put_body it.store n (Cons car new)) (λ m. m == n)
  cell_frame = relay_cell_frame (word g1) (word (record g1 { words = ws })) (classes g1) (scratched it.map b 2) it.store (put_body it.store n (Cons car new)) (ground g g1 it h b 2 area level p) n a b was.used cell_class forward
      (λ m u. u) (λ m u. u) cell_relays.same i ra0 cell_scratch cell_scratch2 cell_near others (ap (λ (o : Object). kind_of o.body) now) cell_charge first_code second_code cell_car cell_cdr

  recharged : Recharged g g1 area level (object it.store n).charge (object (put_body it.store n (Cons car new)) n).charge 0
  recharged =
      let P : ℕ → Type 0 = λ x. Recharged g g1 area level x 3 0 in
      let Q : ℕ → Type 0 = λ x. Recharged g g1 area level (object it.store n).charge x 0 in
      subst Q (sym cell_charge) (subst P (sym was.charge) c)

  cell_quota : (x : ℕ) → x < length it.areas → account it.top (put_body it.store n (Cons car new)) it.aim x ≤ (rule_of it.areas x).quota
  cell_quota = quota_relaid it.store (put_body it.store n (Cons car new)) n area level 0 it.top it.aim cell_relays below (let l = h.levels n was.used in let e = ap (λ (x : Class). x.level) (ap (class_at (classes g)) was.place ∙ there) in omega arith)
      it.areas h.quota (λ l. let q = h.quota area l in let x = cell_charge in let y = was.charge in omega arith)

  pub kept_cell_relaid : MemoryInvariant (record g1 { words = ws }) (record it { map = relaid_to it.map n a (ACell i) b APair; store = put_body it.store n (Cons car new) })
  kept_cell_relaid = kept_laid_anew g g1 it (put_body it.store n (Cons car new)) h n a b area level 0 (ACell i) APair p recharged ws marks cell_relays
      (stands_cell (word g) (classes g) it.map it.store h.roled n a i ra) there cell_roled cell_frame cell_quota (let x = cell_charge in let y = was.charge in omega arith) (inr (refl, refl, refl))

  pub cell_relaid_old : charges_in (put_body it.store n (Cons car new)) (relaid_to it.map n a (ACell i) b APair).at (classes g1) in_old ≡ charges_in it.store it.map.at (classes g) in_old
  cell_relaid_old = laid_anew_old g g1 it (put_body it.store n (Cons car new)) h n a b area level 0 (ACell i) APair p recharged ws marks cell_relays
      (stands_cell (word g) (classes g) it.map it.store h.roled n a i ra) there cell_roled cell_frame cell_quota (let x = cell_charge in let y = was.charge in omega arith)

  pub cell_relaid_refines : Refines it.map.role (relaid_to it.map n a (ACell i) b APair).role
  cell_relaid_refines = laid_anew_refines g g1 it (put_body it.store n (Cons car new)) h n a b area level 0 (ACell i) APair p recharged ws marks cell_relays
      (stands_cell (word g) (classes g) it.map it.store h.roled n a i ra) there cell_roled cell_frame cell_quota (let x = cell_charge in let y = was.charge in omega arith)
