-- The charges in old regions, as a sum over classes.
use Rattle.std.proofs.Common.{◌≡◌, ℕ, ◌+◌, ◌⊎◌, inl, inr, Bool, true, false, ◌&&◌, refl, sym, ◌∙◌, ap, arith, Option, Some, None, length}
use Rattle.std.specs.Prelude.{is_some}
use Rattle.std.proofs.lemmas.Bool.{cases_Bool}
use Rattle.lisp_graph.specs.Totals.{if_true}
use Rattle.lisp_graph.proofs.Totals.{total-cong}
use Rattle.lisp_meaning.specs.machine.State.{Store, object, is_held}
use Rattle.lisp_meaning.specs.reading.Image.{Image, region, is_old}
use Rattle.lisp_meaning.specs.reading.Classes.{classes, in_old}
use Rattle.lisp_meaning.specs.invariants.Roles.{RoleMap}
use Rattle.lisp_meaning.specs.invariants.ChargesIn.{charge_in, charges_in}
use Rattle.lisp_meaning.specs.reading.Stands.{standing_old}
use Rattle.lisp_meaning.specs.invariants.Invariant.{MemoryInvariant}
use Rattle.lisp_meaning.specs.invariants.Interpretation.{Interpretation}

-- what is held and in an old region is condemned
pub standing_is : (g : Image) (it : Interpretation) → MemoryInvariant g it → standing_old g it.store it.aim it.map.at ≡ charges_in it.store it.map.at (classes g) in_old
standing_is g it h =
    total-cong (λ n. if_true (it.aim.condemned n && is_old (region g (it.map.at n)).standing) (object it.store n).charge) (charge_in it.store it.map.at (classes g) in_old) (length it.store.objects)
    (λ n l. ap (λ (b : Bool). if_true b (object it.store n).charge) (test n (cases_Bool (it.aim.condemned n)) (it.store.held n) refl))
  where
    none : (b : Bool) → (b && false) ≡ false
    none true = refl
    none false = refl

    test : (n : ℕ) → (it.aim.condemned n ≡ true) ⊎ (it.aim.condemned n ≡ false) → (o : Option ℕ) → it.store.held n ≡ o
        → (it.aim.condemned n && is_old (region g (it.map.at n)).standing) ≡ (is_held it.store n && is_old (region g (it.map.at n)).standing)
    test n (inl c) o e = ap (λ (b : Bool). b && is_old (region g (it.map.at n)).standing) (c ∙ sym (h.condemned n c))
    test n (inr c) None e = ap (λ (b : Bool). b && is_old (region g (it.map.at n)).standing) (c ∙ sym (ap is_some e))
    test n (inr c) (Some level) e =
        let live = ap is_old (h.classes_of.spared n level e c).0 in
        ap (λ (b : Bool). b && is_old (region g (it.map.at n)).standing) c ∙ sym (ap (λ (b : Bool). is_held it.store n && b) live ∙ none (is_held it.store n))

-- so the sums over classes show by how much the charges in old regions fall
pub standing_less : (g g' : Image) (it : Interpretation) (k' : RoleMap) (s' : Store) (moved : ℕ) → MemoryInvariant g it → MemoryInvariant g' (record it { map = k'; store = s' })
    → charges_in s' k'.at (classes g') in_old + moved ≡ charges_in it.store it.map.at (classes g) in_old → standing_old g' s' it.aim k'.at + moved ≡ standing_old g it.store it.aim it.map.at
standing_less g g' it k' s' moved h h' e = let a = standing_is g it h in let b = standing_is g' (record it { map = k'; store = s' }) h' in omega arith
