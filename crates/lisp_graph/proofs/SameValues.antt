-- Two values are the same if and only if they are equal.
use Rattle.std.proofs.Common.{◌≡◌, ◌↔◌, ℤ, Ordering, true, refl, ap, subst, arith}
use Rattle.std.specs.Prelude.{IsTrue}
use Rattle.std.specs.Ordering.{int_cmp, int_eq, is_eq}
use Rattle.std.specs.declared.cmp.Ordering.TheVariants.{Less, Equal, Greater}
use Rattle.std.proofs.lemmas.Cmp.{int_eq_equiv}
use Rattle.std.proofs.lemmas.Map.Lookups.{exact_signed}
use Rattle.lisp_graph.specs.declared.object.Value.{Value}
use Rattle.lisp_graph.specs.declared.object.Value.TheVariants as V
use Rattle.lisp_graph.specs.Graph.{same_value}

is_Equal : (order : Ordering) → is_eq order ≡ true → order ≡ Equal
is_Equal Less h = cc
is_Equal Equal h = refl
is_Equal Greater h = cc

pub same_value-equal : (this other : Value) → IsTrue (same_value this other) ↔ (this ≡ other)
same_value-equal (V.Fix i) (V.Fix j) =
    (λ h. ap V.Fix (exact_signed i j (is_Equal (int_cmp i j) h)), λ h. let same : i ≡ j = cc in subst (λ (k : ℤ). IsTrue (int_eq i k)) same (int_eq_equiv.refl i))
same_value-equal (V.Fix i) V.Nil = (λ h. cc, λ h. cc)
same_value-equal (V.Fix i) (V.Ref n) = (λ h. cc, λ h. cc)
same_value-equal V.Nil (V.Fix j) = (λ h. cc, λ h. cc)
same_value-equal V.Nil V.Nil = (λ h. refl, λ h. refl)
same_value-equal V.Nil (V.Ref n) = (λ h. cc, λ h. cc)
same_value-equal (V.Ref m) (V.Fix j) = (λ h. cc, λ h. cc)
same_value-equal (V.Ref m) V.Nil = (λ h. cc, λ h. cc)
same_value-equal (V.Ref m) (V.Ref n) = (λ h. grind (arith, h), λ h. grind (arith, h))
