-- What a reference to an object means at the place to which the object was written.
use Rattle.std.proofs.Common.{◌≡◌, ℕ, ◌+◌, ◌-◌, ◌<◌, Bool, ◌==◌, if◌then◌else◌, ◌∙◌, ap, arith, Some}
use Rattle.lisp_meaning.specs.invariants.Laid.{Shape, size, kind_in, role_in, between, laid, run_laid}
use Rattle.lisp_meaning.specs.invariants.Roles.{Kind, AsCons, Role, Cell, names_as, RoleMap}
use Rattle.lisp_meaning.proofs.layout.ObjectWords.{positive, names_in}
use Rattle.lisp_meaning.proofs.layout.Layout.{between_yes}

-- where an object is laid, a reference means it
pub laid_named : (k : RoleMap) (n a gone b : ℕ) (shape : Shape) (first rest : Role) (age : ℕ) → names_as (kind_in shape) ((laid k n a gone b shape first rest age).role b) ≡ Some n
laid_named k n a gone b shape first rest age =
    ap (λ (t : Bool). names_as (kind_in shape) (if t then role_in shape n (b - b) else (if between a gone b then (if b == a then first else rest) else k.role b))) (between_yes b (size shape) b (omega arith) (let l = positive shape in omega arith))
    ∙ ap (λ (j : ℕ). names_as (kind_in shape) (role_in shape n j)) (let z : b - b ≡ 0 = omega arith in z) ∙ names_in shape n

-- and so does one to each cell of a new list
pub run_named : (k : RoleMap) (from b count i : ℕ) → i < count → names_as AsCons ((run_laid k from b count).role (b + i)) ≡ Some (from + i)
run_named k from b count i l =
    ap (λ (t : Bool). names_as AsCons (if t then Cell (from + (b + i - b)) (b + i - b) else k.role (b + i))) (between_yes b count (b + i) (omega arith) (omega arith))
    ∙ ap (λ (x : ℕ). Some (from + x)) (let z : b + i - b ≡ i = omega arith in z)

-- of one address
pub one_named : (k : RoleMap) (kind : Kind) (b n : ℕ) → names_as kind (k.role b) ≡ Some n → (i : ℕ) → i < 1 → names_as kind (k.role (b + i)) ≡ Some n
one_named k kind b n e i l = ap (λ (c : ℕ). names_as kind (k.role c)) (let z : b + i ≡ b = omega arith in z) ∙ e
