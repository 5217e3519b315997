-- The charges of an area for the objects of a world.
use Rattle.std.proofs.Common.{◌≡◌, ℕ, zero, suc, ◌+◌, ◌<◌, ◌≤◌, refl, ap, ap₂, ◌∙◌, arith, List, [], ◌∷◌, ◌++◌, length}
use Rattle.std.specs.Prelude.{◌-◌, if◌then◌else◌, nat_lt, ◌&&◌, ◌==◌, true}
use Rattle.std.proofs.lemmas.Bool.{lt-ltb}
use Rattle.std.proofs.lemmas.List.Sums.{sum_by-cons}
use Rattle.lisp_graph.specs.declared.object.Object.{Object}
use Rattle.lisp_graph.specs.declared.world.World.{World}
use Rattle.lisp_graph.specs.Graph.{object_at}
use Rattle.lisp_graph.specs.Totals.{total, if_true}
use Rattle.lisp_graph.proofs.Totals.{total-cong, total-suc, total-zero}
use Rattle.block_store.specs.lisp_meaning.State.{is_held}
use Rattle.block_store.specs.lisp_meaning.Charges.{account_now, per_area}
use Rattle.block_store.specs.lisp_meaning.Opening.{opening}
use Rattle.heap_load.specs.Drafts.{charge_in, with_objects}

-- an object's charge, if it is of the area
abbrev charged : ℕ → Object → ℕ
charged area object = if object.area == area then object.charge else 0

-- the sum over the first objects
abbrev first_charges : List Object → ℕ → ℕ → ℕ
first_charges objects area count = total (λ n. charged area (object_at objects n)) count

-- all names of a world are held
all_held : (world : World) (area n : ℕ) → n < length world.objects
    → if_true (is_held (opening world).store n && per_area (opening world).store area n) (object_at world.objects n).charge ≡ charged area (object_at world.objects n)
all_held world area n within = let t : nat_lt n (length world.objects) ≡ true = lt-ltb n (length world.objects) within in rw t refl

-- an account is no more than charges, since there is no husk
account_is : (world : World) (area : ℕ) → account_now (opening world) area ≡ first_charges world.objects area (length world.objects) + total (λ level. 0) (suc world.space.levels) + 0
account_is world area =
    ap (λ n. n + total (λ level. 0) (suc world.space.levels) + 0)
    (total-cong (λ n. if_true (is_held (opening world).store n && per_area (opening world).store area n) (object_at world.objects n).charge) (λ n. charged area (object_at world.objects n)) (length world.objects) (λ n within. all_held world area n within))

-- Sums

total_push : (f : ℕ → ℕ) (n k : ℕ) → total f n ≤ total f (n + k)
total_push f n zero = let e : n + 0 ≡ n = omega arith in rw e (omega arith)
total_push f n (suc k) =
    let e : n + suc k ≡ suc (n + k) = omega arith in
    let t = ap (total f) e ∙ total-suc f (n + k) in
    let i = total_push f n k in
    omega (arith, t, i)

total_longer : (f : ℕ → ℕ) (m n : ℕ) → m ≤ n → total f m ≤ total f n
total_longer f m n l =
    let e : m + (n - m) ≡ n = omega arith in
    let t = ap (total f) e in
    let i = total_push f m (n - m) in
    omega (arith, t, i)

pub account_most : (world : World) (drafts : List Object) (area : ℕ) → length drafts ≤ length world.objects
    → ((i : ℕ) → i < length drafts → ((object_at drafts i).area ≡ (object_at world.objects i).area) × ((object_at drafts i).charge ≡ (object_at world.objects i).charge))
    → account_now (opening (with_objects world drafts)) area ≤ account_now (opening world) area
account_most world drafts area few same =
    let one = account_is (with_objects world drafts) area in
    let two = account_is world area in
    let each = total-cong (λ n. charged area (object_at drafts n)) (λ n. charged area (object_at world.objects n)) (length drafts)
    (λ n within. let e = same n within in ap₂ (λ (a c : ℕ). if a == area then c else 0) e.0 e.1) in
    let longer = total_longer (λ n. charged area (object_at world.objects n)) (length drafts) (length world.objects) few in
    omega (arith, one, two, each, longer)

-- More objects

total_shift : (f g : ℕ → ℕ) (n : ℕ) → ((m : ℕ) → m < n → f (suc m) ≡ g m) → total f (suc n) ≡ f 0 + total g n
total_shift f g zero h = let a = total-suc f 0 in let b = total-zero f in let c = total-zero g in omega (arith, a, b, c)
total_shift f g (suc n) h =
    let a = total-suc f (suc n) in
    let b = total-suc g n in
    let e = h n (omega arith) in
    let i = total_shift f g n (λ m l. h m (omega arith)) in
    omega (arith, a, b, e, i)

-- all objects of a list
sum_is : (objects : List Object) (area : ℕ) → first_charges objects area (length objects) ≡ charge_in area objects
sum_is [] area = total-zero (λ n. charged area (object_at [] n))
sum_is (object ∷ objects) area =
    let s = total_shift (λ n. charged area (object_at (object ∷ objects) n)) (λ n. charged area (object_at objects n)) (length objects) (λ m l. refl) in
    let i = sum_is objects area in
    let c = sum_by-cons (charged area) object objects in
    omega (arith, s, i, c)

sum_append : (objects made : List Object) (area : ℕ) → charge_in area (objects ++ made) ≡ charge_in area objects + charge_in area made
sum_append [] made area = let z : charge_in area [] ≡ 0 = refl in omega (arith, z)
sum_append (object ∷ objects) made area =
    let a = sum_by-cons (charged area) object (objects ++ made) in
    let b = sum_by-cons (charged area) object objects in
    let i = sum_append objects made area in
    omega (arith, a, b, i)

pub account_more : (world : World) (made : List Object) (area : ℕ) → account_now (opening (with_objects world (world.objects ++ made))) area ≡ account_now (opening world) area + charge_in area made
account_more world made area =
    let one = account_is (with_objects world (world.objects ++ made)) area in
    let two = account_is world area in
    let three = sum_is (world.objects ++ made) area in
    let four = sum_is world.objects area in
    let five = sum_append world.objects made area in
    omega (arith, one, two, three, four, five)
