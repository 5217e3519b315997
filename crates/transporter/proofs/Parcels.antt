-- The parcel at an address, by what was read.
use Rattle.std.proofs.Common.{ℕ, zero, suc, ◌≡◌, ◌+◌, ◌*◌, ◌<◌, ◌≤◌, List, Option, Some, None, sym, ◌∙◌, ap, subst, arith}
use Rattle.std.specs.Prelude.{IfSome}
use Rattle.store_word.specs.Words.{Parts}
use Rattle.mem_port.specs.Store.{Store, StoresNothing}
use Rattle.obj_layout.specs.declared.run.TheConstants.{RUN_LIMIT}
use Rattle.obj_layout.specs.declared.run.RunEnd.TheVariants.{Nil as EndsNil, Pair as EndsPair, Forwarded}
use Rattle.obj_layout.specs.declared.run.RunEnd.{RunEnd}
use Rattle.obj_layout.specs.declared.run.Run.{Run}
use Rattle.obj_layout.specs.declared.shape.Shape.{Shape}
use Rattle.obj_layout.specs.declared.shape.Shape.TheVariants.{BlockOf}
use Rattle.obj_layout.specs.Forwards.{word_at}
use Rattle.obj_layout.specs.Shapes.{shape_of, charge_at}
use Rattle.obj_layout.specs.Runs.{IsRun}
use Rattle.transporter.specs.declared.parcel.Pair.{Pair}
use Rattle.transporter.specs.declared.parcel.Parcel.{Parcel}
use Rattle.transporter.specs.Writes.{two_words}
use Rattle.transporter.specs.Parcels.{ArePairOf, IsParcel, a_block, a_run, run_parcel, word_count_of, word_more, new_word, moved_word}

-- a run with this end
run-ended : {words : List Parts} {at : ℕ} {run : Run} (ending : RunEnd) → IsRun words at run → run.cells ≤ RUN_LIMIT → run.ending ≡ ending
    → IsParcel words at (run_parcel at run.cells (charge_at words (at + run.cells)) ending)
run-ended {words} {at} {run} ending is few ends = a_run run is few (ap (run_parcel at run.cells (charge_at words (at + run.cells))) (sym ends))

pub parcel-nil : {words : List Parts} {at : ℕ} {run : Run} → IsRun words at run → run.cells ≤ RUN_LIMIT → run.ending ≡ EndsNil
    → IsParcel words at (record { at = at; words = run.cells; objects = run.cells; charge = 3 * run.cells; rest = None })
parcel-nil is few ends = run-ended EndsNil is few ends

pub parcel-rest : {words : List Parts} {at : ℕ} {run : Run} {to : ℕ} → IsRun words at run → run.cells ≤ RUN_LIMIT → run.ending ≡ Forwarded to
    → IsParcel words at (record { at = at; words = run.cells; objects = run.cells; charge = 3 * run.cells; rest = Some to })
parcel-rest {to = to} is few ends = run-ended (Forwarded to) is few ends

pub parcel-pair : {words : List Parts} {at charge : ℕ} {run : Run} → IsRun words at run → run.cells ≤ RUN_LIMIT → run.ending ≡ EndsPair → charge ≡ charge_at words (at + run.cells)
    → IsParcel words at (record { at = at; words = run.cells + 2; objects = run.cells + 1; charge = 3 * run.cells + charge; rest = None })
parcel-pair {words} {at} {charge} {run} is few ends charged =
    let r = run-ended EndsPair is few ends in
    let P : ℕ → Type 0 = λ c. IsParcel words at (record { at = at; words = run.cells + 2; objects = run.cells + 1; charge = 3 * run.cells + c; rest = None }) in
    subst P (sym charged) r

-- a block
pub parcel-block : {words : List Parts} {at code length : ℕ} {shape : Shape} → shape ≡ shape_of (word_at words at) → shape ≡ BlockOf code length
    → IsParcel words at (record { at = at; words = length + 1; objects = 1; charge = length + 1; rest = None })
parcel-block {words} {at} {code} {length} shape_is is =
    let more : suc length ≡ length + 1 = omega arith in
    a_block code length (sym shape_is ∙ is) (ap (λ (n : ℕ). record { at = at; words = n; objects = 1; charge = n; rest = None }) (sym more))

-- a word that was read is there as long as nothing is stored
pub first-stays : {s read : Store} (at : ℕ) (first : Option Parts) → StoresNothing s read → IfSome first (λ word. word ≡ word_at s.words at) → IfSome first (λ word. word ≡ word_at read.words at)
first-stays at None n is = tt
first-stays at (Some word) n is = is ∙ ap (λ (ws : List Parts). word_at ws at) (sym n.words)

-- the words of a pair are there as long as nothing is stored
pub pair-stays : {old new : List Parts} (p : Parcel) (pair : Option Pair) → new ≡ old → IfSome pair (ArePairOf old p) → IfSome pair (ArePairOf new p)
pair-stays p None same x = tt
pair-stays p (Some pair) same x = subst (λ (ws : List Parts). ArePairOf ws p pair) (sym same) x

-- a pair's parcel, written out
pub pair-parcel : {words : List Parts} {p : Parcel} {pair : Pair} → ArePairOf words p pair → record { at = p.at; words = 2; objects = 1; charge = p.charge; rest = None } ≡ p
pair-parcel {words} {p} x =
    ap (λ (n : ℕ). record p { words = n; objects = 1; rest = None }) (sym x.two)
    ∙ (ap (λ (n : ℕ). record p { objects = n; rest = None }) (sym x.one) ∙ ap (λ (r : Option ℕ). record p { rest = r }) (sym x.whole))

-- they are two
pub pair-count : {words : List Parts} {p : Parcel} {pair : Pair} → ArePairOf words p pair → word_count_of p ≡ 2
pair-count {words} {p} x = ap (λ (r : Option ℕ). p.words + word_more r) x.whole ∙ (let two = x.two in omega arith)

-- they are copied as they are
pub pair-word : {words : List Parts} {p : Parcel} {pair : Pair} → ArePairOf words p pair → (i : ℕ) → new_word words p i ≡ word_at words (p.at + i)
pair-word {words} {p} x i = ap (λ (r : Option ℕ). moved_word words p.at p.words r i) x.whole

pub pair-words : {words : List Parts} {p : Parcel} {pair : Pair} → ArePairOf words p pair → (i : ℕ) → i < 2 → two_words pair.first pair.second i ≡ new_word words p i
pair-words {words} {p} {pair} x zero low = x.first ∙ ap (word_at words) (let e : p.at ≡ p.at + 0 = omega arith in e) ∙ sym (pair-word x 0)
pair-words {words} {p} {pair} x (suc zero) low = x.second ∙ sym (pair-word x 1)
pair-words x (suc (suc i)) low = absurd (omega arith)
