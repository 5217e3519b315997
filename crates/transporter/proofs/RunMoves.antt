-- A compact run of cells moves as a whole.
use Rattle.std.proofs.Common.{ℕ, ◌≡◌, ◌+◌, ◌/◌, ◌<◌, ◌≤◌, List, refl, sym, ◌∙◌, ap, subst, arith}
use Rattle.store_word.specs.Words.{Parts}
use Rattle.mem_port.specs.Store.{Store}
use Rattle.area_space.specs.Table.{Table, IsOld}
use Rattle.obj_layout.specs.declared.run.RunEnd.TheVariants.{Nil as EndsNil, Pair as EndsPair, Forwarded}
use Rattle.obj_layout.specs.declared.run.RunEnd.{RunEnd}
use Rattle.obj_layout.specs.declared.run.Run.{Run}
use Rattle.obj_layout.specs.Forwards.{word_at, Final}
use Rattle.obj_layout.specs.Shapes.{shape_of, charge_at}
use Rattle.obj_layout.specs.Runs.{IsRun}
use Rattle.obj_layout.proofs.ForwardChains.{leads-same}
use Rattle.obj_layout.proofs.RunLaws.{run-same}
use Rattle.transporter.specs.declared.parcel.Parcel.{Parcel}
use Rattle.transporter.specs.Parcels.{IsParcel, a_block, a_pair, a_run, run_parcel}
use Rattle.transporter.specs.Transports.{MovesFrom, there, moved as moved_from}
use Rattle.transporter.specs.Writes.{forward_to}

-- the parcel of a compact run begins at its first cell, and has all its cells
ends-there : (at cells charge : ℕ) (ending : RunEnd) → (run_parcel at cells charge ending).at ≡ at
ends-there at cells charge EndsNil = refl
ends-there at cells charge EndsPair = refl
ends-there at cells charge (Forwarded to) = refl

has-cells : (at cells charge : ℕ) (ending : RunEnd) → cells ≤ (run_parcel at cells charge ending).objects
has-cells at cells charge EndsNil = omega arith
has-cells at cells charge EndsPair = omega arith
has-cells at cells charge (Forwarded to) = omega arith

-- what moves from the first cell of a run is the run
record HasRunOf (at : ℕ) (run : Run) (p : Parcel) : Type 0 where
  begins : p.at ≡ at
  cells : run.cells ≤ p.objects

run-parcel : {words : List Parts} {at : ℕ} {run : Run} {p : Parcel} → IsRun words at run → IsParcel words at p → HasRunOf at run p
run-parcel {words} {at} {run} {p} is (a_block code length shape same) =
    let cell = (is.cells 0 is.some).shape in
    let e = ap (λ (a : ℕ). shape_of (word_at words a)) (let z : at + 0 ≡ at = omega arith in z) in
    absurd (let x = sym cell ∙ e ∙ shape in cc)
run-parcel {words} {at} {run} {p} is (a_pair shape same) =
    let cell = (is.cells 0 is.some).shape in
    let e = ap (λ (a : ℕ). shape_of (word_at words a)) (let z : at + 0 ≡ at = omega arith in z) in
    absurd (let x = sym cell ∙ e ∙ shape in cc)
run-parcel {words} {at} {run} {p} is (a_run other begins few same) =
    let one = run-same words at other run begins is in
    let charge = charge_at words (at + other.cells) in
    let whole = run_parcel at other.cells charge other.ending in
    record {
      begins = ap (λ (q : Parcel). q.at) same ∙ ends-there at other.cells charge other.ending;
      cells = (
          let a : other.cells ≤ whole.objects = has-cells at other.cells charge other.ending in
          let b : p.objects ≡ whole.objects = ap (λ (q : Parcel). q.objects) same in
          let c : other.cells ≡ run.cells = ap (λ (r : Run). r.cells) one in
          omega arith);
    }

pub moved-together : {m m' : Store} {t t' : Table} {at to here : ℕ} {run : Run} → MovesFrom m t m' t' at to → Final m.words at here → IsOld t (here / 4096) → IsRun m.words here run
    → (i : ℕ) → i < run.cells → word_at m'.words (here + i) ≡ forward_to (to + i)
moved-together {m} {m'} {t} {t'} {at} {to} {here} {run} (there final young n same) first old is i few =
    let one : here ≡ to = leads-same first.2 final.2 in
    absurd (young (subst (λ (a : ℕ). IsOld t (a / 4096)) one old))
moved-together {m} {m'} {t} {t'} {at} {to} {here} {run} (moved_from place p read final was parcel n r) first old is i few =
    let one : place ≡ here = leads-same final.2 first.2 in
    let has = run-parcel is (subst (λ (a : ℕ). IsParcel m.words a p) one parcel) in
    let left = r.moves.forwards.there i (let a = has.cells in omega arith) in
    ap (λ (a : ℕ). word_at m'.words (a + i)) (sym has.begins) ∙ left
