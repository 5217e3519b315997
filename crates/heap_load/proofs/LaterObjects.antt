-- Objects made after those of a world.
use Rattle.std.proofs.Common.{◌≡◌, ℕ, ◌<◌, ◌≤◌, ◌⊎◌, inl, inr, refl, arith, List, ◌++◌, length, length-append, Option, Some, None}
use Rattle.std.specs.Prelude.{if◌then◌else◌, nat_le, nat_lt, true, false}
use Rattle.std.proofs.lemmas.Bool.{cases_lt, le-ltb, lt-ltb}
use Rattle.std.proofs.lemmas.Bool.Decides.{nat_tests}
use Rattle.lisp_graph.specs.declared.object.Object.{Object}
use Rattle.lisp_graph.specs.declared.world.World.{World}
use Rattle.block_store.specs.lisp_meaning.Changes.{holding, with_made}
use Rattle.block_store.specs.lisp_meaning.Opening.{opening}
use Rattle.heap_load.specs.Drafts.{with_objects}

-- the names below a bound, at level 0
abbrev below : ℕ → ℕ → Option ℕ
below count n = if nat_lt n count then Some 0 else None

held : (old new n : ℕ) → old ≤ new → below new n ≡ holding (below old) old new 0 n
held old new n more = go (cases_lt n old)
  where
    go : (n < old) ⊎ (old ≤ n) → below new n ≡ holding (below old) old new 0 n
    go (inl l) =
        let one : nat_lt n new ≡ true = lt-ltb n new (omega arith) in
        let two : nat_lt n old ≡ true = lt-ltb n old l in
        let three : nat_le old n ≡ false = grind (arith, nat_tests) in
        rw (one, three, two) refl
    go (inr r) =
        let two : nat_lt n old ≡ false = le-ltb n old r in
        let three : nat_le old n ≡ true = grind (arith, nat_tests) in
        rw (three, two) refl

pub opening_more : (world : World) (made : List Object) → (opening (with_objects world (world.objects ++ made))).store ≡ with_made (opening world).store made 0
opening_more world made =
    let more : length world.objects ≤ length (world.objects ++ made) = omega (arith, length-append world.objects made) in
    λ i. record { objects = world.objects ++ made; held = λ n. held (length world.objects) (length (world.objects ++ made)) n more i; husks = λ area level. 0 }
