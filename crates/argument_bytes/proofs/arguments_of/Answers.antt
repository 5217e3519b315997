-- A piece that isn't UTF-8 is among the pieces of all bytes.
use Rattle.std.proofs.Common.{◌≡◌, ◌+◌, [], ◌∷◌, ◌++◌, inr, arith, map, string_bytes, take}
use Rattle.std.specs.Str.{IsUtf8}
use Rattle.std.proofs.lemmas.Grind.{common_steps}
use Rattle.std.proofs.lemmas.List.Quantifiers.{Any-push}
use Rattle.argument_bytes.specs.Arguments.{split_at_nuls}
use Rattle.argument_bytes.proofs.Cuts.{any_in_all}
use Rattle.argument_bytes.proofs.arguments_of.Goals as goal

pub returns-in-Err-clause-refused : goal.returns-in-Err-clause-refused
returns-in-Err-clause-refused c _ =
    let next : split_at_nuls (take (c.loop-byte.byte-index + 1) c.args.bytes.now)
    ≡ record { done = map string_bytes c.loop-byte.words.items ++ c.loop-byte.begun.items ∷ []; begun = [] }
    = grind (arith, common_steps, c.loop-byte.invariant, c.if-byte-ne0.false) in
    let broken : ¬ (IsUtf8 c.loop-byte.begun.items) = λ utf8. grind (arith, common_steps, c.in-Err.ensures.succeeds (rw c.replace.ensures.value utf8)) in
    inr (any_in_all _ c.args.bytes.now (c.loop-byte.byte-index + 1)
    (rw next (Any-push (λ piece. ¬ (IsUtf8 piece)) (map string_bytes c.loop-byte.words.items) c.loop-byte.begun.items broken)))
