-- The arguments so far and the begun one are the bytes so far, cut at each NUL byte.
use Rattle.std.proofs.Common.{◌≡◌, map, string_bytes, take}
use Rattle.argument_bytes.specs.Arguments.{split_at_nuls}
use Rattle.argument_bytes.proofs.arguments_of.Given as goal

abbrev pub invariant-loop-byte : goal.invariant-loop-byte
invariant-loop-byte l = split_at_nuls (take l.byte-index l.bytes) ≡ record { done = map string_bytes l.words.items; begun = l.begun.items }
