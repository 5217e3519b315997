use Rattle.std.proofs.Common.{◌≡◌, ◌++◌, ◌∷◌, take}
use Rattle.std.specs.List.{flat_map}
use Rattle.outer_ports.specs.Buffers.{Gathered}
use Rattle.inside_text.proofs.line.tell_words.Given as goal

abbrev pub invariant-loop-word : goal.invariant-loop-word
invariant-loop-word g l =
    (g.K.Sink.faults l.sink ≡ g.K.Sink.faults l.fn.sink)
    × Gathered (g.K.Sink.stands l.fn.sink) (g.K.Sink.stands l.sink) l.buffer.pending (l.fn.buffer.pending ++ flat_map (λ word. 32 ∷ word.now) (take l.word-index l.words))
