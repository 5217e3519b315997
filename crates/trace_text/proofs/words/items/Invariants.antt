use Rattle.std.proofs.Common.{◌≡◌, ◌+◌, length}
use Rattle.lisp_graph.specs.declared.command.Command.TheVariants as commands
use Rattle.world_text.specs.Words.{words_of}
use Rattle.world_text.specs.Next.{a_register, each}
use Rattle.world_text.proofs.reading_laws.EachLemmas.{with_read}
use Rattle.trace_text.specs.Items.{items_of}
use Rattle.trace_text.proofs.words.items.Given as goal

abbrev pub invariant-loop-rest : goal.invariant-loop-rest
invariant-loop-rest l = record {
  list : l.command ≡ commands.List l.to l.area (items_of l.command);
  reads : with_read (items_of l.command) (each (a_register l.registers) (words_of l.rest)) ≡ each (a_register l.registers) (words_of l.text);
  count : length (items_of l.command) + length (words_of l.rest) ≡ length (words_of l.text);
}

abbrev pub decreases-loop-rest : goal.decreases-loop-rest
decreases-loop-rest l = length (words_of l.rest)
