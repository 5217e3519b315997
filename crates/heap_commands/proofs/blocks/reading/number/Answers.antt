use Rattle.std.proofs.Common.{ap, arith, ℤ, w32}
use Rattle.std.proofs.lemmas.Int.{to_z_pos}
use Rattle.lisp_graph.specs.declared.reply.Reply.TheVariants as R
use Rattle.heap_commands.proofs.blocks.reading.number.Goals as goal

pub returns : goal.returns
returns c = ap (λ (z : ℤ). R.Number z) (to_z_pos w32 c.args.count (omega arith))
