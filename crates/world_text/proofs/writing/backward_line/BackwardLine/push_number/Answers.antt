use Rattle.std.proofs.Common.{ap, ◌∙◌, decimal, length, drop, length-append, length-drop, arith, rules}
use Rattle.std.proofs.lemmas.Fmt.{length-decimal-le}
use Rattle.world_text.proofs.writing.backward_line.BackwardLine.push_number.Goals as goal

pub write_digits-self-inside-requires : goal.write_digits-self-inside-requires
write_digits-self-inside-requires c = (
  omega (arith, length-decimal-le 20 c.args.number (omega arith) (omega arith) c.ranges.number.fits, ap length c.self.view_is, length-drop c.self.inside.start c.self.inside.bytes, c.self.invariant, c.requires),
  search rules,
)

pub returns-clause-at_most : goal.returns-clause-at_most
returns-clause-at_most c =
    let size = ap length c.write_digits-self-inside.ensures.written ∙ length-append (decimal c.args.number) (drop c.self.inside.start c.self.inside.bytes) in
    omega (arith, size, length-decimal-le 20 c.args.number (omega arith) (omega arith) c.ranges.number.fits, ap length c.self.view_is)
