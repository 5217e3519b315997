use Rattle.std.proofs.Common.{arith, rules, length-append, length-take}
use Rattle.std.proofs.lemmas.List.{get_or-append_right, get_or_append_left}
use Rattle.std.proofs.lemmas.Option.{gets}
use Rattle.std.proofs.lemmas.Grind.{elements}
use Rattle.frame_pool.proofs.words.fill_frame.Goals as goal

pub returns : goal.returns
returns c = rw c.copy_from_slice.ensures.after record {
  size = search rules;
  here = λ k b. grind (arith, length-append, length-take, get_or-append_right, get_or_append_left, gets);
  below = λ i b. grind (arith, elements);
  above = λ i b. grind (arith, elements);
}
