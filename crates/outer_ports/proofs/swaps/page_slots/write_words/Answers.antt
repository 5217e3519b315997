use Rattle.std.proofs.Common.{arith}
use Rattle.outer_ports.proofs.PageWords.{fills_part}
use Rattle.outer_ports.proofs.swaps.page_slots.write_words.Goals as goal

pub returns : goal.returns
returns c = fills_part c.args.words.now c.copy_from_slice.new.self c.args.from.now c.args.slot _ (omega arith) c.copy_from_slice.ensures.after c.requires.size c.requires.in_range
