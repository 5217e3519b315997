use Rattle.std.proofs.Common.{◌++◌, codes}
use Rattle.trace_text.proofs.FastLines.{list_line}
use Rattle.trace_text.proofs.fast.list.Goals as goal

pub returns : goal.returns
returns c =
    let w = c.in_ok-to in
    list_line c.args.space.now c.args.areas.now (codes "list" ++ c.args.after_four.now) w.items.now c.in_ok-rest.rest.now w.to w.area c.spaced_items.new.command c.requires.registers w.ensures c.in_ok-rest.ensures
