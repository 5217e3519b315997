use Rattle.std.proofs.lemmas.Result.{on_ok_weaker}
use Rattle.mem_port.proofs.SpanLaws.{listed_inside, front_held, back_held}
use Rattle.mem_port.proofs.spans.hold_listed.Goals as goal

pub hold-requires-clause-in_range : goal.hold-requires-clause-in_range
hold-requires-clause-in_range g c = listed_inside c.write_spans-end.new.pages c.args.first c.args.second c.write_spans-end.result _ c.write_spans-end.ensures.listed c.write_spans-end.ensures.end c.requires.first_in_range c.requires.second_in_range

pub returns-clause-first_held : goal.returns-clause-first_held
returns-clause-first_held g c = on_ok_weaker c.hold.result (front_held (g.M.Memory.held c.hold.new.self) c.write_spans-end.new.pages c.args.first c.args.second c.write_spans-end.result c.write_spans-end.ensures.listed c.write_spans-end.ensures.end) c.hold.ensures.ok

pub returns-clause-second_held : goal.returns-clause-second_held
returns-clause-second_held g c = on_ok_weaker c.hold.result (back_held (g.M.Memory.held c.hold.new.self) c.write_spans-end.new.pages c.args.first c.args.second c.write_spans-end.result c.write_spans-end.ensures.listed c.write_spans-end.ensures.end) c.hold.ensures.ok
