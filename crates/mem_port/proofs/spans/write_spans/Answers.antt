use Rattle.std.proofs.Common.{◌+◌, ◌≤◌, length, rules}
use Rattle.mem_port.specs.Spans.{page_count}
use Rattle.mem_port.proofs.SpanLaws.{lists_spans}
use Rattle.mem_port.proofs.spans.write_spans.Goals as goal

pub returns-clause-listed : goal.returns-clause-listed
returns-clause-listed c =
    let room : page_count c.args.first + page_count c.args.second ≤ length c.write_pages.new.pages = search rules in
    lists_spans c.write_pages-middle.new.pages c.write_pages.new.pages c.args.first c.args.second c.write_pages-middle.result c.write_pages-middle.ensures.end c.write_pages-middle.ensures.written c.write_pages.ensures.before c.write_pages.ensures.written room
