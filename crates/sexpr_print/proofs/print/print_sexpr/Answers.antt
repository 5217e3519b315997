use Rattle.std.proofs.Common.{◌∙◌, ap}
use Rattle.sexpr_print.specs.Marks.{shared_in}
use Rattle.sexpr_print.proofs.WholePrint.{printed_whole}
use Rattle.sexpr_print.proofs.print.print_sexpr.Goals as goal

pub returns : goal.returns
returns c =
    let world = c.args.world.now in
    let counted = c.in_ok-counts.ensures in
    record {
      value = printed_whole world counted.names _ c.print_roots.new.printer c.print_end.new.line.text counted.reached (ap shared_in c.in_ok-new.ensures.value ∙ counted.shared) c.in_ok-new.ensures.empty c.in_ok-header.ensures.text
          c.in_ok-print_roots.ensures c.in_ok-print_end.ensures;
    }
