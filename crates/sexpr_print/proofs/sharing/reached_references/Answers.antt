use Rattle.sexpr_print.proofs.SharedObjects.{same_shared}
use Rattle.sexpr_print.proofs.sharing.reached_references.Goals as goal

pub returns : goal.returns
returns c =
    let world = c.args.world.now in
    let names = c.in_ok-names.names.names in
    record {
      names = names;
      reached = c.in_ok-names.ensures.value;
      shared = same_shared world names c.in_ok-counts.counts c.requires c.in_ok-names.ensures.in_range c.in_ok-counts.ensures.value c.in_ok-counts.ensures.size;
      size = c.in_ok-counts.ensures.size;
    }
