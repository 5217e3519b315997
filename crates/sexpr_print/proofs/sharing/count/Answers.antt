use Rattle.sexpr_print.proofs.ReferenceCounts.{counts_other, counts_ref}
use Rattle.sexpr_print.proofs.sharing.count.Goals as goal

pub returns-in-Ref : goal.returns-in-Ref
returns-in-Ref c =
    counts_ref c.args.value c.in-Ref.name c.args.counts.now c.set.new.self c.in-Ref.is (rw c.in-Ref.is at c.requires)
    (cc (c.set.ensures, c.one_more-references.ensures, c.as_slice.ensures))

pub returns-in_default : goal.returns-in_default
returns-in_default c = counts_other c.args.value c.args.counts.now c.in_default.not-Ref
