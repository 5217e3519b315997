use Rattle.std.proofs.Common.{rules, refl, ◌≡◌, ◌∙◌, ◌++◌, take}
use Rattle.file_modes.proofs.TextPrefixes.{fault_taken, gave_none, gave_piece, taken_memory, taken_much, whole_taken}
use Rattle.file_modes.proofs.read_all.gather.Goals as goal

pub loop-source-init : goal.loop-source-init
loop-source-init g c = record { gave = gave_none c.args.bytes.items c.requires.empty; piece = c.requires.at_least; quiet = refl }

pub returns-in-Err-clause-taken : goal.returns-in-Err-clause-taken
returns-in-Err-clause-taken g c = fault_taken c.args.limit c.loop-source.bytes.items (search rules) c.in-Err.ensures.err c.loop-source.invariant.gave

pub returns-then-count-eq0-clause-taken : goal.returns-then-count-eq0-clause-taken
returns-then-count-eq0-clause-taken g c =
    whole_taken c.args.limit c.in-Ok.count c.loop-source.bytes c.take.new.into c.if-count-eq0.true c.loop-source.invariant.gave c.in-Ok.ensures.given (c.in-Ok.ensures.end c.if-count-eq0.true)

pub loop-source-preserved : goal.loop-source-preserved
loop-source-preserved g c =
    let e : c.extend_from_slice.new.self.items ≡ c.loop-source.bytes.items ++ take c.in-Ok.count c.take.new.into = search rules in
    record {
      gave = gave_piece (g.S.Source.left c.take.new.self) c.loop-source.bytes.items (take c.in-Ok.count c.take.new.into) c.extend_from_slice.new.self.items e c.loop-source.invariant.gave c.in-Ok.ensures.given;
      piece = search rules;
      quiet = c.in-Ok.ensures.cause.quiet ∙ c.loop-source.invariant.quiet;
    }

pub returns-in-Err-extend_from_slice-clause-taken : goal.returns-in-Err-extend_from_slice-clause-taken
returns-in-Err-extend_from_slice-clause-taken g c =
    taken_memory c.args.limit _ (gave_piece (g.S.Source.left c.take.new.self) c.loop-source.bytes.items (take c.in-Ok.count c.take.new.into) _ refl c.loop-source.invariant.gave c.in-Ok.ensures.given)

pub returns-clause-taken : goal.returns-clause-taken
returns-clause-taken g c = taken_much c.args.limit c.loop-source.bytes c.loop-source.invariant.gave (search rules)
