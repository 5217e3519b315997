use Rattle.std.proofs.Common.{◌+◌, ◌≤◌, length, sym, subst}
use Rattle.mem_port.specs.Plain.{Plain}
use Rattle.mem_port.proofs.Passing.{passes_range}
use Rattle.mem_port.proofs.PlainLaws.{plain_memory}
use Rattle.mem_port.proofs.plain.PlainMemoryMemory.read_until.Goals as goal

pub returns-clause-value : goal.returns-clause-value
returns-clause-value g c =
    let inside : c.args.at + c.args.count ≤ length c.self.inside.words.items = subst (λ (p : Plain). c.args.at + c.args.count ≤ length p.words) (sym c.self.view_is) c.requires.in_range in
    rw (← c.self.view_is) (passes_range c.self.inside.words.items (g.T.WordTest.wanted c.args.test.now) c.args.at c.args.count c.words_before-passed.result inside (rw c.deref.ensures.value at c.words_before-passed.ensures))

pub returns-clause-sound : goal.returns-clause-sound
returns-clause-sound g c = plain_memory _ c.self.invariant
