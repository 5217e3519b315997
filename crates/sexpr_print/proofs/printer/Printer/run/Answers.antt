use Rattle.std.proofs.Common.{refl, rules}
use Rattle.sexpr_print.proofs.Steps.{goes_less, goes_none, goes_step, ran}
use Rattle.sexpr_print.proofs.printer.Printer.run.Goals as goal

pub loop-task-init : goal.loop-task-init
loop-task-init c = goes_none c.args.world.now c.args.self.now c.requires.sound

pub loop-task-preserved : goal.loop-task-preserved
loop-task-preserved c =
    let old = c.loop-task.self in
    goes_step c.args.world.now c.in-Some.task c.pop.new.self.items c.args.self.now old (record old { tasks = c.pop.new.self }) c.step.new.self c.in-Some.ensures.items refl refl c.loop-task.invariant c.in_ok-step.ensures

pub loop-task-smaller : goal.loop-task-smaller
loop-task-smaller c =
    let old = c.loop-task.self in
    goes_less c.args.world.now c.in-Some.task c.pop.new.self.items old (record old { tasks = c.pop.new.self }) c.step.new.self c.in-Some.ensures.items refl c.in_ok-step.ensures

pub returns : goal.returns
returns c =
    let old = c.loop-task.self in
    ran c.args.world.now c.args.self.now old (record old { tasks = c.pop.new.self }) (search rules) (search rules) refl refl c.loop-task.invariant
