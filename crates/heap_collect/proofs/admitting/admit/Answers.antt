use Rattle.std.proofs.Common.{ℕ, ◌*◌, ap, subst, sym, ◌∙◌}
use Rattle.area_space.specs.Accounts.{account_of}
use Rattle.area_space.specs.Table.{quota_of}
use Rattle.heap_state.specs.StepsTo.{StepsTo}
use Rattle.heap_collect.specs.Amounts.{ScansUnits}
use Rattle.heap_collect.specs.MachineView.{machine}
use Rattle.heap_collect.proofs.Admissions.{fault_steps, left_here, left_still, less_here, refusal_steps, told_refusal}
use Rattle.heap_collect.proofs.ScanSequences.{nothing_scanned}
use Rattle.heap_collect.proofs.admitting.admit.Goals as goal

pub returns-then-quota-charged-clause-refused : goal.returns-then-quota-charged-clause-refused
returns-then-quota-charged-clause-refused g c command k s may wants x =
    let m = g.M.Memory.seen c.args.ground.now.mem in
    let t = c.args.ground.now.table in
    let step = refusal_steps m t c.args.scan.now c.args.registers.now k s command c.args.allocation.area c.args.allocation.charge x wants c.requires.area
    (less_here c.quota-quota.result c.account-charged.result c.args.allocation.charge (account_of c.args.ground.now.table c.args.allocation.area) (quota_of c.args.ground.now.table c.args.allocation.area) c.account-charged.ensures.value c.quota-quota.ensures.value c.if-quota-charged.true) in
    let same = told_refusal t c.args.allocation.area c.args.allocation.charge c.account-charged.result c.quota-quota.result c.account-charged.ensures.value c.quota-quota.ensures.value in
    subst (λ r. StepsTo m t c.args.scan.now c.args.registers.now s command r) (sym same) step

pub returns-in-Ok-clause-ok : goal.returns-in-Ok-clause-ok
returns-in-Ok-clause-ok g c =
    let same = ap (λ (n : ℕ). n * c.from-2.result) c.from.ensures ∙ ap (λ (n : ℕ). c.args.rate * n) c.from-2.ensures in
    subst (λ n. ScansUnits (machine c.args.ground.now c.args.scan.now c.args.registers.now) (machine c.scan_ahead.new.ground c.scan_ahead.new.scan c.scan_ahead.new.registers) n c.args.steps.now c.scan_ahead.new.steps) same c.in-Ok.ensures.ok

pub returns-in-Ok-clause-left : goal.returns-in-Ok-clause-left
returns-in-Ok-clause-left g c =
    let y = c.requires.represented in
    let ahead = c.in-Ok.ensures.ok.ahead y.map y.state y.represents in
    left_still (g.M.Memory.seen c.args.ground.now.mem) (g.M.Memory.seen c.scan_ahead.new.ground.mem) c.args.ground.now.table c.scan_ahead.new.ground.table c.args.registers.now c.scan_ahead.new.registers
    y.map ahead.represented.map y.state c.args.allocation.area c.args.allocation.charge y.represents.represents ahead.represented.represents c.requires.area
    (left_here c.quota-quota.result c.account-charged.result c.args.allocation.charge (account_of c.args.ground.now.table c.args.allocation.area) (quota_of c.args.ground.now.table c.args.allocation.area) c.account-charged.ensures.value c.quota-quota.ensures.value c.account-charged.ensures.at_most c.if-quota-charged.false)

pub returns-in-Err-clause-refused : goal.returns-in-Err-clause-refused
returns-in-Err-clause-refused g c command k s may wants x =
    fault_steps (g.M.Memory.seen c.args.ground.now.mem) c.args.ground.now.table c.args.scan.now c.args.registers.now k s command c.args.allocation.area c.args.allocation.charge x wants
    (g.M.Memory.seen c.scan_ahead.new.ground.mem) c.scan_ahead.new.ground.table c.scan_ahead.new.scan c.scan_ahead.new.registers may (c.in-Err.ensures.fault k s x)

pub returns-then-quota-charged-clause-goes_on : goal.returns-then-quota-charged-clause-goes_on
returns-then-quota-charged-clause-goes_on g c = nothing_scanned
