use Rattle.std.proofs.Common.{◌≤◌, ◌<◌, ◌+◌, subst, arith}
use Rattle.ref_table.specs.Branches.{Builds}
use Rattle.ref_table.specs.Tree.{height}
use Rattle.ref_table.proofs.TreeBalance.{side_heights, balanced_left, balanced_right, balanced_even}
use Rattle.ref_table.proofs.BranchJoins.{join_builds}
use Rattle.ref_table.proofs.rotate.balance.Goals as goal

pub returns-then-saturating_sub-gt1 : goal.returns-then-saturating_sub-gt1
returns-then-saturating_sub-gt1 c = λ lo hi l r s.
    let h = side_heights _ _ _ _ _ lo hi l r _ _ c.branch_at-hl.ensures c.branch_at-hr.ensures s in
    let far : height r + 1 < height l = omega (arith, h.0, h.1) in
    subst (Builds c.args.sets.now c.args.branches.now c.rotate_right.new.branches c.rotate_right.result lo hi) (balanced_left l c.args.page r far) (c.rotate_right.ensures lo hi l r s)

pub returns-then-saturating_sub-gt1-2 : goal.returns-then-saturating_sub-gt1-2
returns-then-saturating_sub-gt1-2 c = λ lo hi l r s.
    let h = side_heights _ _ _ _ _ lo hi l r _ _ c.branch_at-hl.ensures c.branch_at-hr.ensures s in
    let far : height l + 1 < height r = omega (arith, h.0, h.1) in
    subst (Builds c.args.sets.now c.args.branches.now c.rotate_left.new.branches c.rotate_left.result lo hi) (balanced_right l c.args.page r far) (c.rotate_left.ensures lo hi l r s)

pub returns : goal.returns
returns c = λ lo hi l r s.
    let h = side_heights _ _ _ _ _ lo hi l r _ _ c.branch_at-hl.ensures c.branch_at-hr.ensures s in
    let near : height l ≤ height r + 1 = omega (arith, h.0, h.1) in
    let near' : height r ≤ height l + 1 = omega (arith, h.0, h.1) in
    subst (Builds c.args.sets.now c.args.branches.now c.join.new.branches c.join.result lo hi) (balanced_even l c.args.page r near near')
    (join_builds _ _ _ _ _ _ _ lo hi l r 101 (omega arith) s c.join.ensures)
