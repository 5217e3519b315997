use Rattle.ref_table.proofs.RotationPaths.{rotate_right_none, rotate_right_thin, rotate_right_once, rotate_right_twice}
use Rattle.ref_table.proofs.rotate.rotate_right.Goals as goal

pub returns-in_default : goal.returns-in_default
returns-in_default c = λ lo hi l r s. rotate_right_none c.args.sets.now c.args.branches.now _ _ _ _ _ lo hi l r c.in_default.is s c.join.ensures

pub returns-in_default-right : goal.returns-in_default-right
returns-in_default-right c = λ lo hi l r s. rotate_right_thin c.args.sets.now c.args.branches.now _ _ _ _ _ _ _ _ lo hi _ l r c.in-Some.is c.branch_at-upper.ensures c.in_default-right.is s c.join-low.ensures c.join-in_default-right.ensures

pub returns-then-inner-branch_at : goal.returns-then-inner-branch_at
returns-then-inner-branch_at c = λ lo hi l r s. rotate_right_once c.args.sets.now c.args.branches.now _ _ _ _ _ _ _ _ _ lo hi _ _ _ l r c.in-Some.is c.branch_at-upper.ensures c.in-Some-right.is c.branch_at-inner.ensures c.branch_at.ensures c.if-inner-branch_at.true s c.join-low-then-inner-branch_at.ensures c.join-then-inner-branch_at.ensures

pub returns : goal.returns
returns c = λ lo hi l r s. rotate_right_twice c.args.sets.now c.args.branches.now _ _ _ _ _ _ _ _ _ _ _ lo hi _ _ _ l r c.in-Some.is c.branch_at-upper.ensures c.in-Some-right.is c.branch_at-inner.ensures c.branch_at.ensures c.if-inner-branch_at.false s c.join-one.ensures c.join-two.ensures c.join-2.ensures
