-- The search trees, balanced by height, that rotation, insertion and removal build.
use Rattle.std.specs.Prelude.{ℕ, ◌+◌, nat_lt, nat_le, if◌then◌else◌, Option, Some, None}
use Rattle.ref_table.specs.Tree.{Tree, Leaf, Fork, height}

-- the left subtree `a q b` of page p becomes the root; or, if b is higher than a, the root of b does
abbrev pub right_rotation : Tree → ℕ → Tree → ℕ → Tree → Tree
right_rotation a q Leaf p r = Fork a q (Fork Leaf p r)
right_rotation a q (Fork c m d) p r = if nat_le (height (Fork c m d)) (height a) then Fork a q (Fork (Fork c m d) p r) else Fork (Fork a q c) m (Fork d p r)

-- a page over two trees whose left one is too high
abbrev pub rotated_right : Tree → ℕ → Tree → Tree
rotated_right Leaf p r = Fork Leaf p r
rotated_right (Fork a q b) p r = right_rotation a q b p r

-- the right subtree `a q b` of page p becomes the root; or, if a is higher than b, the root of a does
abbrev pub left_rotation : Tree → ℕ → Tree → ℕ → Tree → Tree
left_rotation l p Leaf q b = Fork (Fork l p Leaf) q b
left_rotation l p (Fork c m d) q b = if nat_le (height (Fork c m d)) (height b) then Fork (Fork l p (Fork c m d)) q b else Fork (Fork l p c) m (Fork d q b)

-- a page over two trees whose right one is too high
abbrev pub rotated_left : Tree → ℕ → Tree → Tree
rotated_left l p Leaf = Fork l p Leaf
rotated_left l p (Fork a q b) = left_rotation l p a q b

-- a page over two trees, rotated if one of them is two higher
abbrev pub balanced : Tree → ℕ → Tree → Tree
balanced l p r = if nat_lt (height r + 1) (height l) then rotated_right l p r else if nat_lt (height l + 1) (height r) then rotated_left l p r else Fork l p r

-- the tree with one more page
abbrev pub insert : ℕ → Tree → Tree
insert k Leaf = Fork Leaf k Leaf
insert k (Fork l p r) = if nat_lt k p then balanced (insert k l) p r else if nat_lt p k then balanced l p (insert k r) else Fork l p r

-- the lowest page
abbrev pub first : Tree → Option ℕ
first Leaf = None
first (Fork Leaf p r) = Some p
first (Fork (Fork a q b) p r) = first (Fork a q b)

-- the tree without its lowest page
abbrev pub rest : Tree → Tree
rest Leaf = Leaf
rest (Fork Leaf p r) = r
rest (Fork (Fork a q b) p r) = balanced (rest (Fork a q b)) p r

-- a page over one tree and the rest of another
abbrev pub merged_at : Tree → Option ℕ → Tree → Tree
merged_at l None r = l
merged_at l (Some m) r = balanced l m (rest r)

-- one tree of two, under the lowest page of the right one
abbrev pub merged : Tree → Tree → Tree
merged l r = merged_at l (first r) r

-- the tree without a page
abbrev pub removed : ℕ → Tree → Tree
removed k Leaf = Leaf
removed k (Fork l p r) = if nat_lt k p then balanced (removed k l) p r else if nat_lt p k then balanced l p (removed k r) else merged l r
