-- What the joins of a rotation build.
use Rattle.ref_table.specs.declared.branch.Branch.{Branch}
use Rattle.std.proofs.Common.{◌≡◌, ℕ, ◌+◌, ◌≤◌, Option, refl, sym, subst, arith, List, length}
use Rattle.store_word.specs.declared.levels.Levels.{Levels}
use Rattle.ref_table.specs.Branches.{AreSides, Builds, Joins, Stands}
use Rattle.ref_table.specs.Rotation.{first}
use Rattle.ref_table.specs.Tree.{Tree, height, link, Fork, IsOrdered}
use Rattle.ref_table.proofs.Occurrences.{one}
use Rattle.ref_table.proofs.BranchJoins.{stands_within, join_builds, builds_after}

-- The sides of a page

-- the subtrees of a tree that is stored
fork_sides : (sets : List Levels) (branches : List Branch) (lo hi : ℕ) (a : Tree) (q : ℕ) (b : Tree) (most : ℕ)
    → Stands sets branches (Fork a q b) → IsOrdered lo hi (Fork a q b) → hi ≤ length branches → height (Fork a q b) ≤ most → AreSides sets branches (link a) q (link b) lo hi a b most
fork_sides sets branches lo hi a q b most st o inside low = record {
  left_is = refl;
  right_is = refl;
  left_stands = st.1.0;
  right_stands = st.1.1;
  left_ordered = o.2.0;
  right_ordered = o.2.1;
  from = o.0;
  to = o.1;
  inside = inside;
  left_low = omega (arith, low);
  right_low = omega (arith, low);
}

-- the right subtree of the left tree, and the right tree
near_left : (sets : List Levels) (branches : List Branch) (left side : Option ℕ) (page : ℕ) (right : Option ℕ) (lo hi : ℕ) (a : Tree) (q : ℕ) (b r : Tree) (most : ℕ)
    → AreSides sets branches left page right lo hi (Fork a q b) r most → side ≡ link b → AreSides sets branches side page right (q + 1) hi b r most
near_left sets branches left side page right lo hi a q b r most s side_is =
    let low = s.left_low in
    record {
      left_is = side_is;
      right_is = s.right_is;
      left_stands = s.left_stands.1.1;
      right_stands = s.right_stands;
      left_ordered = s.left_ordered.2.1;
      right_ordered = s.right_ordered;
      from = omega (arith, s.left_ordered.1);
      to = s.to;
      inside = s.inside;
      left_low = omega arith;
      right_low = s.right_low;
    }

-- the left tree, and the left subtree of the right tree
near_right : (sets : List Levels) (branches : List Branch) (left : Option ℕ) (page : ℕ) (right side : Option ℕ) (lo hi : ℕ) (l a : Tree) (q : ℕ) (b : Tree) (most : ℕ)
    → AreSides sets branches left page right lo hi l (Fork a q b) most → side ≡ link a → AreSides sets branches left page side lo q l a most
near_right sets branches left page right side lo hi l a q b most s side_is =
    let low = s.right_low in
    record {
      left_is = s.left_is;
      right_is = side_is;
      left_stands = s.left_stands;
      right_stands = s.right_stands.1.0;
      left_ordered = s.left_ordered;
      right_ordered = s.right_ordered.2.0;
      from = s.from;
      to = omega (arith, s.right_ordered.0);
      inside = omega (arith, s.right_ordered.1, s.inside);
      left_low = s.left_low;
      right_low = omega arith;
    }

-- A rotation by two joins

pub right_once : (sets : List Levels) (old one new : List Branch) (a : Tree) (q : ℕ) (b : Tree) (page : ℕ) (r : Tree) (left right low at side outer : Option ℕ) (lo hi : ℕ)
    → AreSides sets old left page right lo hi (Fork a q b) r 101 → side ≡ link b → outer ≡ link a
    → Joins sets old one side page right low
    → Joins sets one new outer q low at → Builds sets old new at lo hi (Fork a q (Fork b page r))
right_once sets old one new a q b page r left right low at side outer lo hi s side_is outer_is one_is new_is =
    let o = s.left_ordered in
    let st = s.left_stands in
    let hl = s.left_low in
    let hr = s.right_low in
    let j1 = join_builds sets old one side page right low (q + 1) hi b r 101 (omega arith) (near_left sets old left side page right lo hi a q b r 101 s side_is)
    one_is in
    let j2 = join_builds sets one new outer q low at lo hi a (Fork b page r) 102 (omega arith)
    record {
      left_is = outer_is;
      right_is = one_is.value;
      left_stands = stands_within sets old one lo q a o.2.0 (λ k x y. j1.before k (omega (arith, y))) st.1.0;
      right_stands = j1.stands;
      left_ordered = o.2.0;
      right_ordered = (omega (arith, o.1), s.to, (o.2.1, s.right_ordered));
      from = o.0;
      to = omega (arith, o.1, s.to);
      inside = omega (arith, j1.size, s.inside);
      left_low = omega arith;
      right_low = omega arith;
    }
    new_is in
    builds_after sets old one new at low lo hi (q + 1) hi _ _ (omega (arith, o.0)) (omega arith) j1 j2

pub left_once : (sets : List Levels) (old one new : List Branch) (l : Tree) (page : ℕ) (a : Tree) (q : ℕ) (b : Tree) (left right low at side outer : Option ℕ) (lo hi : ℕ)
    → AreSides sets old left page right lo hi l (Fork a q b) 101 → side ≡ link a → outer ≡ link b
    → Joins sets old one left page side low
    → Joins sets one new low q outer at → Builds sets old new at lo hi (Fork (Fork l page a) q b)
left_once sets old one new l page a q b left right low at side outer lo hi s side_is outer_is one_is new_is =
    let o = s.right_ordered in
    let st = s.right_stands in
    let hl = s.left_low in
    let hr = s.right_low in
    let j1 = join_builds sets old one left page side low lo q l a 101 (omega arith) (near_right sets old left page right side lo hi l a q b 101 s side_is)
    one_is in
    let j2 = join_builds sets one new low q outer at lo hi (Fork l page a) b 102 (omega arith)
    record {
      left_is = one_is.value;
      right_is = outer_is;
      left_stands = j1.stands;
      right_stands = stands_within sets old one (q + 1) hi b o.2.1 (λ k x y. j1.after k (omega (arith, x))) st.1.1;
      left_ordered = (s.from, omega (arith, o.0), (s.left_ordered, o.2.0));
      right_ordered = o.2.1;
      from = omega (arith, o.0, s.from);
      to = o.1;
      inside = omega (arith, j1.size, s.inside);
      left_low = omega arith;
      right_low = omega arith;
    }
    new_is in
    builds_after sets old one new at low lo hi lo q _ _ (omega arith) (omega (arith, o.1)) j1 j2

-- A rotation by three joins

-- the trees on two pages are joined, and then both become the sides of a page between them
joined_twice : (sets : List Levels) (old one two new : List Branch) (a : Tree) (p : ℕ) (c : Tree) (m : ℕ) (d : Tree) (q : ℕ) (b : Tree) (outer_left inner_left inner_right outer_right first second at : Option ℕ) (lo hi : ℕ)
    → AreSides sets old outer_left p inner_left lo m a c 101 → AreSides sets old inner_right q outer_right (m + 1) hi d b 101
    → Joins sets old one outer_left p inner_left first
    → Joins sets one two inner_right q outer_right second
    → Joins sets two new first m second at → Builds sets old new at lo hi (Fork (Fork a p c) m (Fork d q b))
joined_twice sets old one two new a p c m d q b outer_left inner_left inner_right outer_right first second at lo hi s t one_is two_is new_is =
    let j1 = join_builds sets old one outer_left p inner_left first lo m a c 101 (omega arith) s one_is in
    let j2 = join_builds sets one two inner_right q outer_right second (m + 1) hi d b 101 (omega arith)
    record {
      left_is = t.left_is;
      right_is = t.right_is;
      left_stands = stands_within sets old one (m + 1) q d t.left_ordered (λ k x y. j1.after k (omega (arith, x))) t.left_stands;
      right_stands = stands_within sets old one (q + 1) hi b t.right_ordered (λ k x y. j1.after k (omega (arith, x, t.from))) t.right_stands;
      left_ordered = t.left_ordered;
      right_ordered = t.right_ordered;
      from = t.from;
      to = t.to;
      inside = omega (arith, j1.size, t.inside);
      left_low = t.left_low;
      right_low = t.right_low;
    }
    two_is in
    let low_a = s.left_low in
    let low_c = s.right_low in
    let low_d = t.left_low in
    let low_b = t.right_low in
    let j3 = join_builds sets two new first m second at lo hi (Fork a p c) (Fork d q b) 103 (omega arith)
    record {
      left_is = one_is.value;
      right_is = two_is.value;
      left_stands = stands_within sets one two lo m (Fork a p c) (s.from, s.to, (s.left_ordered, s.right_ordered)) (λ k x y. j2.before k (omega (arith, y))) j1.stands;
      right_stands = j2.stands;
      left_ordered = (s.from, s.to, (s.left_ordered, s.right_ordered));
      right_ordered = (t.from, t.to, (t.left_ordered, t.right_ordered));
      from = omega (arith, s.from, s.to);
      to = omega (arith, t.from, t.to);
      inside = omega (arith, j2.size, j1.size, t.inside);
      left_low = omega arith;
      right_low = omega arith;
    }
    new_is in
    builds_after sets old one new at first lo hi lo m _ _ (omega arith) (omega (arith, t.from, t.to)) j1
    (builds_after sets one two new at second lo hi (m + 1) hi _ _ (omega (arith, s.from, s.to)) (omega arith) j2 j3)

pub right_twice : (sets : List Levels) (old one two new : List Branch) (a : Tree) (q : ℕ) (c : Tree) (m : ℕ) (d : Tree) (page : ℕ) (r : Tree) (left right at outer inner_left inner_right first second : Option ℕ) (lo hi : ℕ)
    → AreSides sets old left page right lo hi (Fork a q (Fork c m d)) r 101 → outer ≡ link a → inner_left ≡ link c → inner_right ≡ link d
    → Joins sets old one outer q inner_left first
    → Joins sets one two inner_right page right second
    → Joins sets two new first m second at → Builds sets old new at lo hi (Fork (Fork a q c) m (Fork d page r))
right_twice sets old one two new a q c m d page r left right at outer inner_left inner_right first second lo hi s outer_is il ir one_is two_is new_is =
    joined_twice sets old one two new a q c m d page r outer inner_left inner_right right first second at lo hi
    (near_right sets old outer q (link (Fork c m d)) inner_left lo page a c m d 101 (subst (λ o. AreSides sets old o q (link (Fork c m d)) lo page a (Fork c m d) 101) (sym outer_is) (fork_sides sets old lo page a q (Fork c m d) 101 s.left_stands s.left_ordered (omega (arith, s.to, s.inside)) s.left_low)) il)
    (near_left sets old (link (Fork c m d)) inner_right page right (q + 1) hi c m d r 101 (near_left sets old left (link (Fork c m d)) page right lo hi a q (Fork c m d) r 101 s refl) ir)
    one_is two_is new_is

pub left_twice : (sets : List Levels) (old one two new : List Branch) (l : Tree) (page : ℕ) (c : Tree) (m : ℕ) (d : Tree) (q : ℕ) (b : Tree) (left right at outer inner_left inner_right first second : Option ℕ) (lo hi : ℕ)
    → AreSides sets old left page right lo hi l (Fork (Fork c m d) q b) 101 → outer ≡ link b → inner_left ≡ link c → inner_right ≡ link d
    → Joins sets old one left page inner_left first
    → Joins sets one two inner_right q outer second
    → Joins sets two new first m second at → Builds sets old new at lo hi (Fork (Fork l page c) m (Fork d q b))
left_twice sets old one two new l page c m d q b left right at outer inner_left inner_right first second lo hi s outer_is il ir one_is two_is new_is =
    joined_twice sets old one two new l page c m d q b left inner_left inner_right outer first second at lo hi
    (near_right sets old left page (link (Fork c m d)) inner_left lo q l c m d 101 (near_right sets old left page right (link (Fork c m d)) lo hi l (Fork c m d) q b 101 s refl) il)
    (near_left sets old (link (Fork c m d)) inner_right q outer (page + 1) hi c m d b 101 (subst (λ o. AreSides sets old (link (Fork c m d)) q o (page + 1) hi (Fork c m d) b 101) (sym outer_is) (fork_sides sets old (page + 1) hi (Fork c m d) q b 101 s.right_stands s.right_ordered s.inside s.right_low)) ir)
    one_is two_is new_is
