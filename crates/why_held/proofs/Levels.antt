-- A search level by level: what is true when the objects of one depth were found, and those to which they refer were not.
use Rattle.std.proofs.Common.{◌≡◌, ℕ, zero, suc, ◌+◌, ◌-◌, ◌<◌, ◌≤◌, ◌⊎◌, inl, inr, true, refl, sym, ◌∙◌, ap, subst, arith, List, [], ◌++◌, length, get_or, set, drop, replicate, Option, Some, None, Contains, All, unwrap_or, length-append, length-set, drop_of_length-le}
use Rattle.std.proofs.Math.Seq.{drop-append_seam}
use Rattle.std.proofs.lemmas.Bool.{cases_eq, cases_lt}
use Rattle.std.proofs.lemmas.List.{length-replicate, get_or_default, get_or_past}
use Rattle.std.proofs.lemmas.List.Sums.{sum_by-cons, sum_by-le, sum_by-set}
use Rattle.lisp_graph.specs.declared.object.Object.{Object}
use Rattle.lisp_graph.specs.Graph.{Graph, body_refers, object_at, refers_in}
use Rattle.why_held.specs.declared.search.Search.{Search}
use Rattle.why_held.specs.Chains.{depth_at}
use Rattle.why_held.specs.Search.{AreLevels, Finds, IsWithin, all_parts, found_in, one_where}
use Rattle.why_held.proofs.References.{all_parts_refer, all_parts_which, contains_none}
use Rattle.why_held.proofs.SearchSteps.{none_some, option_cases, some_get, some_is}

-- Numbers of depths

pub within_from : (most depth : ℕ) (o : Option ℕ) → o ≡ Some depth → depth ≤ most → IsWithin most o
within_from most depth o e l = subst (IsWithin most) (sym e) l

pub within_get : (most : ℕ) (o : Option ℕ) → IsWithin most o → (depth : ℕ) × (o ≡ Some depth) × (depth ≤ most)
within_get most None w = absurd w
within_get most (Some depth) w = (depth, refl, w)

pub same_depth : (o : Option ℕ) (m n : ℕ) → o ≡ Some m → o ≡ Some n → m ≡ n
same_depth o m n e f = ap (λ (x : Option ℕ). unwrap_or x 0) (sym e ∙ f)

pub depth_below : (depths : List (Option ℕ)) (object depth : ℕ) → depth_at depths object ≡ Some depth → object < length depths
depth_below depths object depth e = elim (cases_lt object (length depths)) [
  | inl l ↦ l
  | inr l ↦ absurd (none_some (depth_at depths object) (get_or_past depths object None l) (some_is (depth_at depths object) depth e))
]

no_depth : (count object : ℕ) → depth_at (replicate count None) object ≡ None
no_depth zero object = refl
no_depth (suc count) zero = refl
no_depth (suc count) (suc object) = no_depth count object

-- an empty list that was padded
pub padded : {A : Type 0} (count n : ℕ) (a : A) (old new : List A) → new ≡ old ++ replicate (count - length old) a → old ≡ [] → count ≡ n → new ≡ replicate n a
padded {A} count n a old new e none same =
    let m : count - length old ≡ n = (let z = ap length none in omega arith) in
    e ∙ ap (λ (xs : List A). xs ++ replicate (count - length old) a) none ∙ ap (λ (k : ℕ). replicate k a) m

none_found : (count : ℕ) → found_in (replicate count None) ≡ 0
none_found zero = refl
none_found (suc count) = sum_by-cons one_where None (replicate count None) ∙ (let x = none_found count in omega arith)

one_at_most : (o : Option ℕ) → one_where o ≤ 1
one_at_most None = omega arith
one_at_most (Some x) = omega arith

pub found_few : (depths : List (Option ℕ)) → found_in depths ≤ length depths
found_few depths = let x = sum_by-le one_where 1 depths (λ k d l. one_at_most (get_or depths k d)) in omega arith

-- not all objects are found while one of them has no depth
pub found_fewer : (depths : List (Option ℕ)) (object : ℕ) → object < length depths → depth_at depths object ≡ None → found_in depths < length depths
found_fewer depths object within fresh =
    let one : found_in (set depths object (Some 0)) + one_where (depth_at depths object) ≡ found_in depths + 1 = sum_by-set one_where depths object (Some 0) None within in
    let none : one_where (depth_at depths object) ≡ 0 = ap one_where fresh in
    omega (arith, one, none, found_few (set depths object (Some 0)), length-set depths object (Some 0))

-- The objects of this depth are found from `start` on, and all that are less deep are found and refer to found ones.
pub record Level (graph : Graph) (depth start : ℕ) (s : Search) : Type 0 where
  pub each : length s.depths ≡ length graph.objects
  pub roots : (object : ℕ) → refers_in object graph.registers ≡ true → depth_at s.depths object ≡ Some 0
  pub first : (object : ℕ) → depth_at s.depths object ≡ Some 0 → refers_in object graph.registers ≡ true
  pub next : (from to less : ℕ) → depth_at s.depths from ≡ Some less → less < depth → body_refers to (object_at graph.objects from).body ≡ true → IsWithin (suc less) (depth_at s.depths to)
  pub before : (to less : ℕ) → depth_at s.depths to ≡ Some (suc less) → (from : ℕ) × (depth_at s.depths from ≡ Some less) × (body_refers to (object_at graph.objects from).body ≡ true)
  pub deepest : (object less : ℕ) → depth_at s.depths object ≡ Some less → less ≤ depth
  pub lists : (object : ℕ) → depth_at s.depths object ≡ Some depth → Contains (drop start s.found) object
  pub listed : (object : ℕ) → Contains (drop start s.found) object → depth_at s.depths object ≡ Some depth
  pub counts : length s.found ≡ found_in s.depths
  pub behind : start ≤ length s.found
  pub ahead : depth ≤ start

-- The level of the registers

module _ (graph : Graph) (s t : Search) (depths : s.depths ≡ replicate (length graph.objects) None) (found : s.found ≡ []) (f : Finds 0 graph.registers s t) where
  was_none : (o : ℕ) → depth_at s.depths o ≡ None
  was_none o = ap (λ (x : List (Option ℕ)). depth_at x o) depths ∙ no_depth (length graph.objects) o

  is_zero : (o d : ℕ) → depth_at t.depths o ≡ Some d → d ≡ 0
  is_zero o d e = same_depth (depth_at t.depths o) d 0 e (f.deep o (was_none o, some_is (depth_at t.depths o) d e))

  all_added : t.found ≡ f.added
  all_added = f.grows ∙ ap (λ (x : List ℕ). x ++ f.added) found

  pub level_first : Level graph 0 0 t
  level_first = record {
    each = f.size ∙ ap length depths ∙ length-replicate (length graph.objects) None;
    roots = λ o e. f.deep o (was_none o, f.finds o e);
    first = λ o e. f.only o (was_none o, some_is (depth_at t.depths o) 0 e);
    next = λ from to less e l r. absurd (omega arith);
    before = λ to less e. (let z = is_zero to (suc less) e in absurd (omega arith));
    deepest = λ o d e. (let z = is_zero o d e in omega arith);
    lists = λ o e. (let P : List ℕ → Type 0 = λ xs. Contains xs o in subst P (sym all_added) (f.lists o (was_none o, some_is (depth_at t.depths o) 0 e)));
    listed = λ o c. (let P : List ℕ → Type 0 = λ xs. Contains xs o in f.deep o (f.listed o (subst P all_added c)));
    counts = ap length all_added ∙ (let x = f.counts in let y : found_in s.depths ≡ 0 = ap found_in depths ∙ none_found (length graph.objects) in omega arith);
    behind = omega arith;
    ahead = omega arith;
  }

-- The next level

module _ (graph : Graph) (depth start : ℕ) (s t : Search) (level : Level graph depth start s) (f : Finds (suc depth) (all_parts graph.objects (drop start s.found)) s t) where
  -- an object has the depth that it had, or the next
  when_found : (o d : ℕ) → depth_at t.depths o ≡ Some d → (depth_at s.depths o ≡ Some d) ⊎ ((depth_at s.depths o ≡ None) × (d ≡ suc depth))
  when_found o d e = elim (option_cases (depth_at s.depths o)) [
    | inl none ↦ inr (none, same_depth (depth_at t.depths o) d (suc depth) e (f.deep o (none, some_is (depth_at t.depths o) d e)))
    | inr x ↦ inl (x.1 ∙ ap Some (same_depth (depth_at t.depths o) x.0 d (f.kept o x.0 x.1) e))
  ]

  was : (o d : ℕ) → depth_at t.depths o ≡ Some d → d ≤ depth → depth_at s.depths o ≡ Some d
  was o d e l = elim (when_found o d e) [ inl x ↦ x | inr x ↦ (let q = x.1 in absurd (omega arith)) ]

  newly : (o : ℕ) → depth_at t.depths o ≡ Some (suc depth) → depth_at s.depths o ≡ None
  newly o e = elim (when_found o (suc depth) e) [ inl x ↦ (let q = level.deepest o (suc depth) x in absurd (omega arith)) | inr x ↦ x.0 ]

  is_within : (o most : ℕ) → IsWithin most (depth_at s.depths o) → IsWithin most (depth_at t.depths o)
  is_within o most w = let x = within_get most (depth_at s.depths o) w in within_from most x.0 (depth_at t.depths o) (f.kept o x.0 x.1) x.2

  deepest_next : (o d : ℕ) → depth_at t.depths o ≡ Some d → d ≤ suc depth
  deepest_next o d e = elim (when_found o d e) [ inl x ↦ (let q = level.deepest o d x in omega arith) | inr x ↦ (let q = x.1 in omega arith) ]

  next_next : (from to less : ℕ) → depth_at t.depths from ≡ Some less → less < suc depth → body_refers to (object_at graph.objects from).body ≡ true → IsWithin (suc less) (depth_at t.depths to)
  next_next from to less e l r = elim (cases_lt less depth) [
    | inl nearer ↦ is_within to (suc less) (level.next from to less (was from less e (omega arith)) nearer r)
    | inr last ↦ (
        let z : less ≡ depth = omega arith in
        let here = level.lists from (was from less e (omega arith) ∙ ap Some z) in
        let x = some_get (depth_at t.depths to) (f.finds to (all_parts_refer graph.objects (drop start s.found) from to here r)) in
        let q = deepest_next to x.0 x.1 in
        within_from (suc less) x.0 (depth_at t.depths to) x.1 (omega arith))
  ]

  before_next : (to less : ℕ) → depth_at t.depths to ≡ Some (suc less) → (from : ℕ) × (depth_at t.depths from ≡ Some less) × (body_refers to (object_at graph.objects from).body ≡ true)
  before_next to less e = elim (when_found to (suc less) e) [
    | inl x ↦ (let b = level.before to less x in (b.0, f.kept b.0 less b.1, b.2))
    | inr x ↦ (
        let w = all_parts_which graph.objects (drop start s.found) to (f.only to (x.0, some_is (depth_at t.depths to) (suc less) e)) in
        let z : depth ≡ less = (let q = x.1 in omega arith) in
        (w.0, f.kept w.0 less (level.listed w.0 w.1 ∙ ap Some z), w.2))
  ]

  behind_is : drop (length s.found) t.found ≡ f.added
  behind_is = ap (drop (length s.found)) f.grows ∙ drop-append_seam s.found f.added

  pub level_next : start < length s.found → Level graph (suc depth) (length s.found) t
  level_next some = record {
    each = f.size ∙ level.each;
    roots = λ o e. f.kept o 0 (level.roots o e);
    first = λ o e. level.first o (was o 0 e (omega arith));
    next = next_next;
    before = before_next;
    deepest = deepest_next;
    lists = λ o e. (let P : List ℕ → Type 0 = λ xs. Contains xs o in subst P (sym behind_is) (f.lists o (newly o e, some_is (depth_at t.depths o) (suc depth) e)));
    listed = λ o c. (let P : List ℕ → Type 0 = λ xs. Contains xs o in f.deep o (f.listed o (subst P behind_is c)));
    counts = ap length f.grows ∙ length-append s.found f.added ∙ (let x = f.counts in let y = level.counts in omega arith);
    behind = (let x = ap length f.grows in let y = length-append s.found f.added in omega arith);
    ahead = (let x = level.ahead in omega arith);
  }

pub level_goes : (graph : Graph) (objects : List Object) (depth start more end : ℕ) (s t : Search) → Level graph depth start s → objects ≡ graph.objects → more ≡ depth + 1 → end ≡ length s.found → start < end
    → Finds more (all_parts objects (drop start s.found)) s t → Level graph more end t
level_goes graph objects depth start more end s t level same m e l f =
    let deeper : more ≡ suc depth = omega arith in
    let P : List Object → Type 0 = λ os. Finds more (all_parts os (drop start s.found)) s t in
    let Q : ℕ → Type 0 = λ n. Finds n (all_parts graph.objects (drop start s.found)) s t in
    let R : ℕ → Type 0 = λ n. Level graph n end t in
    let S : ℕ → Type 0 = λ n. Level graph (suc depth) n t in
    subst R (sym deeper) (subst S (sym e) (level_next graph depth start s t level (subst Q deeper (subst P same f)) (omega arith)))

-- The last level

module _ (graph : Graph) (depth start : ℕ) (s : Search) (level : Level graph depth start s) where
  -- the objects of the level are objects
  pub level_within : All (λ o. o < length graph.objects) (drop start s.found)
  level_within k d l =
      let o = get_or (drop start s.found) k d in
      let same : get_or (drop start s.found) k o ≡ o = get_or_default (drop start s.found) k o d l in
      let x = depth_below s.depths o depth (level.listed o (k, l, same)) in
      let e = level.each in omega arith

  pub level_few : length s.found ≤ length graph.objects
  level_few = let x = level.counts in let y = found_few s.depths in let z = level.each in omega arith

  pub level_last : length s.found ≤ start → AreLevels graph s.depths
  level_last all = record {
    each = level.each;
    bounds = record {
      roots = λ o e. within_from 0 0 (depth_at s.depths o) (level.roots o e) (omega arith);
      next = λ from to less e r. level.next from to less e (nearer from less e) r;
    };
    first = level.first;
    before = level.before;
  }
    where
      nearer : (from less : ℕ) → depth_at s.depths from ≡ Some less → less < depth
      nearer from less e = elim (cases_eq less depth) [
        | inl z ↦ (
            let P : List ℕ → Type 0 = λ xs. Contains xs from in
            absurd (contains_none from (subst P (drop_of_length-le s.found all) (level.lists from (e ∙ ap Some z)))))
        | inr ne ↦ (let x = level.deepest from less e in omega arith)
      ]
