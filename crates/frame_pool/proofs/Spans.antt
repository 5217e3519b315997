-- Words of a frame that are written together.
use Rattle.std.proofs.Common.{ℕ, ◌≡◌, ◌+◌, ◌-◌, ◌≤◌, List, ◌++◌, length, take, drop, get_or, length-take, ap, ◌∙◌, arith}
use Rattle.std.proofs.lemmas.List.{get_or-append_right, get_or-drop}
use Rattle.store_word.specs.Words.{Parts}

-- what lies above a part that was written
pub above_mid : (xs ys : List Parts) (a k i : ℕ) (d : Parts) → length ys ≡ k → a + k ≤ i → a + k ≤ length xs → get_or (take a xs ++ (ys ++ drop k (drop a xs))) i d ≡ get_or xs i d
above_mid xs ys a k i d size high room =
    let front : length (take a xs) ≡ a = omega (arith, length-take a xs) in
    let at : a + (k + (i - a - k)) ≡ i = omega arith in
    get_or-append_right (take a xs) (ys ++ drop k (drop a xs)) a i d front (omega arith) ∙ get_or-append_right ys (drop k (drop a xs)) k (i - a) d size (omega arith)
    ∙ get_or-drop k (drop a xs) (i - a - k) d ∙ get_or-drop a xs (k + (i - a - k)) d ∙ ap (λ n. get_or xs n d) at
