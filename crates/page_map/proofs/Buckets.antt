-- The pages of one bucket, after a page has entered it, was removed from it, or neither.
use Rattle.std.proofs.Common.{◌≡◌, ◌≢◌, ℕ, Bool, true, false, List, refl}
use Rattle.std.specs.Prelude.{Contains}
use Rattle.index_lists.proofs.ListUpdates.{Contains-without, Contains-without_back, Contains-push_old, Contains-push_new, Contains-push_back, not_in_without}
use Rattle.page_map.specs.declared.place.PagePlace.{PagePlace}
use Rattle.page_map.specs.declared.place.PagePlace.TheVariants.{Empty, InFrame, Swapped}
use Rattle.page_map.specs.Map.{is_empty, bucket_after}

-- a place that is tested to be empty is
pub empty_true : (place : PagePlace) → is_empty place ≡ true → place ≡ Empty
empty_true Empty e = refl
empty_true (InFrame f) e = absurd (cc)
empty_true Swapped e = absurd (cc)

-- and one that is tested not to be isn't
pub empty_false : (place : PagePlace) → is_empty place ≡ false → place ≢ Empty
empty_false Empty e _ = absurd (cc)
empty_false (InFrame f) e q = absurd (cc)
empty_false Swapped e q = absurd (cc)

-- the other pages stay

pub other_before : (was now : Bool) (page q : ℕ) (xs : List ℕ) → q ≢ page → Contains (bucket_after was now page xs) q → Contains xs q
other_before true true page q xs ne m = m
other_before true false page q xs ne m = Contains-push_back q page xs m ne
other_before false true page q xs ne m = Contains-without_back page q xs m
other_before false false page q xs ne m = m

pub other_after : (was now : Bool) (page q : ℕ) (xs : List ℕ) → q ≢ page → Contains xs q → Contains (bucket_after was now page xs) q
other_after true true page q xs ne m = m
other_after true false page q xs ne m = Contains-push_old q page xs m
other_after false true page q xs ne m = Contains-without page q xs ne m
other_after false false page q xs ne m = m

-- the page itself is in its bucket if it isn't empty

pub page_there : (was : Bool) (page : ℕ) (xs : List ℕ) → (was ≡ false → Contains xs page) → Contains (bucket_after was false page xs) page
page_there true page xs h = Contains-push_new page xs
page_there false page xs h = h refl

pub page_gone : (was : Bool) (page : ℕ) (xs : List ℕ) → (was ≡ true → Contains xs page → ⊥) → Contains (bucket_after was true page xs) page → ⊥
page_gone true page xs h m = h refl m
page_gone false page xs h m = not_in_without page xs m
