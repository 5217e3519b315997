-- The place of each page once one page is at another place.
use Rattle.std.proofs.Common.{ℕ, ◌≡◌, ◌≢◌, ◌<◌, ◌≤◌, length, length-set, get_or-set_same, get_or-set_other, sym, ap, ◌∙◌, inl, inr}
use Rattle.std.proofs.lemmas.Bool.{cases_lt}
use Rattle.std.proofs.lemmas.List.{get_or_past}
use Rattle.page_map.specs.declared.place.PagePlace.{PagePlace}
use Rattle.page_map.specs.declared.place.PagePlace.TheVariants.{Empty, InFrame, Swapped}
use Rattle.page_map.specs.Map.{Map, place_at, placed}

pub placed_here : (m m' : Map) (page : ℕ) (place : PagePlace) → page < length m.places → m' ≡ placed m page place → place_at m' page ≡ place
placed_here m m' page place low is = ap (λ (v : Map). place_at v page) is ∙ get_or-set_same m.places page place Empty low

pub placed_other : (m m' : Map) (page q : ℕ) (place : PagePlace) → q ≢ page → m' ≡ placed m page place → place_at m' q ≡ place_at m q
placed_other m m' page q place ne is = ap (λ (v : Map). place_at v q) is ∙ get_or-set_other m.places page q place Empty ne

pub placed_size : (m m' : Map) (page : ℕ) (place : PagePlace) → m' ≡ placed m page place → length m'.places ≡ length m.places
placed_size m m' page place is = ap (λ (v : Map). length v.places) is ∙ length-set m.places page place

pub frame_same : (f g : ℕ) → ◌≡◌ {A = PagePlace} (InFrame f) (InFrame g) → f ≡ g
frame_same f g e = cc

-- no place is two places
pub swapped_framed : (m : Map) (page frame : ℕ) → place_at m page ≡ Swapped → place_at m page ≡ InFrame frame → ⊥
swapped_framed m page frame a b = let bad : ◌≡◌ {A = PagePlace} Swapped (InFrame frame) = sym a ∙ b in absurd (cc)

pub empty_framed : (m : Map) (page frame : ℕ) → place_at m page ≡ Empty → place_at m page ≡ InFrame frame → ⊥
empty_framed m page frame a b = let bad : ◌≡◌ {A = PagePlace} Empty (InFrame frame) = sym a ∙ b in absurd (cc)

pub empty_swapped : (m : Map) (page : ℕ) → place_at m page ≡ Empty → place_at m page ≡ Swapped → ⊥
empty_swapped m page a b = let bad : ◌≡◌ {A = PagePlace} Empty Swapped = sym a ∙ b in absurd (cc)

-- a page past the last is empty
pub past_empty : (m : Map) (page : ℕ) → length m.places ≤ page → place_at m page ≡ Empty
past_empty m page high = get_or_past m.places page Empty high

pub swapped_inside : (m : Map) (page : ℕ) → place_at m page ≡ Swapped → page < length m.places
swapped_inside m page e = elim (cases_lt page (length m.places)) [ inl low ↦ low | inr high ↦ absurd (empty_swapped m page (past_empty m page high) e) ]

pub framed_inside : (m : Map) (page frame : ℕ) → place_at m page ≡ InFrame frame → page < length m.places
framed_inside m page frame e = elim (cases_lt page (length m.places)) [ inl low ↦ low | inr high ↦ absurd (empty_framed m page frame (past_empty m page high) e) ]
