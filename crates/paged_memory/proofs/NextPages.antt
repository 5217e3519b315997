-- The page that was used next after a page.
use Rattle.std.proofs.Common.{◌≡◌, ◌<◌, ℕ, List, [], ◌∷◌, length, refl, sym, ap, subst, ◌∙◌, inl, inr}
use Rattle.std.specs.Prelude.{Contains, eqb, map, option_map}
use Rattle.std.specs.List.{IsDistinct}
use Rattle.std.proofs.lemmas.Bool.{cases_eq, eq-eqb, ne_eqb}
use Rattle.store_word.specs.Words.{Parts}
use Rattle.frame_pool.specs.index_lists.Chains.{first_of, next_in}
use Rattle.frame_pool.specs.index_lists.Members.{Has, IsApart, Lacks}
use Rattle.frame_pool.proofs.index_lists.Members.{apart_from_distinct, contains_from_has, distinct_from_apart}
use Rattle.page_map.specs.Map.{place_at}
use Rattle.page_map.specs.declared.place.PagePlace.TheVariants.{InFrame}
use Rattle.frame_pool.specs.Pool.{page_at}
use Rattle.paged_memory.specs.Paging.{Paging, resident_of, IsPaged}
use Rattle.paged_memory.proofs.Lists.{Contains-map_back}
use Rattle.paged_memory.proofs.Places.{frame_same}

first_map : (f : ℕ → ℕ) (xs : List ℕ) → first_of (map f xs) ≡ option_map f (first_of xs)
first_map f [] = refl
first_map f (x ∷ xs) = refl

next_map_has : (f : ℕ → ℕ) (n : ℕ) (xs : List ℕ) → ((x : ℕ) → Has x xs → f x ≡ f n → x ≡ n) → next_in (map f xs) (f n) ≡ option_map f (next_in xs n)
next_map_has f n [] once = refl
next_map_has f n (x ∷ xs) once =
    elim (cases_eq x n) [
      | inl e ↦ rw (eq-eqb x n e, eq-eqb (f x) (f n) (ap f e)) (first_map f xs)
      | inr ne ↦ rw (ne_eqb x n ne, ne_eqb (f x) (f n) (λ e. ne (once x (λ no. absurd (no refl)) e))) (next_map_has f n xs (λ y h. once y (λ _. h)))
    ]

-- the page whose frame is next
pub next_resident : (p : Paging) (stored : List Parts) (page frame : ℕ) → IsPaged p stored → place_at p.places page ≡ InFrame frame
    → option_map (page_at p.pool) (next_in p.pool.used frame) ≡ next_in (resident_of p) page
next_resident p stored page frame h e =
    let was = h.framed page frame e in
    sym (next_map_has (page_at p.pool) frame p.pool.used (λ g m f. frame_same g frame (sym (h.taken g (contains_from_has g p.pool.used m)).1 ∙ ap (place_at p.places) (f ∙ was.1) ∙ e)))
    ∙ ap (next_in (resident_of p)) was.1

-- a resident page is one of the pages
pub resident_inside : (p : Paging) (stored : List Parts) (page : ℕ) → IsPaged p stored → Contains (resident_of p) page → page < length p.places.places
resident_inside p stored page h m =
    let at = Contains-map_back (page_at p.pool) page p.pool.used m in
    subst (λ n. n < length p.places.places) at.1.1 (h.taken at.0 at.1.0).0

-- No page is resident in two frames

lacks_map : (f : ℕ → ℕ) (n : ℕ) (xs : List ℕ) → Lacks n xs → ((x : ℕ) → Has x xs → f x ≡ f n → x ≡ n) → Lacks (f n) (map f xs)
lacks_map f n [] l once = tt
lacks_map f n (x ∷ xs) l once = ((λ e. l.0 (once x (λ no. absurd (no refl)) e)), lacks_map f n xs l.1 (λ y h. once y (λ _. h)))

apart_map : (f : ℕ → ℕ) (xs : List ℕ) → IsApart xs → ((x y : ℕ) → Has x xs → Has y xs → f x ≡ f y → x ≡ y) → IsApart (map f xs)
apart_map f [] a once = tt
apart_map f (x ∷ xs) a once = (lacks_map f x xs a.0 (λ y h. once y x (λ _. h) (λ no. absurd (no refl))), apart_map f xs a.1 (λ y z h k. once y z (λ _. h) (λ _. k)))

pub resident_once : (p : Paging) (stored : List Parts) → IsPaged p stored → IsDistinct eqb (resident_of p)
resident_once p stored h =
    distinct_from_apart (resident_of p) (apart_map (page_at p.pool) p.pool.used (apart_from_distinct p.pool.used h.pool.used_once)
    (λ x y m n e. frame_same x y (sym (h.taken x (contains_from_has x p.pool.used m)).1 ∙ ap (place_at p.places) e ∙ (h.taken y (contains_from_has y p.pool.used n)).1)))
