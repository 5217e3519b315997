-- What each call keeps of the places and the buckets.
use Rattle.std.proofs.Common.{◌≡◌, ◌≢◌, ℕ, ◌+◌, ◌/◌, ◌%◌, ◌<◌, Bool, true, Option, Some, None, List, length, inl, inr, sym, ap, subst, ◌∙◌, arith, get_or-set_same, get_or-set_other, length-set}
use Rattle.std.specs.Prelude.{Contains, slice_set, slice_index_or, IfSome}
use Rattle.std.proofs.lemmas.Bool.{cases_eq, cases_Bool}
use Rattle.index_lists.specs.Chains.{Chains, list_at, with_list, IsSound}
use Rattle.index_lists.proofs.ListUpdates.{list_at-with_list_same, list_at-with_list_other, length-with_list}
use Rattle.page_map.specs.declared.place.PagePlace.{PagePlace}
use Rattle.page_map.specs.declared.place.PagePlace.TheVariants.{Empty}
use Rattle.page_map.specs.Map.{Map, is_empty, place_at, pages_in, bucket_after, IsMap}
use Rattle.page_map.specs.Invariant.{map_of, PageMapInvariant}
use Rattle.page_map.proofs.Buckets.{empty_true, empty_false, other_before, other_after, page_there, page_gone}

-- what callers may rely on
pub map_sound : (c : Chains) (places : List PagePlace) (buckets : ℕ) → PageMapInvariant c places buckets → IsMap (map_of c places)
map_sound c places buckets h = record {
  count = h.count ∙ h.many;
  exact = λ bucket page. (
    (λ m. ((h.listed bucket page m).0, (h.listed bucket page m).1 ∙ ap (λ n. page % n) (sym h.count))),
    (λ d. subst (λ b. Contains (list_at c b) page) (ap (λ n. page % n) (sym h.count) ∙ sym d.1) (h.there page d.0)),
  );
  one_place = h.sound.one_place;
}

-- a page of a bucket isn't empty
pub there_if_listed : (m : Map) (bucket : ℕ) (o : Option ℕ) → IsMap m → IfSome o (Contains (pages_in m bucket)) → IfSome o (λ page. place_at m page ≢ Empty)
there_if_listed m bucket None h l = tt
there_if_listed m bucket (Some page) h l = ((h.exact bucket page).0 l).0

-- the list of a bucket that a page enters or leaves
pub record IsListed (c d : Chains) (bucket page : ℕ) (was now : Bool) : Type 0 where
  pub others : (k q : ℕ) → q ≢ page → Contains (list_at d k) q → Contains (list_at c k) q
  pub stays : (k q : ℕ) → q ≢ page → Contains (list_at c k) q → Contains (list_at d k) q
  pub here : list_at d bucket ≡ bucket_after was now page (list_at c bucket)
  pub elsewhere : (k : ℕ) → k ≢ bucket → list_at d k ≡ list_at c k

-- what follows for each list from the equation on the lists
pub listed : (c d : Chains) (bucket page : ℕ) (was now : Bool) → bucket < length c.lists → d ≡ with_list c bucket (bucket_after was now page (list_at c bucket)) → IsListed c d bucket page was now
listed c d bucket page was now low is = record {
  others = λ k q ne m. elim (cases_eq k bucket) [
    | inl e ↦ subst (λ n. Contains (list_at c n) q) (sym e) (other_before was now page q _ ne (subst (λ (ys : List ℕ). Contains ys q) (ap (list_at d) e ∙ same) m))
    | inr ne_k ↦ subst (λ (ys : List ℕ). Contains ys q) (other k ne_k) m
  ];
  stays = λ k q ne m. elim (cases_eq k bucket) [
    | inl e ↦ subst (λ (ys : List ℕ). Contains ys q) (sym (ap (list_at d) e ∙ same)) (other_after was now page q _ ne (subst (λ n. Contains (list_at c n) q) e m))
    | inr ne_k ↦ subst (λ (ys : List ℕ). Contains ys q) (sym (other k ne_k)) m
  ];
  here = same;
  elsewhere = other;
}
  where
    same : list_at d bucket ≡ bucket_after was now page (list_at c bucket)
    same = ap (λ (v : Chains). list_at v bucket) is ∙ list_at-with_list_same c bucket _ low

    other : (k : ℕ) → k ≢ bucket → list_at d k ≡ list_at c k
    other k ne = ap (λ (v : Chains). list_at v k) is ∙ list_at-with_list_other c bucket _ k ne

-- a page is at another place
pub set_kept : (c d : Chains) (places : List PagePlace) (buckets page : ℕ) (place : PagePlace) → PageMapInvariant c places buckets → page < length places → IsSound d
    → d ≡ with_list c (page % buckets) (bucket_after (is_empty (slice_index_or places page Empty)) (is_empty place) page (list_at c (page % buckets)))
    → PageMapInvariant d (slice_set places page place) buckets
set_kept c d places buckets page place h inside s is =
    record {
      sound = s;
      few = omega (arith, h.few, size);
      nodes = ap (λ (v : Chains). v.nodes) is ∙ h.nodes ∙ sym size;
      many = h.many ∙ ap (λ n. 1 + n / 4) (sym size);
      count = ap (λ (v : Chains). length v.lists) is ∙ length-with_list c (page % buckets) _ ∙ h.count;
      listed = λ k q m. elim (cases_eq q page) [
        | inl e ↦
            let full = not_empty k (subst (λ n. Contains (list_at d k) n) e m) in (
              (λ f. full (sym (here q e) ∙ f)),
              s.one_list k (page % buckets) page (subst (λ n. Contains (list_at d k) n) e m) (there full) ∙ ap (λ n. n % buckets) (sym e),
            )
        | inr ne ↦ let old = h.listed k q (change.others k q ne m) in ((λ f. old.0 (sym (elsewhere q ne) ∙ f)), old.1)
      ];
      there = λ q full. elim (cases_eq q page) [
        | inl e ↦ subst (λ n. Contains (list_at d (n % buckets)) n) (sym e) (there (λ f. full (here q e ∙ f)))
        | inr ne ↦ change.stays (q % buckets) q ne (h.there q (λ f. full (elsewhere q ne ∙ f)))
      ];
    }
  where
    size : length (slice_set places page place) ≡ length places
    size = length-set places page place

    low : page % buckets < length c.lists
    low = let positive : 0 < buckets = omega (arith, h.many) in let b : page % buckets < buckets = omega arith in let count = h.count in omega arith

    change : IsListed c d (page % buckets) page (is_empty (slice_index_or places page Empty)) (is_empty place)
    change = listed c d (page % buckets) page _ _ low is

    here : (q : ℕ) → q ≡ page → slice_index_or (slice_set places page place) q Empty ≡ place
    here q e = subst (λ n. slice_index_or (slice_set places page place) n Empty ≡ place) (sym e) (get_or-set_same places page place Empty inside)

    elsewhere : (q : ℕ) → q ≢ page → slice_index_or (slice_set places page place) q Empty ≡ slice_index_or places q Empty
    elsewhere q ne = get_or-set_other places page q place Empty ne

    gone : is_empty place ≡ true → (k : ℕ) → Contains (list_at d k) page → ⊥
    gone void k m =
        elim (cases_eq k (page % buckets)) [
          | inl e ↦ page_gone (is_empty (slice_index_or places page Empty)) page (list_at c (page % buckets)) (λ was o. (h.listed (page % buckets) page o).0 (empty_true _ was))
              (subst (λ (ys : List ℕ). Contains ys page) (ap (list_at d) e ∙ change.here ∙ ap (λ b. bucket_after (is_empty (slice_index_or places page Empty)) b page (list_at c (page % buckets))) void) m)
          | inr ne ↦ ne (h.listed k page (subst (λ (ys : List ℕ). Contains ys page) (change.elsewhere k ne) m)).1
        ]

    not_empty : (k : ℕ) → Contains (list_at d k) page → place ≢ Empty
    not_empty k m f = gone (ap is_empty f) k m

    there : place ≢ Empty → Contains (list_at d (page % buckets)) page
    there full =
        elim (cases_Bool (is_empty place)) [
          | inl void ↦ absurd (full (empty_true place void))
          | inr not_void ↦ subst (λ (ys : List ℕ). Contains ys page)
              (sym (change.here ∙ ap (λ b. bucket_after (is_empty (slice_index_or places page Empty)) b page (list_at c (page % buckets))) not_void))
              (page_there (is_empty (slice_index_or places page Empty)) page _ (λ was. h.there page (empty_false _ was)))
        ]
