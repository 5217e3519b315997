-- Lines of pages, by a memory and by a heap.
use Rattle.std.proofs.Common.{◌≡◌, ℕ, zero, suc, ◌+◌, ◌*◌, ◌<◌, ◌≤◌, ◌↔◌, Bool, true, false, eqb, List, [], ◌∷◌, ◌++◌, length, refl, sym, ap, ◌∙◌, arith, inl, inr}
use Rattle.std.specs.Prelude.{Contains, filter, if◌then◌else◌, not, slice_index, IsTrue}
use Rattle.std.specs.Int.RustNames.{bit_and}
use Rattle.std.specs.List.{flat_map, range_with_len}
use Rattle.std.proofs.lemmas.Bool.{cases_Bool, cases_eq, cases_lt, eq-eqb, ne_eqb}
use Rattle.std.proofs.lemmas.List.FromFn.{get_or-map-range_with_len}
use Rattle.store_word.specs.Words.{Parts}
use Rattle.store_word.specs.Sets.{Meets}
use Rattle.paged_memory.specs.frame_pool.Pool.{tag_of}
use Rattle.area_space.specs.index_lists.Chains.{first_of, next_in}
use Rattle.area_space.specs.index_lists.Members.{Has, IsApart, Lacks}
use Rattle.area_space.proofs.index_lists.Members.{contains_from_has}
use Rattle.area_space.specs.mem_port.Tags.{marks_of_tag}
use Rattle.paged_memory.specs.page_map.Map.{place_at}
use Rattle.paged_memory.specs.page_map.declared.place.PagePlace.{PagePlace}
use Rattle.paged_memory.specs.page_map.declared.place.PagePlace.TheVariants.{Empty, InFrame, Swapped}
use Rattle.paged_memory.specs.Paging.{IsPaged, Paging, is_swapped, marks_in, marks_of, resident_of, size_of, store_of, swapped_of}
use Rattle.paged_memory.proofs.NextPages.{resident_inside}
use Rattle.lisp_heap.specs.HeapView.{HeapView, MemoryLists, lists_of}
use Rattle.inside_text.specs.InsideText.{calls_line, frame_line, page_lines, row_line}
use Rattle.inside_text.specs.Pages.{frame_of, row_of}
use Rattle.inside_text.specs.Words.{swapped_line}

flat_agree : (f g : ℕ → List ℕ) (xs : List ℕ) → ((x : ℕ) → Has x xs → f x ≡ g x) → flat_map f xs ≡ flat_map g xs
flat_agree f g [] same = refl
flat_agree f g (x ∷ xs) same = ap (λ (w : List ℕ). w ++ flat_map f xs) (same x (λ ne. absurd (ne refl))) ∙ ap (λ (w : List ℕ). g x ++ w) (flat_agree f g xs (λ y h. same y (λ _. h)))

-- the texts of those that pass a test
flat_filter : (f g : ℕ → List ℕ) (p : ℕ → Bool) (xs : List ℕ) → ((x : ℕ) → Has x xs → f x ≡ g x) → flat_map (λ x. if p x then f x else []) xs ≡ flat_map g (filter p xs)
flat_filter f g p [] same = refl
flat_filter f g p (x ∷ xs) same =
    let rest = flat_filter f g p xs (λ y h. same y (λ _. h)) in
    elim (cases_Bool (p x)) [
      | inl pass ↦ rw (pass) (ap (λ (w : List ℕ). w ++ flat_map (λ x. if p x then f x else []) xs) (same x (λ ne. absurd (ne refl))) ∙ ap (λ (w : List ℕ). g x ++ w) rest)
      | inr fail ↦ rw (fail) rest
    ]

below_row : (a n x : ℕ) → Has x (range_with_len a n) → x < a + n
below_row a zero x h = absurd h
below_row a (suc n) x h = elim (cases_lt x (a + suc n)) [ inl l ↦ l | inr ge ↦ (let later = below_row (a + 1) n x (h (λ e. absurd (omega (arith, e, ge)))) in omega (arith, later)) ]

module _ (heap : HeapView) (p : Paging) (stored : List Parts) (h : IsPaged p stored) (memory : lists_of (store_of p stored) ≡ heap.memory) where
  marks_are : (page : ℕ) → page < size_of p → slice_index heap.memory.marks page ≡ marks_of p page
  marks_are page low =
      let regions = h.regions in
      ap (λ (m : MemoryLists). slice_index m.marks page) (sym memory) ∙ get_or-map-range_with_len (marks_of p) 0 (16 * length p.levels) page page 0 (omega (arith, regions, low)) (omega arith)

  pub frames_are : resident_of p ≡ heap.resident → flat_map (frame_of p) (resident_of p) ≡ flat_map (frame_line heap) heap.resident
  frames_are same =
      flat_agree (frame_of p) (frame_line heap) (resident_of p) (λ page m. let e = marks_are page (inside page (contains_from_has page (resident_of p) m)) in rw (e) refl)
      ∙ ap (flat_map (frame_line heap)) same
    where
      inside : (page : ℕ) → Contains (resident_of p) page → page < size_of p
      inside page m = resident_inside p stored page h m

  pub rows_are : swapped_of p ≡ heap.counts.swaps.out → flat_map (row_of p) (range_with_len 0 (size_of p)) ≡ flat_map (row_line heap) heap.counts.swaps.out
  rows_are same =
      flat_filter _ (row_line heap) (λ page. is_swapped (place_at p.places page)) (range_with_len 0 (size_of p)) (λ page m. let e = marks_are page (let low = below_row 0 (size_of p) page m in omega (arith, low)) in rw (e) refl)
      ∙ ap (flat_map (row_line heap)) same

-- the page after a page

lacks_at : (x y : ℕ) (done rest : List ℕ) → Lacks x (done ++ y ∷ rest) → (x ≡ y → ⊥)
lacks_at x y [] rest l = λ e. l.0 (sym e)
lacks_at x y (z ∷ done) rest l = lacks_at x y done rest l.1

pub next_behind : (done : List ℕ) (page : ℕ) (rest : List ℕ) → IsApart (done ++ page ∷ rest) → next_in (done ++ page ∷ rest) page ≡ first_of rest
next_behind [] page rest a = rw (eq-eqb page page refl) refl
next_behind (x ∷ done) page rest a = rw (ne_eqb x page (lacks_at x page done rest a.0)) (next_behind done page rest a.1)

pub has_at : (done : List ℕ) (page : ℕ) (rest : List ℕ) → Has page (done ++ page ∷ rest)
has_at [] page rest = λ ne. absurd (ne refl)
has_at (x ∷ done) page rest = λ _. has_at done page rest

pub lines_are : (heap : HeapView) (p : Paging) (stored : List Parts) → IsPaged p stored → lists_of (store_of p stored) ≡ heap.memory → resident_of p ≡ heap.resident → swapped_of p ≡ heap.counts.swaps.out
    → page_lines heap ≡ flat_map (frame_of p) (resident_of p) ++ (flat_map (row_of p) (range_with_len 0 (size_of p)) ++ calls_line heap.counts.swaps)
lines_are heap p stored h memory resident out =
    ap (λ (w : List ℕ). w ++ (flat_map (row_line heap) heap.counts.swaps.out ++ calls_line heap.counts.swaps)) (sym (frames_are heap p stored h memory resident))
    ∙ ap (λ (w : List ℕ). flat_map (frame_of p) (resident_of p) ++ (w ++ calls_line heap.counts.swaps)) (sym (rows_are heap p stored h memory out))

-- the marks are those of all levels, or none
pub any_mark : (top : ℕ) (tag : Bool) → top ≤ 6 → (bit_and (marks_of_tag top tag) 63 ≡ 0) ↔ (marks_of_tag top tag ≡ 0)
any_mark top false low = ((λ _. refl), (λ _. refl))
any_mark zero true low = ((λ _. refl), (λ _. refl))
any_mark (suc zero) true low = ((λ e. absurd (cc (e))), (λ e. absurd (cc (e))))
any_mark (suc (suc zero)) true low = ((λ e. absurd (cc (e))), (λ e. absurd (cc (e))))
any_mark (suc (suc (suc zero))) true low = ((λ e. absurd (cc (e))), (λ e. absurd (cc (e))))
any_mark (suc (suc (suc (suc zero)))) true low = ((λ e. absurd (cc (e))), (λ e. absurd (cc (e))))
any_mark (suc (suc (suc (suc (suc zero))))) true low = ((λ e. absurd (cc (e))), (λ e. absurd (cc (e))))
any_mark (suc (suc (suc (suc (suc (suc zero)))))) true low = ((λ e. absurd (cc (e))), (λ e. absurd (cc (e))))
any_mark (suc (suc (suc (suc (suc (suc (suc n))))))) true low = absurd (omega arith)

pub row_there : (p : Paging) (page : ℕ) → place_at p.places page ≡ Swapped → row_of p page ≡ swapped_line page (marks_of p page)
row_there p page e = ap (λ (place : PagePlace). if is_swapped place then swapped_line page (marks_of p page) else []) e

pub row_away : (p : Paging) (page : ℕ) → (place_at p.places page ≡ Swapped → ⊥) → row_of p page ≡ []
row_away p page away = go (place_at p.places page) refl
  where
    go : (place : PagePlace) → place_at p.places page ≡ place → (if is_swapped place then swapped_line page (marks_of p page) else []) ≡ []
    go Empty e = refl
    go (InFrame frame) e = refl
    go Swapped e = absurd (away e)

-- the tag of a page in a frame
pub tag_is : (p : Paging) (page frame : ℕ) (b : Bool) (set : ℕ) → p.top ≤ 6 → place_at p.places page ≡ InFrame frame → set ≡ 63 → (IsTrue b ↔ Meets (marks_of p page) set) → not (eqb (marks_of p page) 0) ≡ b
tag_is p page frame b set low e is told =
    let marks : marks_of p page ≡ marks_of_tag p.top (tag_of p.pool frame) = ap (marks_in p page) e in
    let any = any_mark p.top (tag_of p.pool frame) low in
    elim (cases_eq (marks_of p page) 0) [
      | inl none ↦ ap not (eq-eqb (marks_of p page) 0 none) ∙ sym (go_no b (λ t. told.0 t (ap (λ (m : ℕ). bit_and m set) marks ∙ ap (bit_and (marks_of_tag p.top (tag_of p.pool frame))) is ∙ any.1 (sym marks ∙ none))))
      | inr some ↦ ap not (ne_eqb (marks_of p page) 0 some) ∙ sym (told.1 (λ z. some (marks ∙ any.0 (ap (bit_and (marks_of_tag p.top (tag_of p.pool frame))) (sym is) ∙ ap (λ (m : ℕ). bit_and m set) (sym marks) ∙ z))))
    ]
  where
    go_no : (b : Bool) → (IsTrue b → ⊥) → b ≡ false
    go_no false n = refl
    go_no true n = absurd (n refl)
