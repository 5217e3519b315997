-- Words of a page in a frame that are stored together.
use Rattle.std.proofs.Common.{IsTrue, ◌↔◌, ℕ, ◌≡◌, ◌≢◌, ◌+◌, ◌-◌, ◌*◌, ◌/◌, ◌%◌, ◌<◌, ◌≤◌, Bool, false, ◌||◌, nat_lt, List, [], ◌∷◌, ◌++◌, length, slice_get, slice_set, slice_range, get_or, get_or-set_same, get_or-set_other, length-append, refl, sym, ap, subst, ◌∙◌, arith, ◌⊎◌, inl, inr}
use Rattle.std.specs.Prelude.{Contains, map}
use Rattle.std.proofs.Math.ListN.{get_or-eq_default}
use Rattle.std.proofs.lemmas.Bool.{cases_eq, cases_lt, cases_Bool}
use Rattle.std.proofs.lemmas.List.{length-map}
use Rattle.std.proofs.lemmas.List.FromFn.{get_or-map-range_with_len}
use Rattle.store_word.specs.Words.{Parts, null_word}
use Rattle.mem_port.specs.Store.{level_of_word, Covers}
use Rattle.mem_port.specs.Tags.{marks_of_tag, HasEphemeral, HasYoung}
use Rattle.mem_port.proofs.SpanStores.{tagged_over, tagged_alike, covers_after, covers_alike}
use Rattle.page_map.specs.declared.place.PagePlace.TheVariants.{InFrame}
use Rattle.page_map.specs.Map.{place_at}
use Rattle.frame_pool.specs.index_lists.Chains.{without}
use Rattle.frame_pool.specs.Fills.{FillsSpan}
use Rattle.frame_pool.specs.Pool.{Pool, IsPool, page_at, tag_of, with_latest}
use Rattle.frame_pool.proofs.index_lists.ListUpdates.{length-without}
use Rattle.paged_memory.specs.Paging.{Paging, word_in, word_at, size_of, words_of, marks_in, marks_of, store_of, resident_of, IsPaged}
use Rattle.paged_memory.specs.Order.{latest}
use Rattle.paged_memory.specs.Moves.{Keeps}
use Rattle.paged_memory.specs.Spans.{TagsSpan, Lays}
use Rattle.paged_memory.proofs.Places.{frame_same, framed_inside}
use Rattle.paged_memory.proofs.FrameChanges.{with_pool, repooled, resident_framed, touch_keeps, touch_marks, touch_uses}
use Rattle.paged_memory.proofs.RecentPages.{used_kept}
use Rattle.paged_memory.proofs.FrameAccess.{frame_in, one_page}
use Rattle.paged_memory.proofs.Words.{words_size, get_or_same, word_kept, marks_kept}

-- `count` words are written into the frame of a page, which has the tag if it had it or one of them has an address of level 1 or more
pub record PutsSpan (p : Paging) (pool : Pool) (frame at count : ℕ) (word : ℕ → Parts) (tag : Bool) : Type 0 where
  pub here : place_at p.places (at / 256) ≡ InFrame frame
  pub page : at % 256 + count ≤ 256
  pub sound : IsPool pool
  pub words : FillsSpan p.pool.words pool.words (256 * frame + at % 256) count word
  pub puts : pool ≡ (let v : Pool = record p.pool { words = pool.words; tags = slice_set p.pool.tags frame tag } in v)
  pub tagged : IsTrue tag ↔ (IsTrue (tag_of p.pool frame) ⊎ HasYoung p.levels count word)

-- an address is among those that are written, or it isn't
in_or_out : (at count a : ℕ) → ((at ≤ a) × (a < at + count)) ⊎ ((at ≤ a) × (a < at + count) → ⊥)
in_or_out at count a =
    elim (cases_lt a at) [
      | inl below ↦ inr (λ x. let l = x.0 in omega arith)
      | inr from ↦
          elim (cases_lt a (at + count)) [
            | inl there ↦ inl (from, there)
            | inr above ↦ inr (λ x. let l = x.1 in omega arith)
          ]
    ]

span_tag_here : (p : Paging) (stored : List Parts) (pool : Pool) (frame at count : ℕ) (word : ℕ → Parts) (tag : Bool) → IsPaged p stored → PutsSpan p pool frame at count word tag → tag_of pool frame ≡ tag
span_tag_here p stored pool frame at count word tag h c =
    let low = frame_in p stored (at / 256) frame h c.here in
    ap (λ (v : Pool). tag_of v frame) c.puts ∙ get_or-set_same p.pool.tags frame tag false (omega (arith, low, h.pool.tag_each))

span_tag_other : (p : Paging) (pool : Pool) (frame at count : ℕ) (word : ℕ → Parts) (tag : Bool) → PutsSpan p pool frame at count word tag → (g : ℕ) → g ≢ frame → tag_of pool g ≡ tag_of p.pool g
span_tag_other p pool frame at count word tag c g ne = ap (λ (v : Pool). tag_of v g) c.puts ∙ get_or-set_other p.pool.tags frame g tag false ne

span_word_here : (p : Paging) (stored : List Parts) (pool : Pool) (frame at count : ℕ) (word : ℕ → Parts) (tag : Bool) → PutsSpan p pool frame at count word tag → (i : ℕ) → i < count → word_at (with_pool p pool) stored (at + i) ≡ word i
span_word_here p stored pool frame at count word tag c i low =
    let room : at % 256 + count ≤ 256 = c.page in
    let page : (at + i) / 256 ≡ at / 256 = omega arith in
    let place : 256 * frame + (at + i) % 256 ≡ 256 * frame + at % 256 + i = omega arith in
    ap (λ n. word_in pool stored (at + i) (place_at p.places n)) page ∙ ap (word_in pool stored (at + i)) c.here ∙ ap (λ n. get_or pool.words n null_word) place ∙ c.words.here i low

span_word_other : (p : Paging) (stored : List Parts) (pool : Pool) (frame at count : ℕ) (word : ℕ → Parts) (tag : Bool) → IsPaged p stored → PutsSpan p pool frame at count word tag → (other : ℕ) → ((at ≤ other) × (other < at + count) → ⊥)
    → word_at (with_pool p pool) stored other ≡ word_at p stored other
span_word_other p stored pool frame at count word tag h c other out =
    word_kept p.pool pool stored stored other (place_at p.places (other / 256))
    (λ g e. c.words.others (256 * g + other % 256) (λ x.
    let room : at % 256 + count ≤ 256 = c.page in
    let low : 256 * frame + at % 256 ≤ 256 * g + other % 256 = x.0 in
    let high : 256 * g + other % 256 < 256 * frame + at % 256 + count = x.1 in
    let g_is : g ≡ frame = omega arith in
    let page : other / 256 ≡ at / 256 = one_page p stored (at / 256) frame h c.here (other / 256) g e g_is in
    out (omega arith, omega arith)))
    (λ _. refl)

span_paged : (p : Paging) (stored : List Parts) (pool : Pool) (frame at count : ℕ) (word : ℕ → Parts) (tag : Bool) → IsPaged p stored → PutsSpan p pool frame at count word tag → IsPaged (with_pool p pool) stored
span_paged p stored pool frame at count word tag h c =
    let used_is : pool.used ≡ p.pool.used = ap (λ (v : Pool). v.used) c.puts in
    repooled p stored pool h record {
      sound = c.sound;
      pages = ap (λ (v : Pool). v.pages) c.puts;
      used_back = λ g m. subst (λ (xs : List ℕ). Contains xs g) used_is m;
      used_on = λ g m. subst (λ (xs : List ℕ). Contains xs g) (sym used_is) m;
      tagged = λ q g e l pos w.
          elim (in_or_out at count (256 * q + w.0)) [
            | inl there ↦ (
                let room : at % 256 + count ≤ 256 = c.page in
                let k : w.0 < 256 = w.1.0 in
                let from : at ≤ 256 * q + w.0 = there.0 in
                let to : 256 * q + w.0 < at + count = there.1 in
                let page : q ≡ at / 256 = omega arith in
                let g_is : g ≡ frame = frame_same g frame (sym e ∙ ap (place_at p.places) page ∙ c.here) in
                let i : ℕ = 256 * q + w.0 - at in
                let low : i < count = omega arith in
                let same : at + i ≡ 256 * q + w.0 = omega arith in
                let young : level_of_word p.levels (word i) ≡ l = ap (level_of_word p.levels) (sym (span_word_here p stored pool frame at count word tag c i low) ∙ ap (word_at (with_pool p pool) stored) same) ∙ w.1.1 in
                ap (tag_of pool) g_is ∙ span_tag_here p stored pool frame at count word tag h c ∙ c.tagged.1 (inr (i, (low, omega arith))))
            | inr out ↦ (
                let t = h.tagged q g e l pos (w.0, (w.1.0, ap (level_of_word p.levels) (sym (span_word_other p stored pool frame at count word tag h c (256 * q + w.0) out)) ∙ w.1.1)) in
                elim (cases_eq g frame) [
                  | inl g_is ↦ ap (tag_of pool) g_is ∙ span_tag_here p stored pool frame at count word tag h c ∙ c.tagged.1 (inl (ap (tag_of p.pool) (sym g_is) ∙ t))
                  | inr other ↦ span_tag_other p pool frame at count word tag c g other ∙ t
                ])
          ];
    }

span_marks_here : (p : Paging) (stored : List Parts) (pool : Pool) (frame at count : ℕ) (word : ℕ → Parts) (tag : Bool) → IsPaged p stored → PutsSpan p pool frame at count word tag → marks_of (with_pool p pool) (at / 256) ≡ marks_of_tag p.top tag
span_marks_here p stored pool frame at count word tag h c =
    ap (marks_in (with_pool p pool) (at / 256)) c.here ∙ ap (marks_of_tag p.top) (span_tag_here p stored pool frame at count word tag h c)

span_marks_other : (p : Paging) (stored : List Parts) (pool : Pool) (frame at count : ℕ) (word : ℕ → Parts) (tag : Bool) → IsPaged p stored → PutsSpan p pool frame at count word tag → (q : ℕ) → q ≢ at / 256
    → marks_of (with_pool p pool) q ≡ marks_of p q
span_marks_other p stored pool frame at count word tag h c q ne =
    marks_kept p (with_pool p pool) q (place_at p.places q) refl (λ g e. span_tag_other p pool frame at count word tag c g (λ f. ne (one_page p stored (at / 256) frame h c.here q g e f))) refl

-- the word at an address, or NULL past the end
word_read : (p : Paging) (stored : List Parts) (at : ℕ) → at < 256 * size_of p → get_or (words_of p stored) at null_word ≡ word_at p stored at
word_read p stored at low = get_or-map-range_with_len (word_at p stored) 0 (256 * size_of p) at at null_word low (omega arith)

span_covers : (p : Paging) (stored : List Parts) (pool : Pool) (frame at count : ℕ) (word : ℕ → Parts) (tag : Bool) → IsPaged p stored → PutsSpan p pool frame at count word tag
    → Covers (store_of p stored) (store_of (with_pool p pool) stored) at count word
span_covers p stored pool frame at count word tag h c =
    let p' : Paging = with_pool p pool in
    let room : at % 256 + count ≤ 256 = c.page in
    let inside : at / 256 < size_of p = framed_inside p.places (at / 256) frame c.here in
    record {
      words = record {
        size = words_size p' stored ∙ sym (words_size p stored);
        here = λ i low. word_read p' stored (at + i) (omega arith) ∙ span_word_here p stored pool frame at count word tag c i low;
        others = λ a out.
            elim (cases_lt a (256 * size_of p)) [
              | inl low ↦ word_read p' stored a low ∙ span_word_other p stored pool frame at count word tag h c a out ∙ sym (word_read p stored a low)
              | inr past ↦ get_or-eq_default (words_of p' stored) null_word {n = a} (omega (arith, words_size p' stored)) ∙ sym (get_or-eq_default (words_of p stored) null_word {n = a} (omega (arith, words_size p stored)))
            ];
      };
      levels = refl;
      top = refl;
      unmarked = λ q m old.
          elim (cases_eq q (at / 256)) [
            | inl f ↦ ap (marks_of p') f ∙ span_marks_here p stored pool frame at count word tag h c ∙ elim (cases_Bool tag) [
              | inl on ↦ elim (c.tagged.0 on) [
                | inl was ↦ ap (marks_of_tag p.top) (on ∙ sym was) ∙ sym (ap (marks_in p (at / 256)) c.here) ∙ ap (marks_of p) (sym f) ∙ m
                | inr young ↦ absurd (let l = old f young.0 young.1.0 in let n = young.1.1 in omega arith)
              ]
              | inr off ↦ ap (marks_of_tag p.top) off
            ]
            | inr ne ↦ span_marks_other p stored pool frame at count word tag h c q ne ∙ m
          ];
    }

-- a use of a resident page keeps how many are resident
touch_count : (p : Paging) (stored : List Parts) (pool : Pool) (frame : ℕ) → IsPaged p stored → Contains p.pool.used frame → pool ≡ with_latest p.pool frame → length (resident_of (with_pool p pool)) ≡ length (resident_of p)
touch_count p stored pool frame h used is =
    let short = length-without frame p.pool.used used h.pool.used_once in
    let long : length (without frame p.pool.used ++ frame ∷ []) ≡ length (without frame p.pool.used) + 1 = simp length-append (omega arith) in
    let now : length pool.used ≡ length (without frame p.pool.used ++ frame ∷ []) = ap (λ (v : Pool). length v.used) is in
    length-map pool.used (page_at pool) ∙ (let e : length pool.used ≡ length p.pool.used = omega arith in e) ∙ sym (length-map p.pool.used (page_at p.pool))

-- what a use of a resident page leaves unchanged
pub record Touches (p : Paging) (stored : List Parts) (p' : Paging) (page : ℕ) : Type 0 where
  pub keeps : Keeps p stored p' stored
  pub places : p'.places ≡ p.places
  pub order : resident_of p' ≡ latest page (resident_of p)
  pub kept : (q : ℕ) → Contains (resident_of p) q → Contains (resident_of p') q
  pub many : length (resident_of p') ≡ length (resident_of p)
  pub marks : (q : ℕ) → marks_of p' q ≡ marks_of p q

pub touches : (p : Paging) (stored : List Parts) (pool : Pool) (frame page : ℕ) → IsPaged p stored → place_at p.places page ≡ InFrame frame → pool ≡ with_latest p.pool frame → IsPool pool → Touches p stored (with_pool p pool) page
touches p stored pool frame page h here is sound =
    let used = (h.framed page frame here).0 in
    let there = resident_framed p stored page frame h here in
    let uses = touch_uses p stored pool frame page h here is in
    record {
      keeps = touch_keeps p stored pool frame h used is sound;
      places = refl;
      order = uses.order.again there;
      kept = used_kept _ _ _ page uses.order there;
      many = touch_count p stored pool frame h used is;
      marks = touch_marks p pool frame is;
    }

-- words are stored on a page once it was used
pub laid : (p mid : Paging) (stored : List Parts) (pool : Pool) (frame at count : ℕ) (word : ℕ → Parts) (tag : Bool) (order : List ℕ) → Keeps p stored mid stored → mid.places ≡ p.places → resident_of mid ≡ order
    → ((q : ℕ) → Contains (resident_of p) q → Contains (resident_of mid) q) → length (resident_of mid) ≡ length (resident_of p) → ((q : ℕ) → marks_of mid q ≡ marks_of p q)
    → PutsSpan mid pool frame at count word tag → Lays p stored (with_pool mid pool) at count word order
laid p mid stored pool frame at count word tag order keeps places is kept many marks c =
    let same : resident_of (with_pool mid pool) ≡ resident_of mid = ap (λ (v : Pool). map (page_at v) v.used) c.puts in
    record {
      paged = span_paged mid stored pool frame at count word tag keeps.paged c;
      covers = covers_after (store_of p stored) (store_of mid stored) (store_of (with_pool mid pool) stored) at count word keeps.stays (span_covers mid stored pool frame at count word tag keeps.paged c);
      uses = record {
        frames = ap (λ (v : Pool). length v.pages) c.puts ∙ keeps.frames;
        order = same ∙ is;
        places = places;
        others = λ q ne. span_marks_other mid stored pool frame at count word tag keeps.paged c q ne ∙ marks q;
      };
      kept = λ q m. subst (λ (xs : List ℕ). Contains xs q) (sym same) (kept q m);
      many = ap length same ∙ many;
    }

-- the tag over words of a frame
pub frame_tags : (old new : Pool) (ws : List Parts) (now levels : List ℕ) (frame offset count : ℕ) (was tag : Bool) → length ws ≡ 256 → ((k : ℕ) → k < 256 → slice_get ws k ≡ slice_get old.words (256 * frame + k)) → offset + count ≤ 256
    → now ≡ levels → was ≡ tag_of old frame → IsTrue tag ↔ (IsTrue was ⊎ HasEphemeral (slice_range ws offset (offset + count)) now) → new ≡ record old { tags = slice_set old.tags frame tag } → TagsSpan old new levels frame offset count tag
frame_tags old new ws now levels frame offset count was tag size words room now_is was_is is set =
    let word : ℕ → Parts = λ i. get_or old.words (256 * frame + offset + i) null_word in
    let here : (i : ℕ) → i < count → get_or ws (offset + i) null_word ≡ word i = λ i low.
    let place : 256 * frame + (offset + i) ≡ 256 * frame + offset + i = omega arith in
    get_or_same ws old.words (offset + i) (256 * frame + (offset + i)) null_word (words (offset + i) (omega arith)) ∙ ap (λ n. get_or old.words n null_word) place in
    let young : IsTrue tag ↔ (IsTrue was ⊎ HasYoung now count word) = tagged_over was tag ws now offset count word (omega arith) here is in
    let over : IsTrue tag ↔ (IsTrue was ⊎ HasYoung levels count word) = subst (λ (ls : List ℕ). IsTrue tag ↔ (IsTrue was ⊎ HasYoung ls count word)) now_is young in
    record {
      exact = subst (λ (b : Bool). IsTrue tag ↔ (IsTrue b ⊎ HasYoung levels count word)) was_is over;
      set = set;
    }

-- the same words have the same levels
young_alike : (levels : List ℕ) (count : ℕ) (word word' : ℕ → Parts) → ((i : ℕ) → i < count → word i ≡ word' i) → HasYoung levels count word → HasYoung levels count word'
young_alike levels count word word' same y = (y.0, (y.1.0, subst (λ (w : Parts). 0 < level_of_word levels w) (same y.0 y.1.0) y.1.1))

either_alike : (A B : Type 0) (levels : List ℕ) (count : ℕ) (word word' : ℕ → Parts) → ((i : ℕ) → i < count → word i ≡ word' i) → A ↔ (B ⊎ HasYoung levels count word) → A ↔ (B ⊎ HasYoung levels count word')
either_alike A B levels count word word' same e = (
  (λ a. elim (e.0 a) [ inl b ↦ inl b | inr y ↦ inr (young_alike levels count word word' same y) ]),
  (λ d. e.1 (elim d [ inl b ↦ inl b | inr y ↦ inr (young_alike levels count word' word (λ i low. sym (same i low)) y) ])),
)

-- words are written, and then the tag is set
pub puts_span : (p : Paging) (mid pool : Pool) (frame at count : ℕ) (word : ℕ → Parts) (now : List ℕ) (tag : Bool) → place_at p.places (at / 256) ≡ InFrame frame → at % 256 + count ≤ 256 → FillsSpan p.pool.words mid.words (256 * frame + at % 256) count word
    → mid ≡ (let v : Pool = record p.pool { words = mid.words } in v) → now ≡ p.levels → IsTrue tag ↔ (IsTrue (tag_of mid frame) ⊎ HasYoung now count word) → pool ≡ (let v : Pool = record mid { tags = slice_set mid.tags frame tag } in v) → IsPool pool
    → PutsSpan p pool frame at count word tag
puts_span p mid pool frame at count word now tag here page fills mid_is now_is exact pool_is sound =
    let words_are : pool.words ≡ mid.words = ap (λ (v : Pool). v.words) pool_is in
    let was : tag_of mid frame ≡ tag_of p.pool frame = ap (λ (v : Pool). tag_of v frame) mid_is in
    let over : IsTrue tag ↔ (IsTrue (tag_of mid frame) ⊎ HasYoung p.levels count word) = subst (λ (ls : List ℕ). IsTrue tag ↔ (IsTrue (tag_of mid frame) ⊎ HasYoung ls count word)) now_is exact in
    record {
      here = here;
      page = page;
      sound = sound;
      words = subst (λ (ws : List Parts). FillsSpan p.pool.words ws (256 * frame + at % 256) count word) (sym words_are) fills;
      puts = pool_is ∙ ap (λ (v : Pool). (let w : Pool = record v { tags = slice_set v.tags frame tag } in w)) mid_is
          ∙ ap (λ (ws : List Parts). (let w : Pool = record p.pool { words = ws; tags = slice_set p.pool.tags frame tag } in w)) (sym words_are);
      tagged = subst (λ (b : Bool). IsTrue tag ↔ (IsTrue b ⊎ HasYoung p.levels count word)) was over;
    }

-- a use of a resident page, given the result of the pager
pub used_by : (p p' : Paging) (stored : List Parts) (frame page : ℕ) → IsPaged p stored → place_at p.places page ≡ InFrame frame → p' ≡ with_pool p (with_latest p.pool frame) → IsPool p'.pool → Touches p stored p' page
used_by p p' stored frame page h here is sound =
    let pool_is : p'.pool ≡ with_latest p.pool frame = ap (λ (v : Paging). v.pool) is in
    let whole : with_pool p p'.pool ≡ p' = ap (with_pool p) pool_is ∙ sym is in
    subst (λ (v : Paging). Touches p stored v page) whole (touches p stored p'.pool frame page h here pool_is sound)

-- one use after another
both_keep : (p mid p' : Paging) (stored : List Parts) → Keeps p stored mid stored → Keeps mid stored p' stored → Keeps p stored p' stored
both_keep p mid p' stored a b = record {
  paged = b.paged;
  size = b.size ∙ a.size;
  frames = b.frames ∙ a.frames;
  stays = record {
    words = b.stays.words ∙ a.stays.words;
    levels = b.stays.levels ∙ a.stays.levels;
    top = b.stays.top ∙ a.stays.top;
    unmarked = λ q m. b.stays.unmarked q (a.stays.unmarked q m);
  };
}

-- a word of a page in a frame
word_span : (p : Paging) (stored : List Parts) (frame from count i : ℕ) → place_at p.places (from / 256) ≡ InFrame frame → from % 256 + count ≤ 256 → i < count → get_or (words_of p stored) (from + i) null_word ≡ get_or p.pool.words (256 * frame + from % 256 + i) null_word
word_span p stored frame from count i here room low =
    let inside : from / 256 < size_of p = framed_inside p.places (from / 256) frame here in
    let page : (from + i) / 256 ≡ from / 256 = omega arith in
    let place : 256 * frame + (from + i) % 256 ≡ 256 * frame + from % 256 + i = omega arith in
    word_read p stored (from + i) (omega arith) ∙ ap (λ n. word_in p.pool stored (from + i) (place_at p.places n)) page ∙ ap (word_in p.pool stored (from + i)) here ∙ ap (λ n. get_or p.pool.words n null_word) place

-- words are copied: two pages are used, then the words of one frame are written to another, and then its tag is set
pub copied_on : (p one two last : Paging) (stored : List Parts) (mid : Pool) (now : List ℕ) (from_frame to_frame from to count : ℕ) (tag : Bool) → IsPaged p stored → from % 256 + count ≤ 256 → to % 256 + count ≤ 256
    → place_at p.places (from / 256) ≡ InFrame from_frame → one ≡ with_pool p (with_latest p.pool from_frame) → IsPool one.pool → place_at one.places (to / 256) ≡ InFrame to_frame → two ≡ with_pool one (with_latest one.pool to_frame) → IsPool two.pool
    → FillsSpan two.pool.words mid.words (256 * to_frame + to % 256) count (λ i. get_or two.pool.words (256 * from_frame + from % 256 + i) null_word) → mid ≡ (let v : Pool = record (two.pool) { words = mid.words } in v) → now ≡ two.levels
    → TagsSpan mid last.pool now to_frame (to % 256) count tag → IsPool last.pool → last ≡ with_pool two last.pool
    → Lays p stored last to count (λ i. get_or (words_of p stored) (from + i) null_word) (latest (to / 256) (latest (from / 256) (resident_of p)))
copied_on p one two last stored mid now from_frame to_frame from to count tag h from_page to_page from_here one_is one_sound to_here two_is two_sound fills mid_is now_is tags sound last_is =
    let a = used_by p one stored from_frame (from / 256) h from_here one_is one_sound in
    let b = used_by one two stored to_frame (to / 256) a.keeps.paged to_here two_is two_sound in
    let words_are : two.pool.words ≡ p.pool.words = ap (λ (v : Paging). v.pool.words) two_is ∙ ap (λ (v : Paging). v.pool.words) one_is in
    let word : ℕ → Parts = λ i. get_or two.pool.words (256 * from_frame + from % 256 + i) null_word in
    let exact : IsTrue tag ↔ (IsTrue (tag_of mid to_frame) ⊎ HasYoung now count word) =
    either_alike (IsTrue tag) (IsTrue (tag_of mid to_frame)) now count (λ i. get_or mid.words (256 * to_frame + to % 256 + i) null_word) word (λ i low. fills.here i low) tags.exact in
    let puts = puts_span two mid last.pool to_frame to count word now tag (ap (λ (v : Paging). place_at v.places (to / 256)) two_is ∙ to_here) to_page fills mid_is now_is exact tags.set sound in
    let lays : Lays p stored (with_pool two last.pool) to count word (latest (to / 256) (latest (from / 256) (resident_of p))) = laid p two stored last.pool to_frame to count word tag (latest (to / 256) (latest (from / 256) (resident_of p)))
    (both_keep p one two stored a.keeps b.keeps) (b.places ∙ a.places) (b.order ∙ ap (latest (to / 256)) a.order) (λ q m. b.kept q (a.kept q m)) (b.many ∙ a.many) (λ q. b.marks q ∙ a.marks q) puts in
    let same : (i : ℕ) → i < count → word i ≡ get_or (words_of p stored) (from + i) null_word = λ i low.
    ap (λ (ws : List Parts). get_or ws (256 * from_frame + from % 256 + i) null_word) words_are ∙ sym (word_span p stored from_frame from count i from_here from_page low) in
    subst (λ (v : Paging). Lays p stored v to count (λ i. get_or (words_of p stored) (from + i) null_word) (latest (to / 256) (latest (from / 256) (resident_of p)))) (sym last_is)
    record {
      paged = lays.paged;
      covers = covers_alike (store_of p stored) (store_of (with_pool two last.pool) stored) to count word (λ i. get_or (words_of p stored) (from + i) null_word) same lays.covers;
      uses = lays.uses;
      kept = lays.kept;
      many = lays.many;
    }

-- one word is written many times: the page is used, then the word is written, and then the tag is set
pub filled_on : (p one : Paging) (stored : List Parts) (mid pool : Pool) (now : List ℕ) (frame at count : ℕ) (word : Parts) (was tag : Bool) → IsPaged p stored → 0 < count → at % 256 + count ≤ 256
    → place_at p.places (at / 256) ≡ InFrame frame → one ≡ with_pool p (with_latest p.pool frame) → IsPool one.pool
    → FillsSpan one.pool.words mid.words (256 * frame + at % 256) count (λ _. word) → mid ≡ (let v : Pool = record (one.pool) { words = mid.words } in v) → now ≡ one.levels
    → was ≡ tag_of mid frame → tag ≡ (was || nat_lt 0 (level_of_word now word)) → pool ≡ (let v : Pool = record mid { tags = slice_set mid.tags frame tag } in v) → IsPool pool
    → Lays p stored (with_pool one pool) at count (λ _. word) (latest (at / 256) (resident_of p))
filled_on p one stored mid pool now frame at count word was tag h some page here one_is one_sound fills mid_is now_is was_is tag_is pool_is sound =
    let a = used_by p one stored frame (at / 256) h here one_is one_sound in
    let exact : IsTrue tag ↔ (IsTrue (tag_of mid frame) ⊎ HasYoung now count (λ _. word)) = tagged_alike (tag_of mid frame) tag now count word some (tag_is ∙ ap (λ (b : Bool). b || nat_lt 0 (level_of_word now word)) was_is) in
    let puts = puts_span one mid pool frame at count (λ _. word) now tag (ap (λ (v : Paging). place_at v.places (at / 256)) one_is ∙ here) page fills mid_is now_is exact pool_is sound in
    laid p one stored pool frame at count (λ _. word) tag (latest (at / 256) (resident_of p)) a.keeps a.places a.order a.kept a.many a.marks puts
