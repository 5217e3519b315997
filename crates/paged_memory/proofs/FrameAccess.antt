-- Reads, stores and tags of a page in a frame.
use Rattle.std.proofs.Common.{ℕ, ◌≡◌, ◌≢◌, ◌+◌, ◌-◌, ◌*◌, ◌/◌, ◌%◌, ◌<◌, ◌≤◌, Bool, true, false, not, eqb, ◌||◌, nat_lt, List, Option, Some, length, length-set, length-take, length-drop, drop, slice_get, slice_set, slice_range, get_or, get_or-set_same, get_or-set_other, refl, sym, ap, subst, ◌∙◌, arith, inl, inr}
use Rattle.std.specs.Prelude.{Contains, map}
use Rattle.std.proofs.Math.Bool.{or-true, or-false}
use Rattle.std.proofs.lemmas.Bool.{cases_eq, lt-ltb, or_left, or_right}
use Rattle.std.proofs.lemmas.Option.{slice_get_within}
use Rattle.std.proofs.lemmas.List.FromFn.{get_or-map-range_with_len, fill_by_all}
use Rattle.std.proofs.lemmas.Nat.Bits.{bit_at_ones}
use Rattle.store_word.specs.Words.{Parts, null_word}
use Rattle.store_word.specs.Sets.{HasLevel}
use Rattle.mem_port.specs.Store.{Store, level_of_word, StoresNothing, Stores, StoresTwo, IsMemory, IsSound}
use Rattle.mem_port.specs.Reading.{Passes}
use Rattle.mem_port.specs.Tags.{marks_of_tag}
use Rattle.mem_port.proofs.Lookups.{get-slice_range}
use Rattle.mem_port.proofs.Passing.{passes_at}
use Rattle.page_map.specs.declared.place.PagePlace.{PagePlace}
use Rattle.page_map.specs.declared.place.PagePlace.TheVariants.{Empty, InFrame, Swapped}
use Rattle.page_map.specs.Map.{place_at}
use Rattle.frame_pool.specs.Pool.{Pool, IsPool, page_at, tag_of}
use Rattle.paged_memory.specs.Paging.{Paging, stored_pool, StoresPair, word_in, word_at, size_of, words_of, marks_in, marks_of, store_of, resident_of, IsPaged}
use Rattle.paged_memory.specs.Order.{HasLeft, Uses}
use Rattle.paged_memory.proofs.Places.{frame_same}
use Rattle.paged_memory.proofs.FrameChanges.{with_pool, repooled}
use Rattle.paged_memory.proofs.Words.{words_size, words_get, word_framed, word_kept, get_or_same, marks_kept, level_low}

pub frame_in : (p : Paging) (stored : List Parts) (page frame : ℕ) → IsPaged p stored → place_at p.places page ≡ InFrame frame → frame < length p.pool.pages
frame_in p stored page frame h e = h.pool.used_in frame (h.framed page frame e).0

-- a frame has one page
pub one_page : (p : Paging) (stored : List Parts) (page frame : ℕ) → IsPaged p stored → place_at p.places page ≡ InFrame frame → (q g : ℕ) → place_at p.places q ≡ InFrame g → g ≡ frame → q ≡ page
one_page p stored page frame h here q g e f = sym (h.framed q g e).1 ∙ ap (page_at p.pool) f ∙ (h.framed page frame here).1

-- what is read in a frame
pub read_framed : (p : Paging) (stored : List Parts) (at frame : ℕ) (word : Parts) → at < 256 * size_of p → place_at p.places (at / 256) ≡ InFrame frame → word ≡ get_or p.pool.words (256 * frame + at % 256) null_word → slice_get (words_of p stored) at ≡ Some word
read_framed p stored at frame word low here is = words_get p stored at low ∙ ap (λ (w : Parts). Some w) (ap (word_in p.pool stored at) here ∙ sym is)

-- the law of marks
sound_at : (p : Paging) (stored : List Parts) (at level : ℕ) (place : PagePlace) → IsPaged p stored → place_at p.places (at / 256) ≡ place → level_of_word p.levels (word_at p stored at) ≡ level → 0 < level → level ≤ p.top → HasLevel (marks_in p (at / 256) place) level
sound_at p stored at level Empty h e is pos low =
    let z : ◌≡◌ {A = ℕ} 0 level = ap (λ (q : PagePlace). level_of_word p.levels (word_in p.pool stored at q)) (sym e) ∙ is in absurd (omega arith)
sound_at p stored at level (InFrame f) h e is pos low =
    let whole : 256 * (at / 256) + at % 256 ≡ at = omega arith in
    let t = h.tagged (at / 256) f e level pos (at % 256, (omega arith, ap (λ n. level_of_word p.levels (word_at p stored n)) whole ∙ is)) in
    subst (λ b. HasLevel (marks_of_tag p.top b) level) (sym t) (bit_at_ones p.top (level - 1) (omega arith))
sound_at p stored at level Swapped h e is pos low =
    let whole : 256 * (at / 256) + at % 256 ≡ at = omega arith in
    (h.exact (at / 256) e level pos).1 (at % 256, (omega arith, ap (λ n. level_of_word p.levels (word_at p stored n)) whole ∙ is))

pub store_sound : (p : Paging) (stored : List Parts) (pages : ℕ) → IsPaged p stored → pages ≡ size_of p → IsSound (store_of p stored) pages
store_sound p stored pages h is = record {
  size = words_size p stored ∙ ap (λ n. 256 * n) (sym is);
  few = omega (arith, is, h.few);
  regions = h.regions ∙ sym is;
  low = h.low;
  deep = h.deep;
  marked = λ at word found young.
      let inside : at < 256 * size_of p = omega (arith, slice_get_within (words_of p stored) at word found, words_size p stored) in
      let both : ◌≡◌ {A = Option Parts} (Some (word_at p stored at)) (Some word) = sym (words_get p stored at inside) ∙ found in
      let same : word_at p stored at ≡ word = cc in
      sound_at p stored at (level_of_word p.levels word) (place_at p.places (at / 256)) h refl (ap (level_of_word p.levels) same) young (level_low p.levels p.top word h.low);
}

pub paged_sound : (p : Paging) (stored : List Parts) → IsPaged p stored → IsMemory (store_of p stored)
paged_sound p stored h = store_sound p stored (length (words_of p stored) / 256) h (omega (arith, words_size p stored))

-- a word is stored into the frame of its page, which has the tag if it had it or the word has an address of level 1 or more
pub record PutsWord (p : Paging) (stored : List Parts) (pool : Pool) (frame at : ℕ) (word : Parts) (tag : Bool) : Type 0 where
  pub here : place_at p.places (at / 256) ≡ InFrame frame
  pub inside : at < 256 * size_of p
  pub sound : IsPool pool
  pub stores : pool ≡ stored_pool p.pool frame (at % 256) word tag
  pub tagged : tag ≡ (tag_of p.pool frame || nat_lt 0 (level_of_word p.levels word))

put_tag_here : (p : Paging) (stored : List Parts) (pool : Pool) (frame at : ℕ) (word : Parts) (tag : Bool) → IsPaged p stored → PutsWord p stored pool frame at word tag → tag_of pool frame ≡ tag
put_tag_here p stored pool frame at word tag h c =
    let low = frame_in p stored (at / 256) frame h c.here in
    ap (λ (v : Pool). tag_of v frame) c.stores ∙ get_or-set_same p.pool.tags frame tag false (omega (arith, low, h.pool.tag_each))

put_tag_other : (p : Paging) (stored : List Parts) (pool : Pool) (frame at : ℕ) (word : Parts) (tag : Bool) → PutsWord p stored pool frame at word tag → (g : ℕ) → g ≢ frame → tag_of pool g ≡ tag_of p.pool g
put_tag_other p stored pool frame at word tag c g ne = ap (λ (v : Pool). tag_of v g) c.stores ∙ get_or-set_other p.pool.tags frame g tag false ne

put_word_here : (p : Paging) (stored : List Parts) (pool : Pool) (frame at : ℕ) (word : Parts) (tag : Bool) → IsPaged p stored → PutsWord p stored pool frame at word tag → word_at (with_pool p pool) stored at ≡ word
put_word_here p stored pool frame at word tag h c =
    let low = frame_in p stored (at / 256) frame h c.here in
    ap (word_in pool stored at) c.here ∙ ap (λ (v : Pool). get_or v.words (256 * frame + at % 256) null_word) c.stores
    ∙ get_or-set_same p.pool.words (256 * frame + at % 256) word null_word (omega (arith, low, h.pool.words_each))

put_word_other : (p : Paging) (stored : List Parts) (pool : Pool) (frame at : ℕ) (word : Parts) (tag : Bool) → IsPaged p stored → PutsWord p stored pool frame at word tag → (other : ℕ) → other ≢ at
    → word_at (with_pool p pool) stored other ≡ word_at p stored other
put_word_other p stored pool frame at word tag h c other ne =
    word_kept p.pool pool stored stored other (place_at p.places (other / 256))
    (λ g e. ap (λ (v : Pool). get_or v.words (256 * g + other % 256) null_word) c.stores
    ∙ get_or-set_other p.pool.words (256 * frame + at % 256) (256 * g + other % 256) word null_word (λ f.
    let g_is : g ≡ frame = omega (arith, f) in
    let page = one_page p stored (at / 256) frame h c.here (other / 256) g e g_is in
    ne (omega (arith, f, g_is, page))))
    (λ _. refl)

pub put_paged : (p : Paging) (stored : List Parts) (pool : Pool) (frame at : ℕ) (word : Parts) (tag : Bool) → IsPaged p stored → PutsWord p stored pool frame at word tag → IsPaged (with_pool p pool) stored
put_paged p stored pool frame at word tag h c =
    let used_is : pool.used ≡ p.pool.used = ap (λ (v : Pool). v.used) c.stores in
    repooled p stored pool h record {
      sound = c.sound;
      pages = ap (λ (v : Pool). v.pages) c.stores;
      used_back = λ g m. subst (λ (xs : List ℕ). Contains xs g) used_is m;
      used_on = λ g m. subst (λ (xs : List ℕ). Contains xs g) (sym used_is) m;
      tagged = λ q g e l pos w.
          elim (cases_eq (256 * q + w.0) at) [
            | inl f ↦ (
                let there : q ≡ at / 256 = omega (arith, w.1.0, f) in
                let g_is : g ≡ frame = frame_same g frame (sym e ∙ ap (place_at p.places) there ∙ c.here) in
                let young : level_of_word p.levels word ≡ l = ap (level_of_word p.levels) (sym (put_word_here p stored pool frame at word tag h c) ∙ ap (word_at (with_pool p pool) stored) (sym f)) ∙ w.1.1 in
                ap (tag_of pool) g_is ∙ put_tag_here p stored pool frame at word tag h c ∙ c.tagged ∙ or_right _ _ (lt-ltb 0 (level_of_word p.levels word) (omega (arith, young, pos))))
            | inr ne ↦ (
                let t = h.tagged q g e l pos (w.0, (w.1.0, ap (level_of_word p.levels) (sym (put_word_other p stored pool frame at word tag h c (256 * q + w.0) ne)) ∙ w.1.1)) in
                elim (cases_eq g frame) [
                  | inl g_is ↦ ap (tag_of pool) g_is ∙ put_tag_here p stored pool frame at word tag h c ∙ c.tagged ∙ or_left _ _ (ap (tag_of p.pool) (sym g_is) ∙ t)
                  | inr other ↦ put_tag_other p stored pool frame at word tag c g other ∙ t
                ])
          ];
    }

put_marks_here : (p : Paging) (stored : List Parts) (pool : Pool) (frame at : ℕ) (word : Parts) (tag : Bool) → IsPaged p stored → PutsWord p stored pool frame at word tag
    → marks_of (with_pool p pool) (at / 256) ≡ marks_of_tag p.top (tag_of p.pool frame || nat_lt 0 (level_of_word p.levels word))
put_marks_here p stored pool frame at word tag h c =
    ap (marks_in (with_pool p pool) (at / 256)) c.here ∙ ap (marks_of_tag p.top) (put_tag_here p stored pool frame at word tag h c ∙ c.tagged)

put_marks_other : (p : Paging) (stored : List Parts) (pool : Pool) (frame at : ℕ) (word : Parts) (tag : Bool) → IsPaged p stored → PutsWord p stored pool frame at word tag → (q : ℕ) → q ≢ at / 256
    → marks_of (with_pool p pool) q ≡ marks_of p q
put_marks_other p stored pool frame at word tag h c q ne =
    marks_kept p (with_pool p pool) q (place_at p.places q) refl (λ g e. put_tag_other p stored pool frame at word tag c g (λ f. ne (one_page p stored (at / 256) frame h c.here q g e f))) refl

pub put_stores : (p : Paging) (stored : List Parts) (pool : Pool) (frame at : ℕ) (word : Parts) (tag : Bool) → IsPaged p stored → PutsWord p stored pool frame at word tag
    → Stores (store_of p stored) (store_of (with_pool p pool) stored) at word
put_stores p stored pool frame at word tag h c =
    let p' : Paging = with_pool p pool in
    record {
      words = sym (fill_by_all (word_at p' stored) (slice_set (words_of p stored) at word) (256 * size_of p) null_word (length-set (words_of p stored) at word ∙ words_size p stored)
          (λ k k_low. elim (cases_eq k at) [
            | inl f ↦ ap (λ n. get_or (slice_set (words_of p stored) at word) n null_word) f ∙ get_or-set_same (words_of p stored) at word null_word (omega (arith, c.inside, words_size p stored))
                ∙ sym (put_word_here p stored pool frame at word tag h c) ∙ ap (word_at p' stored) (sym f)
            | inr ne ↦ get_or-set_other (words_of p stored) at k word null_word ne ∙ get_or-map-range_with_len (word_at p stored) 0 (256 * size_of p) k k null_word k_low (omega arith)
                ∙ sym (put_word_other p stored pool frame at word tag h c k ne)
          ]));
      levels = refl;
      top = refl;
      unmarked = λ q m old.
          elim (cases_eq q (at / 256)) [
            | inl f ↦ (
                let no_level : nat_lt 0 (level_of_word p.levels word) ≡ false = ap (nat_lt 0) (old f) in
                ap (marks_of p') f ∙ put_marks_here p stored pool frame at word tag h c
                ∙ ap (marks_of_tag p.top) (ap (λ b. tag_of p.pool frame || b) no_level ∙ or-false (tag_of p.pool frame))
                ∙ sym (ap (marks_in p (at / 256)) c.here) ∙ ap (marks_of p) (sym f) ∙ m)
            | inr ne ↦ put_marks_other p stored pool frame at word tag h c q ne ∙ m
          ];
    }

-- a use that stores a word, perhaps after others
pub put_uses : (p mid : Paging) (stored : List Parts) (pool : Pool) (frame at : ℕ) (word : Parts) (tag before : Bool) → IsPaged mid stored → mid.levels ≡ p.levels → mid.top ≡ p.top → PutsWord mid stored pool frame at word tag → Uses p mid (at / 256) before
    → Uses p (with_pool mid pool) (at / 256) (before || nat_lt 0 (level_of_word p.levels word))
put_uses p mid stored pool frame at word tag before h levels top c u =
    let order : resident_of (with_pool mid pool) ≡ resident_of mid = ap (λ (v : Pool). map (page_at v) v.used) c.stores in
    let left : (q : ℕ) → HasLeft p (with_pool mid pool) q → HasLeft p mid q = λ q l. (l.0, λ m. l.1 (subst (λ (xs : List ℕ). Contains xs q) (sym order) m)) in
    let left_back : (q : ℕ) → HasLeft p mid q → HasLeft p (with_pool mid pool) q = λ q l. (l.0, λ m. l.1 (subst (λ (xs : List ℕ). Contains xs q) order m)) in
    let was : marks_of_tag p.top (tag_of mid.pool frame) ≡ marks_of_tag p.top (before || not (eqb (marks_of p (at / 256)) 0)) =
    ap (λ n. marks_of_tag n (tag_of mid.pool frame)) (sym top) ∙ sym (ap (marks_in mid (at / 256)) c.here) ∙ u.tag in
    let young : nat_lt 0 (level_of_word mid.levels word) ≡ nat_lt 0 (level_of_word p.levels word) = ap (λ (ls : List ℕ). nat_lt 0 (level_of_word ls word)) levels in
    record {
      frames = ap (λ (v : Pool). length v.pages) c.stores ∙ u.frames;
      order = record { again = λ m. order ∙ u.order.again m; room = λ off few. order ∙ u.order.room off few; full = λ off many. order ∙ u.order.full off many };
      tag = put_marks_here mid stored pool frame at word tag h c ∙ ap (λ n. marks_of_tag n (tag_of mid.pool frame || nat_lt 0 (level_of_word mid.levels word))) top
          ∙ ap (λ b. marks_of_tag p.top (tag_of mid.pool frame || b)) young ∙ either (nat_lt 0 (level_of_word p.levels word)) was;
      gone = λ q l. u.gone q (left q l);
      others = λ q ne off. put_marks_other mid stored pool frame at word tag h c q ne ∙ u.others q ne (λ l. off (left_back q l));
    }
  where
    either : (y : Bool) → marks_of_tag p.top (tag_of mid.pool frame) ≡ marks_of_tag p.top (before || not (eqb (marks_of p (at / 256)) 0))
        → marks_of_tag p.top (tag_of mid.pool frame || y) ≡ marks_of_tag p.top ((before || y) || not (eqb (marks_of p (at / 256)) 0))
    either true was = ap (marks_of_tag p.top) (or-true (tag_of mid.pool frame)) ∙ sym (ap (λ b. marks_of_tag p.top (b || not (eqb (marks_of p (at / 256)) 0))) (or-true before))
    either false was = ap (marks_of_tag p.top) (or-false (tag_of mid.pool frame)) ∙ was ∙ sym (ap (λ b. marks_of_tag p.top (b || not (eqb (marks_of p (at / 256)) 0))) (or-false before))

pub stores_after : (a b c : Store) (at : ℕ) (word : Parts) → StoresNothing a b → Stores b c at word → Stores a c at word
stores_after a b c at word x y = record {
  words = y.words ∙ ap (λ (ws : List Parts). slice_set ws at word) x.words;
  levels = y.levels ∙ x.levels;
  top = y.top ∙ x.top;
  unmarked = λ page none old. y.unmarked page (x.unmarked page none) (λ e. ap (λ (ls : List ℕ). level_of_word ls word) x.levels ∙ old e);
}

-- a word that is stored into the frame of its page
pub puts_word : (p : Paging) (stored : List Parts) (pool : Pool) (frame at : ℕ) (word : Parts) → place_at p.places (at / 256) ≡ InFrame frame → at < 256 * size_of p → IsPool pool
    → pool ≡ stored_pool p.pool frame (at % 256) word (tag_of p.pool frame || nat_lt 0 (level_of_word p.levels word)) → PutsWord p stored pool frame at word (tag_of p.pool frame || nat_lt 0 (level_of_word p.levels word))
puts_word p stored pool frame at word here inside sound is = record { here = here; inside = inside; sound = sound; stores = is; tagged = refl }

-- words of a page that were read in its frame, up to one that is wanted
pub passes_framed : (p : Paging) (stored : List Parts) (words : List Parts) (wanted : Parts → Type 0) (at frame count passed : ℕ) → at % 256 + count ≤ 256 → at + count ≤ 256 * size_of p → place_at p.places (at / 256) ≡ InFrame frame → length words ≡ 256
    → ((k : ℕ) → k < 256 → slice_get words k ≡ slice_get p.pool.words (256 * frame + k)) → Passes (slice_range words (at % 256) (at % 256 + count)) wanted 0 (length (slice_range words (at % 256) (at % 256 + count))) passed → Passes (words_of p stored) wanted at count passed
passes_framed p stored words wanted at frame count passed page inside here size same x =
    let part : length (slice_range words (at % 256) (at % 256 + count)) ≡ count = omega (arith, length-take (at % 256 + count - at % 256) (drop (at % 256) words), length-drop (at % 256) words) in
    passes_at (words_of p stored) (slice_range words (at % 256) (at % 256 + count)) wanted at count passed part
    (λ i low.
    let whole : 256 * (at / 256) + (at % 256 + i) ≡ at + i = omega arith in
    get_or_same (slice_range words (at % 256) (at % 256 + count)) p.pool.words i (256 * frame + (at % 256 + i)) null_word (get-slice_range words (at % 256) (at % 256 + count) i (omega arith) ∙ same (at % 256 + i) (omega arith))
    ∙ sym (word_framed p stored (at / 256) (at % 256 + i) frame (omega arith) here) ∙ ap (word_at p stored) whole
    ∙ sym (get_or-map-range_with_len (word_at p stored) 0 (256 * size_of p) (at + i) (at + i) null_word (omega arith) (omega arith))) x

-- words and tags of the frames are written
resized : (p : Pool) (words : List Parts) (tags : List Bool) → IsPool p → length words ≡ length p.words → length tags ≡ length p.tags → IsPool (record p { words = words; tags = tags })
resized p words tags h w t = record {
  few = h.few;
  tag_each = t ∙ h.tag_each;
  words_each = w ∙ h.words_each;
  each = h.each;
  free_in = h.free_in;
  used_in = h.used_in;
  apart = h.apart;
  free_once = h.free_once;
  used_once = h.used_once;
  all = h.all;
}

-- the frames once the tag of one is set if this holds
abbrev tag_or : Pool → ℕ → Bool → Pool
tag_or pool frame young = record pool { tags = slice_set pool.tags frame (tag_of pool frame || young) }

-- two words are stored, and then tagged one after the other
pub stores_pair : (old one two new : Pool) (levels : List ℕ) (frame offset : ℕ) (first second : Parts) → IsPool one
    → one ≡ record old { words = slice_set (slice_set old.words (256 * frame + offset) first) (256 * frame + (offset + 1)) second }
    → two ≡ record one { tags = slice_set one.tags frame (tag_of one frame || nat_lt 0 (level_of_word levels first)) }
    → new ≡ record two { tags = slice_set two.tags frame (tag_of two frame || nat_lt 0 (level_of_word levels second)) } → StoresPair old new levels frame offset first second
stores_pair old one two new levels frame offset first second sound one_is two_is new_is =
    let words = slice_set old.words (256 * frame + offset) first in
    let tags = slice_set old.tags frame (tag_of old frame || nat_lt 0 (level_of_word levels first)) in
    let many : length words ≡ length one.words = sym (length-set words (256 * frame + (offset + 1)) second) ∙ sym (ap (λ (p : Pool). length p.words) one_is) in
    let each : length tags ≡ length one.tags = length-set old.tags frame _ ∙ sym (ap (λ (p : Pool). length p.tags) one_is) in
    record {
      between = stored_pool old frame offset first (tag_of old frame || nat_lt 0 (level_of_word levels first));
      sound = subst (λ (p : Pool). IsPool (record p { words = words; tags = tags })) one_is (resized one words tags sound many each);
      front = refl;
      back = new_is ∙ ap (λ (p : Pool). tag_or p frame (nat_lt 0 (level_of_word levels second))) (two_is ∙ ap (λ (p : Pool). tag_or p frame (nat_lt 0 (level_of_word levels first))) one_is);
    }

-- two consecutive words of a page, one after the other
pub record PutsTwo (p : Paging) (stored : List Parts) (pool pool' : Pool) (frame at : ℕ) (first second : Parts) : Type 0 where
  pub front : PutsWord p stored pool frame at first (tag_of p.pool frame || nat_lt 0 (level_of_word p.levels first))
  pub back : PutsWord (with_pool p pool) stored pool' frame (at + 1) second (tag_of pool frame || nat_lt 0 (level_of_word p.levels second))

pub puts_two : (p : Paging) (stored : List Parts) (pool : Pool) (frame at : ℕ) (first second : Parts) → place_at p.places (at / 256) ≡ InFrame frame → at % 256 < 255 → at + 1 < 256 * size_of p
    → IsPool pool → (pair : StoresPair p.pool pool p.levels frame (at % 256) first second) → PutsTwo p stored pair.between pool frame at first second
puts_two p stored pool frame at first second here page inside sound pair =
    let same : (at + 1) / 256 ≡ at / 256 = omega arith in
    let next : at % 256 + 1 ≡ (at + 1) % 256 = omega arith in
    let is = pair.back ∙ ap (λ (k : ℕ). stored_pool pair.between frame k second (tag_of pair.between frame || nat_lt 0 (level_of_word p.levels second))) next in
    record {
      front = puts_word p stored pair.between frame at first here (omega arith) pair.sound pair.front;
      back = puts_word (with_pool p pair.between) stored pool frame (at + 1) second (ap (place_at p.places) same ∙ here) inside sound is;
    }

pub two_paged : (p : Paging) (stored : List Parts) (pool pool' : Pool) (frame at : ℕ) (first second : Parts) → IsPaged p stored → PutsTwo p stored pool pool' frame at first second → IsPaged (with_pool p pool') stored
two_paged p stored pool pool' frame at first second h c =
    put_paged (with_pool p pool) stored pool' frame (at + 1) second _ (put_paged p stored pool frame at first _ h c.front) c.back

pub stores_two : (a p : Paging) (before stored : List Parts) (pool pool' : Pool) (frame at : ℕ) (first second : Parts) → StoresNothing (store_of a before) (store_of p stored) → IsPaged p stored → PutsTwo p stored pool pool' frame at first second
    → StoresTwo (store_of a before) (store_of (with_pool p pool') stored) at first second
stores_two a p before stored pool pool' frame at first second read h c = record {
  between = store_of (with_pool p pool) stored;
  front = stores_after (store_of a before) (store_of p stored) (store_of (with_pool p pool) stored) at first read (put_stores p stored pool frame at first _ h c.front);
  back = put_stores (with_pool p pool) stored pool' frame (at + 1) second _ (put_paged p stored pool frame at first _ h c.front) c.back;
}

pub two_uses : (p mid : Paging) (stored : List Parts) (pool pool' : Pool) (frame at : ℕ) (first second : Parts) → at % 256 < 255 → IsPaged mid stored → mid.levels ≡ p.levels → mid.top ≡ p.top → PutsTwo mid stored pool pool' frame at first second
    → Uses p mid (at / 256) false → Uses p (with_pool mid pool') (at / 256) (nat_lt 0 (level_of_word p.levels first) || nat_lt 0 (level_of_word p.levels second))
two_uses p mid stored pool pool' frame at first second page h levels top c u =
    let same : (at + 1) / 256 ≡ at / 256 = omega arith in
    let one = put_uses p mid stored pool frame at first _ false h levels top c.front u in
    subst (λ (q : ℕ). Uses p (with_pool mid pool') q (nat_lt 0 (level_of_word p.levels first) || nat_lt 0 (level_of_word p.levels second))) same
    (put_uses p (with_pool mid pool) stored pool' frame (at + 1) second _ (nat_lt 0 (level_of_word p.levels first)) (put_paged mid stored pool frame at first _ h c.front) levels top c.back
    (subst (λ (q : ℕ). Uses p (with_pool mid pool) q (nat_lt 0 (level_of_word p.levels first))) (sym same) one))
