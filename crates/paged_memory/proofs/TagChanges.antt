-- The tag of a page is set again.
use Rattle.std.proofs.Common.{ℕ, ◌≡◌, ◌≢◌, ◌+◌, ◌*◌, ◌/◌, ◌%◌, ◌<◌, Bool, true, false, List, Option, Some, length, slice_get, slice_set, get_or, get_or-set_same, get_or-set_other, refl, sym, ap, subst, ◌∙◌, arith, inl, inr}
use Rattle.std.specs.Prelude.{Contains, IsTrue, ◌↔◌}
use Rattle.std.proofs.lemmas.Bool.{cases_eq, cases_Bool}
use Rattle.std.proofs.lemmas.Option.{slice_get-get_or, slice_get_within}
use Rattle.store_word.specs.Words.{Parts, null_word}
use Rattle.mem_port.specs.Store.{level_of_word, Remarks, IsClean}
use Rattle.mem_port.specs.Tags.{marks_of_tag, HasEphemeral}
use Rattle.page_map.specs.declared.place.PagePlace.{PagePlace}
use Rattle.page_map.specs.declared.place.PagePlace.TheVariants.{Empty, InFrame, Swapped}
use Rattle.page_map.specs.Map.{place_at}
use Rattle.frame_pool.specs.Pool.{Pool, IsPool, tag_of}
use Rattle.ref_table.specs.Sets.{set_at}
use Rattle.paged_memory.specs.Paging.{Paging, word_at, size_of, words_of, marks_in, marks_of, store_of, IsPaged}
use Rattle.paged_memory.proofs.Places.{swapped_inside}
use Rattle.paged_memory.proofs.FrameChanges.{with_pool, repooled}
use Rattle.paged_memory.proofs.FrameAccess.{frame_in, one_page}
use Rattle.paged_memory.proofs.Words.{words_size, words_get, words_same, word_framed, word_kept, marks_kept, has_on, set_empty}

-- a frame keeps its tag if and only if a word on its page has an address of level 1 or more
pub record Retags (p : Paging) (stored ws : List Parts) (pool : Pool) (frame page : ℕ) (tag : Bool) : Type 0 where
  pub here : place_at p.places page ≡ InFrame frame
  pub inside : page < size_of p
  pub size : length ws ≡ 256
  pub words : (k : ℕ) → k < 256 → slice_get ws k ≡ slice_get p.pool.words (256 * frame + k)
  pub exact : IsTrue tag ↔ (IsTrue (tag_of p.pool frame) × HasEphemeral ws p.levels)
  pub sound : IsPool pool
  pub retags : pool ≡ (let v : Pool = record p.pool { tags = slice_set p.pool.tags frame tag } in v)

tag_some : (p : Paging) (stored ws : List Parts) (pool : Pool) (frame page : ℕ) (tag : Bool) → Retags p stored ws pool frame page tag → tag ≡ true → HasEphemeral ws p.levels
tag_some p stored ws pool frame page tag c on = (c.exact.0 on).1

tag_was : (p : Paging) (stored ws : List Parts) (pool : Pool) (frame page : ℕ) (tag : Bool) → Retags p stored ws pool frame page tag → tag ≡ true → tag_of p.pool frame ≡ true
tag_was p stored ws pool frame page tag c on = (c.exact.0 on).0

tag_none : (p : Paging) (stored ws : List Parts) (pool : Pool) (frame page : ℕ) (tag : Bool) → Retags p stored ws pool frame page tag → tag ≡ false → tag_of p.pool frame ≡ true
    → (k : ℕ) (word : Parts) → slice_get ws k ≡ Some word → level_of_word p.levels word ≡ 0
tag_none p stored ws pool frame page tag c off was k word found =
    elim (cases_eq (level_of_word p.levels word) 0) [
      | inl e ↦ e
      | inr ne ↦ (let bad : tag ≡ true = c.exact.1 (was, (k, word, (found, omega arith))) in let wrong : false ≡ true = sym off ∙ bad in absurd (cc))
    ]

tag_here : (p : Paging) (stored ws : List Parts) (pool : Pool) (frame page : ℕ) (tag : Bool) → IsPaged p stored → Retags p stored ws pool frame page tag → tag_of pool frame ≡ tag
tag_here p stored ws pool frame page tag h c =
    let low = frame_in p stored page frame h c.here in
    ap (λ (v : Pool). tag_of v frame) c.retags ∙ get_or-set_same p.pool.tags frame tag false (omega (arith, low, h.pool.tag_each))

tag_other : (p : Paging) (stored ws : List Parts) (pool : Pool) (frame page : ℕ) (tag : Bool) → Retags p stored ws pool frame page tag → (g : ℕ) → g ≢ frame → tag_of pool g ≡ tag_of p.pool g
tag_other p stored ws pool frame page tag c g ne = ap (λ (v : Pool). tag_of v g) c.retags ∙ get_or-set_other p.pool.tags frame g tag false ne

tag_word : (p : Paging) (stored ws : List Parts) (pool : Pool) (frame page : ℕ) (tag : Bool) → Retags p stored ws pool frame page tag → (at : ℕ) → word_at (with_pool p pool) stored at ≡ word_at p stored at
tag_word p stored ws pool frame page tag c at =
    word_kept p.pool pool stored stored at (place_at p.places (at / 256)) (λ g _. ap (λ (v : Pool). get_or v.words (256 * g + at % 256) null_word) c.retags) (λ _. refl)

-- a word of the frame, as read
tag_read : (p : Paging) (stored ws : List Parts) (pool : Pool) (frame page : ℕ) (tag : Bool) → IsPaged p stored → Retags p stored ws pool frame page tag → (k : ℕ) → k < 256 → slice_get ws k ≡ Some (word_at p stored (256 * page + k))
tag_read p stored ws pool frame page tag h c k low =
    let frame_low = frame_in p stored page frame h c.here in
    c.words k low ∙ slice_get-get_or p.pool.words (256 * frame + k) null_word (omega (arith, low, frame_low, h.pool.words_each)) ∙ ap (λ (w : Parts). Some w) (sym (word_framed p stored page k frame low c.here))

pub retag_paged : (p : Paging) (stored ws : List Parts) (pool : Pool) (frame page : ℕ) (tag : Bool) → IsPaged p stored → Retags p stored ws pool frame page tag → IsPaged (with_pool p pool) stored
retag_paged p stored ws pool frame page tag h c =
    let used_is : pool.used ≡ p.pool.used = ap (λ (v : Pool). v.used) c.retags in
    repooled p stored pool h record {
      sound = c.sound;
      pages = ap (λ (v : Pool). v.pages) c.retags;
      used_back = λ g m. subst (λ (xs : List ℕ). Contains xs g) used_is m;
      used_on = λ g m. subst (λ (xs : List ℕ). Contains xs g) (sym used_is) m;
      tagged = λ q g e l pos w.
          let w' = has_on (word_at (with_pool p pool) stored) (word_at p stored) p.levels q l (λ k low. tag_word p stored ws pool frame page tag c (256 * q + k)) w in
          let t = h.tagged q g e l pos w' in
          elim (cases_eq g frame) [
            | inl g_is ↦ (
                let q_is = one_page p stored page frame h c.here q g e g_is in
                elim (cases_Bool tag) [
                  | inl on ↦ ap (tag_of pool) g_is ∙ tag_here p stored ws pool frame page tag h c ∙ on
                  | inr off ↦ (
                      let zero' = tag_none p stored ws pool frame page tag c off (ap (tag_of p.pool) (sym g_is) ∙ t) w'.0 (word_at p stored (256 * page + w'.0)) (tag_read p stored ws pool frame page tag h c w'.0 w'.1.0) in
                      let same : word_at p stored (256 * q + w'.0) ≡ word_at p stored (256 * page + w'.0) = ap (λ n. word_at p stored (256 * n + w'.0)) q_is in
                      absurd (omega (arith, zero', ap (level_of_word p.levels) same, w'.1.1, pos)))
                ])
            | inr other ↦ tag_other p stored ws pool frame page tag c g other ∙ t
          ];
    }

retag_marks : (p : Paging) (stored ws : List Parts) (pool : Pool) (frame page : ℕ) (tag : Bool) → IsPaged p stored → Retags p stored ws pool frame page tag → marks_of (with_pool p pool) page ≡ marks_of_tag p.top tag
retag_marks p stored ws pool frame page tag h c = ap (marks_in (with_pool p pool) page) c.here ∙ ap (marks_of_tag p.top) (tag_here p stored ws pool frame page tag h c)

-- the marks are unchanged if the tag is
retag_stays : (p : Paging) (stored ws : List Parts) (pool : Pool) (frame page : ℕ) (tag : Bool) → IsPaged p stored → Retags p stored ws pool frame page tag → tag ≡ tag_of p.pool frame → marks_of (with_pool p pool) page ≡ marks_of p page
retag_stays p stored ws pool frame page tag h c same = retag_marks p stored ws pool frame page tag h c ∙ ap (marks_of_tag p.top) same ∙ sym (ap (marks_in p page) c.here)

pub retag_remarks : (p : Paging) (stored ws : List Parts) (pool : Pool) (frame page : ℕ) (tag : Bool) → IsPaged p stored → Retags p stored ws pool frame page tag → Remarks (store_of p stored) (store_of (with_pool p pool) stored) page
retag_remarks p stored ws pool frame page tag h c = record {
  words = words_same p (with_pool p pool) stored stored refl (tag_word p stored ws pool frame page tag c);
  levels = refl;
  top = refl;
  exact = λ clean.
      elim (cases_Bool tag) [
        | inr off ↦ retag_marks p stored ws pool frame page tag h c ∙ ap (marks_of_tag p.top) off
        | inl on ↦ (
            let y = tag_some p stored ws pool frame page tag c on in
            let low : y.0 < 256 = omega (arith, slice_get_within ws y.0 y.1 y.2.0, c.size) in
            let found : slice_get (words_of p stored) (256 * page + y.0) ≡ Some y.1 =
            words_get p stored (256 * page + y.0) (omega (arith, low, c.inside)) ∙ sym (tag_read p stored ws pool frame page tag h c y.0 low) ∙ y.2.0 in
            let zero' = clean (256 * page + y.0) y.1 (omega (arith, low)) found in
            absurd (omega (arith, zero', y.2.1)))
      ];
  unmarked = λ m.
      elim (cases_Bool tag) [
        | inr off ↦ retag_marks p stored ws pool frame page tag h c ∙ ap (marks_of_tag p.top) off
        | inl on ↦ retag_stays p stored ws pool frame page tag h c (on ∙ sym (tag_was p stored ws pool frame page tag c on)) ∙ m
      ];
  others = λ q ne. marks_kept p (with_pool p pool) q (place_at p.places q) refl (λ g e. tag_other p stored ws pool frame page tag c g (λ f. ne (one_page p stored page frame h c.here q g e f))) refl;
}

-- a page with such an address keeps its marks
pub retag_dirty : (p : Paging) (stored ws : List Parts) (pool : Pool) (frame page : ℕ) (tag : Bool) → IsPaged p stored → Retags p stored ws pool frame page tag → (IsClean (store_of p stored) page → ⊥) → marks_of (with_pool p pool) page ≡ marks_of p page
retag_dirty p stored ws pool frame page tag h c dirty =
    elim (cases_Bool tag) [
      | inl on ↦ retag_stays p stored ws pool frame page tag h c (on ∙ sym (tag_was p stored ws pool frame page tag c on))
      | inr off ↦ (elim (cases_Bool (tag_of p.pool frame)) [
        | inr plain ↦ retag_stays p stored ws pool frame page tag h c (off ∙ sym plain)
        | inl was ↦ absurd (dirty (λ at word q found.
            let inside : at < 256 * size_of p = omega (arith, slice_get_within (words_of p stored) at word found, words_size p stored) in
            let both : ◌≡◌ {A = Option Parts} (Some (word_at p stored at)) (Some word) = sym (words_get p stored at inside) ∙ found in
            let same : word_at p stored at ≡ word = cc in
            let off_page : at % 256 < 256 = omega arith in
            let whole : 256 * page + at % 256 ≡ at = omega (arith, q) in
            tag_none p stored ws pool frame page tag c off was (at % 256) word (tag_read p stored ws pool frame page tag h c (at % 256) off_page ∙ ap (λ n. Some (word_at p stored n)) whole ∙ ap (λ (w : Parts). Some w) same)))
      ])
    ]

-- if a page is in no frame, its marks are exact already
clean_at : (p : Paging) (stored : List Parts) (page : ℕ) (place : PagePlace) → IsPaged p stored → place_at p.places page ≡ place → ((g : ℕ) → place ≢ InFrame g) → IsClean (store_of p stored) page → marks_in p page place ≡ 0
clean_at p stored page Empty h e off clean = refl
clean_at p stored page (InFrame g) h e off clean = absurd (off g refl)
clean_at p stored page Swapped h e off clean =
    set_empty (set_at p.rows.sets page) (λ l pos x.
    let w = (h.exact page e l pos).0 x in
    let inside = swapped_inside p.places page e in
    let low = w.1.0 in
    let zero' = clean (256 * page + w.0) (word_at p stored (256 * page + w.0)) (omega (arith, low)) (words_get p stored (256 * page + w.0) (omega (arith, low, inside))) in
    omega (arith, zero', w.1.1, pos))

pub remark_elsewhere : (p : Paging) (stored : List Parts) (page : ℕ) → IsPaged p stored → ((g : ℕ) → place_at p.places page ≢ InFrame g) → Remarks (store_of p stored) (store_of p stored) page
remark_elsewhere p stored page h off = record { words = refl; levels = refl; top = refl; exact = clean_at p stored page (place_at p.places page) h refl off; unmarked = λ m. m; others = λ q ne. refl }
