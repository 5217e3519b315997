-- A page whose last word was scanned: the table's set and the marks of the page change, and nothing else.
use Rattle.std.proofs.Common.{◌≡◌, ℕ, ◌+◌, ◌*◌, ◌/◌, ◌%◌, ◌<◌, ◌⊎◌, inl, inr, Bool, true, false, ◌||◌, nat_le, List, length, slice_get, Some, slice_index, refl, sym, ◌∙◌, ap, subst, arith}
use Rattle.std.proofs.lemmas.Bool.{cases_eq, leb-true, leb-false}
use Rattle.std.proofs.lemmas.List.{get_or-set_same}
use Rattle.store_word.specs.Words.{Parts}
use Rattle.mem_port.specs.Store.{Store, StoresNothing, IsClean, level_of_word}
use Rattle.area_space.specs.Table.{Table, used_of}
use Rattle.area_space.specs.Sound.{IsTable}
use Rattle.area_space.specs.Ground.{IsGround}
use Rattle.area_space.proofs.TableFields.{noted_is}
use Rattle.transporter.specs.obj_layout.Forwards.{word_at}
use Rattle.transporter.specs.lisp_meaning.State.{Condemned}
use Rattle.transporter.specs.lisp_meaning.State as M
use Rattle.transporter.specs.lisp_ground.GroundInvariant.{GroundInvariant}
use Rattle.transporter.specs.lisp_meaning.Interpretation.{Interpretation}
use Rattle.transporter.specs.lisp_ground.After.{old_on}
use Rattle.transporter.proofs.lisp_ground.invariant.WordStores.{kept_on_same}
use Rattle.transporter.specs.LiveWordsUnchanged.{OnlyGrows, LiveWordsUnchangedExcept}
use Rattle.transporter.specs.Settling.{RefersToOld, Settles}
use Rattle.scavenger.specs.Scan.{Scan}
use Rattle.scavenger.specs.Left.{IsPaged}
use Rattle.scavenger.specs.Scanning.{word_done, page_done, EndsPage, ends, stays}
use Rattle.scavenger.proofs.OpenPages.{paged-on, paged-dropped}
use Rattle.transporter.specs.Preserving.{FreshOn}
use Rattle.scavenger.proofs.TidyScans.{Tidy}

or_cases : (b c : Bool) → (b || c) ≡ true → (b ≡ true) ⊎ (c ≡ true)
or_cases true c e = inl refl
or_cases false c e = inr e

pub or_none : (b c : Bool) → (b || c) ≡ false → (b ≡ false) × (c ≡ false)
or_none true c e = cc
or_none false c e = (refl, e)

-- a table with another set of pages
abbrev pub repaged : Table → List ℕ → Table
repaged t ps = record t { pages = ps }

pub repaged-table : (t : Table) (ps : List ℕ) → IsTable t → IsTable (repaged t ps)
repaged-table t ps v = noted_is t t.aim t.last ps v

pub repaged-ground : (m : Store) (t : Table) (ps : List ℕ) → IsGround m t → IsGround m (repaged t ps)
repaged-ground m t ps g = record { size = g.size; levels_size = g.levels_size; top = g.top; level_live = g.level_live; level_old = g.level_old; blank = g.blank }

repaged-kept : (m : Store) (t : Table) (ps : List ℕ) (it : Interpretation) → GroundInvariant m t it → GroundInvariant m (repaged t ps) it
repaged-kept m t ps it x = record {
  kept = x.kept;
  ground = repaged-ground m t ps x.ground;
  named = x.named;
  table = repaged-table t ps x.table;
  room = x.room;
  agrees = record { levels = x.agrees.levels; quotas = x.agrees.quotas; kinds = x.agrees.kinds };
}

pub repaged-grows : (t t' : Table) (ps : List ℕ) → OnlyGrows t t' → OnlyGrows t (repaged t' ps)
repaged-grows t t' ps x = record {
  form = record { regions = x.form.regions; top = x.form.top; quotas = x.form.quotas; kinds = x.form.kinds };
  aim = x.aim;
  live_chains = x.live_chains;
  old_chains = x.old_chains;
  used = x.used;
  flip_marks = x.flip_marks;
  placed = x.placed;
}

-- The state after an end

pub ended-table : {m m' : Store} {t t' : Table} {scan : Scan} {page : ℕ} → EndsPage m t scan m' t' page → t' ≡ repaged t t'.pages
ended-table {m} {m'} {t} {t'} (ends done table drops remarks) = table
ended-table {m} {m'} {t} {t'} (stays left table memory) = table ∙ ap (repaged t) (sym (ap (λ (u : Table). u.pages) table))

pub ended-memory : {m m' : Store} {t t' : Table} {scan : Scan} {page : ℕ} → EndsPage m t scan m' t' page → StoresNothing m m'
ended-memory {m} {m'} {t} {t'} {scan} {page} (ends done table drops x) = record {
  words = x.words;
  levels = x.levels;
  top = x.top;
  unmarked = λ other none. elim (cases_eq other page) [
    | inl e ↦ ap m'.marks e ∙ x.unmarked (sym (ap m.marks e) ∙ none)
    | inr ne ↦ x.others other ne ∙ none
  ];
}
ended-memory {m} {m'} (stays left table memory) = record {
  words = ap (λ (n : Store). n.words) memory;
  levels = ap (λ (n : Store). n.levels) memory;
  top = ap (λ (n : Store). n.top) memory;
  unmarked = λ other none. ap (λ (n : Store). n.marks other) memory ∙ none;
}

pub ended-marks : {m m' : Store} {t t' : Table} {scan : Scan} {page : ℕ} → EndsPage m t scan m' t' page → page_done scan t page ≡ true → IsClean m' page → m'.marks page ≡ 0
ended-marks {m} {m'} {t} {t'} {scan} {page} (ends done table drops x) is_done clean = x.exact (λ at word on is.
    subst (λ (ls : List ℕ). level_of_word ls word ≡ 0) x.levels (clean at word on (subst (λ (ws : List Parts). slice_get ws at ≡ Some word) (sym x.words) is)))
ended-marks (stays left table memory) is_done clean = absurd cc

pub ended-kept : (m m' : Store) (t t' : Table) (scan : Scan) (page : ℕ) (it : Interpretation) → EndsPage m t scan m' t' page → GroundInvariant m t it → GroundInvariant m' t' it
ended-kept m m' t t' scan page it e x =
    subst (λ (u : Table). GroundInvariant m' u it) (sym (ended-table e))
    (repaged-kept m' t t'.pages it (kept_on_same m m' t it x (ended-memory e)))

pub ended-old : (m m' : Store) (t t' : Table) (scan : Scan) (page : ℕ) (s : M.Store) (aim : Condemned) (at : ℕ → ℕ) → EndsPage m t scan m' t' page → old_on m' t' s aim at ≡ old_on m t s aim at
ended-old m m' t t' scan page s aim at e = ap (λ (u : Table). old_on m' u s aim at) (ended-table e)

pub ended-grows : (m m' : Store) (t0 t t' : Table) (scan : Scan) (page : ℕ) → EndsPage m t scan m' t' page → OnlyGrows t0 t → OnlyGrows t0 t'
ended-grows m m' t0 t t' scan page e x = subst (λ (u : Table). OnlyGrows t0 u) (sym (ended-table e)) (repaged-grows t0 t t'.pages x)

pub ended-live : (m0 m m' : Store) (t0 t t' : Table) (scan : Scan) (page at : ℕ) → EndsPage m t scan m' t' page → LiveWordsUnchangedExcept m0 t0 m t at → LiveWordsUnchangedExcept m0 t0 m' t' at
ended-live m0 m m' t0 t t' scan page at e x = record {
  table = ended-grows m m' t0 t t' scan page e x.table;
  words = λ a ne live. ap (λ (ws : List Parts). word_at ws a) (ended-memory e).words ∙ x.words a ne live;
}

pub ended-settles : (m m' : Store) (t0 t t' : Table) (scan : Scan) (page : ℕ) (old new : Parts) → EndsPage m t scan m' t' page → Settles t0 t old new → Settles t0 t' old new
ended-settles m m' t0 t t' scan page old new e x = record { is = x.is; fresh = subst (λ (u : Table). RefersToOld u new → ⊥) (sym (ended-table e)) x.fresh }

pub repaged-tidy : (m : Store) (t : Table) (ps : List ℕ) (scan : Scan) (registers : List Parts) → Tidy m t scan registers → Tidy m (repaged t ps) scan registers
repaged-tidy m t ps scan registers x = record {
  count = x.count;
  pages = x.pages;
  few = x.few;
  young = x.young;
  registers_fresh = x.registers_fresh;
  words_fresh = λ a live shut. x.words_fresh a (record { live = live.live; used = live.used }) shut;
  counted = x.counted;
}

memory-tidy : (m m' : Store) (t : Table) (scan : Scan) (registers : List Parts) → m'.words ≡ m.words → Tidy m t scan registers → Tidy m' t scan registers
memory-tidy m m' t scan registers same x = record {
  count = x.count;
  pages = x.pages;
  few = x.few;
  young = x.young;
  registers_fresh = x.registers_fresh;
  words_fresh = λ a live shut. subst (λ (ws : List Parts). FreshOn t (word_at ws a).content) (sym same) (x.words_fresh a live shut);
  counted = x.counted;
}

pub ended-tidy : (m m' : Store) (t t' : Table) (now scan : Scan) (page : ℕ) (registers : List Parts) → EndsPage m t now m' t' page → Tidy m t scan registers → Tidy m' t' scan registers
ended-tidy m m' t t' now scan page registers e x =
    subst (λ (u : Table). Tidy m' u scan registers) (sym (ended-table e)) (repaged-tidy m' t t'.pages scan registers (memory-tidy m m' t scan registers (ended-memory e).words x))

-- the set after the scan of a word
pub ended-paged : (m m' : Store) (t t' : Table) (s : Scan) (at : ℕ) → slice_index s.pages (at / 256) ≡ at % 256 → at / 256 < length s.pages → IsPaged s t → EndsPage m t (word_done s at) m' t' (at / 256) → IsPaged (word_done s at) t'
ended-paged m m' t t' s at first inside x e = go e
  where
    here : slice_index (word_done s at).pages (at / 256) ≡ at % 256 + 1
    here = get_or-set_same s.pages (at / 256) (at % 256 + 1) 0 inside

    region : used_of t (at / 256 / 16) ≡ used_of t (at / 4096)
    region = let same : at / 256 / 16 ≡ at / 4096 = omega arith in ap (used_of t) same

    go : EndsPage m t (word_done s at) m' t' (at / 256) → IsPaged (word_done s at) t'
    go (ends done table drops remarks) =
        paged-dropped s t at first inside x t' (ap (λ (u : Table). u.used) table) drops
        (elim (or_cases (nat_le 256 (slice_index (word_done s at).pages (at / 256))) (nat_le (used_of t (at / 256 / 16)) (256 * (at / 256 % 16) + slice_index (word_done s at).pages (at / 256))) done) [
          | inl full ↦ inl (let f = leb-true 256 (slice_index (word_done s at).pages (at / 256)) full in let h = here in omega arith)
          | inr past ↦ inr (let f = leb-true (used_of t (at / 256 / 16)) (256 * (at / 256 % 16) + slice_index (word_done s at).pages (at / 256)) past in let h = here in let r = region in omega arith)
        ])
    go (stays left table memory) =
        let none = or_none (nat_le 256 (slice_index (word_done s at).pages (at / 256))) (nat_le (used_of t (at / 256 / 16)) (256 * (at / 256 % 16) + slice_index (word_done s at).pages (at / 256))) left in
        let a = leb-false 256 (slice_index (word_done s at).pages (at / 256)) none.0 in
        let b = leb-false (used_of t (at / 256 / 16)) (256 * (at / 256 % 16) + slice_index (word_done s at).pages (at / 256)) none.1 in
        let h = here in
        let r = region in
        subst (λ (u : Table). IsPaged (word_done s at) u) (sym table) (paged-on s t at first inside x (omega arith) (omega arith))
