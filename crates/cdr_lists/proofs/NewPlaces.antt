-- Words are placed in a class.
use Rattle.std.proofs.Common.{◌≡◌, ℕ, refl, inl, inr, ◌+◌, ◌*◌, ◌/◌, ◌<◌, ◌≤◌, ◌^◌, sym, ◌∙◌, ap, subst, arith, List, length, Option, Some, None}
use Rattle.std.specs.Prelude.{IfSome, IfNone, Contains}
use Rattle.store_word.specs.Words.{Parts}
use Rattle.mem_port.specs.Store.{StoresNothing}
use Rattle.mem_port.specs.Store as Memory
use Rattle.area_space.specs.Table.{Table, areas_of, chain, levels_of, live, slot_of, used_of}
use Rattle.area_space.specs.Places.{IsEnd, opened}
use Rattle.area_space.proofs.NewRegions.{contains_opened, slot_below}
use Rattle.obj_layout.specs.Forwards.{word_at}
use Rattle.transporter.specs.lisp_ground.GroundInvariant.{GroundInvariant}
use Rattle.transporter.specs.lisp_meaning.Interpretation.{Interpretation}
use Rattle.transporter.specs.lisp_ground.Placing.{Opens}
use Rattle.transporter.specs.lisp_ground.After.{old_on}
use Rattle.transporter.proofs.lisp_ground.words.Places.{place_kept_on}
use Rattle.transporter.proofs.MovedObjects.{old-opened}
use Rattle.transporter.specs.Growth.{OpensOrStays}
use Rattle.transporter.specs.LiveWordsUnchanged.{LiveWordsUnchanged}
use Rattle.transporter.specs.Relocations.{OpensIfFull}
use Rattle.transporter.specs.Preserving.{NoOldAddresses}
use Rattle.transporter.specs.Transports.{WordsUnchanged}
use Rattle.transporter.specs.Marking.{MarksFollow}
use Rattle.transporter.specs.Moving.{MovesAtMost}
use Rattle.transporter.proofs.TransportSequences.{writes-moves}
use Rattle.transporter.proofs.PageMarks.{marks-opened}
use Rattle.transporter.proofs.ScannedWords.{stays_fresh-tended, opened-preserves}
use Rattle.transporter.proofs.NewRegions as Opened
use Rattle.cdr_lists.specs.Opening.{OpensIfNeeded}

-- a region was opened only if it was needed
pub opens_if_needed : {m m1 : Memory.Store} {t t1 : Table} {area level words : ℕ} (region : Option ℕ) → Opens m t m1 t1 region area level → OpensIfFull t (slot_of t area level) words region → OpensIfNeeded t t1 area level words
opens_if_needed None o needed = inl (ap (λ (x : Table). x.chains) o.same)
opens_if_needed (Some r) o needed = inr (record { region = r; free = o.free; needed = needed; chains = ap (λ (x : Table). x.chains) o.chain })

-- words that are committed open none
pub needed_then : {t t1 t2 : Table} {area level words : ℕ} → OpensIfNeeded t t1 area level words → t2.chains ≡ t1.chains → OpensIfNeeded t t2 area level words
needed_then (inl same) e = inl (e ∙ same)
needed_then (inr o) e = inr (record { region = o.region; free = o.free; needed = o.needed; chains = e ∙ o.chains })

-- whatever objects the ground represented, it represents them
abbrev pub KeepsOn : Memory.Store → Table → Memory.Store → Table → Type 0
KeepsOn m t m' t' = (it : Interpretation) → GroundInvariant m t it → GroundInvariant m' t' it

module _ (m : Memory.Store) (t : Table) (it : Interpretation) (on : GroundInvariant m t it) (area level : ℕ) (area_in : area < areas_of t) (level_in : level < levels_of t)
    (m1 : Memory.Store) (t1 : Table) (region : Option ℕ) (opens : Opens m t m1 t1 region area level) (at : ℕ) {words : ℕ} (end : IsEnd t1 (slot_of t area level) at words) where
  pub placed_on : KeepsOn m t m1 t1
  placed_on other on_other = place_kept_on m m1 t t1 region area level other on_other area_in level_in opens

  after : GroundInvariant m1 t1 it
  after = placed_on it on

  pub same_top : t1.top ≡ t.top
  same_top = after.agrees.levels ∙ sym on.agrees.levels

  pub same_areas : areas_of t1 ≡ areas_of t
  same_areas = ap (λ (qs : List ℕ). length qs) (after.agrees.quotas ∙ sym on.agrees.quotas)

  pub same_slot : slot_of t area level ≡ slot_of t1 area level
  same_slot = ap (λ (x : ℕ). area * (x + 1) + level) (sym same_top)

  pub end_there : IsEnd t1 (slot_of t1 area level) at words
  end_there = subst (λ (slot : ℕ). IsEnd t1 slot at words) same_slot end

  pub words_inside : at + words ≤ length m1.words
  words_inside = Opened.words_inside m t it on area level area_in level_in m1 t1 region opens at words end

  pub words_low : 0 < words → at < 2 ^ 28
  words_low = Opened.place_low m t it on area level area_in level_in m1 t1 region opens at words end

  -- the charges in old regions are unchanged
  pub old_placed : (other : Interpretation) → GroundInvariant m t other → old_on m1 t1 other.store other.aim other.map.at ≡ old_on m t other.store other.aim other.map.at
  old_placed other on_other = old-opened m m1 t t1 region area level other on_other (placed_on other on_other) area_in level_in opens

  -- nor are more words placed
  pub none_placed : t1.placed ≡ t.placed
  none_placed = go region opens.same opens.chain
    where
      go : (o : Option ℕ) → IfNone o (t1 ≡ t) → IfSome o (λ r. t1 ≡ opened t (live (slot_of t area level)) r) → t1.placed ≡ t.placed
      go None same chain_is = ap (λ (x : Table). x.placed) same
      go (Some r) same chain_is = ap (λ (x : Table). x.placed) chain_is

  -- the words are the same
  pub same_words : m1.words ≡ m.words
  same_words = go region opens.behind opens.region_level
    where
      go : (o : Option ℕ) → IfNone o (m1 ≡ m) → IfSome o (λ r. m1 ≡ Rattle.area_space.specs.Ground.with_level m r level) → m1.words ≡ m.words
      go None same level_is = ap (λ (x : Memory.Store). x.words) same
      go (Some r) same level_is = ap (λ (x : Memory.Store). x.words) level_is

  -- each region is in its chain
  pub still_in : (slot region_in : ℕ) → Contains (chain t (live slot)) region_in → Contains (chain t1 (live slot)) region_in
  still_in slot r there = go region opens.same opens.chain
    where
      below : live (slot_of t area level) < length t.chains
      below = let x = slot_below t area level area_in level_in in let y = on.table.chains_size in omega arith

      go : (o : Option ℕ) → IfNone o (t1 ≡ t) → IfSome o (λ n. t1 ≡ opened t (live (slot_of t area level)) n) → Contains (chain t1 (live slot)) r
      go None same chain_is = subst (λ (x : Table). Contains (chain x (live slot)) r) (sym same) there
      go (Some n) same chain_is = subst (λ (x : Table). Contains (chain x (live slot)) r) (sym chain_is) (contains_opened t (live (slot_of t area level)) n (live slot) r below there)

  -- no page gets marks by it
  pub opened_marks : MarksFollow m t m1 t1
  opened_marks = marks-opened region on.table area_in level_in opens

  pub opened_stays : (m2 : Memory.Store) → StoresNothing m1 m2 → WordsUnchanged m t m2 t1
  opened_stays = Opened.opened_stays m t it on area level area_in level_in m1 t1 region opens

  -- and nothing is placed
  pub opened_moves : (m2 : Memory.Store) → StoresNothing m1 m2 → MovesAtMost m t m2 t1 0
  opened_moves m2 stays = writes-moves (record {
    room = t1;
    opens = Opened.opened_or_same m t it on area level area_in level_in m1 t1 region opens;
    but = refl;
    words = λ a free. ap (λ (ws : List Parts). word_at ws a) (opened_stays m2 stays).words;
    codes = λ a. ap (λ (ws : List Parts). (word_at ws a).cdr) (opened_stays m2 stays).words;
  })

  pub opened_live : (m2 : Memory.Store) → StoresNothing m1 m2 → LiveWordsUnchanged m t m2 t1
  opened_live = Opened.opened_live m t it on area level area_in level_in m1 t1 region opens

  pub opened_or_same : OpensOrStays t t1
  opened_or_same = Opened.opened_or_same m t it on area level area_in level_in m1 t1 region opens

  same_used : OpensOrStays t t1 → (r : ℕ) → used_of t1 r ≡ used_of t r
  same_used (inl same) r = ap (λ (u : Table). used_of u r) same
  same_used (inr o) r = ap (λ (u : Table). used_of u r) o.table

  -- after a swap error all words are as fresh as before
  pub opened_stays_fresh : (m2 : Memory.Store) → StoresNothing m1 m2 → NoOldAddresses m t → NoOldAddresses m2 t1
  opened_stays_fresh m2 stays = stays_fresh-tended m m2 t t1 on.table opens.sound (opened-preserves (opened_live m2 stays) opened_or_same) (λ a l past.
      let same = same_used opened_or_same (a / 4096) in
      let used = l.used in
      absurd (omega arith))
