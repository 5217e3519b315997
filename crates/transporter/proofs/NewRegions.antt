-- At most, a region was opened for a place.
use Rattle.std.proofs.Common.{ℕ, ◌+◌, ◌*◌, ◌<◌, ◌≤◌, ◌^◌, inl, inr, refl, sym, ◌∙◌, ap, subst, arith, length, Option, Some, None}
use Rattle.mem_port.specs.Store.{StoresNothing}
use Rattle.mem_port.specs.Store as Memory
use Rattle.area_space.specs.Table.{Table, areas_of, levels_of, slot_of}
use Rattle.area_space.specs.Places.{IsEnd}
use Rattle.area_space.proofs.UsedEnds.{end_region}
use Rattle.transporter.specs.lisp_ground.GroundInvariant.{GroundInvariant}
use Rattle.lisp_ground.specs.lisp_meaning.Interpretation.{Interpretation}
use Rattle.transporter.specs.lisp_ground.Placing.{Opens}
use Rattle.transporter.proofs.lisp_ground.words.Places.{place_kept_on}
use Rattle.transporter.specs.Growth.{OpensOrStays}
use Rattle.transporter.specs.LiveWordsUnchanged.{LiveWordsUnchanged}
use Rattle.transporter.specs.Relocations.{OpensAtMost}
use Rattle.transporter.specs.Transports.{WordsUnchanged}
use Rattle.transporter.proofs.LiveObjects.{live-faulted}
use Rattle.transporter.proofs.TransportClauses.{stays-faulted}

module _ (m : Memory.Store) (t : Table) (it : Interpretation) (on : GroundInvariant m t it) (area level : ℕ) (area_in : area < areas_of t) (level_in : level < levels_of t)
    (m1 : Memory.Store) (t1 : Table) (region : Option ℕ) (opens : Opens m t m1 t1 region area level) where
  after : GroundInvariant m1 t1 it
  after = place_kept_on m m1 t t1 region area level it on area_in level_in opens

  -- a region was opened at most, and then nothing stored
  pub opened_at_most : (m2 : Memory.Store) → StoresNothing m1 m2 → OpensAtMost m t m2 t1
  opened_at_most m2 stays = inr (
    m,
    record { words = refl; levels = refl; top = refl; unmarked = λ page e. e },
    record {
      area = area;
      level = level;
      area_in = area_in;
      level_in = level_in;
      region = region;
      room = m1;
      opens = opens;
      stays = stays;
    },
  )

  pub opened_stays : (m2 : Memory.Store) → StoresNothing m1 m2 → WordsUnchanged m t m2 t1
  opened_stays m2 stays = stays-faulted (record { words = refl; levels = refl; top = refl; unmarked = λ page e. e }) (opened_at_most m2 stays)

  pub opened_live : (m2 : Memory.Store) → StoresNothing m1 m2 → LiveWordsUnchanged m t m2 t1
  opened_live m2 stays = live-faulted on.table (opened_at_most m2 stays)

  pub opened_or_same : OpensOrStays t t1
  opened_or_same = go region opens
    where
      go : (r : Option ℕ) → Opens m t m1 t1 r area level → OpensOrStays t t1
      go None o = inl o.same
      go (Some r) o = inr (record { area = area; level = level; area_in = area_in; level_in = level_in; region = r; free = o.free; lowest = o.lowest; table = o.chain })

  module _ (at words : ℕ) (end : IsEnd t1 (slot_of t area level) at words) where
    pub end_there : IsEnd t1 (slot_of t1 area level) at words
    end_there = subst (λ (slot : ℕ). IsEnd t1 slot at words) (ap (λ (x : ℕ). area * (x + 1) + level) (on.agrees.levels ∙ sym after.agrees.levels)) end

    pub words_inside : at + words ≤ length m1.words
    words_inside =
        let low = end_region t1 (slot_of t1 area level) at words after.table end_there in
        let size = after.ground.size in
        let fits = end_there.fits in
        let is = end_there.end in
        omega arith

    pub place_low : 0 < words → at < 2 ^ 28
    place_low some =
        let low = words_inside in
        let size = after.ground.size in
        let few = after.table.few_regions in
        omega arith
