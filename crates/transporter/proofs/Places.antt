-- Places of what moves, and the table that commits its words.
use Rattle.std.proofs.Common.{ℕ, ◌≡◌, ◌≢◌, ◌⊎◌, ◌+◌, ◌-◌, ◌*◌, ◌/◌, ◌%◌, ◌<◌, ◌≤◌, List, length, Option, Some, None, slice_index, Bool, true, false, cond, nat_lt, refl, sym, ◌∙◌, ap, subst, inl, inr, arith}
use Rattle.std.specs.Prelude.{Contains, IfSome, OnErr, Result, Ok, Err}
use Rattle.std.proofs.lemmas.Bool.{cases_lt}
use borrow.Author.Tests.{ltb-true}
use Rattle.mem_port.specs.Store.{Store, StoresNothing, level_of_word}
use Rattle.store_word.specs.Words.{Parts}
use Rattle.area_space.specs.lisp_graph.declared.command.Condemn.{Condemn}
use Rattle.area_space.specs.lisp_graph.declared.command.Condemn.TheVariants.{Full, Chosen}
use Rattle.area_space.specs.declared.classes.Class.{Class}
use Rattle.area_space.specs.declared.classes.Origin.TheVariants.{Moved}
use Rattle.area_space.specs.Table.{Table, levels_of, slot_of, live, stale, chain, IsOld, IsUnclassed, page_list}
use Rattle.area_space.specs.Sound.{IsTable}
use Rattle.area_space.specs.Places.{IsEnd}
use Rattle.area_space.specs.Charges.{AllowsOrigin, committed}
use Rattle.area_space.specs.Flips.{survivor, survivor_of}
use Rattle.area_space.specs.PageList.{Adds}
use Rattle.area_space.proofs.UsedEnds.{end_in_chain, end_region}
use Rattle.area_space.proofs.NewRegions.{contains_opened, slot_below}
use Rattle.lisp_ground.proofs.regions.Slots.{slot_area, slot_level}
use Rattle.lisp_ground.specs.Placing.{Opens}
use Rattle.transporter.specs.declared.parcel.Parcel.{Parcel}
use Rattle.transporter.specs.Parcels.{IsFit, word_count_of, word_more, new_word}
use Rattle.transporter.specs.Relocations.{old_class, IsOldIn, OpensIfFull, OpensOnly, Moves, Commits, Relocates, CanMove, CanPut}

-- Classes

one_live : (k l : ℕ) → live k ≡ live l → k ≡ l
one_live k l e = omega arith

one_stale : (k l : ℕ) → stale k ≡ stale l → k ≡ l
one_stale k l e = omega arith

live_not_stale : (k l : ℕ) → live k ≢ stale l
live_not_stale k l e = omega arith

pub is_old : {t : Table} {at area level : ℕ} → IsOldIn t at area level → IsOld t (at / 4096)
is_old {t} {at} {area} {level} o = (slot_of t area level, o.region)

pub old_not_free : (t : Table) (region : ℕ) → IsOld t region → IsUnclassed t region → ⊥
old_not_free t region old free = free (stale old.0) old.1

-- a region is in one old class
pub same_slot : (t : Table) (at area level area' level' : ℕ) → IsTable t → IsOldIn t at area level → IsOldIn t at area' level' → slot_of t area level ≡ slot_of t area' level'
same_slot t at area level area' level' v a b = one_stale _ _ (v.sound.one_list _ _ (at / 4096) a.region b.region)

pub same_area : (t : Table) (at area level area' level' : ℕ) → IsTable t → IsOldIn t at area level → IsOldIn t at area' level' → area ≡ area'
same_area t at area level area' level' v a b =
    sym (slot_area t area level a.level_in) ∙ ap (λ (k : ℕ). k / levels_of t) (same_slot t at area level area' level' v a b) ∙ slot_area t area' level' b.level_in

pub same_level : (t : Table) (at area level area' level' : ℕ) → IsTable t → IsOldIn t at area level → IsOldIn t at area' level' → level ≡ level'
same_level t at area level area' level' v a b =
    sym (slot_level t area level a.level_in) ∙ ap (λ (k : ℕ). k % levels_of t) (same_slot t at area level area' level' v a b) ∙ slot_level t area' level' b.level_in

-- a place is in one live class
pub end_slot : (t : Table) (slot slot' at words words' : ℕ) → IsTable t → IsEnd t slot at words → IsEnd t slot' at words' → slot ≡ slot'
end_slot t slot slot' at words words' v a b = one_live _ _ (v.sound.one_list _ _ (at / 4096) (end_in_chain t slot at words a) (end_in_chain t slot' at words' b))

-- Places

-- words at a place are in the memory
pub end_inside : (t : Table) (slot at words size : ℕ) → IsTable t → IsEnd t slot at words → size ≡ 4096 * t.regions → at + words ≤ size
end_inside t slot at words size v e is =
    let r = end_region t slot at words v e in
    let a = e.end in
    let b = e.fits in
    omega arith

-- and apart from what is in an old region
pub end_apart : (t : Table) (slot to words old at count : ℕ) → IsTable t → IsEnd t slot to words → Contains (chain t (stale old)) (at / 4096) → (at + count - 1) / 4096 ≡ at / 4096 → 1 ≤ count
    → (at + count ≤ to) ⊎ (to + words ≤ at)
end_apart t slot to words old at count v e there near some = go (cases_lt (at / 4096) (to / 4096))
  where
    different : at / 4096 ≡ to / 4096 → ⊥
    different same =
        live_not_stale slot old (v.sound.one_list (live slot) (stale old) (to / 4096) (end_in_chain t slot to words e) (subst (λ (r : ℕ). Contains (chain t (stale old)) r) same there))

    go : (at / 4096 < to / 4096) ⊎ (to / 4096 ≤ at / 4096) → (at + count ≤ to) ⊎ (to + words ≤ at)
    go (inl less) = inl (omega arith)
    go (inr more) =
        let ne = different in
        let a = e.end in
        let b = e.fits in
        let above : to / 4096 < at / 4096 = strict (at / 4096) (to / 4096) more (λ x. ne x) in
        inr (omega arith)
      where
        strict : (m n : ℕ) → n ≤ m → (m ≡ n → ⊥) → n < m
        strict m n le ne = pick (cases_lt n m)
          where
            pick : (n < m) ⊎ (m ≤ n) → n < m
            pick (inl l) = l
            pick (inr l) = absurd (ne (omega arith))

-- What moves

-- its words at the new place are at most half a region's
pub few_words : (p : Parcel) → IsFit p → word_count_of p ≤ 2048
few_words p fits = go p.rest refl
  where
    go : (rest : Option ℕ) → p.rest ≡ rest → p.words + word_more p.rest ≤ 2048
    go None is = (let a = ap word_more is in let b = fits.few in omega arith)
    go (Some r) is = (let a = ap word_more is in let b = fits.cells (rw is refl) in omega arith)

pub some_words : (p : Parcel) → IsFit p → 1 ≤ word_count_of p
some_words p fits = let a = fits.some in let b = fits.each in omega arith

-- a charge may leave the old class that it is in
pub origin_allowed : (t : Table) (slot area level from to words charge : ℕ) (class : Class) → IsTable t → class.stale ≡ true → IsOldIn t from class.area class.level → level < levels_of t
    → charge ≤ slice_index t.charges (stale (slot_of t class.area class.level)) → IsEnd t (slot_of t class.area level) to words → IsEnd t slot to words → AllowsOrigin t slot charge (Moved class)
origin_allowed t slot area level from to words charge class v is old low enough e e' =
    let same : slot_of t class.area level ≡ slot = end_slot t _ _ to words words v e e' in
    (is, sym (slot_area t class.area level low) ∙ ap (λ (k : ℕ). k / levels_of t) same, old.level_in, enough)

-- a memory in which no word is stored before
pub moves-after_read : {s mid s' : Store} {p : Parcel} {to : ℕ} → StoresNothing s mid → Moves mid s' p to → Moves s s' p to
moves-after_read {s} {mid} {s'} {p} {to} stays moves = record {
  copied = moves.copied;
  copies = record {
    size = moves.copies.size ∙ ap length stays.words;
    there = λ i l. moves.copies.there i l ∙ ap (λ (ws : List Parts). new_word ws p i) stays.words;
    others = λ a out. moves.copies.others a out ∙ ap (λ (ws : List Parts). Rattle.obj_layout.specs.Forwards.word_at ws a) stays.words;
    levels = moves.copies.levels ∙ stays.levels;
    top = moves.copies.top ∙ stays.top;
    unmarked = λ page clean low. moves.copies.unmarked page (stays.unmarked page clean) (λ i l on. level i (low i l on));
  };
  forwards = moves.forwards;
}
  where
    level : (i : ℕ) → level_of_word s.levels (new_word s.words p i) ≡ 0 → level_of_word mid.levels (new_word mid.words p i) ≡ 0
    level i none = ap (λ (ls : List ℕ). level_of_word ls (new_word mid.words p i)) stays.levels ∙ ap (λ (ws : List Parts). level_of_word s.levels (new_word ws p i)) stays.words ∙ none

-- a commit whose last page is noted
pub commits-noted : {t m t' : Table} {area from level at words charge : ℕ} (class : Class) → class ≡ old_class area from
    → m ≡ record (committed t (slot_of t area level) at words charge (Moved class)) { pages = m.pages } → Adds (page_list t) (page_list m) (at / 256) ((at + words - 1) / 256)
    → t' ≡ record m { last = Some ((at + words - 1) / 256) } → Commits t t' area from level at words charge
commits-noted {t} {m} {t'} {area} {from} {level} {at} {words} {charge} class class_is is adds noted =
    let same : t'.pages ≡ m.pages = ap (λ (u : Table). u.pages) noted in
    let regions : t'.regions ≡ m.regions = ap (λ (u : Table). u.regions) noted in
    record {
      table =
          noted
          ∙ ap (λ (u : Table). record u { last = Some ((at + words - 1) / 256) }) is
          ∙ ap (λ (ps : List ℕ). record (committed t (slot_of t area level) at words charge (Moved class)) { pages = ps; last = Some ((at + words - 1) / 256) }) (sym same)
          ∙ ap (λ (c : Class). record (committed t (slot_of t area level) at words charge (Moved c)) { pages = t'.pages; last = Some ((at + words - 1) / 256) }) class_is;
      pages = subst (λ (u : Table). Adds (page_list t) (page_list u) (at / 256) ((at + words - 1) / 256)) (sym noted) adds;
    }

-- a place leaves what is known of the old class
module _ (s : Store) (t : Table) (p : Parcel) (can : CanMove s t p) (v : IsTable t) (class : Class) (old : IsOldIn t p.at class.area class.level) (is : class.stale ≡ true) (level_in : survivor t class.level < levels_of t)
    (to : ℕ) (s' : Store) (t' : Table) where
  charged : p.charge ≤ slice_index t.charges (stale (slot_of t class.area class.level))
  charged = subst (λ (k : ℕ). p.charge ≤ slice_index t.charges (stale k)) (sym (same_slot t p.at class.area class.level can.area can.level v old can.old)) can.charged

  class_below : live (slot_of t class.area (survivor t class.level)) < length t.chains
  class_below = let a = slot_below t class.area (survivor t class.level) old.area_in level_in in let b = v.chains_size in omega arith

  pub can-put : (region : Option ℕ) → Opens s t s' t' region class.area (survivor t class.level) → IsEnd t' (slot_of t class.area (survivor t class.level)) to (word_count_of p) → CanPut s' t' p class to
  can-put None o e =
      let store = o.behind in
      let table = o.same in
      subst (λ (u : Table). CanPut s' u p class to) (sym table) (subst (λ (m : Store). CanPut m t p class to) (sym store) (record {
        sound = v;
        fits = can.fits;
        size = can.ground.size;
        inside = can.inside;
        rest_inside = can.rest_inside;
        one_region = can.one_region;
        old = old;
        stale_is = is;
        charged = charged;
        end = subst (λ (u : Table). IsEnd u (slot_of t class.area (survivor t class.level)) to (word_count_of p)) table e;
        level_in = level_in;
      }))
  can-put (Some region) o e =
      let store = o.region_level in
      let table = o.chain in
      record {
        sound = o.sound;
        fits = can.fits;
        size = o.ground.size;
        inside = subst (λ (m : Store). p.at + p.words ≤ length m.words) (sym store) can.inside;
        rest_inside = subst (λ (m : Store). IfSome p.rest (λ rest. rest < length m.words)) (sym store) can.rest_inside;
        one_region = can.one_region;
        old = subst (λ (u : Table). IsOldIn u p.at class.area class.level) (sym table) (record {
          area_in = old.area_in;
          level_in = old.level_in;
          region = contains_opened t (live (slot_of t class.area (survivor t class.level))) region (stale (slot_of t class.area class.level)) (p.at / 4096) class_below old.region;
        });
        stale_is = is;
        charged = subst (λ (u : Table). p.charge ≤ slice_index u.charges (stale (slot_of u class.area class.level))) (sym table) charged;
        end = subst (λ (u : Table). IsEnd t' (slot_of u class.area (survivor u class.level)) to (word_count_of p)) (sym table) e;
        level_in = subst (λ (u : Table). survivor u class.level < levels_of u) (sym table) level_in;
      }

-- the levels of survivors are the same
pub survivor_same : {s : Store} {t : Table} {s' : Store} {t' : Table} (region : Option ℕ) {area level : ℕ} (from : ℕ) → Opens s t s' t' region area level → survivor t' from ≡ survivor t from
survivor_same None from o = ap (λ (u : Table). survivor u from) o.same
survivor_same (Some region) from o = ap (λ (u : Table). survivor u from) o.chain

-- no word changes if a region is opened
pub opens-words : {s : Store} {t : Table} {s' : Store} {t' : Table} (region : Option ℕ) {area level : ℕ} → Opens s t s' t' region area level → s'.words ≡ s.words
opens-words None o = ap (λ (m : Store). m.words) o.behind
opens-words (Some region) o = ap (λ (m : Store). m.words) o.region_level

-- what was done at the place, put together
module _ (s : Store) (t : Table) (p : Parcel) (class : Class) (old : IsOldIn t p.at class.area class.level) (level words to : ℕ) (level_is : level ≡ survivor t class.level) (words_is : words ≡ word_count_of p)
    (s' : Store) (t' : Table) (region : Option ℕ) (opens : Opens s t s' t' region class.area level) (e : IsEnd t' (slot_of t class.area level) to words)
    (needed : OpensIfFull t (slot_of t class.area level) words region) where
  pub opens-there : Opens s t s' t' region class.area (survivor t class.level)
  opens-there = subst (λ (l : ℕ). Opens s t s' t' region class.area l) level_is opens

  pub end-there : IsEnd t' (slot_of t class.area (survivor t class.level)) to (word_count_of p)
  end-there = subst (λ (l : ℕ). IsEnd t' (slot_of t class.area l) to (word_count_of p)) level_is (subst (λ (n : ℕ). IsEnd t' (slot_of t class.area level) to n) words_is e)

  pub relocates : (s2 : Store) (t2 : Table) → IsTable t2 → Moves s' s2 p to → Commits t' t2 class.area class.level (survivor t' class.level) to (word_count_of p) p.charge → Relocates s t s2 t2 p to
  relocates s2 t2 v moves commits = record {
    area = class.area;
    level = class.level;
    old = old;
    region = region;
    room = s';
    table = t';
    opens = opens-there;
    needed = subst (λ (l : ℕ). OpensIfFull t (slot_of t class.area l) (word_count_of p) region) level_is (subst (λ (n : ℕ). OpensIfFull t (slot_of t class.area level) n region) words_is needed);
    end = end-there;
    moves = moves;
    commits = subst (λ (l : ℕ). Commits t' t2 class.area class.level l to (word_count_of p) p.charge) (survivor_same region class.level opens) commits;
    sound = v;
  }

  pub opens-only : (s2 : Store) (t2 : Table) → level < levels_of t → StoresNothing s' s2 → t2 ≡ t' → OpensOnly s t s2 t2
  opens-only s2 t2 low stays same = record {
    area = class.area;
    level = level;
    area_in = old.area_in;
    level_in = low;
    region = region;
    room = s';
    opens = subst (λ (u : Table). Opens s t s' u region class.area level) (sym same) opens;
    stays = stays;
  }

-- a survivor's level is one of the levels
pub survivor_in : (t : Table) (level : ℕ) → level < levels_of t → survivor t level < levels_of t
survivor_in t level low = go t.aim
  where
    raised : (b : Bool) → b ≡ nat_lt level t.top → cond b (level + 1) 0 < t.top + 1
    raised true is = let l = ltb-true level t.top (sym is) in omega arith
    raised false is = omega arith

    go : (aim : Option Condemn) → survivor_of aim t.top level < t.top + 1
    go None = omega arith
    go (Some Full) = omega arith
    go (Some (Chosen levels)) = raised (nat_lt level t.top) refl

-- a fact that holds whatever was answered
pub on-err : {A E P : Type 0} (r : Result A E) → P → OnErr r P
on-err (Ok x) h = tt
on-err (Err e) h = h
