-- The scan of a unit, and its state after a swap error.
use Rattle.std.proofs.Common.{◌≡◌, ℕ, ◌+◌, ◌/◌, ◌%◌, ◌<◌, ◌⊎◌, inl, inr, true, false, not, nat_le, List, length, get_or, slice_set, length-set, refl, sym, ◌∙◌, ap, subst, arith, Some, None}
use Rattle.std.proofs.lemmas.Bool.{cases_Bool, cases_eq, and_right, lt-leb}
use Rattle.std.proofs.lemmas.List.{get_or-set_same, get_or-set_other}
use Rattle.store_word.specs.Words.{Parts, null_word}
use Rattle.lisp_graph.specs.declared.object.Value.{Value}
use Rattle.lisp_graph.specs.declared.object.Value.TheVariants as V
use Rattle.mem_port.specs.Store.{Store}
use Rattle.area_space.specs.Table.{Table, used_of}
use Rattle.transporter.specs.obj_layout.Forwards.{word_at}
use Rattle.transporter.specs.lisp_meaning.Roles.{RoleMap, Refines, value_of}
use Rattle.transporter.proofs.lisp_meaning.maps.Frames.{refined}
use Rattle.transporter.specs.lisp_ground.GroundInvariant.{GroundInvariant}
use Rattle.transporter.specs.lisp_meaning.Interpretation.{Interpretation, by_map}
use Rattle.transporter.specs.Growth.{Grows}
use Rattle.transporter.specs.LiveWordsUnchanged.{IsLiveWord, LiveWordsUnchanged, LiveWordsUnchangedExcept}
use Rattle.transporter.specs.Settling.{RefersToOld, CanSettle, IsSettleable, Settles, SettlesAlways, RemainsRepresented}
use Rattle.transporter.specs.Preserving.{FreshOn, PreservesScanned}
use Rattle.transporter.specs.Transports.{RepresentedByLaterMap, WordsUnchanged}
use Rattle.transporter.proofs.LiveObjects.{still-live}
use Rattle.area_space.specs.Ground.{IsGround}
use Rattle.area_space.specs.Sound.{IsTable}
use Rattle.scavenger.specs.declared.scan_set.Unit.TheVariants.{Register, Word}
use Rattle.scavenger.specs.Scan.{Scan}
use Rattle.scavenger.specs.Left.{is_open, IsPaged, next_of, closed, units_of}
use Rattle.scavenger.specs.Collecting.{ScanInvariant, Collects, IsCollecting}
use Rattle.scavenger.specs.Scanning.{register_done, word_done, page_done, EndsPage, StillCollects, Remains, ScansRegister, ScansWord}
use Rattle.scavenger.proofs.PageEnds.{ended-table, ended-memory, ended-marks, ended-kept, ended-old, ended-grows, ended-live, ended-settles, ended-tidy, ended-paged}
use Rattle.scavenger.proofs.OpenWords.{register-fewer, word-fewer}
use Rattle.scavenger.proofs.RemainingUnits.{open_units, units-open}
use Rattle.scavenger.proofs.TidySteps.{tidy-register, tidy-word, open-live}
use Rattle.scavenger.proofs.NextUnits.{same-next, NextRegister, NextWord, next-register, next-word, next-first}
use Rattle.scavenger.proofs.CleanScans.{clean-tended, units-added, units-closed, registers-same}
use Rattle.scavenger.proofs.UnitValues.{register-can, value-fresh, word-can, word-fresh}
use Rattle.scavenger.proofs.TidyScans.{clean-tidy, tidy-clean, none-next}

-- values by a later map

pub later-means : (k k' : RoleMap) (registers : List Parts) (values : List Value) → Refines k.role k'.role → ((r : ℕ) → r < length values → value_of k.role (get_or registers r null_word).content ≡ Some (get_or values r V.Nil))
    → (r : ℕ) → r < length values → value_of k'.role (get_or registers r null_word).content ≡ Some (get_or values r V.Nil)
later-means k k' registers values refines means r low = refined k.role k'.role refines (get_or registers r null_word).content (get_or values r V.Nil) (means r low)

-- a register that is scanned changes no pages of the set
pub register-paged : (scan : Scan) (t : Table) (r : ℕ) → IsPaged scan t → IsPaged (register_done scan r) t
register-paged scan t r x = record { ascending = x.ascending; exact = x.exact }

-- A unit is next, and words are placed

module _ (m m' : Store) (t t' : Table) (scan : Scan) (registers : List Parts) (going : scan.over ≡ false) (preserves : PreservesScanned m t m' t') where
  -- the scan is clean
  pub stays-clean : IsTable t → IsGround m t → IsTable t' → IsGround m' t' → ScanInvariant m t scan registers → ScanInvariant m' t' scan registers
  stays-clean v g v' g' x = clean-tended m m' t t' scan registers registers v g v' g' x preserves (registers-same t' registers) (λ over. absurd cc)

  -- the units that are open
  pub open-added : IsTable t → IsGround m t → IsTable t' → IsGround m' t' → ScanInvariant m t scan registers → open_units scan t' + t.placed ≡ units_of m scan t registers + t'.placed
  open-added v g v' g' x =
      let added = units-added m m' t t' scan registers registers v g v' g' x preserves refl going in
      let after = units-open m' t' registers g'.size scan x.count going in
      omega arith

-- A register

module _ (m m' : Store) (t t' : Table) (scan : Scan) (registers : List Parts) (r : ℕ) (new : Parts) (next : NextRegister scan r) (preserves : PreservesScanned m t m' t')
    (word : Settles t t' (get_or registers r null_word) new)
    (settles : SettlesAlways m t m' t' (get_or registers r null_word) new) where
  pub register-scanned : StillCollects m t scan registers m' t' (closed (register_done scan r) t') (slice_set registers r new) 1
  register-scanned it values x =
      let inside : r < length registers = (let b = x.clean.count in let c = next.low in omega arith) in
      let low : r < length values = (let a = x.count in omega arith) in
      let on = settles it values (get_or values r V.Nil) (register-can m t scan registers it values r x low) in
      let k' = on.later.map in
      let v' = on.later.kept.table in
      let g' = on.later.kept.ground in
      let value = on.value (get_or values r V.Nil) (x.means r low) in
      let clean = stays-clean m m' t t' scan registers next.going preserves x.kept.table x.kept.ground v' g' x.clean in
      let done = tidy-register m' t' scan registers r new v'.full (clean-tidy m' t' scan registers v' g' next.going clean) next.is inside (value-fresh t' k'.role new (get_or values r V.Nil) value word.fresh) in
      let means : (i : ℕ) → i < length values → value_of k'.role (get_or (slice_set registers r new) i null_word).content ≡ Some (get_or values i V.Nil) = λ i l.
      elim (cases_eq i r) [
        | inl e ↦
            let is : get_or (slice_set registers r new) i null_word ≡ new = ap (λ (j : ℕ). get_or (slice_set registers r new) j null_word) e ∙ get_or-set_same registers r new null_word inside in
            ap (λ (w : Parts). value_of k'.role w.content) is ∙ value ∙ ap (λ (j : ℕ). Some (get_or values j V.Nil)) (sym e)
        | inr ne ↦ ap (λ (w : Parts). value_of k'.role w.content) (get_or-set_other registers r i new null_word ne) ∙ later-means it.map k' registers values on.later.refines x.means i l
      ] in
      let added = open-added m m' t t' scan registers next.going preserves x.kept.table x.kept.ground v' g' x.clean in
      let after = units-closed m' t' (register_done scan r) (slice_set registers r new) g'.size (length-set registers r new ∙ x.clean.count) in
      let fewer = register-fewer scan t' r v'.full clean.few next.is next.low in
      let work = on.later.work in
      record {
        map = k';
        collects = record {
          kept = on.later.kept;
          count = length-set registers r new ∙ x.count;
          means = means;
          running = preserves.grows.aim ∙ x.running;
          reaches = x.reaches;
          clean = tidy-clean m' t' (register_done scan r) (slice_set registers r new) v' g' done (register-paged scan t' r clean.paged);
        };
        refines = on.later.refines;
        moves = work;
        units = omega arith;
      }

-- A word

-- a word that is next is live
pub next-live : (m : Store) (t : Table) (scan : Scan) (registers : List Parts) (at : ℕ) → IsTable t → ScanInvariant m t scan registers → NextWord scan t at → IsLiveWord t at
next-live m t scan registers at v clean next = open-live t at v (next-first scan t at next).1 (clean.young at next.here)

module _ (m m' m2 : Store) (t t' t2 : Table) (scan : Scan) (registers : List Parts) (at : ℕ) (new : Parts) (next : NextWord scan t at) (preserves : PreservesScanned m t m' t')
    (word : Settles t t' (word_at m.words at) new) (written : word_at m'.words at ≡ new) (ending : EndsPage m' t' (word_done scan at) m2 t2 (at / 256))
    (settles : SettlesAlways m t m' t' (word_at m.words at) new) where
  pub word-scanned : StillCollects m t scan registers m2 t2 (closed (word_done scan at) t2) registers 1
  word-scanned it values x =
      let alive = next-live m t scan registers at x.kept.table x.clean next in
      let can = word-can m t it values x.kept x.running x.reaches at alive in
      let on = settles it values can.0 can.1 in
      let k' = on.later.map in
      let v' = on.later.kept.table in
      let g' = on.later.kept.ground in
      let kept = ended-kept m' m2 t' t2 (word_done scan at) (at / 256) (by_map it k') ending on.later.kept in
      let place = next-first scan t at next in
      let first = place.0 in
      let size = x.clean.pages in
      let inside : at / 256 < length scan.pages = (let l = next.low in omega arith) in
      let used : at % 4096 < used_of t' (at / 4096) = (let a = place.1 in let b = preserves.grows.used (at / 4096) in omega arith) in
      let clean = stays-clean m m' t t' scan registers next.going preserves x.kept.table x.kept.ground v' g' x.clean in
      let fresh = word-fresh m' t' (by_map it k') on.later.kept at (still-live preserves.grows alive) (subst (λ (w : Parts). RefersToOld t' w → ⊥) (sym written) word.fresh) in
      let done = tidy-word m' t' scan registers at v'.full first used inside fresh (clean-tidy m' t' scan registers v' g' next.going clean) in
      let done2 = ended-tidy m' m2 t' t2 (word_done scan at) (word_done scan at) (at / 256) registers ending done in
      let paged = ended-paged m' m2 t' t2 scan at first inside clean.paged ending in
      let added = open-added m m' t t' scan registers next.going preserves x.kept.table x.kept.ground v' g' x.clean in
      let after = units-closed m2 t2 (word_done scan at) registers kept.ground.size x.clean.count in
      let same : open_units (word_done scan at) t2 ≡ open_units (word_done scan at) t' = ap (open_units (word_done scan at)) (ended-table ending) in
      let fewer = word-fewer scan t' at v'.full clean.few first used inside (let l = next.low in let r = preserves.grows.form.regions in omega arith) in
      let old = ended-old m' m2 t' t2 (word_done scan at) (at / 256) it.store it.aim k'.at ending in
      let placed : t2.placed ≡ t'.placed = ap (λ (u : Table). u.placed) (ended-table ending) in
      let work = on.later.work in
      record {
        map = k';
        collects = record {
          kept = kept;
          count = x.count;
          means = later-means it.map k' registers values on.later.refines x.means;
          running = (ended-grows m' m2 t t' t2 (word_done scan at) (at / 256) ending preserves.grows).aim ∙ x.running;
          reaches = x.reaches;
          clean = tidy-clean m2 t2 (word_done scan at) registers kept.table kept.ground done2 paged;
        };
        refines = on.later.refines;
        moves = omega arith;
        units = omega arith;
      }

-- A swap error

module _ (m m' : Store) (t t' : Table) (scan : Scan) (registers : List Parts) (going : scan.over ≡ false) (preserves : PreservesScanned m t m' t')
    (later : (it : Interpretation) (values : List Value) → Collects m t scan registers it values → RepresentedByLaterMap m t m' t' it) where
  pub fault-remains : StillCollects m t scan registers m' t' scan registers 0
  fault-remains it values x =
      let on = later it values x in
      let added = units-added m m' t t' scan registers registers x.kept.table x.kept.ground on.kept.table on.kept.ground x.clean preserves refl going in
      let work = on.work in
      record {
        map = on.map;
        collects = record {
          kept = on.kept;
          count = x.count;
          means = later-means it.map on.map registers values on.refines x.means;
          running = preserves.grows.aim ∙ x.running;
          reaches = x.reaches;
          clean = stays-clean m m' t t' scan registers going preserves x.kept.table x.kept.ground on.kept.table on.kept.ground x.clean;
        };
        refines = on.refines;
        moves = work;
        units = omega arith;
      }

-- a call that changes nothing gives a later map: the same
pub stays-later : (m m' : Store) (t t' : Table) (it : Interpretation) → GroundInvariant m t it → WordsUnchanged m t m' t' → RepresentedByLaterMap m t m' t' it
stays-later m m' t t' it on stays = record {
  map = it.map;
  kept = stays.kept it on;
  refines = λ kind a n e. e;
  work = (let a = stays.placed in let b = stays.old it on in omega arith);
}

-- The clauses of the calls

pub register-settleable : {m : Store} {t : Table} {scan : Scan} {registers : List Parts} (r : ℕ) → IsCollecting m t scan registers → r < scan.registers → IsSettleable m t (get_or registers r null_word)
register-settleable {m} {t} {scan} {registers} r x low =
    let c = x.collects in
    record {
      it = x.it;
      registers = x.values;
      value = get_or x.values r V.Nil;
      can = register-can m t scan registers x.it x.values r c (let a = c.count in let b = c.clean.count in omega arith);
    }

-- a register that is settled is fresh
pub register-fresh : (m m' : Store) (t t' : Table) (scan : Scan) (registers : List Parts) (r : ℕ) (old new : Parts) → IsCollecting m t scan registers → r < scan.registers → get_or registers r null_word ≡ old → Settles t t' old new
    → SettlesAlways m t m' t' old new
    → FreshOn t' new.content
register-fresh m m' t t' scan registers r old new x low was word settles =
    let c = x.collects in
    let inside : r < length x.values = (let a = c.count in let b = c.clean.count in omega arith) in
    let v = get_or x.values r V.Nil in
    let can = subst (λ (w : Parts). CanSettle m t x.it x.values w (get_or x.values r V.Nil)) was (register-can m t scan registers x.it x.values r c inside) in
    let on = settles x.it x.values v can in
    value-fresh t' on.later.map.role new v (on.value v (sym (ap (λ (w : Parts). value_of x.it.map.role w.content) was) ∙ c.means r inside)) word.fresh

pub word-settleable : {m : Store} {t : Table} {scan : Scan} {registers : List Parts} (at : ℕ) → IsCollecting m t scan registers → NextWord scan t at → IsSettleable m t (word_at m.words at)
word-settleable {m} {t} {scan} {registers} at x next =
    let c = x.collects in
    let can = word-can m t x.it x.values c.kept c.running c.reaches at (next-live m t scan registers at c.kept.table c.clean next) in
    record {
      it = x.it;
      registers = x.values;
      value = can.0;
      can = can.1;
    }

pub register-scans : (m m' : Store) (t t' : Table) (scan scan' : Scan) (registers registers' : List Parts) (r : ℕ) (old new : Parts) → next_of scan t ≡ Some (Register r) → PreservesScanned m t m' t' → Grows t t' → LiveWordsUnchanged m t m' t' → get_or registers r null_word ≡ old → Settles t t' old new
    → SettlesAlways m t m' t' old new
    → scan' ≡ closed (register_done scan r) t' → registers' ≡ slice_set registers r new → ScansRegister m t scan registers m' t' scan' registers' r
register-scans m m' t t' scan scan' registers registers' r old new is preserves grows live was word settles done written =
    let next = next-register scan t r is in
    let word_here = subst (λ (w : Parts). Settles t t' w new) (sym was) word in
    let settles_here = subst (λ (w : Parts). SettlesAlways m t m' t' w new) (sym was) settles in
    let still = register-scanned m m' t t' scan registers r new next preserves word_here settles_here in
    record {
      next = is;
      done = done;
      word = new;
      written = written;
      settled = word_here;
      moves = record { table = t'; grows = grows; but = refl };
      live = live;
      still = subst (λ (u : Scan). StillCollects m t scan registers m' t' u registers' 1) (sym done) (subst (λ (ws : List Parts). StillCollects m t scan registers m' t' (closed (register_done scan r) t') ws 1) (sym written) still);
    }

pub word-scans : (m m' m2 : Store) (t t' t2 : Table) (scan scan' : Scan) (registers : List Parts) (at : ℕ) (new : Parts) → next_of scan t ≡ Some (Word at) → PreservesScanned m t m' t' → Grows t t' → LiveWordsUnchangedExcept m t m' t' at → Settles t t' (word_at m.words at) new → word_at m'.words at ≡ new
    → EndsPage m' t' (word_done scan at) m2 t2 (at / 256)
    → SettlesAlways m t m' t' (word_at m.words at) new
    → scan' ≡ closed (word_done scan at) t2 → ScansWord m t scan registers m2 t2 scan' registers at
word-scans m m' m2 t t' t2 scan scan' registers at new is preserves grows live word written ending settles done =
    let still = word-scanned m m' m2 t t' t2 scan registers at new (next-word scan t at is) preserves word written ending settles in
    let there : word_at m2.words at ≡ new = ap (λ (ws : List Parts). word_at ws at) (ended-memory ending).words ∙ written in
    let same : page_done (word_done scan at) t2 (at / 256) ≡ page_done (word_done scan at) t' (at / 256) = ap (λ (u : Table). page_done (word_done scan at) u (at / 256)) (ended-table ending) in
    record {
      next = is;
      done = done;
      registers_same = refl;
      settled = subst (λ (w : Parts). Settles t t2 (word_at m.words at) w) (sym there) (ended-settles m' m2 t t' t2 (word_done scan at) (at / 256) (word_at m.words at) new ending word);
      moves = record { table = t'; grows = grows; but = ended-table ending };
      remarked = λ yes clean. ended-marks ending (sym same ∙ sym (ap (λ (u : Scan). page_done u t2 (at / 256)) done) ∙ yes) clean;
      live = ended-live m m' m2 t t' t2 (word_done scan at) (at / 256) at ending live;
      still = subst (λ (u : Scan). StillCollects m t scan registers m2 t2 u registers 1) (sym done) still;
    }

pub register-remains : (m m' : Store) (t t' : Table) (scan : Scan) (registers : List Parts) (r : ℕ) → next_of scan t ≡ Some (Register r) → PreservesScanned m t m' t' → Grows t t' → LiveWordsUnchanged m t m' t' → WordsUnchanged m t m' t' → Remains m t scan registers m' t' scan registers
register-remains m m' t t' scan registers r is preserves grows live stays =
    let next = next-register scan t r is in
    record {
      scan_same = refl;
      registers_same = refl;
      moves = record { table = t'; grows = grows; but = refl };
      live = live;
      still = fault-remains m m' t t' scan registers next.going preserves
          (λ it values x. stays-later m m' t t' it x.kept stays);
    }

pub word-remains : (m m' : Store) (t t' : Table) (scan : Scan) (registers : List Parts) (at : ℕ) → next_of scan t ≡ Some (Word at) → PreservesScanned m t m' t' → Grows t t' → LiveWordsUnchanged m t m' t'
    → RemainsRepresented m t m' t' (word_at m.words at)
    → Remains m t scan registers m' t' scan registers
word-remains m m' t t' scan registers at is preserves grows live fault =
    let next = next-word scan t at is in
    record {
      scan_same = refl;
      registers_same = refl;
      moves = record { table = t'; grows = grows; but = refl };
      live = live;
      still = fault-remains m m' t t' scan registers next.going preserves
          (λ it values x. (let can = word-can m t it values x.kept x.running x.reaches at (next-live m t scan registers at x.kept.table x.clean next) in fault it values can.0 can.1));
    }

-- if no unit is next the scan has finished
pub none-is-over : {m : Store} {t : Table} {scan : Scan} {registers : List Parts} → IsCollecting m t scan registers → next_of scan t ≡ None → scan.over ≡ true
none-is-over {m} {t} {scan} {registers} x none = go (cases_Bool scan.over)
  where
    go : (scan.over ≡ true) ⊎ (scan.over ≡ false) → scan.over ≡ true
    go (inl over) = over
    go (inr going) =
        let c = x.collects.clean in
        let same = same-next scan t going ∙ none in
        let all = none-next scan t same in
        let count = c.count in
        let size = x.collects.kept.ground.size in
        c.scanned.unfinished (
          (λ r low. and_right (not scan.over) (nat_le scan.scanned r) (lt-leb scan.scanned r (all.0 r (omega arith)))),
          (λ a low. and_right (not scan.over) (is_open scan t a) (all.1 a (omega arith))),
        )
