-- What a clean scan is, apart from whether it has finished.
use Rattle.std.proofs.Common.{◌≡◌, ℕ, ◌+◌, ◌*◌, ◌/◌, ◌%◌, ◌<◌, ◌≤◌, inl, inr, Bool, true, false, IsTrue, not, nat_lt, nat_le, List, length, get_or, slice_index, refl, ap, arith, Option, Some, None}
use Rattle.std.proofs.lemmas.Bool.{cases_lt, and_parts, and_right, ltb-true, leb-false, lt-leb}
use Rattle.store_word.specs.Words.{Parts, null_word}
use Rattle.mem_port.specs.Store.{Store}
use Rattle.area_space.specs.Table.{Table, used_of, IsLive, IsOld}
use Rattle.area_space.specs.Sound.{IsTable}
use Rattle.area_space.specs.Ground.{IsGround}
use Rattle.transporter.specs.obj_layout.Forwards.{word_at}
use Rattle.transporter.specs.lisp_meaning.Image.{Live, is_used, region}
use Rattle.transporter.specs.lisp_meaning.Units.{lowest}
use Rattle.transporter.specs.lisp_meaning.Stands.{IsScanned}
use Rattle.transporter.proofs.lisp_meaning.reading.NextUnits.{lowest-none}
use Rattle.transporter.specs.lisp_ground.Image.{image_of}
use Rattle.transporter.proofs.lisp_ground.regions.OldAndLive.{live_standing, live_region, used_there, used_live}
use Rattle.transporter.specs.LiveWordsUnchanged.{IsLiveWord}
use Rattle.transporter.proofs.FetchedWords.{live-inside}
use Rattle.scavenger.specs.declared.scan_set.Unit.{Unit as ScanUnit}
use Rattle.scavenger.specs.Scan.{Scan}
use Rattle.scavenger.specs.Left.{is_open, IsPaged, register_left, word_left, unit_of, near_of, next_of, is_none, closed, rest_of, units_of}
use Rattle.scavenger.specs.Collecting.{ScanInvariant}
use Rattle.scavenger.specs.Starting.{used_on}
use Rattle.scavenger.proofs.RemainingUnits.{open_units, units-open}
use Rattle.transporter.specs.Preserving.{FreshOn}
use Rattle.scavenger.proofs.FreshWords.{fresh-image, image-fresh, unused-fresh}
use Rattle.scavenger.proofs.NextUnits.{opened, nothing-next}

-- what remains is used and live
pub left-live : (m : Store) (t : Table) (s : Scan) (registers : List Parts) → IsTable t → ((a : ℕ) → is_open s t a ≡ true → IsOld t (a / 4096) → ⊥) → (a : ℕ) → word_left s t a ≡ true
    → IsTrue (is_used (image_of m t (rest_of s t registers)) a) × ((region (image_of m t (rest_of s t registers)) a).standing ≡ Live)
left-live m t s registers v young a left =
    let here = (and_parts (not s.over) (is_open s t a) left).1 in
    let used = ltb-true (a % 4096) (used_of t (a / 4096)) (and_parts (nat_le (slice_index s.pages (a / 256)) (a % 256)) (nat_lt (a % 4096) (used_of t (a / 4096))) here).1 in
    (used_there m t (rest_of s t registers) v a used, used_live m t (rest_of s t registers) v a used (young a here))

-- sizes fit, what is scanned has no old address, and what is placed later is open
pub record Tidy (m : Store) (t : Table) (s : Scan) (registers : List Parts) : Type 0 where
  pub count : length registers ≡ s.registers
  pub pages : length s.pages ≡ 16 * t.regions
  pub few : (page : ℕ) → slice_index s.pages page ≤ used_on t page
  pub young : (a : ℕ) → is_open s t a ≡ true → IsOld t (a / 4096) → ⊥
  pub registers_fresh : (r : ℕ) → r < s.scanned → r < length registers → FreshOn t (get_or registers r null_word).content
  pub words_fresh : (a : ℕ) → IsLiveWord t a → is_open s t a ≡ false → FreshOn t (word_at m.words a).content
  pub counted : open_units s t + s.done ≡ s.begun + t.placed

-- a clean scan that hasn't finished is tidy
pub clean-tidy : (m : Store) (t : Table) (s : Scan) (registers : List Parts) → IsTable t → IsGround m t → s.over ≡ false → ScanInvariant m t s registers → Tidy m t s registers
clean-tidy m t s registers v g going c = record {
  count = c.count;
  pages = c.pages;
  few = c.few;
  young = c.young;
  registers_fresh = λ r done low. image-fresh m t (rest_of s t registers) (get_or registers r null_word).content v
      (c.scanned.registers r low (and_right (not s.over) (nat_le s.scanned r) (lt-leb s.scanned r done)));
  words_fresh = λ a live shut. image-fresh m t (rest_of s t registers) (word_at m.words a).content v
      (c.scanned.words a (live-inside m v g.size live) (live_standing m t (rest_of s t registers) v a live.live) (and_right (not s.over) (is_open s t a) shut));
  counted = (let e = units-open m t registers g.size s c.count going in let n = c.counted going in omega arith);
}

none-both : (near register word : Option ℕ) → unit_of near register word ≡ None → (register ≡ None) × (word ≡ None)
none-both (Some a) register word e = cc
none-both None (Some r) word e = cc
none-both None None (Some a) e = cc
none-both None None None e = (refl, refl)

pub none-is : (o : Option ScanUnit) → is_none o ≡ true → o ≡ None
none-is None e = refl
none-is (Some unit) e = cc

-- if no unit is next, every register is scanned and no word is open
pub none-next : (s : Scan) (t : Table) → next_of (opened s) t ≡ None → ((r : ℕ) → r < s.registers → r < s.scanned) × ((a : ℕ) → a < 4096 * t.regions → is_open s t a ≡ false)
none-next s t e =
    let both = none-both (near_of (opened s) t) (lowest (register_left (opened s)) s.registers) (lowest (word_left (opened s) t) (4096 * t.regions)) e in (
      (λ r low. leb-false s.scanned r (lowest-none (register_left (opened s)) s.registers both.0 r low)),
      (λ a low. lowest-none (word_left (opened s) t) (4096 * t.regions) both.1 a low),
    )

-- whether the scan has finished doesn't matter to the pages
paged-over : (s : Scan) (t : Table) (over : Bool) → IsPaged s t → (let u : Scan = record s { over = over } in IsPaged u t)
paged-over s t over x = record { ascending = x.ascending; exact = x.exact }

module _ (m : Store) (t : Table) (s : Scan) (registers : List Parts) (v : IsTable t) (g : IsGround m t) (x : Tidy m t s registers) where
  -- a word of a live region that isn't open has no old address
  shut-fresh : (a : ℕ) → a < length m.words → IsLive t (a / 4096) → is_open s t a ≡ false → FreshOn t (word_at m.words a).content
  shut-fresh a low live shut =
      elim (cases_lt (a % 4096) (used_of t (a / 4096))) [
        | inl used ↦ x.words_fresh a (record { live = live; used = used }) shut
        | inr past ↦ unused-fresh m t a g low past
      ]

  scanned-at : (b : Bool) → is_none (next_of (opened s) t) ≡ b → (let u : Scan = record s { over = b } in IsScanned (image_of m t (rest_of u t registers)) b)
  scanned-at true e =
      let u : Scan = record s { over = true } in
      let none = none-next s t (none-is (next_of (opened s) t) e) in
      record {
        left = λ a low here. left-live m t u registers v x.young a here;
        registers = λ r low left. fresh-image m t (rest_of u t registers) (get_or registers r null_word).content v
            (x.registers_fresh r (none.0 r (let y = x.count in omega arith)) low);
        words = λ a low live left. fresh-image m t (rest_of u t registers) (word_at m.words a).content v
            (shut-fresh a low (live_region m t (rest_of u t registers) v a live) (none.1 a (let y = g.size in omega arith)));
        finished = λ over. ((λ r low. refl), (λ a low. refl));
        unfinished = λ nothing. refl;
      }
  scanned-at false e =
      let u : Scan = record s { over = false } in
      record {
        left = λ a low here. left-live m t u registers v x.young a here;
        registers = λ r low left. fresh-image m t (rest_of u t registers) (get_or registers r null_word).content v
            (x.registers_fresh r (leb-false s.scanned r left) low);
        words = λ a low live left. fresh-image m t (rest_of u t registers) (word_at m.words a).content v
            (shut-fresh a low (live_region m t (rest_of u t registers) v a live) left);
        finished = λ over. cc;
        unfinished = λ nothing.
            let size = g.size in
            let count = x.count in
            let none : next_of (opened s) t ≡ None = nothing-next (opened s) t (λ r low. nothing.0 r (omega arith)) (λ a low. nothing.1 a (omega arith)) in
            let shown : is_none (next_of (opened s) t) ≡ true = ap is_none none in
            cc;
      }

  pub tidy-clean : IsPaged s t → ScanInvariant m t (closed s t) registers
  tidy-clean paged = record {
    count = x.count;
    pages = x.pages;
    scanned = scanned-at (is_none (next_of (opened s) t)) refl;
    few = x.few;
    young = x.young;
    paged = paged-over s t (is_none (next_of (opened s) t)) paged;
    counted = λ going. (let e : units_of m (closed s t) t registers ≡ open_units s t = units-open m t registers g.size (closed s t) x.count going in let n = x.counted in omega arith);
  }
