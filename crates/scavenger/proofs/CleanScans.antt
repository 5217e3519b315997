-- A clean scan stays clean over any call that preserves the ground, and the units that remain grow by the words placed.
use Rattle.std.proofs.Common.{◌≡◌, ℕ, zero, suc, ◌+◌, ◌*◌, ◌/◌, ◌%◌, ◌^◌, ◌<◌, ◌≤◌, ◌⊎◌, inl, inr, true, false, nat_lt, nat_le, List, length, get_or, slice_index, refl, sym, ◌∙◌, ap, subst, IsTrue, arith}
use Rattle.std.proofs.lemmas.Bool.{cases_lt, cases_Bool, and_parts, leb-true, lt-leb, ltb-true}
use Rattle.store_word.specs.Words.{Parts, null_word}
use Rattle.lisp_graph.specs.Totals.{total, if_true}
use Rattle.lisp_graph.proofs.Totals.{total-cong, total-zero, total-suc}
use Rattle.mem_port.specs.Store.{Store}
use Rattle.area_space.specs.Table.{Table, used_of, IsLive, IsOld, IsUnclassed}
use Rattle.area_space.specs.Sound.{IsTable}
use Rattle.area_space.specs.Ground.{IsGround}
use Rattle.area_space.proofs.UsedEnds.{words_small}
use Rattle.transporter.specs.obj_layout.Forwards.{word_at}
use Rattle.transporter.specs.lisp_meaning.Units.{NothingLeft}
use Rattle.transporter.specs.lisp_ground.Image.{image_of}
use Rattle.transporter.proofs.lisp_ground.regions.Owners.{region_cases}
use Rattle.transporter.proofs.lisp_ground.regions.OldAndLive.{live_standing, live_region}
use Rattle.transporter.specs.LiveWordsUnchanged.{IsLiveWord}
use Rattle.transporter.specs.Preserving.{FreshOn, NoOldAddresses, PreservesScanned, RegistersPreserved}
use Rattle.transporter.proofs.LiveObjects.{old-stays, old-before}
use Rattle.transporter.proofs.SettledWords.{live-not_old}
use Rattle.transporter.proofs.FetchedWords.{live-inside}
use Rattle.transporter.proofs.ScannedWords.{fresh-grown}
use Rattle.scavenger.specs.Scan.{Scan}
use Rattle.scavenger.specs.Left.{is_open, register_left, word_left, IsPaged, is_none, next_of, closed, rest_of, units_of}
use Rattle.scavenger.specs.Collecting.{ScanInvariant}
use Rattle.scavenger.proofs.FreshWords.{fresh-image, image-fresh, unused-fresh}
use Rattle.scavenger.proofs.LowestNumbers.{is-open, not-behind}
use Rattle.scavenger.proofs.OpenWords.{few-ahead, few-grown, units-grown}
use Rattle.scavenger.proofs.RemainingUnits.{open_units, units-open}
use Rattle.scavenger.proofs.OpenPages.{paged-grown}
use Rattle.scavenger.proofs.Sums.{where-none}
use Rattle.scavenger.proofs.NextUnits.{opened}
use Rattle.scavenger.proofs.TidyScans.{left-live, none-is, none-next}

-- Which words have to be fresh, for registers and words alone
pub record Swept (m : Store) (t : Table) (s : Scan) (registers : List Parts) : Type 0 where
  pub registers_fresh : (r : ℕ) → r < length registers → register_left s r ≡ false → FreshOn t (get_or registers r null_word).content
  pub words_fresh : (a : ℕ) → IsLiveWord t a → word_left s t a ≡ false → FreshOn t (word_at m.words a).content

swept-of : (m : Store) (t : Table) (s : Scan) (registers : List Parts) → IsTable t → IsGround m t → ScanInvariant m t s registers → Swept m t s registers
swept-of m t s registers v g x = record {
  registers_fresh = λ r low left. image-fresh m t (rest_of s t registers) (get_or registers r null_word).content v (x.scanned.registers r low left);
  words_fresh = λ a live left. image-fresh m t (rest_of s t registers) (word_at m.words a).content v
      (x.scanned.words a (live-inside m v g.size live) (live_standing m t (rest_of s t registers) v a live.live) left);
}

-- if a scan has finished no unit remains
none_at : (f : ℕ → ℕ) (n : ℕ) → ((i : ℕ) → f i ≡ 0) → total f n ≡ 0
none_at f zero h = total-zero f
none_at f (suc n) h = let a = total-suc f n in let b = none_at f n h in let c = h n in omega arith

pub units-none : (m : Store) (t : Table) (s : Scan) (registers : List Parts) → s.over ≡ true → units_of m s t registers ≡ 0
units-none m t s registers over =
    let a = none_at (λ r. if_true (register_left s r) 1) (length registers) (λ r. where-none (register_left s r) (done r)) in
    let b = none_at (λ a. if_true (word_left s t a) 1) (length m.words) (λ a. where-none (word_left s t a) (shut a)) in
    omega arith
  where
    done : (r : ℕ) → register_left s r ≡ false
    done r = cc

    shut : (a : ℕ) → word_left s t a ≡ false
    shut a = cc

-- the units that remain are those that are open, if the scan has finished once none is
pub units-closed : (m : Store) (t : Table) (s : Scan) (registers : List Parts) → length m.words ≡ 4096 * t.regions → length registers ≡ s.registers → units_of m (closed s t) t registers ≡ open_units s t
units-closed m t s registers size count = elim (cases_Bool (is_none (next_of (opened s) t))) [
  | inl over ↦
      let none = none-next s t (none-is (next_of (opened s) t) over) in
      let left = units-none m t (closed s t) registers over in
      let a = total-cong (λ r. if_true (nat_le s.scanned r) 1) (λ r. 0) s.registers (λ r l. where-none (nat_le s.scanned r) (lt-leb s.scanned r (none.0 r l))) in
      let b = total-cong (λ a. if_true (is_open s t a) 1) (λ a. 0) (4096 * t.regions) (λ a l. where-none (is_open s t a) (none.1 a l)) in
      let c = none_at (λ r. 0) s.registers (λ r. refl) in
      let d = none_at (λ a. 0) (4096 * t.regions) (λ a. refl) in
      omega arith
  | inr going ↦ units-open m t registers size (closed s t) count going
]

-- what is placed remains to be scanned, and no other unit is added
pub units-added : (m m' : Store) (t t' : Table) (s : Scan) (registers registers' : List Parts) → IsTable t → IsGround m t → IsTable t' → IsGround m' t' → ScanInvariant m t s registers → PreservesScanned m t m' t' → length registers' ≡ length registers → s.over ≡ false
    → units_of m' s t' registers' + t.placed ≡ units_of m s t registers + t'.placed
units-added m m' t t' s registers registers' v g v' g' x y count going =
    let before = units-open m t registers g.size s x.count going in
    let after = units-open m' t' registers' g'.size s (count ∙ x.count) going in
    let grown = units-grown s t t' v.full v'.full y.grows.used y.grows.form.regions y.placed x.few in
    omega arith

pub units-most : (m m' : Store) (t t' : Table) (s : Scan) (registers registers' : List Parts) → IsTable t → IsGround m t → IsTable t' → IsGround m' t' → ScanInvariant m t s registers → PreservesScanned m t m' t' → length registers' ≡ length registers
    → units_of m' s t' registers' + t.placed ≤ units_of m s t registers + t'.placed
units-most m m' t t' s registers registers' v g v' g' x y count = elim (cases_Bool s.over) [
  | inl over ↦ let none = units-none m' t' s registers' over in let more = y.grows.placed in omega arith
  | inr going ↦ let same = units-added m m' t t' s registers registers' v g v' g' x y count going in omega arith
]

module _ (m m' : Store) (t t' : Table) (s : Scan) (registers registers' : List Parts) (v : IsTable t) (g : IsGround m t) (v' : IsTable t') (g' : IsGround m' t')
    (x : ScanInvariant m t s registers) (y : PreservesScanned m t m' t') (z : RegistersPreserved t' registers registers') (stays_fresh : s.over ≡ true → NoOldAddresses m' t') where
  swept : Swept m t s registers
  swept = swept-of m t s registers v g x

  -- a word that isn't open afterwards was used and live before, and not open
  shut-before : (a : ℕ) → IsLiveWord t' a → is_open s t' a ≡ false → IsLiveWord t a × (is_open s t a ≡ false)
  shut-before a live shut = by_use (cases_lt (a % 4096) (used_of t (a / 4096)))
    where
      behind : slice_index s.pages (a / 256) ≤ a % 256 → ⊥
      behind low = let yes = is-open s t' a low live.used in cc

      class : a % 4096 < used_of t (a / 4096) → IsUnclassed t (a / 4096) ⊎ (IsLive t (a / 4096) ⊎ IsOld t (a / 4096)) → IsLive t (a / 4096)
      class used (inl free) = let none = v.blank (a / 4096) free in absurd (omega arith)
      class used (inr (inl alive)) = alive
      class used (inr (inr old)) = absurd (live-not_old v' live.live (old-stays y.grows old))

      by_use : (a % 4096 < used_of t (a / 4096)) ⊎ (used_of t (a / 4096) ≤ a % 4096) → IsLiveWord t a × (is_open s t a ≡ false)
      by_use (inl used) = (record { live = class used (region_cases t (a / 4096)); used = used }, not-behind s t a (elim (cases_lt (a % 256) (slice_index s.pages (a / 256))) [ inl l ↦ l | inr h ↦ absurd (behind h) ]))
      by_use (inr past) = absurd (behind (few-ahead s t x.few a past))

  -- a word that was open is still open
  open-after : (a : ℕ) → is_open s t a ≡ true → is_open s t' a ≡ true
  open-after a here =
      let parts = and_parts (nat_le (slice_index s.pages (a / 256)) (a % 256)) (nat_lt (a % 4096) (used_of t (a / 4096))) here in
      let behind = leb-true (slice_index s.pages (a / 256)) (a % 256) parts.0 in
      let low = ltb-true (a % 4096) (used_of t (a / 4096)) parts.1 in
      let u = y.grows.used (a / 4096) in
      is-open s t' a behind (omega arith)

  young-after : (a : ℕ) → is_open s t' a ≡ true → IsOld t' (a / 4096) → ⊥
  young-after a here old =
      let parts = and_parts (nat_le (slice_index s.pages (a / 256)) (a % 256)) (nat_lt (a % 4096) (used_of t' (a / 4096))) here in
      let behind = leb-true (slice_index s.pages (a / 256)) (a % 256) parts.0 in
      let low = ltb-true (a % 4096) (used_of t' (a / 4096)) parts.1 in
      let same = y.young (a / 4096) old in
      x.young a (is-open s t a behind (omega arith)) (old-before y.grows old)

  registers-after : (r : ℕ) → r < length registers' → register_left s r ≡ false → FreshOn t' (get_or registers' r null_word).content
  registers-after r low left =
      let count = z.count in
      let below : r < length registers = omega arith in
      elim (z.each r below) [
        | inl same ↦ subst (λ (w : Parts). FreshOn t' w.content) (sym same) (fresh-grown (get_or registers r null_word).content y.grows (swept.registers_fresh r below left))
        | inr fresh ↦ fresh
      ]

  words-after : (a : ℕ) → IsLiveWord t' a → word_left s t' a ≡ false → FreshOn t' (word_at m'.words a).content
  words-after a live left = elim (cases_Bool s.over) [
    | inl over ↦ stays_fresh over a live
    | inr going ↦
        let shut : is_open s t' a ≡ false = cc in
        let before = shut-before a live shut in
        let was : word_left s t a ≡ false = cc in
        elim (y.words a before.0) [
          | inl same ↦ subst (λ (w : Parts). FreshOn t' w.content) (sym same) (fresh-grown (word_at m.words a).content y.grows (swept.words_fresh a before.0 was))
          | inr fresh ↦ fresh
        ]
  ]

  units-stay : s.over ≡ false → units_of m' s t' registers' + t.placed ≡ units_of m s t registers + t'.placed
  units-stay going = units-added m m' t t' s registers registers' v g v' g' x y z.count going

  pub clean-tended : ScanInvariant m' t' s registers'
  clean-tended = record {
    count = z.count ∙ x.count;
    pages = x.pages ∙ ap (λ (n : ℕ). 16 * n) (sym y.grows.form.regions);
    scanned = record {
      left = λ a low here. left-live m' t' s registers' v' young-after a here;
      registers = λ r low left. fresh-image m' t' (rest_of s t' registers') (get_or registers' r null_word).content v' (registers-after r low left);
      words = λ a low live left. fresh-image m' t' (rest_of s t' registers') (word_at m'.words a).content v' (elim (cases_lt (a % 4096) (used_of t' (a / 4096))) [
        | inl used ↦ words-after a (record { live = live_region m' t' (rest_of s t' registers') v' a live; used = used }) left
        | inr past ↦ unused-fresh m' t' a g' low past
      ]);
      finished = finished;
      unfinished = unfinished;
    };
    few = few-grown s t t' y.grows.used x.few;
    young = young-after;
    paged = paged-grown s t t' (few-ahead s t x.few) y.grows.used y.paged x.paged;
    counted = λ going. (let e = units-stay going in let n = x.counted going in omega arith);
  }
    where
      finished : IsTrue s.over → NothingLeft (image_of m' t' (rest_of s t' registers'))
      finished over = ((λ r low. done r), (λ a low. shut a))
        where
          done : (r : ℕ) → register_left s r ≡ false
          done r = let e : s.over ≡ true = over in cc

          shut : (a : ℕ) → word_left s t' a ≡ false
          shut a = let e : s.over ≡ true = over in cc

      unfinished : NothingLeft (image_of m' t' (rest_of s t' registers')) → IsTrue s.over
      unfinished nothing = x.scanned.unfinished ((λ r low. nothing.0 r (let count = z.count in omega arith)), (λ a low. shut a (let size = g.size in let size' = g'.size in let same = y.grows.form.regions in omega arith)))
        where
          shut : (a : ℕ) → a < length m'.words → word_left s t a ≡ false
          shut a low = elim (cases_Bool s.over) [
            | inl over ↦ cc
            | inr going ↦ elim (cases_Bool (is_open s t a)) [
              | inl here ↦ let later = open-after a here in let none = nothing.1 a low in absurd cc
              | inr closed ↦ cc
            ]
          ]

-- registers that are unchanged
pub registers-same : (t : Table) (registers : List Parts) → RegistersPreserved t registers registers
registers-same t registers = record { count = refl; each = λ r low. inl refl }

-- the pages of the set, when words are placed
pub preserved-paged : {m m' : Store} {t t' : Table} {registers : List Parts} (s : Scan) → ScanInvariant m t s registers → PreservesScanned m t m' t' → IsPaged s t'
preserved-paged {m} {m'} {t} {t'} s x y = paged-grown s t t' (few-ahead s t x.few) y.grows.used y.paged x.paged

-- fewer than 2^33 units are scanned
pub few-done : {m : Store} {t : Table} {registers : List Parts} (s : Scan) → IsTable t → ScanInvariant m t s registers → s.over ≡ false → s.begun < 2 ^ 32 → s.done < 2 ^ 40
few-done {m} {t} {registers} s v x going few =
    let sum = x.counted going in
    let placed = v.counted in
    let small = words_small t v in
    omega arith
