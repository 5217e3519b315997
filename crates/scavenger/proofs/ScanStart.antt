-- The start of a scan.
use Rattle.std.proofs.Common.{◌≡◌, ◌≢◌, ℕ, zero, suc, ◌+◌, ◌-◌, ◌*◌, ◌/◌, ◌%◌, ◌^◌, ◌<◌, ◌≤◌, ◌⊎◌, inl, inr, Bool, true, false, nat_lt, nat_le, min, if◌then◌else◌, List, [], length, slice_index, slice_set, length-set, add-one, refl, sym, ◌∙◌, ap, subst, arith}
use Rattle.std.specs.Prelude.{Contains, ◌↔◌}
use Rattle.std.specs.Int.{bit_at}
use Rattle.std.specs.Int.RustNames.{bit_and}
use Rattle.std.proofs.lemmas.Bool.{cases_Bool, cases_lt, cases_eq, and_cases, and_parts, and_left, le-ltb, lt-ltb, ltb-true, eqb-true, not-false}
use Rattle.std.proofs.lemmas.List.{get_or_past, get_or-set_same, get_or-set_other}
use Rattle.store_word.specs.Sets.{HasLevel}
use Rattle.store_word.specs.Words.{Parts}
use Rattle.store_word.proofs.SetLaws.{meets_at}
use Rattle.lisp_graph.specs.declared.command.Condemn.{Condemn}
use Rattle.lisp_graph.specs.declared.command.Condemn.TheVariants.{Full, Chosen}
use Rattle.lisp_graph.specs.Totals.{total, if_true}
use Rattle.lisp_graph.proofs.Totals.{total-zero, total-suc, total-cong}
use Rattle.mem_port.specs.Store.{Store, MarksHold, level_of_address, level_of_word}
use Rattle.area_space.specs.Table.{Table, levels_of, slots_of, stale, chain, used_of, mark_of, IsOld, page_list}
use Rattle.area_space.specs.Flips.{Slot, after_flip, condemns, condemns_level, state_of}
use Rattle.area_space.specs.PageList.{IsAscending, Adds}
use Rattle.area_space.specs.Sound.{IsTable}
use Rattle.area_space.specs.Ground.{IsGround}
use Rattle.transporter.specs.obj_layout.Forwards.{word_at}
use Rattle.transporter.proofs.lisp_ground.regions.Classes.{slot_inside}
use Rattle.transporter.proofs.lisp_ground.regions.Owners.{region_cases}
use Rattle.transporter.proofs.lisp_ground.words.Words.{with_address}
use Rattle.transporter.specs.LiveWordsUnchanged.{IsLiveWord}
use Rattle.scavenger.specs.Scan.{Scan}
use Rattle.scavenger.specs.Left.{is_open, HasOpen, IsPaged, closed, units_of}
use Rattle.scavenger.specs.Collecting.{ScanInvariant}
use Rattle.scavenger.specs.Starting.{Begins, IsFlipped, may_name, is_base, base_pages, used_on, spared_on, units_on, units_begun}
use Rattle.scavenger.proofs.PageEnds.{repaged, repaged-table, repaged-ground, repaged-tidy}
use Rattle.transporter.specs.Preserving.{FreshOn}
use Rattle.scavenger.proofs.LowestNumbers.{is-open, not-behind, not-used, open-first}
use Rattle.scavenger.proofs.NextUnits.{register-some}
use Rattle.scavenger.proofs.OpenWords.{units-sum, used-pages}
use Rattle.scavenger.proofs.RemainingUnits.{open_units, units-open}
use Rattle.scavenger.proofs.Sums.{where-none, where-one}
use Rattle.scavenger.proofs.TidyScans.{Tidy, tidy-clean}

-- Turns of the loop over pages

-- what a scan that begins has of the old one
abbrev pub begins_as : Scan → List ℕ → ℕ → Scan
begins_as old pages begun = record old { scanned = 0; pages = pages; over = false; begun = begun; done = 0 }

pub begun-more : (old now new : Scan) (ps : List ℕ) (n : ℕ) → now ≡ begins_as old now.pages now.begun → new ≡ (let s : Scan = record now { pages = ps; begun = n } in s) → new ≡ begins_as old new.pages new.begun
begun-more old now new ps n same e =
    e ∙ ap (λ (x : Scan). (let s : Scan = record x { pages = ps; begun = n } in s)) same
    ∙ ap (λ (qs : List ℕ). begins_as old qs n) (sym (ap (λ (x : Scan). x.pages) e))
    ∙ ap (begins_as old new.pages) (sym (ap (λ (x : Scan). x.begun) e))

other : (xs : List ℕ) (i j x : ℕ) → j ≢ i → slice_index (slice_set xs i x) j ≡ slice_index xs j
other xs i j x ne = rw get_or-set_other refl

-- a sum doesn't grow if the further terms are zero
pub total-gap : (f : ℕ → ℕ) (from to : ℕ) → from ≤ to → ((i : ℕ) → from ≤ i → i < to → f i ≡ 0) → total f to ≡ total f from
total-gap f from zero order none = let e : zero ≡ from = omega arith in ap (total f) e
total-gap f from (suc to) order none = elim (cases_lt to from) [
  | inl low ↦ let e : suc to ≡ from = omega arith in ap (total f) e
  | inr high ↦
      let step = total-suc f to in
      let here = none to high (omega arith) in
      let before = total-gap f from to high (λ i a b. none i a (omega arith)) in
      omega arith
]

module _ (m : Store) (t : Table) (what : Condemn) where
  -- no word of a base page is spared; of another page its used words are
  pub spared-base : (p : ℕ) → is_base m t what p ≡ true → spared_on m t what p ≡ 0
  spared-base p e = ap (λ (b : Bool). if b then 0 else used_on t p) e

  pub spared-other : (p : ℕ) → is_base m t what p ≡ false → spared_on m t what p ≡ used_on t p
  spared-other p e = ap (λ (b : Bool). if b then 0 else used_on t p) e

  units-base : (p : ℕ) → is_base m t what p ≡ true → units_on m t what p ≡ used_on t p
  units-base p e = ap (λ (b : Bool). if b then used_on t p else 0) e

  pub units-other : (p : ℕ) → is_base m t what p ≡ false → units_on m t what p ≡ 0
  units-other p e = ap (λ (b : Bool). if b then used_on t p else 0) e

  -- the used words of a page are spared, or units
  spared-units : (p : ℕ) → spared_on m t what p + units_on m t what p ≡ used_on t p
  spared-units p = elim (cases_Bool (is_base m t what p)) [
    | inl e ↦ let a = spared-base p e in let b = units-base p e in omega arith
    | inr e ↦ let a = spared-other p e in let b = units-other p e in omega arith
  ]

  pub spared-sum : (n : ℕ) → total (spared_on m t what) n + total (units_on m t what) n ≡ total (used_on t) n
  spared-sum zero = let a = total-zero (spared_on m t what) in let b = total-zero (units_on m t what) in let c = total-zero (used_on t) in omega arith
  spared-sum (suc n) =
      let a = total-suc (spared_on m t what) n in
      let b = total-suc (units_on m t what) n in
      let c = total-suc (used_on t) n in
      let here = spared-units n in
      let before = spared-sum n in
      omega arith

  units-few : (p : ℕ) → units_on m t what p ≤ 256 * if_true (is_base m t what p) 1
  units-few p = elim (cases_Bool (is_base m t what p)) [
    | inl e ↦ let a = units-base p e in let b = where-one (is_base m t what p) e in omega arith
    | inr e ↦ let a = units-other p e in omega arith
  ]

  pub units-most : (n : ℕ) → total (units_on m t what) n ≤ 256 * total (λ p. if_true (is_base m t what p) 1) n
  units-most zero = let a = total-zero (units_on m t what) in omega arith
  units-most (suc n) =
      let a = total-suc (units_on m t what) n in
      let b = total-suc (λ p. if_true (is_base m t what p) 1) n in
      let here = units-few n in
      let before = units-most n in
      omega arith

  -- A turn: the next base page, after pages that aren't base pages

  module _ (page base : ℕ) (order : page ≤ base) (gap : (other : ℕ) → page ≤ other → other < base → is_base m t what other ≡ false) where
    pub units-gap : total (units_on m t what) base ≡ total (units_on m t what) page
    units-gap = total-gap (units_on m t what) page base order (λ i a b. units-other i (gap i a b))

    pub count-gap : total (λ p. if_true (is_base m t what p) 1) base ≡ total (λ p. if_true (is_base m t what p) 1) page
    count-gap = total-gap (λ p. if_true (is_base m t what p) 1) page base order (λ i a b. where-none (is_base m t what i) (gap i a b))

    module _ (ps : List ℕ) (spared : (p : ℕ) → p < page → slice_index ps p ≡ spared_on m t what p) (rest : (p : ℕ) → page ≤ p → p < 16 * t.regions → slice_index ps p ≡ used_on t p) where
      pub spared-gap : base ≤ 16 * t.regions → (p : ℕ) → p < base → slice_index ps p ≡ spared_on m t what p
      spared-gap few p low = elim (cases_lt p page) [
        | inl l ↦ spared p l
        | inr h ↦ rest p h (omega arith) ∙ sym (spared-other p (gap p h low))
      ]

      pub spared-more : base < 16 * t.regions → base < length ps → is_base m t what base ≡ true → (qs : List ℕ) → qs ≡ slice_set ps base 0 → (p : ℕ) → p < base + 1 → slice_index qs p ≡ spared_on m t what p
      spared-more few inside e qs is p low = elim (cases_eq p base) [
        | inl q ↦ ap (λ (xs : List ℕ). slice_index xs p) is ∙ ap (slice_index (slice_set ps base 0)) q ∙ get_or-set_same ps base 0 0 inside ∙ sym (ap (spared_on m t what) q ∙ spared-base base e)
        | inr ne ↦ ap (λ (xs : List ℕ). slice_index xs p) is ∙ other ps base p 0 ne ∙ spared-gap (omega arith) p (omega arith)
      ]

      pub rest-more : (qs : List ℕ) → qs ≡ slice_set ps base 0 → (p : ℕ) → base + 1 ≤ p → p < 16 * t.regions → slice_index qs p ≡ used_on t p
      rest-more qs is p high low = ap (λ (xs : List ℕ). slice_index xs p) is ∙ other ps base p 0 (λ e. omega arith) ∙ rest p (omega arith) low

    pub members-gap : (now : Table) → ((p : ℕ) → Contains now.pages p ↔ ((p < page) × (is_base m t what p ≡ true))) → (p : ℕ) → Contains now.pages p ↔ ((p < base) × (is_base m t what p ≡ true))
    members-gap now before p = (
      (λ has. (let b = (before p).0 has in let l = b.0 in ((omega arith), b.1))),
      (λ b. elim (cases_lt p page) [
        | inl l ↦ (before p).1 (l, b.1)
        | inr h ↦ (let shut = gap p h b.0 in let yes_base = b.1 in absurd cc)
      ]),
    )

-- so far, the pages are begun
pub record BegunTo (m : Store) (t : Table) (what : Condemn) (old now : Scan) (page count : ℕ) : Type 0 where
  pub low : page ≤ 16 * t.regions
  pub same : now ≡ begins_as old now.pages now.begun
  pub pages : length now.pages ≡ length old.pages
  pub spared : (p : ℕ) → p < page → slice_index now.pages p ≡ spared_on m t what p
  pub rest : (p : ℕ) → page ≤ p → p < 16 * t.regions → slice_index now.pages p ≡ used_on t p
  pub begun : now.begun ≡ old.registers + total (units_on m t what) page
  pub counted : count ≡ total (λ p. if_true (is_base m t what p) 1) page
  pub few : count ≤ page

pub begun-first : (m : Store) (t : Table) (what : Condemn) (old now : Scan) → now ≡ begins_as old now.pages old.registers → length now.pages ≡ length old.pages
    → ((p : ℕ) → p < 16 * t.regions → slice_index now.pages p ≡ used_on t p) → BegunTo m t what old now 0 0
begun-first m t what old now same pages used = record {
  low = omega arith;
  same = same ∙ ap (begins_as old now.pages) (sym (ap (λ (s : Scan). s.begun) same));
  pages = pages;
  spared = λ p l. absurd (omega arith);
  rest = λ p a b. used p b;
  begun = (let e = ap (λ (s : Scan). s.begun) same in let z = total-zero (units_on m t what) in omega arith);
  counted = (let z = total-zero (λ p. if_true (is_base m t what p) 1) in omega arith);
  few = omega arith;
}

-- few units at any time
pub begun-small : {m : Store} {t : Table} {what : Condemn} {old now : Scan} {page count : ℕ} → BegunTo m t what old now page count → old.registers ≤ 256 → t.regions ≤ 1024 → now.begun < 2 ^ 31
begun-small {m} {t} {what} {old} {now} {page} {count} x registers regions =
    let low = x.low in
    let few = x.few in
    let begun = x.begun in
    let count_is = x.counted in
    let most = units-most m t what page in
    omega arith

module _ (m : Store) (t : Table) (what : Condemn) (old now : Scan) (page count : ℕ) (size : length old.pages ≡ 16 * t.regions) (x : BegunTo m t what old now page count) where
  pub begun-next : (new : Scan) (base : ℕ) → page ≤ base → base < 16 * t.regions → is_base m t what base ≡ true → ((i : ℕ) → page ≤ i → i < base → is_base m t what i ≡ false)
      → new ≡ (let s : Scan = record now { pages = slice_set now.pages base 0; begun = now.begun + slice_index now.pages base } in s) → BegunTo m t what old new (base + 1) (count + 1)
  begun-next new base order inside here gap is =
      let written : new.pages ≡ slice_set now.pages base 0 = ap (λ (s : Scan). s.pages) is in
      let begun : new.begun ≡ now.begun + slice_index now.pages base = ap (λ (s : Scan). s.begun) is in
      let words = x.rest base order inside in
      let pages = x.pages in
      let step : total (units_on m t what) (base + 1) ≡ units_on m t what base + total (units_on m t what) base = ap (total (units_on m t what)) (add-one base) ∙ total-suc (units_on m t what) base in
      let none = units-gap m t what page base order gap in
      let unit = units-base m t what base here in
      let before = x.begun in
      let step2 : total (λ p. if_true (is_base m t what p) 1) (base + 1) ≡ if_true (is_base m t what base) 1 + total (λ p. if_true (is_base m t what p) 1) base = ap (total (λ p. if_true (is_base m t what p) 1)) (add-one base) ∙ total-suc (λ p. if_true (is_base m t what p) 1) base in
      let none2 = count-gap m t what page base order gap in
      let one = where-one (is_base m t what base) here in
      let before2 = x.counted in
      let few = x.few in
      record {
        low = omega arith;
        same = begun-more old now new (slice_set now.pages base 0) (now.begun + slice_index now.pages base) x.same is;
        pages = ap length written ∙ length-set now.pages base 0 ∙ pages;
        spared = spared-more m t what page base order gap now.pages x.spared x.rest inside (omega arith) here new.pages written;
        rest = rest-more m t what page base order gap now.pages x.spared x.rest new.pages written;
        begun = omega arith;
        counted = omega arith;
        few = omega arith;
      }

  module _ (gap : (i : ℕ) → page ≤ i → i < 16 * t.regions → is_base m t what i ≡ false) where
    pub begun-all : Begins m t what old now
    begun-all =
        let none = units-gap m t what page (16 * t.regions) x.low gap in
        let begun : now.begun ≡ units_begun m t what old.registers = (let b = x.begun in omega arith) in
        record {
          same = x.same ∙ ap (begins_as old now.pages) begun;
          pages = x.pages;
          spared = spared-gap m t what page (16 * t.regions) x.low gap now.pages x.spared x.rest (omega arith);
        }

    pub begun-count : count ≡ base_pages m t what
    begun-count = (let none = count-gap m t what page (16 * t.regions) x.low gap in let c = x.counted in omega arith)

-- The table's set

-- a flip leaves no page in the set
no-pages : (t : Table) (what : Condemn) → IsFlipped t what → t.pages ≡ []
no-pages t what x = ap (λ (y : Table). y.pages) x.condemned.same

pub flipped-ascending : (t : Table) (what : Condemn) → IsFlipped t what → IsAscending t.pages
flipped-ascending t what x = subst IsAscending (sym (no-pages t what x)) _

pub flipped-none : (t : Table) (what : Condemn) → IsFlipped t what → (P : ℕ → Type 0) → (page : ℕ) → Contains t.pages page ↔ ((page < 0) × P page)
flipped-none t what x P page = (
  (λ has. (let e = subst (λ (ps : List ℕ). Contains ps page) (no-pages t what x) has in absurd (omega (arith, e.1)))),
  (λ low. (let l = low.0 in absurd (omega arith))),
)

-- pages are added to the set
pub repaged-more : (t now new : Table) → now ≡ repaged t now.pages → new ≡ repaged now new.pages → new ≡ repaged t new.pages
repaged-more t now new before step = step ∙ ap (λ (u : Table). repaged u new.pages) before

pub members-more : (now new : Table) (below : ℕ) (P : ℕ → Type 0) → Adds (page_list now) (page_list new) below below
    → ((page : ℕ) → Contains now.pages page ↔ ((page < below) × P page)) → P below → (page : ℕ) → Contains new.pages page ↔ ((page < below + 1) × P page)
members-more now new below P adds before here page = (
  (λ has. elim ((adds.members page).0 has) [
    | inl was ↦ (let b = (before page).0 was in let l = b.0 in ((omega arith), b.1))
    | inr is ↦ (let low = is.0 in let high = is.1 in let e : below ≡ page = omega arith in ((omega arith), subst P e here))
  ]),
  (λ b. (let l = b.0 in elim (cases_eq page below) [
    | inl e ↦ (adds.members page).1 (inr ((omega arith), (omega arith)))
    | inr ne ↦ (adds.members page).1 (inl ((before page).1 ((omega arith), b.1)))
  ])),
)

-- What is old was condemned

module _ (t : Table) (what : Condemn) (v : IsTable t) (x : IsFlipped t what) where
  old-condemned : (r slot : ℕ) → Contains (chain t (stale slot)) r → condemns x.before what slot ≡ true
  old-condemned r slot in_chain = go (cases_Bool (condemns x.before what slot))
    where
      same_slots : slots_of t ≡ slots_of x.before
      same_slots = ap slots_of x.condemned.same

      inside : slot < slots_of t
      inside = slot_inside t (stale slot) slot r v (omega arith) in_chain

      go : (condemns x.before what slot ≡ true) ⊎ (condemns x.before what slot ≡ false) → condemns x.before what slot ≡ true
      go (inl e) = e
      go (inr e) =
          let a = same_slots in let b = inside in let state = x.condemned.slots slot (omega arith) ∙ ap (λ (b : Bool). after_flip b (state_of x.before slot)) e in
          let same : chain t (stale slot) ≡ chain x.before (stale slot) = ap (λ (y : Slot). y.old_chain) state in
          absurd (x.young r (slot, subst (λ (rs : List ℕ). Contains rs r) same in_chain))

-- No word has an old address on a page whose marks are apart from the levels that were condemned

module _ (m : Store) (t : Table) (what : Condemn) (v : IsTable t) (g : IsGround m t) (marks : MarksHold m) (x : IsFlipped t what) where
  level-condemned : (b : ℕ) → IsOld t (b / 4096) → condemns_level what (slice_index m.levels (b / 4096)) ≡ true
  level-condemned b old =
      let c = old-condemned t what v x (b / 4096) old.0 old.1 in
      let levels : levels_of t ≡ levels_of x.before = ap levels_of x.condemned.same in
      let level : slice_index m.levels (b / 4096) ≡ old.0 % levels_of x.before = g.level_old old.0 (b / 4096) old.1 ∙ ap (λ (n : ℕ). old.0 % n) levels in
      ap (condemns_level what) level ∙ (and_parts _ _ c).1

  unmarked-fresh : (w : Condemn) → w ≡ what → (a : ℕ) → may_name w (m.marks (a / 256)) ≡ false → FreshOn t (word_at m.words a).content
  unmarked-fresh Full same a none b e old = cc
  unmarked-fresh (Chosen set) same a none b e old =
      let level = slice_index m.levels (b / 4096) in
      let condemned = and_parts _ _ (ap (λ (w : Condemn). condemns_level w (slice_index m.levels (b / 4096))) same ∙ level-condemned b old) in
      let positive : 0 < level = ltb-true 0 level condemned.0 in
      let has : HasLevel set.0 level = eqb-true (bit_at set.0 (level - 1)) 1 condemned.1 in
      let is : level_of_word m.levels (word_at m.words a) ≡ level = ap (level_of_address m.levels) e in
      let marked = marks a (word_at m.words a) (with_address m.words a b e) (omega arith) in
      let there : HasLevel (m.marks (a / 256)) level = subst (HasLevel (m.marks (a / 256))) is marked in
      let apart : bit_and (m.marks (a / 256)) set.0 ≡ 0 = eqb-true (bit_and (m.marks (a / 256)) set.0) 0 (not-false _ none) in
      meets_at (m.marks (a / 256)) set.0 level there has apart

  module _ (old new : Scan) (begins : Begins m t what old new) where
    spared : (a : ℕ) → a / 4096 < t.regions → slice_index new.pages (a / 256) ≡ spared_on m t what (a / 256)
    spared a low = begins.spared (a / 256) (omega arith)

    used-on : (a : ℕ) → used_on t (a / 256) ≡ min 256 (used_of t (a / 4096) - 256 * (a / 256 % 16))
    used-on a = let e : a / 256 / 16 ≡ a / 4096 = omega arith in ap (λ (r : ℕ). min 256 (used_of t r - 256 * (a / 256 % 16))) e

    few : length new.pages ≡ 16 * t.regions → (page : ℕ) → slice_index new.pages page ≤ used_on t page
    few size page =
        elim (cases_lt page (16 * t.regions)) [
          | inl low ↦ (let is = begins.spared page low in let both = spared-units m t what page in omega arith)
          | inr high ↦ (let x = get_or_past new.pages page 0 (omega arith) in omega arith)
        ]

    -- a word of a page that isn't scanned isn't open
    pub shut-other : (a : ℕ) → a / 4096 < t.regions → is_base m t what (a / 256) ≡ false → is_open new t a ≡ false
    shut-other a low e =
        let is = spared a low ∙ spared-other m t what (a / 256) e ∙ used-on a in
        elim (cases_lt (a % 4096) (used_of t (a / 4096))) [
          | inl used ↦ not-behind new t a (omega arith)
          | inr past ↦ not-used new t a past
        ]

    words : (a : ℕ) → IsLiveWord t a → is_open new t a ≡ false → FreshOn t (word_at m.words a).content
    words a live shut = go (cases_Bool (is_base m t what (a / 256)))
      where
        inside : a / 4096 < t.regions
        inside = v.sound.within _ (a / 4096) live.live.1

        mark : mark_of t (a / 4096) ≡ used_of t (a / 4096)
        mark = (x.condemned.marks (a / 4096) (let e = ap (λ (y : Table). y.regions) x.condemned.same in let l = inside in omega arith)).alive live.live.0 live.live.1

        go : (is_base m t what (a / 256) ≡ true) ⊎ (is_base m t what (a / 256) ≡ false) → FreshOn t (word_at m.words a).content
        go (inl e) =
            let none = spared a inside ∙ spared-base m t what (a / 256) e in
            let yes = is-open new t a (omega arith) live.used in
            absurd cc
        go (inr e) =
            elim (and_cases (nat_lt (256 * (a / 256 % 16)) (mark_of t (a / 256 / 16))) (may_name what (m.marks (a / 256))) e) [
              | inl no_mark ↦
                  let same : a / 256 / 16 ≡ a / 4096 = omega arith in
                  let is : mark_of t (a / 256 / 16) ≡ used_of t (a / 4096) = ap (mark_of t) same ∙ mark in
                  let used = live.used in
                  let yes = lt-ltb (256 * (a / 256 % 16)) (mark_of t (a / 256 / 16)) (omega arith) in
                  absurd cc
              | inr apart ↦ unmarked-fresh what refl a apart
            ]

    -- no word of an old region is open
    young : (a : ℕ) → is_open new t a ≡ true → IsOld t (a / 4096) → ⊥
    young a here old =
        let inside : a / 4096 < t.regions = v.sound.within (stale old.0) (a / 4096) old.1 in
        let no_mark : mark_of t (a / 4096) ≡ 0 = (x.condemned.marks (a / 4096) (let e = ap (λ (y : Table). y.regions) x.condemned.same in omega arith)).old old in
        let same : a / 256 / 16 ≡ a / 4096 = omega arith in
        let none : mark_of t (a / 256 / 16) ≡ 0 = ap (mark_of t) same ∙ no_mark in
        let no_base : is_base m t what (a / 256) ≡ false = and_left (nat_lt (256 * (a / 256 % 16)) (mark_of t (a / 256 / 16))) (may_name what (m.marks (a / 256))) (le-ltb (256 * (a / 256 % 16)) (mark_of t (a / 256 / 16)) (omega arith)) in
        let shut = shut-other a inside no_base in
        cc

    -- the units are those that there were at the start
    pub counted : length new.pages ≡ 16 * t.regions → open_units new t + new.done ≡ new.begun + t.placed
    counted size =
        let sum = units-sum new t v.full (few size) in
        let pages = total-cong (slice_index new.pages) (spared_on m t what) (16 * t.regions) begins.spared in
        let both = spared-sum m t what (16 * t.regions) in
        let used = used-pages t v.full t.regions in
        let none : new.scanned ≡ 0 = ap (λ (s : Scan). s.scanned) begins.same in
        let all : new.registers ≡ old.registers = ap (λ (s : Scan). s.registers) begins.same in
        let begun : new.begun ≡ old.registers + total (units_on m t what) (16 * t.regions) = ap (λ (s : Scan). s.begun) begins.same in
        let done : new.done ≡ 0 = ap (λ (s : Scan). s.done) begins.same in
        let placed : t.placed ≡ 0 = ap (λ (y : Table). y.placed) x.condemned.same in
        omega arith

    pub begun-tidy : (registers : List Parts) → length registers ≡ old.registers → length old.pages ≡ 16 * t.regions → Tidy m t new registers
    begun-tidy registers count pages = record {
      count = count ∙ sym (ap (λ (s : Scan). s.registers) begins.same);
      pages = begins.pages ∙ pages;
      few = few (begins.pages ∙ pages);
      young = young;
      registers_fresh = λ r done low. (let e : new.scanned ≡ 0 = ap (λ (s : Scan). s.scanned) begins.same in absurd (omega arith));
      words_fresh = words;
      counted = counted (begins.pages ∙ pages);
    }

    begun-open : new.over ≡ false
    begun-open = ap (λ (s : Scan). s.over) begins.same

    -- the pages with an open word are the base pages
    base-open : (t2 : Table) (page : ℕ) → t2 ≡ repaged t t2.pages → page < 16 * t.regions → is_base m t what page ≡ true → HasOpen new t2 page
    base-open t2 page same low e =
        let none : slice_index new.pages page ≡ 0 = begins.spared page low ∙ spared-base m t what page e in
        let parts = and_parts (nat_lt (256 * (page % 16)) (mark_of t (page / 16))) (may_name what (m.marks page)) e in
        let below = ltb-true (256 * (page % 16)) (mark_of t (page / 16)) parts.0 in
        let marked = x.condemned.marks (page / 16) (let r = ap (λ (y : Table). y.regions) x.condemned.same in omega arith) in
        let end : mark_of t (page / 16) ≡ used_of t (page / 16) = elim (region_cases t (page / 16)) [
          | inl free ↦ (let z = marked.free free in absurd (omega arith))
          | inr classed ↦ elim classed [
            | inl alive ↦ marked.alive alive.0 alive.1
            | inr old ↦ (let z = marked.old old in absurd (omega arith))
          ]
        ] in
        let used : used_of t2 (page / 16) ≡ used_of t (page / 16) = ap (λ (u : Table). used_of u (page / 16)) same in
        let on : (256 * page + 0) / 256 ≡ page = omega arith in
        (256 * page + 0, on, open-first new t2 page 0 none (omega arith) (omega arith))

    open-base : (t2 : Table) (page : ℕ) → t2 ≡ repaged t t2.pages → HasOpen new t2 page → (page < 16 * t.regions) × (is_base m t what page ≡ true)
    open-base t2 page same o = (pages, go (cases_Bool (is_base m t what page)))
      where
        here : is_open new t o.0 ≡ true
        here = sym (ap (λ (u : Table). is_open new u o.0) same) ∙ o.2

        inside : o.0 / 4096 < t.regions
        inside =
            let parts = and_parts (nat_le (slice_index new.pages (o.0 / 256)) (o.0 % 256)) (nat_lt (o.0 % 4096) (used_of t (o.0 / 4096))) here in
            let low = ltb-true (o.0 % 4096) (used_of t (o.0 / 4096)) parts.1 in
            let size = v.used_size in
            elim (cases_lt (o.0 / 4096) (length t.used)) [ inl l ↦ omega arith | inr h ↦ absurd (let z = get_or_past t.used (o.0 / 4096) 0 h in omega arith) ]

        pages : page < 16 * t.regions
        pages = let l = inside in let on = o.1 in omega arith

        go : (is_base m t what page ≡ true) ⊎ (is_base m t what page ≡ false) → is_base m t what page ≡ true
        go (inl e) = e
        go (inr e) = let shut = shut-other o.0 inside (ap (is_base m t what) o.1 ∙ e) in let open_here = here in absurd cc

    pub begun-paged : (t2 : Table) → t2 ≡ repaged t t2.pages → IsAscending t2.pages → ((page : ℕ) → Contains t2.pages page ↔ ((page < 16 * t.regions) × (is_base m t what page ≡ true))) → IsPaged new t2
    begun-paged t2 same ascending members = record {
      ascending = ascending;
      exact = λ page. (
        (λ has. (let b = (members page).0 has in base-open t2 page same b.0 b.1)),
        (λ o. (members page).1 (open-base t2 page same o)),
      );
    }

    pub begun-clean : (t2 : Table) (registers : List Parts) → t2 ≡ repaged t t2.pages → IsPaged new t2 → length registers ≡ old.registers → length old.pages ≡ 16 * t.regions → 0 < old.registers → ScanInvariant m t2 new registers
    begun-clean t2 registers same paged count pages some =
        let none : new.scanned ≡ 0 = ap (λ (s : Scan). s.scanned) begins.same in
        let all : new.registers ≡ old.registers = ap (λ (s : Scan). s.registers) begins.same in
        let next = register-some new t2 (omega arith) in
        let is : closed new t2 ≡ new =
        ap (λ (b : Bool). (let s : Scan = record new { over = b } in s)) next
        ∙ ap (λ (b : Bool). (let s : Scan = record new { over = b } in s)) (sym begun-open) in
        let v2 : IsTable t2 = subst IsTable (sym same) (repaged-table t t2.pages v) in
        let g2 : IsGround m t2 = subst (IsGround m) (sym same) (repaged-ground m t t2.pages g) in
        let tidy2 : Tidy m t2 new registers = subst (λ (u : Table). Tidy m u new registers) (sym same) (repaged-tidy m t t2.pages new registers (begun-tidy registers count pages)) in
        subst (λ (s : Scan). ScanInvariant m t2 s registers) is (tidy-clean m t2 new registers v2 g2 tidy2 paged)

    pub begun-units : (registers : List Parts) → length registers ≡ old.registers → length old.pages ≡ 16 * t.regions → units_of m new t registers ≤ old.registers + 256 * base_pages m t what
    begun-units registers count pages =
        let all : new.registers ≡ old.registers = ap (λ (s : Scan). s.registers) begins.same in
        let open_now = units-open m t registers g.size new (omega arith) begun-open in
        let sum = counted (begins.pages ∙ pages) in
        let begun : new.begun ≡ old.registers + total (units_on m t what) (16 * t.regions) = ap (λ (s : Scan). s.begun) begins.same in
        let done : new.done ≡ 0 = ap (λ (s : Scan). s.done) begins.same in
        let placed : t.placed ≡ 0 = ap (λ (y : Table). y.placed) x.condemned.same in
        let most = units-most m t what (16 * t.regions) in
        omega arith
