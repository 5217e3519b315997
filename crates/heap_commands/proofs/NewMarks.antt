-- Which pages get marks by a command that makes an object.
use Rattle.std.proofs.Common.{◌≡◌, ◌⊎◌, inl, inr, ℕ, zero, suc, refl, false, true, ◌+◌, ◌*◌, ◌/◌, ◌%◌, ◌<◌, ◌≤◌, sym, ◌∙◌, ap, subst, arith, List, length, Option, Some, None}
use Rattle.std.specs.Prelude.{IsSome}
use Rattle.std.proofs.lemmas.Bool.{cases_eq, cases_lt}
use Rattle.std.proofs.lemmas.List.{get_or_past}
use Rattle.std.proofs.lemmas.Option.{get_or_from_slice_get}
use Rattle.store_word.specs.Words.{Parts, null_word}
use Rattle.store_word.specs.declared.word.Content.TheVariants.{List as ListAt, Struct as StructAt}
use Rattle.mem_port.specs.Store.{Store, level_of_word}
use Rattle.area_space.specs.Ground.{IsGround}
use Rattle.area_space.specs.Sound.{IsTable}
use Rattle.area_space.specs.Table.{Table, slot_of, used_of}
use Rattle.block_store.specs.obj_layout.Forwards as F
use Rattle.block_store.specs.obj_layout.Forwards.{word_at, forward_of}
use Rattle.block_store.specs.transporter.Growth.{OpensOrStays}
use Rattle.block_store.specs.transporter.Making.{PlacesNew}
use Rattle.block_store.specs.transporter.Marking.{IsForward, IsPlaced, MarksFollow, MayMark, TurnsOneWay, placed, forwarded, settled}
use Rattle.block_store.specs.transporter.Settling.{RefersToOld, reference_of}
use Rattle.block_store.proofs.transporter.UsedEnds.{new-extends}
use Rattle.block_store.proofs.transporter.PageMarks.{plain-value, within-placed}
use Rattle.block_store.specs.Making.{block_word}
use Rattle.cdr_lists.specs.Lists.{CanList, ListedOn, cell_word, item_word}
use Rattle.heap_state.specs.transporter.WrittenMarks.{MarksByWords}
use Rattle.cdr_lists.specs.Pairs.{CanPair, PairedOn, first_word}
use Rattle.heap_commands.specs.NewMarks.{GivesMarks, MarksMade}

-- Words past a used end

blank_word : (m : Store) (t : Table) → IsGround m t → (a : ℕ) → used_of t (a / 4096) ≤ a % 4096 → word_at m.words a ≡ null_word
blank_word m t ground a past = elim (cases_lt a (length m.words)) [
  | inl low ↦ get_or_from_slice_get m.words a null_word null_word (ground.blank a low past)
  | inr high ↦ get_or_past m.words a null_word high
]

-- such a word is no forward, and has no address
no_forward_past : (m : Store) (t : Table) → IsGround m t → (a : ℕ) → used_of t (a / 4096) ≤ a % 4096 → IsForward (word_at m.words a) → ⊥
no_forward_past m t ground a past f = let z : false ≡ true = subst IsForward (blank_word m t ground a past) f in cc

no_old_past : (m : Store) (t : Table) → IsGround m t → (a : ℕ) → used_of t (a / 4096) ≤ a % 4096 → RefersToOld t (word_at m.words a) → ⊥
no_old_past m t ground a past old = let h = subst (RefersToOld t) (blank_word m t ground a past) old in absurd (let e : None ≡ Some h.0 = h.1 in cc)

-- Words that are placed

used_opened : (t room : Table) → OpensOrStays t room → (region : ℕ) → used_of room region ≡ used_of t region
used_opened t room (inl same) region = ap (λ (u : Table). used_of u region) same
used_opened t room (inr o) region = ap (λ (u : Table). used_of u region) o.table

-- what is placed after a region may have been opened
pub placed_after : (t room t' : Table) (a : ℕ) → OpensOrStays t room → IsPlaced room t' a → IsPlaced t t' a
placed_after t room t' a opens x = record { past = (let same = used_opened t room opens (a / 4096) in let past = x.past in omega arith); used = x.used }

placed_new : (t t' : Table) (area level at words charge : ℕ) → IsTable t' → PlacesNew t t' area level at words charge → (a : ℕ) → at ≤ a → a < at + words → IsPlaced t t' a
placed_new t t' area level at words charge v p a from to = placed_after t p.room t' a p.opens (within-placed p.room t' (slot_of p.room area level) at words v (new-extends p) a (from, to))

-- Words that have an address of level 1 or more

-- one of these `count` words on a page has one, or none
pub level_cases : (m : Store) (at count page : ℕ)
    → ((i : ℕ) → i < count → (at + i) / 256 ≡ page → level_of_word m.levels (word_at m.words (at + i)) ≡ 0) ⊎ ((i : ℕ) × (i < count) × ((at + i) / 256 ≡ page) × (0 < level_of_word m.levels (word_at m.words (at + i))))
level_cases m at zero page = inl (λ i low on. absurd (omega arith))
level_cases m at (suc n) page = elim (level_cases m at n page) [
  | inr x ↦ (let less = x.1 in inr (x.0, (omega arith), x.2, x.3))
  | inl all ↦ elim (cases_eq ((at + n) / 256) page) [
    | inr off ↦ inl (λ i less on. elim (cases_eq i n) [
      | inl e ↦ absurd (off (subst (λ (j : ℕ). (at + j) / 256 ≡ page) e on))
      | inr other ↦ all i (omega arith) on
    ])
    | inl here ↦ elim (cases_eq (level_of_word m.levels (word_at m.words (at + n))) 0) [
      | inl none ↦ inl (λ i less on. elim (cases_eq i n) [
        | inl e ↦ subst (λ (j : ℕ). level_of_word m.levels (word_at m.words (at + j)) ≡ 0) (sym e) none
        | inr other ↦ all i (omega arith) on
      ])
      | inr some ↦ inr (n, (omega arith), here, (omega arith))
    ]
  ]
]

-- An object was made

-- a page without marks gets some only by a word of it
made_unmarked : (m m' : Store) (t t' : Table) (at count : ℕ) → ((a : ℕ) → at ≤ a → a < at + count → IsPlaced t t' a) → MarksByWords m m' at count
    → (page : ℕ) → m.marks page ≡ 0 → (m'.marks page ≡ 0) ⊎ ((a : ℕ) × (a / 256 ≡ page) × GivesMarks m t m' t' at count a)
made_unmarked m m' t t' at count there marks page clean = elim (level_cases m' at count page) [
  | inl low ↦ inl (marks page clean low)
  | inr x ↦ (let less = x.1 in inr (at + x.0, x.2, record { may = placed (there (at + x.0) (omega arith) (omega arith)); young = λ from to. x.3 }))
]

made_marks : (m m' : Store) (t t' : Table) (area level at words charge : ℕ) (word : Parts) → IsTable t' → PlacesNew t t' area level at words charge → reference_of word.content ≡ Some at → forward_of (word_at m'.words at).content ≡ None
    → MarksByWords m m' at words → MarksMade m t m' t' word words
made_marks m m' t t' area level at words charge word sound places refers last marks = record {
  address = at;
  refers = refers;
  at = at;
  final = (0, omega arith, F.here last);
  placed = placed_new t t' area level at words charge sound places;
  unmarked = made_unmarked m m' t t' at words (placed_new t t' area level at words charge sound places) marks;
}

none_of : (o : Option ℕ) → (IsSome o → ⊥) → o ≡ None
none_of None h = refl
none_of (Some n) h = absurd (h refl)

-- a pair
pub pair_marked : (m m' : Store) (t t' : Table) (area level : ℕ) (first second : Parts) (at : ℕ) (word : Parts) → CanPair m t area level 2 first second → PairedOn m t m' t' area level 2 first second at → PlacesNew t t' area level at 2 2 → word.content ≡ ListAt at
    → word_at m'.words at ≡ first_word first → MarksByWords m m' at 2 → MarksMade m t m' t' word 2
pair_marked m m' t t' area level first second at word can paired places is first_is marks =
    let made = paired can.it can.car_value.0 can.cdr_value.0 can.kept can.quota can.car_value.1 can.cdr_value.1 in
    made_marks m m' t t' area level at 2 2 word made.kept.table places (ap reference_of is)
    (ap (λ (w : Parts). forward_of w.content) first_is ∙ none_of (forward_of first.content) (plain-value can.it.map.role first.content can.car_value.0 can.car_value.1)) marks

-- a list
pub list_marked : (m m' : Store) (t t' : Table) (area level : ℕ) (registers : List Parts) (items : List ℕ) (at : ℕ) (word : Parts) → CanList m t area level registers items → ListedOn m t m' t' area level registers items at
    → PlacesNew t t' area level at (length items) (3 * length items) → word.content ≡ ListAt at → ((i : ℕ) → i < length items → word_at m'.words (at + i) ≡ cell_word registers items i) → MarksByWords m m' at (length items) → MarksMade m t m' t' word (length items)
list_marked m m' t t' area level registers items at word can listed places is cells marks =
    let made = listed can.it can.values can.kept can.quota can.means in
    let some = can.some in
    let first : at ≡ at + 0 = omega arith in
    made_marks m m' t t' area level at (length items) (3 * length items) word made.kept.table places (ap reference_of is)
    (ap (λ (a : ℕ). forward_of (word_at m'.words a).content) first ∙ ap (λ (w : Parts). forward_of w.content) (cells 0 (omega arith))
    ∙ none_of (forward_of (item_word registers items 0).content) (plain-value can.it.map.role (item_word registers items 0).content _ (can.means.each 0 (omega arith)))) marks

-- a block
pub block_marked : (m m' : Store) (t t' : Table) (area level code count at : ℕ) (word : Parts) → IsTable t' → PlacesNew t t' area level at (count + 1) (count + 1) → word.content ≡ StructAt at
    → ((i : ℕ) → i < count + 1 → word_at m'.words (at + i) ≡ block_word code count i) → MarksByWords m m' at (count + 1) → MarksMade m t m' t' word (count + 1)
block_marked m m' t t' area level code count at word sound places is words marks =
    let first : at ≡ at + 0 = omega arith in
    made_marks m m' t t' area level at (count + 1) (count + 1) word sound places (ap reference_of is) (ap (λ (a : ℕ). forward_of (word_at m'.words a).content) first ∙ ap (λ (w : Parts). forward_of w.content) (words 0 (omega arith))) marks

-- Something was done before

module _ (m m1 m2 : Store) (t t1 t2 : Table) (x : TurnsOneWay m t m1 t1) (y : TurnsOneWay m1 t1 m2 t2) where
  placed_first : (a : ℕ) → IsPlaced t t1 a → IsPlaced t t2 a
  placed_first a p = record { past = p.past; used = (let rises = y.used (a / 4096) in let used = p.used in omega arith) }

  placed_second : (a : ℕ) → IsPlaced t1 t2 a → IsPlaced t t2 a
  placed_second a p = record { past = (let rises = x.used (a / 4096) in let past = p.past in omega arith); used = p.used }

  may_first : (a : ℕ) → MayMark m t m1 t1 a → MayMark m t m2 t2 a
  may_first a (placed p) = placed (placed_first a p)
  may_first a (forwarded plain is) = elim (y.forwards a is) [
    | inl stays ↦ forwarded plain stays
    | inr p ↦ placed (placed_second a p)
  ]
  may_first a (settled old lost) = elim (cases_lt (a % 4096) (used_of t1 (a / 4096))) [
    | inl used ↦ settled old (λ h. elim (y.olds a h) [ inl was ↦ lost was | inr p ↦ (let past = p.past in absurd (omega arith)) ])
    | inr past ↦ elim (cases_lt (a % 4096) (used_of t2 (a / 4096))) [
      | inl used ↦ placed (placed_second a (record { past = past; used = used }))
      | inr high ↦ settled old (λ h. elim (y.olds a h) [ inl was ↦ lost was | inr p ↦ (let used = p.used in absurd (omega arith)) ])
    ]
  ]

  may_second : (a : ℕ) → MayMark m1 t1 m2 t2 a → MayMark m t m2 t2 a
  may_second a (placed p) = placed (placed_second a p)
  may_second a (forwarded plain is) = elim (cases_lt (a % 4096) (used_of t (a / 4096))) [
    | inl used ↦ forwarded (λ f. elim (x.forwards a f) [ inl stays ↦ plain stays | inr p ↦ (let past = p.past in absurd (omega arith)) ]) is
    | inr past ↦ elim (cases_lt (a % 4096) (used_of t1 (a / 4096))) [
      | inl used ↦ placed (placed_first a (record { past = past; used = used }))
      | inr high ↦ forwarded (λ f. elim (x.forwards a f) [ inl stays ↦ plain stays | inr p ↦ (let used = p.used in absurd (omega arith)) ]) is
    ]
  ]
  may_second a (settled old lost) = elim (x.olds a old) [
    | inl was ↦ settled was lost
    | inr p ↦ placed (placed_first a p)
  ]

module _ (m m1 m2 : Store) (t t1 t2 : Table) (ground : IsGround m t) (ground1 : IsGround m1 t1) (x : MarksFollow m t m1 t1) (y : TurnsOneWay m1 t1 m2 t2) (word : Parts) (count : ℕ) (made : MarksMade m1 t1 m2 t2 word count) where
  -- a word of the new object has given no marks before
  not_before : (a : ℕ) → IsPlaced t1 t2 a → MayMark m t m1 t1 a → ⊥
  not_before a here (placed p) = let past = here.past in let used = p.used in omega arith
  not_before a here (forwarded plain is) = no_forward_past m1 t1 ground1 a here.past is
  not_before a here (settled old lost) = no_old_past m t ground a (let rises = x.turns.used (a / 4096) in let past = here.past in omega arith) old

  unmarked_then : (page : ℕ) → m.marks page ≡ 0 → (m2.marks page ≡ 0) ⊎ ((a : ℕ) × (a / 256 ≡ page) × GivesMarks m t m2 t2 made.at count a)
  unmarked_then page clean = elim (x.unmarked page clean) [
    | inl still ↦ elim (made.unmarked page still) [
      | inl none ↦ inl none
      | inr h ↦ inr (h.0, h.1, record { may = may_second m m1 m2 t t1 t2 x.turns y h.0 h.2.may; young = h.2.young })
    ]
    | inr h ↦ inr (h.0, h.1, record { may = may_first m m1 m2 t t1 t2 x.turns y h.0 h.2; young = λ from to. absurd (not_before h.0 (made.placed h.0 from to) h.2) })
  ]

  pub made_after : MarksMade m t m2 t2 word count
  made_after = record {
    address = made.address;
    refers = made.refers;
    at = made.at;
    final = made.final;
    placed = λ a from to. placed_second m m1 m2 t t1 t2 x.turns y a (made.placed a from to);
    unmarked = unmarked_then;
  }
