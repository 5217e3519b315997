-- Which pages get marks.
use Rattle.std.proofs.Common.{ℕ, ◌≡◌, ◌≢◌, ◌⊎◌, ◌+◌, ◌-◌, ◌*◌, ◌/◌, ◌%◌, ◌<◌, ◌≤◌, true, false, List, length, Option, Some, None, slice_index, refl, sym, ◌∙◌, ap, subst, inl, inr, arith}
use Rattle.std.specs.Prelude.{Contains, IsSome}
use Rattle.std.proofs.lemmas.Bool.{cases_eq, cases_lt}
use Rattle.std.proofs.lemmas.List.{get_or-set_same, get_or-set_other}
use Rattle.store_word.specs.Words.{Parts, null_word}
use Rattle.store_word.specs.declared.word.Content.{Content}
use Rattle.store_word.specs.declared.word.Content.TheVariants.{Null, Nil as NilWord, List as ListAt, Struct as StructAt, Header, HeaderForward, GcForward, Fixnum}
use Rattle.mem_port.specs.Store.{Store, Stores, StoresNothing, level_of_word}
use Rattle.area_space.specs.Table.{Table, areas_of, levels_of, slot_of, stale, chain, used_of, IsOld}
use Rattle.area_space.specs.Sound.{IsTable}
use Rattle.area_space.specs.Places.{IsEnd}
use Rattle.area_space.specs.Flips.{survivor}
use Rattle.obj_layout.specs.declared.run.RunEnd.{RunEnd}
use Rattle.obj_layout.specs.declared.run.RunEnd.TheVariants.{Nil as EndsNil, Pair as EndsPair, Forwarded}
use Rattle.obj_layout.specs.Forwards.{word_at, forward_of, IsFinal}
use Rattle.obj_layout.specs.Runs.{StandsBehind}
use Rattle.obj_layout.specs.Shapes.{charge_at}
use Rattle.area_space.specs.lisp_graph.declared.object.Value.{Value}
use Rattle.lisp_ground.specs.lisp_meaning.Roles.{Role, value_of}
use Rattle.lisp_ground.specs.Placing.{Opens}
use Rattle.lisp_ground.specs.Writes.{Within}
use Rattle.transporter.specs.declared.parcel.Parcel.{Parcel}
use Rattle.transporter.specs.LiveWordsUnchanged.{OnlyGrows}
use Rattle.transporter.specs.Marking.{IsForward, IsPlaced, MayMark, placed, forwarded, settled, HasMarker, TurnsOneWay, MarksFollow, MarksFollowBut}
use Rattle.transporter.specs.Parcels.{IsParcel, a_block, a_pair, a_run, run_parcel, word_count_of}
use Rattle.transporter.specs.Preserving.{FreshOn}
use Rattle.transporter.specs.Relocations.{OpensAtMost, MovesHere}
use Rattle.transporter.specs.Settling.{reference_of, RefersToOld, Replaces, Settles}
use Rattle.transporter.specs.Transports.{IsTransportable}
use Rattle.transporter.specs.Writes.{Writes, forward_to}
use Rattle.transporter.proofs.LiveObjects.{grows-same, old-stays, old-before, live-opened}
use Rattle.transporter.proofs.UsedEnds.{Extends, moved-extends, used-after, end-sized, extends-grows}
use Rattle.transporter.proofs.MovedParcels.{opened-form, opened-words}
use Rattle.transporter.proofs.Places.{end_apart, survivor_in}

-- Two calls, one after the other

placed-cases : (t t' : Table) (a : ℕ) → IsPlaced t t' a ⊎ (IsPlaced t t' a → ⊥)
placed-cases t t' a = elim (cases_lt (a % 4096) (used_of t (a / 4096))) [
  | inl low ↦ inr (λ p. (let past = p.past in omega arith))
  | inr past ↦ elim (cases_lt (a % 4096) (used_of t' (a / 4096))) [
    | inl used ↦ inl (record { past = past; used = used })
    | inr high ↦ inr (λ p. (let used = p.used in omega arith))
  ]
]

module _ {m m1 m2 : Store} {t t1 t2 : Table} (x : TurnsOneWay m t m1 t1) (y : TurnsOneWay m1 t1 m2 t2) where
  placed-first : {a : ℕ} → IsPlaced t t1 a → IsPlaced t t2 a
  placed-first {a} p = record { past = p.past; used = (let rises = y.used (a / 4096) in let used = p.used in omega arith) }

  placed-second : {a : ℕ} → IsPlaced t1 t2 a → IsPlaced t t2 a
  placed-second {a} p = record { past = (let rises = x.used (a / 4096) in let past = p.past in omega arith); used = p.used }

  may-first : {a : ℕ} → MayMark m t m1 t1 a → MayMark m t m2 t2 a
  may-first {a} may = elim (placed-cases t1 t2 a) [
    | inl p ↦ placed (placed-second p)
    | inr other ↦ go other may
  ]
    where
      go : (IsPlaced t1 t2 a → ⊥) → MayMark m t m1 t1 a → MayMark m t m2 t2 a
      go other (placed p) = placed (placed-first p)
      go other (forwarded none is) = elim (y.forwards a is) [
        | inl stays ↦ forwarded none stays
        | inr p ↦ absurd (other p)
      ]
      go other (settled old lost) = settled old (λ h. elim (y.olds a h) [ inl was ↦ lost was | inr p ↦ other p ])

  may-second : {a : ℕ} → MayMark m1 t1 m2 t2 a → MayMark m t m2 t2 a
  may-second {a} may = elim (placed-cases t t1 a) [
    | inl p ↦ placed (placed-first p)
    | inr other ↦ go other may
  ]
    where
      go : (IsPlaced t t1 a → ⊥) → MayMark m1 t1 m2 t2 a → MayMark m t m2 t2 a
      go other (placed p) = placed (placed-second p)
      go other (forwarded none is) = forwarded (λ f. elim (x.forwards a f) [ inl stays ↦ none stays | inr p ↦ other p ]) is
      go other (settled old lost) = elim (x.olds a old) [
        | inl was ↦ settled was lost
        | inr p ↦ absurd (other p)
      ]

  turns-then : TurnsOneWay m t m2 t2
  turns-then = record {
    used = λ region. (let a = x.used region in let b = y.used region in omega arith);
    forwards = λ a f. elim (x.forwards a f) [
      | inl mid ↦ elim (y.forwards a mid) [
        | inl is ↦ inl is
        | inr p ↦ inr (placed-second p)
      ]
      | inr p ↦ inr (placed-first p)
    ];
    olds = λ a h. elim (y.olds a h) [
      | inl mid ↦ elim (x.olds a mid) [
        | inl was ↦ inl was
        | inr p ↦ inr (placed-first p)
      ]
      | inr p ↦ inr (placed-second p)
    ];
  }

  unmarked-then : {page : ℕ} → (m1.marks page ≡ 0) ⊎ HasMarker m t m1 t1 page → (m1.marks page ≡ 0 → (m2.marks page ≡ 0) ⊎ HasMarker m1 t1 m2 t2 page) → (m2.marks page ≡ 0) ⊎ HasMarker m t m2 t2 page
  unmarked-then {page} (inl clean) second = elim (second clean) [
    | inl still ↦ inl still
    | inr h ↦ inr (h.0, h.1, may-second h.2)
  ]
  unmarked-then {page} (inr h) second = inr (h.0, h.1, may-first h.2)

pub marks-then : {m m1 m2 : Store} {t t1 t2 : Table} → MarksFollow m t m1 t1 → MarksFollow m1 t1 m2 t2 → MarksFollow m t m2 t2
marks-then x y = record { turns = turns-then x.turns y.turns; unmarked = λ page clean. unmarked-then x.turns y.turns (x.unmarked page clean) (y.unmarked page) }

-- one of which writes at an address
pub marks-then_but : {m m1 m2 : Store} {t t1 t2 : Table} {at : ℕ} → MarksFollow m t m1 t1 → MarksFollowBut m1 t1 m2 t2 at → MarksFollowBut m t m2 t2 at
marks-then_but x y = record { turns = turns-then x.turns y.turns; unmarked = λ page ne clean. unmarked-then x.turns y.turns (x.unmarked page clean) (y.unmarked page ne) }

pub marks-but_then : {m m1 m2 : Store} {t t1 t2 : Table} {at : ℕ} → MarksFollowBut m t m1 t1 at → MarksFollow m1 t1 m2 t2 → MarksFollowBut m t m2 t2 at
marks-but_then x y = record { turns = turns-then x.turns y.turns; unmarked = λ page ne clean. unmarked-then x.turns y.turns (x.unmarked page ne clean) (y.unmarked page) }

pub marks-but : {m m' : Store} {t t' : Table} (at : ℕ) → MarksFollow m t m' t' → MarksFollowBut m t m' t' at
marks-but at x = record { turns = x.turns; unmarked = λ page ne clean. x.unmarked page clean }

-- A page whose words are unchanged

pub unchanged-unmarked : {m m' : Store} {t : Table} {page : ℕ} → MarksFollow m t m' t → ((a : ℕ) → a / 256 ≡ page → word_at m'.words a ≡ word_at m.words a) → m.marks page ≡ 0 → m'.marks page ≡ 0
unchanged-unmarked {m} {m'} {t} {page} x same clean = go (x.unmarked page clean)
  where
    never : (a : ℕ) → word_at m'.words a ≡ word_at m.words a → MayMark m t m' t a → ⊥
    never a is (placed p) = let past = p.past in let used = p.used in omega arith
    never a is (forwarded none forward) = none (subst IsForward is forward)
    never a is (settled old lost) = lost (subst (RefersToOld t) (sym is) old)

    go : (m'.marks page ≡ 0) ⊎ HasMarker m t m' t page → m'.marks page ≡ 0
    go (inl none) = none
    go (inr h) = absurd (never h.0 (same h.0 h.1) h.2)

-- No word changes

turns-words : {m m' : Store} {t t' : Table} → OnlyGrows t t' → m'.words ≡ m.words → TurnsOneWay m t m' t'
turns-words {m} {m'} {t} {t'} grows same = record {
  used = grows.used;
  forwards = λ a f. inl (subst (λ (ws : List Parts). IsForward (word_at ws a)) (sym same) f);
  olds = λ a h. (let was = subst (λ (ws : List Parts). RefersToOld t' (word_at ws a)) same h in inl (was.0, was.1, old-before grows was.2));
}

pub marks-read : {m m' : Store} (t : Table) → StoresNothing m m' → MarksFollow m t m' t
marks-read t reads = record { turns = turns-words grows-same reads.words; unmarked = λ page clean. inl (reads.unmarked page clean) }

pub marks-same : {m : Store} {t : Table} → MarksFollow m t m t
marks-same {m} {t} = marks-read t (record { words = refl; levels = refl; top = refl; unmarked = λ page clean. clean })

-- a region is opened
pub marks-opened : {m m' : Store} {t t' : Table} {area level : ℕ} (region : Option ℕ) → IsTable t → area < areas_of t → level < levels_of t → Opens m t m' t' region area level → MarksFollow m t m' t'
marks-opened {m} {m'} {t} {t'} {area} {level} region v area_in level_in o = record {
  turns = turns-words (live-opened region v area_in level_in o).table (opened-words region o);
  unmarked = λ page clean. inl (go region o page ∙ clean);
}
  where
    go : (r : Option ℕ) → Opens m t m' t' r area level → (page : ℕ) → m'.marks page ≡ m.marks page
    go None o page = ap (λ (x : Store). x.marks page) o.behind
    go (Some r) o page = ap (λ (x : Store). x.marks page) o.region_level

-- One word is stored

turns-stored : {m m' : Store} {t : Table} {at : ℕ} {w : Parts} → Stores m m' at w → at < length m.words → (IsForward (word_at m.words at) → IsForward w) → (RefersToOld t w → ⊥) → TurnsOneWay m t m' t
turns-stored {m} {m'} {t} {at} {w} stores inside keeps young = record {
  used = λ region. omega arith;
  forwards = λ a f. elim (cases_eq a at) [
    | inl e ↦ inl (subst IsForward (sym (here a e)) (keeps (subst (λ (b : ℕ). IsForward (word_at m.words b)) e f)))
    | inr ne ↦ inl (subst IsForward (sym (there a ne)) f)
  ];
  olds = λ a h. elim (cases_eq a at) [
    | inl e ↦ absurd (young (subst (RefersToOld t) (here a e) h))
    | inr ne ↦ inl (subst (RefersToOld t) (there a ne) h)
  ];
}
  where
    here : (a : ℕ) → a ≡ at → word_at m'.words a ≡ w
    here a e = ap (word_at m'.words) e ∙ ap (λ (ws : List Parts). word_at ws at) stores.words ∙ get_or-set_same m.words at w null_word inside

    there : (a : ℕ) → a ≢ at → word_at m'.words a ≡ word_at m.words a
    there a ne = ap (λ (ws : List Parts). word_at ws a) stores.words ∙ get_or-set_other m.words at a w null_word ne

stored-here : {m m' : Store} {at : ℕ} {w : Parts} → Stores m m' at w → at < length m.words → word_at m'.words at ≡ w
stored-here {m} {m'} {at} {w} stores inside = ap (λ (ws : List Parts). word_at ws at) stores.words ∙ get_or-set_same m.words at w null_word inside

marks-marker : {m m' : Store} {t : Table} {at : ℕ} {w : Parts} → Stores m m' at w → TurnsOneWay m t m' t → MayMark m t m' t at → MarksFollow m t m' t
marks-marker {m} {m'} {t} {at} {w} stores turns may = record {
  turns = turns;
  unmarked = λ page clean. elim (cases_eq page (at / 256)) [
    | inl e ↦ inr (at, sym e, may)
    | inr ne ↦ inl (stores.unmarked page clean (λ own. absurd (ne own)))
  ];
}

-- a word that isn't old, in place of one that is no forward
pub marks-stored : {m m' : Store} (t : Table) (at : ℕ) (w : Parts) → Stores m m' at w → at < length m.words → (IsForward (word_at m.words at) → ⊥) → (RefersToOld t w → ⊥) → MarksFollowBut m t m' t at
marks-stored t at w stores inside plain young = record {
  turns = turns-stored stores inside (λ f. absurd (plain f)) young;
  unmarked = λ page ne clean. inl (stores.unmarked page clean (λ own. absurd (ne own)));
}

-- a forward in place of another word
pub marks-forward : {m m' : Store} (t : Table) (at : ℕ) (w : Parts) → Stores m m' at w → at < length m.words → (IsForward (word_at m.words at) → ⊥) → IsForward w → (RefersToOld t w → ⊥) → MarksFollow m t m' t
marks-forward t at w stores inside plain is young =
    marks-marker stores (turns-stored stores inside (λ f. absurd (plain f)) young) (forwarded plain (subst IsForward (sym (stored-here stores inside)) is))

-- a fresh word has no old address
pub fresh-young : (t : Table) (c : Content) → FreshOn t c → ((at : ℕ) × (reference_of c ≡ Some at) × IsOld t (at / 4096)) → ⊥
fresh-young t (ListAt a) fresh h = fresh h.0 h.1 h.2
fresh-young t (StructAt a) fresh h = fresh h.0 h.1 h.2
fresh-young t (HeaderForward a) fresh h = absurd (let x : None ≡ Some h.0 = h.1 in cc)
fresh-young t (GcForward a) fresh h = absurd (let x : None ≡ Some h.0 = h.1 in cc)
fresh-young t (Header i j) fresh h = absurd (let x : None ≡ Some h.0 = h.1 in cc)
fresh-young t (Fixnum i) fresh h = absurd (let x : None ≡ Some h.0 = h.1 in cc)
fresh-young t Null fresh h = absurd (let x : None ≡ Some h.0 = h.1 in cc)
fresh-young t NilWord fresh h = absurd (let x : None ≡ Some h.0 = h.1 in cc)

-- a reference is no forward
plain-reference : (c : Content) (at : ℕ) → reference_of c ≡ Some at → IsSome (forward_of c) → ⊥
plain-reference (ListAt a) at ref f = (let x : false ≡ true = f in cc)
plain-reference (StructAt a) at ref f = (let x : false ≡ true = f in cc)
plain-reference (HeaderForward a) at ref f = absurd (let x : None ≡ Some at = ref in cc)
plain-reference (GcForward a) at ref f = absurd (let x : None ≡ Some at = ref in cc)
plain-reference (Header i j) at ref f = (let x : false ≡ true = f in cc)
plain-reference (Fixnum i) at ref f = (let x : false ≡ true = f in cc)
plain-reference Null at ref f = (let x : false ≡ true = f in cc)
plain-reference NilWord at ref f = (let x : false ≡ true = f in cc)

-- nor is a word that has a value
pub plain-value : (role : ℕ → Role) (c : Content) (v : Value) → value_of role c ≡ Some v → IsSome (forward_of c) → ⊥
plain-value role (ListAt a) v e f = (let x : false ≡ true = f in cc)
plain-value role (StructAt a) v e f = (let x : false ≡ true = f in cc)
plain-value role (HeaderForward a) v e f = absurd (let x : None ≡ Some v = e in cc)
plain-value role (GcForward a) v e f = absurd (let x : None ≡ Some v = e in cc)
plain-value role (Header i j) v e f = (let x : false ≡ true = f in cc)
plain-value role (Fixnum i) v e f = (let x : false ≡ true = f in cc)
plain-value role Null v e f = (let x : false ≡ true = f in cc)
plain-value role NilWord v e f = (let x : false ≡ true = f in cc)

-- nor one that leads nowhere
pub no-forward : (o : Option ℕ) → o ≡ None → IsSome o → ⊥
no-forward None e f = (let x : false ≡ true = f in cc)
no-forward (Some n) e f = absurd (cc)

-- a word that was settled is written back
pub marks-replaced : {m m' : Store} {t t' : Table} {at : ℕ} {old new : Parts} → OnlyGrows t t' → at < length m.words → word_at m.words at ≡ old → Settles t t' old new → Replaces m m' at old new → MarksFollow m t' m' t'
marks-replaced {m} {m'} {t} {t'} {at} {old} {new} grows inside is x (inl same) = marks-read t' same.1
marks-replaced {m} {m'} {t} {t'} {at} {old} {new} grows inside is x (inr stores) = elim x.is [
  | inl e ↦ absurd (stores.0 e)
  | inr e ↦ go e.1
]
  where
    go : RefersToOld t old → MarksFollow m t' m' t'
    go was =
        let here : word_at m'.words at ≡ new = stored-here stores.1 inside in
        let plain : IsForward (word_at m.words at) → ⊥ = λ f. plain-reference old.content was.0 was.1 (subst IsForward is f) in
        let old_there : RefersToOld t' (word_at m.words at) = subst (RefersToOld t') (sym is) (was.0, was.1, old-stays grows was.2) in
        marks-marker stores.1 (turns-stored stores.1 inside (λ f. absurd (plain f)) x.fresh) (settled old_there (λ h. x.fresh (subst (RefersToOld t') here h)))

-- Many words are written

-- some of these `count` words are on a page, or none
page-cases : (at count page : ℕ) → ((a : ℕ) × (a / 256 ≡ page) × Within at count a) ⊎ ((i : ℕ) → i < count → (at + i) / 256 ≡ page → ⊥)
page-cases at count page = elim (cases_lt page (at / 256)) [
  | inl before ↦ inr (λ i l on. omega arith)
  | inr reached ↦ elim (cases_lt at (256 * page)) [
    | inl above ↦ elim (cases_lt (256 * page) (at + count)) [
      | inl low ↦ inl (256 * page, (omega arith), (omega arith, low))
      | inr past ↦ inr (λ i l on. omega arith)
    ]
    | inr first ↦ elim (cases_lt 0 count) [
      | inl some ↦ inl (at, (omega arith), (omega arith, omega arith))
      | inr none ↦ inr (λ i l on. omega arith)
    ]
  ]
]

within-cases : (at count a : ℕ) → Within at count a ⊎ (Within at count a → ⊥)
within-cases at count a = elim (cases_lt a at) [
  | inl before ↦ inr (λ x. (let low = x.0 in omega arith))
  | inr reached ↦ elim (cases_lt a (at + count)) [
    | inl low ↦ inl (reached, low)
    | inr past ↦ inr (λ x. (let low = x.1 in omega arith))
  ]
]

module _ {m m' : Store} {t t' : Table} {at count : ℕ} {word : ℕ → Parts} (grows : OnlyGrows t t') (writes : Writes m m' at count word) where
  -- each of them may give marks to its page
  marks-writes : ((a : ℕ) → Within at count a → IsForward (word_at m.words a) → IsForward (word_at m'.words a) ⊎ IsPlaced t t' a) → ((a : ℕ) → Within at count a → RefersToOld t' (word_at m'.words a) → RefersToOld t (word_at m.words a) ⊎ IsPlaced t t' a)
      → ((a : ℕ) → Within at count a → MayMark m t m' t' a) → MarksFollow m t m' t'
  marks-writes forwards olds may = record {
    turns = record {
      used = grows.used;
      forwards = λ a f. elim (within-cases at count a) [
        | inl in_there ↦ forwards a in_there f
        | inr out ↦ inl (subst IsForward (sym (writes.others a out)) f)
      ];
      olds = λ a h. elim (within-cases at count a) [
        | inl in_there ↦ olds a in_there h
        | inr out ↦ (let was = subst (RefersToOld t') (writes.others a out) h in inl (was.0, was.1, old-before grows was.2))
      ];
    };
    unmarked = λ page clean. elim (page-cases at count page) [
      | inl one ↦ inr (one.0, one.1, may one.0 one.2)
      | inr none ↦ inl (writes.unmarked page clean (λ i l on. absurd (none i l on)))
    ];
  }

-- they are placed at the used end of a class
pub within-placed : (t t' : Table) (slot at words : ℕ) → IsTable t' → Extends t t' slot at words → (a : ℕ) → Within at words a → IsPlaced t t' a
within-placed t t' slot at words v x a within =
    let low = within.0 in
    let high = within.1 in
    let e = x.end.end in
    let f = x.end.fits in
    let region : a / 4096 ≡ at / 4096 = omega arith in
    let was : used_of t (a / 4096) ≡ used_of t (at / 4096) = ap (used_of t) region in
    elim (used-after t t' slot at words x (a / 4096)) [
      | inr more ↦ (let now = more.1 in record { past = (omega arith); used = (omega arith) })
      | inl same ↦ absurd (grown same region)
    ]
  where
    grown : used_of t' (a / 4096) ≡ used_of t (a / 4096) → a / 4096 ≡ at / 4096 → ⊥
    grown same region =
        let here = ap (λ (us : List ℕ). slice_index us (at / 4096)) x.used ∙ get_or-set_same t.used (at / 4096) (used_of t (at / 4096) + words) 0 (end-sized t t' slot at words x v) in
        let now : used_of t' (a / 4096) ≡ used_of t' (at / 4096) = ap (used_of t') region in
        let was : used_of t (a / 4096) ≡ used_of t (at / 4096) = ap (used_of t) region in
        let low = within.0 in
        let high = within.1 in
        omega arith

pub marks-placed : {m m' : Store} {t t' : Table} {slot at words : ℕ} {word : ℕ → Parts} → IsTable t' → Extends t t' slot at words → Writes m m' at words word → MarksFollow m t m' t'
marks-placed {m} {m'} {t} {t'} {slot} {at} {words} v x writes =
    let place = within-placed t t' slot at words v x in
    marks-writes (extends-grows t t' slot at words x) writes (λ a in_there f. inr (place a in_there)) (λ a in_there h. inr (place a in_there)) (λ a in_there. placed (place a in_there))

-- they become forwards
pub marks-left : {m m' : Store} {t : Table} {at count : ℕ} (to : ℕ) → ((i : ℕ) → i < count → IsForward (word_at m.words (at + i)) → ⊥) → Writes m m' at count (λ i. forward_to (to + i)) → MarksFollow m t m' t
marks-left {m} {m'} {t} {at} {count} to plain writes =
    marks-writes grows-same writes (λ a in_there f. absurd (before a in_there f)) (λ a in_there h. absurd (young a in_there h)) (λ a in_there. forwarded (before a in_there) (after a in_there))
  where
    here : (a : ℕ) → Within at count a → at + (a - at) ≡ a
    here a x = let low = x.0 in omega arith

    few : (a : ℕ) → Within at count a → a - at < count
    few a x = let low = x.0 in let high = x.1 in omega arith

    is : (a : ℕ) → Within at count a → word_at m'.words a ≡ forward_to (to + (a - at))
    is a x = ap (word_at m'.words) (sym (here a x)) ∙ writes.there (a - at) (few a x)

    before : (a : ℕ) → Within at count a → IsForward (word_at m.words a) → ⊥
    before a x f = plain (a - at) (few a x) (subst (λ (b : ℕ). IsForward (word_at m.words b)) (sym (here a x)) f)

    after : (a : ℕ) → Within at count a → IsForward (word_at m'.words a)
    after a x = subst IsForward (sym (is a x)) refl

    young : (a : ℕ) → Within at count a → RefersToOld t (word_at m'.words a) → ⊥
    young a x h = let old = subst (RefersToOld t) (is a x) h in absurd (let e : None ≡ Some old.0 = old.1 in cc)

-- the first becomes a forward, and the others have no address of level 1 or more
pub marks-first : {m m' : Store} {t t' : Table} {at count : ℕ} {word : ℕ → Parts} → OnlyGrows t t' → Writes m m' at count word → 0 < count → ((i : ℕ) → i < count → IsForward (word_at m.words (at + i)) → ⊥) → ((i : ℕ) → i < count → RefersToOld t' (word i) → ⊥)
    → IsForward (word 0) → ((i : ℕ) → i < count → 0 < i → level_of_word m.levels (word i) ≡ 0) → MarksFollow m t m' t'
marks-first {m} {m'} {t} {t'} {at} {count} {word} grows writes some plain young forward low = record {
  turns = record {
    used = grows.used;
    forwards = λ a f. elim (within-cases at count a) [
      | inl in_there ↦ absurd (plain (a - at) (few a in_there) (subst (λ (b : ℕ). IsForward (word_at m.words b)) (sym (here a in_there)) f))
      | inr out ↦ inl (subst IsForward (sym (writes.others a out)) f)
    ];
    olds = λ a h. elim (within-cases at count a) [
      | inl in_there ↦ absurd (young (a - at) (few a in_there) (subst (RefersToOld t') (is a in_there) h))
      | inr out ↦ (let was = subst (RefersToOld t') (writes.others a out) h in inl (was.0, was.1, old-before grows was.2))
    ];
  };
  unmarked = λ page clean. elim (cases_eq page (at / 256)) [
    | inl e ↦ inr (at, sym e, forwarded (λ f. plain 0 some (subst (λ (b : ℕ). IsForward (word_at m.words b)) first f)) (subst IsForward (sym (ap (word_at m'.words) first ∙ writes.there 0 some)) forward))
    | inr ne ↦ inl (writes.unmarked page clean (λ i l on. elim (cases_eq i 0) [
      | inl z ↦ absurd (ne (omega arith))
      | inr more ↦ low i l (omega arith)
    ]))
  ];
}
  where
    first : at ≡ at + 0
    first = omega arith

    here : (a : ℕ) → Within at count a → at + (a - at) ≡ a
    here a x = let low = x.0 in omega arith

    few : (a : ℕ) → Within at count a → a - at < count
    few a x = let low = x.0 in let high = x.1 in omega arith

    is : (a : ℕ) → Within at count a → word_at m'.words a ≡ word (a - at)
    is a x = ap (word_at m'.words) (sym (here a x)) ∙ writes.there (a - at) (few a x)

-- A transport

-- the first words of what moves are no forwards
parcel-plain : {words : List Parts} {at : ℕ} {p : Parcel} → forward_of (word_at words at).content ≡ None → IsParcel words at p → (i : ℕ) → i < p.objects → IsForward (word_at words (p.at + i)) → ⊥
parcel-plain {words} {at} {p} last (a_block code length shape is) i l f =
    let one : p.objects ≡ 1 = ap (λ (q : Parcel). q.objects) is in
    let begins : p.at ≡ at = ap (λ (q : Parcel). q.at) is in
    let here : p.at + i ≡ at = omega arith in
    no-forward (forward_of (word_at words (p.at + i)).content) (ap (λ (a : ℕ). forward_of (word_at words a).content) here ∙ last) f
parcel-plain {words} {at} {p} last (a_pair shape is) i l f =
    let one : p.objects ≡ 1 = ap (λ (q : Parcel). q.objects) is in
    let begins : p.at ≡ at = ap (λ (q : Parcel). q.at) is in
    let here : p.at + i ≡ at = omega arith in
    no-forward (forward_of (word_at words (p.at + i)).content) (ap (λ (a : ℕ). forward_of (word_at words a).content) here ∙ last) f
parcel-plain {words} {at} {p} last (a_run run begins few is) i l f = go run.ending refl
  where
    cell : i < run.cells → p.at ≡ at → ⊥
    cell low from = no-forward (forward_of (word_at words (p.at + i)).content) (ap (λ (a : ℕ). forward_of (word_at words (a + i)).content) from ∙ (begins.cells i low).final.no_forward) f

    go : (ending : RunEnd) → run.ending ≡ ending → ⊥
    go EndsNil ends =
        let same : p ≡ run_parcel at run.cells (charge_at words (at + run.cells)) EndsNil = is ∙ ap (run_parcel at run.cells (charge_at words (at + run.cells))) ends in
        let objects : p.objects ≡ run.cells = ap (λ (q : Parcel). q.objects) same in
        cell (omega arith) (ap (λ (q : Parcel). q.at) same)
    go (Forwarded to) ends =
        let same : p ≡ run_parcel at run.cells (charge_at words (at + run.cells)) (Forwarded to) = is ∙ ap (run_parcel at run.cells (charge_at words (at + run.cells))) ends in
        let objects : p.objects ≡ run.cells = ap (λ (q : Parcel). q.objects) same in
        cell (omega arith) (ap (λ (q : Parcel). q.at) same)
    go EndsPair ends =
        let same : p ≡ run_parcel at run.cells (charge_at words (at + run.cells)) EndsPair = is ∙ ap (run_parcel at run.cells (charge_at words (at + run.cells))) ends in
        let objects : p.objects ≡ run.cells + 1 = ap (λ (q : Parcel). q.objects) same in
        let from : p.at ≡ at = ap (λ (q : Parcel). q.at) same in
        let pair = subst (StandsBehind words (at + run.cells)) ends begins.behind in
        elim (cases_lt i run.cells) [
          | inl low ↦ cell low from
          | inr high ↦ no-forward (forward_of (word_at words (p.at + i)).content) (ap (λ (a : ℕ). forward_of (word_at words a).content) (let e : p.at + i ≡ at + run.cells = omega arith in e) ∙ pair.final.no_forward) f
        ]

pub marks-moved : {m m' : Store} {t t' : Table} {at : ℕ} (to : ℕ) → IsTable t → forward_of (word_at m.words at).content ≡ None → MovesHere m t m' t' at to → MarksFollow m t m' t'
marks-moved {m} {m'} {t} {t'} {at} to v last moved =
    let r = moved.relocates in
    let p = moved.parcel in
    let low = survivor_in t r.level r.old.level_in in
    let form = opened-form r.region r.opens in
    let grows = (live-opened r.region v r.old.area_in low r.opens).table in
    let slot_is : slot_of t r.area (survivor t r.level) ≡ slot_of r.table r.area (survivor t r.level) = ap (λ (top : ℕ). r.area * (top + 1) + survivor t r.level) (sym form.top) in
    let end : IsEnd r.table (slot_of r.table r.area (survivor t r.level)) to (word_count_of moved.parcel) = subst (λ (k : ℕ). IsEnd r.table k to (word_count_of moved.parcel)) slot_is r.end in
    let old : Contains (chain r.table (stale (slot_of t r.area r.level))) (p.at / 4096) = subst (λ (rs : List ℕ). Contains rs (moved.parcel.at / 4096)) (sym (grows.old_chains (slot_of t r.area r.level))) r.old.region in
    let some = moved.fits.some in
    let each = moved.fits.each in
    let apart = end_apart r.table (slot_of r.table r.area (survivor t r.level)) to (word_count_of p) (slot_of t r.area r.level) p.at p.words r.opens.sound end old moved.one_region (omega arith) in
    let words : r.room.words ≡ m.words = opened-words r.region r.opens ∙ moved.stays.words in
    let plain : (i : ℕ) → i < p.objects → IsForward (word_at r.moves.copied.words (p.at + i)) → ⊥ = λ i l f. parcel-plain last moved.is i l
    (subst (λ (ws : List Parts). IsForward (word_at ws (moved.parcel.at + i))) words (subst IsForward (r.moves.copies.others (p.at + i) (outside p.at p.words to (word_count_of p) i apart (omega arith))) f)) in
    marks-then (marks-read t moved.stays) (marks-then (marks-opened r.region v r.old.area_in low r.opens) (marks-then (marks-placed r.sound (moved-extends end r.commits) r.moves.copies) (marks-left to plain r.moves.forwards)))
  where
    outside : (at count to words i : ℕ) → (at + count ≤ to) ⊎ (to + words ≤ at) → i < count → Within to words (at + i) → ⊥
    outside at count to words i (inl l) low x = let a = x.0 in omega arith
    outside at count to words i (inr l) low x = let b = x.1 in omega arith

-- if it has failed
marks-faulted : {m m' : Store} {t t' : Table} → IsTable t → OpensAtMost m t m' t' → MarksFollow m t m' t'
marks-faulted {m} {m'} {t} {t'} v (inl x) = subst (λ (u : Table). MarksFollow m t m' u) (sym x.1) (marks-read t x.0)
marks-faulted {m} {m'} {t} {t'} v (inr x) =
    let o = x.2 in
    marks-then (marks-read t x.1) (marks-then (marks-opened o.region v o.area_in o.level_in o.opens) (marks-read t' o.stays))

-- and its address was followed first
pub marks-after : {m mid m' : Store} {t t' : Table} {at : ℕ} (here to : ℕ) → IsTransportable m t at → IsFinal m.words here → StoresNothing m mid → MovesHere mid t m' t' here to → MarksFollow m t m' t'
marks-after {m} {mid} {m'} {t} {t'} {at} here to x last stays moved =
    marks-then (marks-read t stays) (marks-moved to x.can.kept.table (subst (λ (ws : List Parts). forward_of (word_at ws here).content ≡ None) (sym stays.words) last.no_forward) moved)

pub marks-after_fault : {m mid m' : Store} {t t' : Table} {at : ℕ} → IsTransportable m t at → StoresNothing m mid → OpensAtMost mid t m' t' → MarksFollow m t m' t'
marks-after_fault {m} {mid} {m'} {t} x stays o = marks-then (marks-read t stays) (marks-faulted x.can.kept.table o)
