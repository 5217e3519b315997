-- What a call may do to scanned words: laws of fresh words, and of the set of pages, and what preserves a ground.
use Rattle.std.proofs.Common.{ℕ, ◌≡◌, ◌≢◌, ◌⊎◌, ◌+◌, ◌-◌, ◌*◌, ◌/◌, ◌%◌, ◌<◌, ◌≤◌, List, Some, None, length, slice_index, refl, sym, ◌∙◌, ap, subst, inl, inr, arith}
use Rattle.std.specs.Prelude.{Contains}
use Rattle.std.proofs.lemmas.Bool.{cases_eq, cases_lt}
use Rattle.std.proofs.lemmas.List.{get_or-set_same, get_or-set_other}
use Rattle.store_word.specs.Words.{Parts, address_of, null_word}
use Rattle.store_word.specs.declared.word.Content.{Content}
use Rattle.store_word.specs.declared.word.Content.TheVariants.{Null, Nil as NilWord, List as ListAt, Struct as StructAt, Header, HeaderForward, GcForward, Fixnum}
use Rattle.area_space.specs.lisp_graph.declared.object.Value.{Value}
use Rattle.area_space.specs.lisp_graph.Totals.{total}
use Rattle.area_space.proofs.lisp_graph.Totals.{total-at, total-cong}
use Rattle.mem_port.specs.Store.{Store, Stores, StoresNothing}
use Rattle.area_space.specs.Table.{Table, slot_of, live, stale, used_of, IsLive, IsOld, IsUnclassed}
use Rattle.area_space.specs.Sound.{IsTable}
use Rattle.area_space.specs.PageList.{IsAscending}
use Rattle.area_space.proofs.NewRegions.{contains_opened, chain_opened_other, slot_below}
use Rattle.obj_layout.specs.Forwards.{word_at}
use Rattle.lisp_ground.specs.lisp_meaning.Roles.{Role, value_of}
use Rattle.lisp_ground.specs.Writes.{Within}
use Rattle.lisp_ground.proofs.regions.Owners.{region_cases}
use Rattle.transporter.specs.Growth.{OpensOrStays, Grows}
use Rattle.transporter.specs.LiveWordsUnchanged.{OnlyGrows, IsLiveWord, LiveWordsUnchanged}
use Rattle.transporter.specs.Making.{PlacesNew}
use Rattle.transporter.specs.Settling.{reference_of, content_to, readdressed, RefersToOld, Replaces, Settles}
use Rattle.transporter.specs.Preserving.{FreshOn, NoOldAddresses, HasPlaced, PagesGrow, PreservesScanned}
use Rattle.transporter.proofs.LiveObjects.{grows-same, grows-then, still-live, live-read, old-stays, old-before, not-live}
use Rattle.transporter.proofs.UsedEnds.{Extends, new-extends, moved-extends, used-after, used-apart, used-new, end-low, end-sized, end-alive, extends-grows}
use Rattle.transporter.proofs.SettledWords.{live-not_old}

-- Fresh words

-- what is fresh stays fresh if no region becomes old
pub fresh-grown : {t t' : Table} (content : Content) → OnlyGrows t t' → FreshOn t content → FreshOn t' content
fresh-grown {t} {t'} content grows fresh b e old = fresh b e (old-before grows old)

-- a word that has a value and no old reference is fresh
pub fresh-value : (role : ℕ → Role) (t : Table) (c : Content) (v : Value) → value_of role c ≡ Some v → ((at : ℕ) × (reference_of c ≡ Some at) × IsOld t (at / 4096) → ⊥) → FreshOn t c
fresh-value role t (ListAt a) v e young b is old = young (b, is, old)
fresh-value role t (StructAt a) v e young b is old = young (b, is, old)
fresh-value role t (HeaderForward a) v e young b is old = absurd (let x : None ≡ Some v = e in cc)
fresh-value role t (GcForward a) v e young b is old = absurd (let x : None ≡ Some v = e in cc)
fresh-value role t (Header i j) v e young b is old = absurd (let x : None ≡ Some b = is in cc)
fresh-value role t (Fixnum i) v e young b is old = absurd (let x : None ≡ Some b = is in cc)
fresh-value role t Null v e young b is old = absurd (let x : None ≡ Some b = is in cc)
fresh-value role t NilWord v e young b is old = absurd (let x : None ≡ Some b = is in cc)

-- a word whose address is in a live region is fresh
pub live-fresh : {t : Table} (content : Content) (at : ℕ) → IsTable t → IsLive t (at / 4096) → address_of content ≡ Some at → FreshOn t content
live-fresh {t} content at v alive is b e old =
    let same : b ≡ at = (let x = sym e ∙ is in cc) in
    live-not_old v alive (subst (λ (a : ℕ). IsOld t (a / 4096)) same old)

-- Two calls, one after the other

pub pages-then : {t t1 t2 : Table} → OnlyGrows t t1 → OnlyGrows t1 t2 → PagesGrow t t1 → PagesGrow t1 t2 → PagesGrow t t2
pages-then {t} {t1} {t2} g h x y = record {
  ascending = λ up. y.ascending (x.ascending up);
  members = λ page. (
    (λ has. elim ((y.members page).0 has) [
      | inl mid ↦ elim ((x.members page).0 mid) [
        | inl was ↦ inl was
        | inr new ↦ inr (new.0, new.1, new.2, (let up = h.used (new.0 / 4096) in let low = new.3 in omega arith))
      ]
      | inr new ↦ inr (new.0, new.1, (let up = g.used (new.0 / 4096) in let past = new.2 in omega arith), new.3)
    ]),
    (λ either. elim either [
      | inl was ↦ (y.members page).1 (inl ((x.members page).1 (inl was)))
      | inr new ↦ elim (cases_lt (new.0 % 4096) (used_of t1 (new.0 / 4096))) [
        | inl first ↦ (y.members page).1 (inl ((x.members page).1 (inr (new.0, new.1, new.2, first))))
        | inr second ↦ (y.members page).1 (inr (new.0, new.1, second, new.3))
      ]
    ]),
  );
}

pub preserves-then : {m m1 m2 : Store} {t t1 t2 : Table} → PreservesScanned m t m1 t1 → PreservesScanned m1 t1 m2 t2 → PreservesScanned m t m2 t2
preserves-then {m} {m1} {m2} {t} {t1} {t2} x y = record {
  grows = grows-then x.grows y.grows;
  young = λ r old. y.young r old ∙ x.young r (old-before y.grows old);
  placed = (let a = x.placed in let b = y.placed in omega arith);
  paged = pages-then x.grows y.grows x.paged y.paged;
  words = λ a l. elim (y.words a (still-live x.grows l)) [
    | inl same ↦ elim (x.words a l) [
      | inl was ↦ inl (same ∙ was)
      | inr fresh ↦ inr (subst (λ (w : Parts). FreshOn t2 w.content) (sym same) (fresh-grown (word_at m1.words a).content y.grows fresh))
    ]
    | inr fresh ↦ inr fresh
  ];
}

-- A region is opened at most

opened-used : (t room : Table) → OpensOrStays t room → (r : ℕ) → used_of room r ≡ used_of t r
opened-used t room (inl same) r = ap (λ (u : Table). used_of u r) same
opened-used t room (inr o) r = ap (λ (u : Table). used_of u r) o.table

record OpenedSame (t room : Table) : Type 0 where
  regions : room.regions ≡ t.regions
  placed : room.placed ≡ t.placed
  pages : room.pages ≡ t.pages

opened-same : (t room : Table) → OpensOrStays t room → OpenedSame t room
opened-same t room (inl same) = record { regions = ap (λ (u : Table). u.regions) same; placed = ap (λ (u : Table). u.placed) same; pages = ap (λ (u : Table). u.pages) same }
opened-same t room (inr o) = record { regions = ap (λ (u : Table). u.regions) o.table; placed = ap (λ (u : Table). u.placed) o.table; pages = ap (λ (u : Table). u.pages) o.table }

opened-total : (t room : Table) → OpensOrStays t room → total (used_of room) room.regions ≡ total (used_of t) t.regions
opened-total t room o = ap (total (used_of room)) (opened-same t room o).regions ∙ total-cong (used_of room) (used_of t) t.regions (λ r l. opened-used t room o r)

opened-paged : (t room : Table) → OpensOrStays t room → PagesGrow t room
opened-paged t room o =
    let s = opened-same t room o in
    record {
      ascending = λ up. subst IsAscending (sym s.pages) up;
      members = λ page. (
        (λ has. inl (subst (λ (ps : List ℕ). Contains ps page) s.pages has)),
        (λ either. elim either [
          | inl was ↦ subst (λ (ps : List ℕ). Contains ps page) (sym s.pages) was
          | inr new ↦ (let e = opened-used t room o (new.0 / 4096) in let low = new.2 in let high = new.3 in absurd (omega arith))
        ]),
      );
    }

pub opened-grows : {t room : Table} → IsTable t → OpensOrStays t room → OnlyGrows t room
opened-grows {t} {room} v (inl same) = subst (λ (u : Table). OnlyGrows t u) (sym same) grows-same
opened-grows {t} {room} v (inr o) =
    let below : live (slot_of t o.area o.level) < length t.chains = (let a = slot_below t o.area o.level o.area_in o.level_in in let b = v.chains_size in omega arith) in
    subst (λ (u : Table). OnlyGrows t u) (sym o.table) (record {
      form = record { regions = refl; top = refl; quotas = refl; kinds = refl };
      aim = refl;
      live_chains = λ slot region h. contains_opened t (live (slot_of t o.area o.level)) o.region (live slot) region below h;
      old_chains = λ slot. chain_opened_other t (live (slot_of t o.area o.level)) o.region (stale slot) (not-live (slot_of t o.area o.level) slot);
      used = λ region. omega arith;
      flip_marks = refl;
      placed = omega arith;
    })

-- nothing was placed
pub opened-preserves : {m m' : Store} {t t' : Table} → LiveWordsUnchanged m t m' t' → OpensOrStays t t' → PreservesScanned m t m' t'
opened-preserves {m} {m'} {t} {t'} same o = record {
  grows = same.table;
  young = λ r old. opened-used t t' o r;
  placed = (let s = opened-same t t' o in let a = s.placed in let b = opened-total t t' o in omega arith);
  paged = opened-paged t t' o;
  words = λ a l. inl (same.words a l);
}

-- nothing was stored
pub read-preserves : {m m' : Store} (t : Table) → StoresNothing m m' → PreservesScanned m t m' t
read-preserves t reads = opened-preserves (live-read reads) (inl refl)

pub preserves-same : {m : Store} {t : Table} → PreservesScanned m t m t
preserves-same {m} {t} = read-preserves t (record { words = refl; levels = refl; top = refl; unmarked = λ page e. e })

-- a fresh word was stored
pub stored-preserves : {m m' : Store} (t : Table) (a : ℕ) (w : Parts) → Stores m m' a w → a < length m.words → FreshOn t w.content → PreservesScanned m t m' t
stored-preserves {m} {m'} t a w stores inside fresh =
    let base : PreservesScanned m t m t = preserves-same in
    record { grows = base.grows; young = base.young; placed = base.placed; paged = base.paged; words = words }
  where
    there : word_at m'.words a ≡ w
    there = ap (λ (ws : List Parts). word_at ws a) stores.words ∙ get_or-set_same m.words a w null_word inside

    words : (i : ℕ) → IsLiveWord t i → (word_at m'.words i ≡ word_at m.words i) ⊎ FreshOn t (word_at m'.words i).content
    words i l = elim (cases_eq i a) [
      | inl e ↦ inr (subst (FreshOn t) (sym (ap (λ (x : ℕ). (word_at m'.words x).content) e ∙ ap (λ (p : Parts). p.content) there)) fresh)
      | inr ne ↦ inl (ap (λ (ws : List Parts). word_at ws i) stores.words ∙ get_or-set_other m.words a i w null_word ne)
    ]

-- Words are placed

-- a page between the first and the last of them has one of them
extends-paged : (t t' : Table) (slot at words : ℕ) → IsTable t' → 0 < words → Extends t t' slot at words → PagesGrow t t'
extends-paged t t' slot at words v some x = record {
  ascending = λ up. x.pages.ascending;
  members = λ page. (
    (λ has. elim ((x.pages.members page).0 has) [
      | inl was ↦ inl was
      | inr between ↦
          let low = between.0 in
          let high = between.1 in
          elim (cases_lt at (256 * page)) [
            | inl before ↦ inr (new_on page (256 * page) (omega arith) (omega arith) (omega arith))
            | inr past ↦ inr (new_on page at (omega arith) (omega arith) (omega arith))
          ]
    ]),
    (λ either. elim either [
      | inl was ↦ (x.pages.members page).1 (inl was)
      | inr new ↦
          let on = new.1 in
          let within = used-new t t' slot at words x new.0 new.2 new.3 in
          let low = within.0 in
          let high = within.1 in
          (x.pages.members page).1 (inr (omega arith, omega arith))
    ]),
  );
}
  where
    here : used_of t' (at / 4096) ≡ used_of t (at / 4096) + words
    here = ap (λ (us : List ℕ). slice_index us (at / 4096)) x.used ∙ get_or-set_same t.used (at / 4096) (used_of t (at / 4096) + words) 0 (end-sized t t' slot at words x v)

    new_on : (page a : ℕ) → a / 256 ≡ page → at ≤ a → a < at + words → HasPlaced t t' page
    new_on page a on low high =
        let e = x.end.end in
        let f = x.end.fits in
        let region : a / 4096 ≡ at / 4096 = omega arith in
        let was : used_of t (a / 4096) ≡ used_of t (at / 4096) = ap (used_of t) region in
        let now : used_of t' (a / 4096) ≡ used_of t (at / 4096) + words = ap (used_of t') region ∙ here in
        (a, on, (omega arith), (omega arith))

extends-total : (t t' : Table) (slot at words : ℕ) → IsTable t' → Extends t t' slot at words → total (used_of t') t'.regions ≡ total (used_of t) t.regions + words
extends-total t t' slot at words v x =
    let low = end-low t t' slot at words x v in
    let here : used_of t' (at / 4096) ≡ used_of t (at / 4096) + words = ap (λ (us : List ℕ). slice_index us (at / 4096)) x.used ∙ get_or-set_same t.used (at / 4096) (used_of t (at / 4096) + words) 0 (end-sized t t' slot at words x v) in
    let there : (r : ℕ) → r < t.regions → r ≢ at / 4096 → used_of t r ≡ used_of t' r = λ r l ne. sym (ap (λ (us : List ℕ). slice_index us r) x.used ∙ get_or-set_other t.used (at / 4096) r (used_of t (at / 4096) + words) 0 ne) in
    let sum = total-at (used_of t) (used_of t') (at / 4096) t.regions low there in
    let same = ap (total (used_of t')) x.form.regions in
    omega arith

module _ (m m' : Store) (t room t' : Table) (v' : IsTable t') (opens : OpensOrStays t room) (slot at words : ℕ) (some : 0 < words) (x : Extends room t' slot at words) where
  young : (r : ℕ) → IsOld t' r → used_of t' r ≡ used_of t r
  young r old = elim (used-after room t' slot at words x r) [
    | inl e ↦ e ∙ opened-used t room opens r
    | inr here ↦ absurd (live-not_old v' (end-alive room t' slot at words x) (subst (IsOld t') here.0 old))
  ]

  placed : total (used_of t') t'.regions + t.placed ≡ total (used_of t) t.regions + t'.placed
  placed =
      let a = opened-total t room opens in
      let b = extends-total room t' slot at words v' x in
      let c = (opened-same t room opens).placed in
      let d = x.placed in
      omega arith

  paged : PagesGrow t t'
  paged =
      let s = opened-same t room opens in
      let g = extends-paged room t' slot at words v' some x in
      record {
        ascending = λ up. g.ascending (subst IsAscending (sym s.pages) up);
        members = λ page. (
          (λ has. elim ((g.members page).0 has) [
            | inl was ↦ inl (subst (λ (ps : List ℕ). Contains ps page) s.pages was)
            | inr new ↦ inr (new.0, new.1, (let e = opened-used t room opens (new.0 / 4096) in let past = new.2 in omega arith), new.3)
          ]),
          (λ either. elim either [
            | inl was ↦ (g.members page).1 (inl (subst (λ (ps : List ℕ). Contains ps page) (sym s.pages) was))
            | inr new ↦ (g.members page).1 (inr (new.0, new.1, (let e = opened-used t room opens (new.0 / 4096) in let past = new.2 in omega arith), new.3))
          ]),
        );
      }

  -- and no used word of a live region changes
  pub placed-preserves : LiveWordsUnchanged m t m' t' → PreservesScanned m t m' t'
  placed-preserves same = record { grows = same.table; young = young; placed = placed; paged = paged; words = λ a l. inl (same.words a l) }

  -- or each that changes becomes fresh
  pub laid-preserves : IsTable t → ((a : ℕ) → IsLiveWord t a → (Within at words a → ⊥) → (word_at m'.words a ≡ word_at m.words a) ⊎ FreshOn t' (word_at m'.words a).content) → PreservesScanned m t m' t'
  laid-preserves v kept = record {
    grows = grows-then (opened-grows v opens) (extends-grows room t' slot at words x);
    young = young;
    placed = placed;
    paged = paged;
    words = λ a l. kept a l (used-apart room t' slot at words x a (let e = opened-used t room opens (a / 4096) in let u = l.used in omega arith));
  }

-- words of new objects
pub made-preserves : (m m' : Store) (t t' : Table) (area level at words charge : ℕ) → IsTable t' → LiveWordsUnchanged m t m' t' → 0 < words → PlacesNew t t' area level at words charge → PreservesScanned m t m' t'
made-preserves m m' t t' area level at words charge v' same some p = placed-preserves m m' t p.room t' v' p.opens (slot_of p.room area level) at words some (new-extends p) same

-- words of a transport
pub grows-preserves : {m m' : Store} {t t' : Table} → IsTable t' → LiveWordsUnchanged m t m' t' → Grows t t' → PreservesScanned m t m' t'
grows-preserves {m} {m'} {t} {t'} v' same (inl o) = opened-preserves same o
grows-preserves {m} {m'} {t} {t'} v' same (inr p) = placed-preserves m m' t p.room t' v' p.opens (slot_of p.room p.area p.level) p.to p.words (let s = p.some in omega arith) (moved-extends p.end p.commits) same

-- All words of live regions stay fresh

-- if each word that was placed is fresh
pub stays_fresh-tended : (m m' : Store) (t t' : Table) → IsTable t → IsTable t' → PreservesScanned m t m' t' → ((a : ℕ) → IsLiveWord t' a → used_of t (a / 4096) ≤ a % 4096 → FreshOn t' (word_at m'.words a).content) → NoOldAddresses m t → NoOldAddresses m' t'
stays_fresh-tended m m' t t' v v' x new all a l = elim (cases_lt (a % 4096) (used_of t (a / 4096))) [
  | inl used ↦ before (record { live = class used (region_cases t (a / 4096)); used = used })
  | inr past ↦ new a l past
]
  where
    class : a % 4096 < used_of t (a / 4096) → IsUnclassed t (a / 4096) ⊎ (IsLive t (a / 4096) ⊎ IsOld t (a / 4096)) → IsLive t (a / 4096)
    class used (inl free) = let none = v.blank (a / 4096) free in absurd (omega arith)
    class used (inr (inl alive)) = alive
    class used (inr (inr old)) = absurd (live-not_old v' l.live (old-stays x.grows old))

    before : IsLiveWord t a → FreshOn t' (word_at m'.words a).content
    before was = elim (x.words a was) [
      | inl same ↦ subst (λ (w : Parts). FreshOn t' w.content) (sym same) (fresh-grown (word_at m.words a).content x.grows (all a was))
      | inr fresh ↦ fresh
    ]

pub laid-stays_fresh : (m m' : Store) (t room t' : Table) (slot at words : ℕ) → IsTable t → IsTable t' → OpensOrStays t room → Extends room t' slot at words → PreservesScanned m t m' t' → ((i : ℕ) → i < words → FreshOn t' (word_at m'.words (at + i)).content)
    → NoOldAddresses m t → NoOldAddresses m' t'
laid-stays_fresh m m' t room t' slot at words v v' opens x preserves new = stays_fresh-tended m m' t t' v v' preserves (λ a l past.
    let same = opened-used t room opens (a / 4096) in
    let within = used-new room t' slot at words x a (omega arith) l.used in
    let low = within.0 in
    let high = within.1 in
    let is : at + (a - at) ≡ a = omega arith in
    subst (λ (i : ℕ). FreshOn t' (word_at m'.words i).content) is (new (a - at) (omega arith)))

pub made-stays_fresh : (m m' : Store) (t t' : Table) (area level at words charge : ℕ) → IsTable t → IsTable t' → PlacesNew t t' area level at words charge → PreservesScanned m t m' t' → ((i : ℕ) → i < words → FreshOn t' (word_at m'.words (at + i)).content) → NoOldAddresses m t → NoOldAddresses m' t'
made-stays_fresh m m' t t' area level at words charge v v' p preserves new = laid-stays_fresh m m' t p.room t' (slot_of p.room area level) at words v v' p.opens (new-extends p) preserves new

pub read-stays_fresh : {m m' : Store} (t : Table) → StoresNothing m m' → NoOldAddresses m t → NoOldAddresses m' t
read-stays_fresh t reads all a l = subst (λ (ws : List Parts). FreshOn t (word_at ws a).content) (sym reads.words) (all a l)

-- A word that is settled and written back

same-reference : (c : Content) (at to b : ℕ) → reference_of c ≡ Some at → address_of (content_to c to) ≡ Some b → reference_of (content_to c to) ≡ Some b
same-reference (ListAt a) at to b ref is = is
same-reference (StructAt a) at to b ref is = is
same-reference (HeaderForward a) at to b ref is = absurd (let x : None ≡ Some at = ref in cc)
same-reference (GcForward a) at to b ref is = absurd (let x : None ≡ Some at = ref in cc)
same-reference (Header i j) at to b ref is = absurd (let x : None ≡ Some at = ref in cc)
same-reference (Fixnum i) at to b ref is = absurd (let x : None ≡ Some at = ref in cc)
same-reference Null at to b ref is = absurd (let x : None ≡ Some at = ref in cc)
same-reference NilWord at to b ref is = absurd (let x : None ≡ Some at = ref in cc)

-- if it has changed, it is fresh
settled-fresh : {t t' : Table} {old new : Parts} → Settles t t' old new → new ≢ old → FreshOn t' new.content
settled-fresh {t} {t'} {old} {new} x ne b is young = go x.is
  where
    go : (new ≡ old) ⊎ ((to : ℕ) × RefersToOld t old × (new ≡ readdressed old to)) → ⊥
    go (inl e) = ne e
    go (inr e) =
        let content : new.content ≡ content_to old.content e.0 = ap (λ (w : Parts). w.content) e.2 in
        let ref = same-reference old.content e.1.0 e.0 b e.1.1 (subst (λ (c : Content). address_of c ≡ Some b) content is) in
        x.fresh (b, subst (λ (c : Content). reference_of c ≡ Some b) (sym content) ref, young)

pub replaced-preserves : {m m' : Store} (t t' : Table) (at : ℕ) (old new : Parts) → at < length m.words → Settles t t' old new → Replaces m m' at old new → PreservesScanned m t' m' t'
replaced-preserves t t' at old new inside x (inl same) = read-preserves t' same.1
replaced-preserves t t' at old new inside x (inr stores) = stored-preserves t' at new stores.1 inside (settled-fresh x stores.0)

-- and if it wasn't old, nothing is stored
pub unmoved-reads : {m m' : Store} (t t' : Table) (at : ℕ) (old new : Parts) → (RefersToOld t old → ⊥) → Settles t t' old new → Replaces m m' at old new → StoresNothing m m'
unmoved-reads t t' at old new none x (inl same) = same.1
unmoved-reads t t' at old new none x (inr stores) = elim x.is [
  | inl e ↦ absurd (stores.0 e)
  | inr e ↦ absurd (none e.1)
]
