-- One area, call by call.
use Rattle.std.proofs.Common.{◌≡◌, ℕ, ◌+◌, ◌-◌, ◌*◌, ◌/◌, ◌<◌, ◌≤◌, Bool, true, not, ◌&&◌, if◌then◌else◌, Option, Some, None, List, [], ◌∷◌, length, slice_index, slice_index_or, slice_get, slice_set, refl, sym, ◌∙◌, ap, subst, arith, inl, inr, length-set, get_or-set_same, get_or-set_other}
use Rattle.std.specs.Prelude.{IfNone, IfSome}
use Rattle.std.proofs.lemmas.List.{length-replicate}
use Rattle.std.proofs.lemmas.List.Elements.{All-cons, All-nil}
use Rattle.std.proofs.lemmas.Option.{slice_get_within}
use Rattle.store_word.specs.Words.{Parts, address_of, null_word}
use Rattle.mem_port.specs.Store.{Store, IsFresh}
use Rattle.mem_port.proofs.Lookups.{get-replicate}
use Rattle.lisp_graph.specs.declared.command.Condemn.TheVariants.{Full}
use Rattle.lisp_graph.specs.declared.world.AreaKind.{AreaKind}
use Rattle.lisp_graph.specs.declared.world.AreaKind.TheVariants.{Static, Dynamic}
use Rattle.lisp_graph.specs.declared.world.AreaRule.{AreaRule}
use Rattle.lisp_graph.specs.Totals.{total}
use Rattle.lisp_graph.proofs.Totals.{total-suc, total-zero}
use Rattle.area_space.specs.declared.classes.Class.{Class}
use Rattle.area_space.specs.declared.classes.Origin.TheVariants.{New, Moved}
use Rattle.area_space.specs.Sums.{both}
use Rattle.area_space.specs.Table.{Table, kind_of, levels_of, slots_of, slot_of, live, stale, quota_of, IsUnclassed, IsOld}
use Rattle.area_space.specs.Accounts.{account_of}
use Rattle.area_space.specs.Sound.{IsTable}
use Rattle.area_space.specs.Room.{words_of_class, words_of_area}
use Rattle.area_space.specs.Places.{IsEnd, opened}
use Rattle.area_space.specs.Charges.{committed, AllowsOrigin}
use Rattle.area_space.specs.Flips.{Slot, state_of, after_flip, condemns, kind_is_static, Condemns}
use Rattle.area_space.specs.Frees.{Frees}
use Rattle.area_space.specs.Fresh.{fresh}
use Rattle.area_space.specs.Ground.{IsGround, ClearsOld, with_level}
use Rattle.one_area.specs.OneArea.{IsOneArea, NamesNothing}
use Rattle.area_space.proofs.RegionStates.{old_or_not}
use Rattle.area_space.proofs.EmptyTable.{fresh_is, room_from}
use Rattle.area_space.proofs.GroundLaws.{ground_fresh}
use Rattle.area_space.proofs.UsedWords.{opened_words, committed_words, committed_words_other, condemned_live_words, condemned_old_words, freed_live_words, freed_old_words}

-- two slots
pub two_slots : (s : Store) (t : Table) (l o m : ℕ) → IsOneArea s t l o m → slots_of t ≡ 2
two_slots s t l o m x = ap (λ (a : ℕ). a * levels_of t) x.one ∙ ap (λ (k : ℕ). 1 * (k + 1)) x.top

-- all used words are live or old ones of level 0
pub area_words : (s : Store) (t : Table) (l o m : ℕ) → IsOneArea s t l o m → words_of_area t 0 ≡ l + o
area_words s t l o m x =
    let f : ℕ → ℕ = λ k. both (words_of_class t) (0 * levels_of t + k) in
    let e : words_of_area t 0 ≡ total f 2 = ap (λ (k : ℕ). total f (k + 1)) x.top in
    let a = total-suc f 1 in
    let b = total-suc f 0 in
    let c = total-zero f in
    let k1 : 0 * levels_of t + 1 ≡ 1 = omega arith in
    let k0 : 0 * levels_of t + 0 ≡ 0 = omega arith in
    let f1 : f 1 ≡ both (words_of_class t) 1 = ap (both (words_of_class t)) k1 in
    let f0 : f 0 ≡ both (words_of_class t) 0 = ap (both (words_of_class t)) k0 in
    let p = x.live_0 in
    let q = x.old_0 in
    let r = x.live_1 in
    let u = x.old_1 in
    omega arith

-- the slot for which places are requested
pub first_slot : (t : Table) → slot_of t 0 0 ≡ 0
first_slot t = omega arith

-- what a call leaves, from what it changes
area_from : (s s' : Store) (t t' : Table) (l o m l' o' m' : ℕ) → IsOneArea s t l o m → t'.top ≡ t.top → t'.quotas ≡ t.quotas → t'.kinds ≡ t.kinds → t'.regions ≡ t.regions
    → IsTable t' → IsGround s' t' → NamesNothing s' → words_of_class t' 0 ≡ l' → words_of_class t' 1 ≡ o' → words_of_class t' 2 ≡ 0 → words_of_class t' 3 ≡ 0
    → l' ≤ slice_index t'.charges 0 → m' ≤ slice_index t'.charges 1 → l' + o' ≤ 2 * quota_of t 0 → IsOneArea s' t' l' o' m'
area_from s s' t t' l o m l' o' m' x top quotas kinds regions table ground nothing a b c d live_charge old_charge within =
    let R : ℕ → ℕ → List ℕ → Type 0 = λ rs tp qs. total (λ area. (slice_index qs area + 1023) / 1024 + 2 * (tp + 1)) (length qs) ≤ rs in
    record {
      top = top ∙ x.top;
      one = ap (λ (qs : List ℕ). length qs) quotas ∙ x.one;
      dynamic = ap (λ (ks : List AreaKind). slice_index_or ks 0 Static) kinds ∙ x.dynamic;
      room = subst (λ (rs : ℕ). R rs t'.top t'.quotas) (sym regions) (subst (λ (tp : ℕ). R t.regions tp t'.quotas) (sym top) (subst (R t.regions t.top) (sym quotas) x.room));
      table = table;
      ground = ground;
      nothing = nothing;
      live_0 = a;
      old_0 = b;
      live_1 = c;
      old_1 = d;
      live_charge = live_charge;
      old_charge = old_charge;
      within = subst (λ (qs : List ℕ). l' + o' ≤ 2 * slice_index qs 0) (sym quotas) within;
    }

-- a place
pub area_placed : (region : Option ℕ) (s s' : Store) (t t' : Table) (l o m : ℕ) → IsTable t' → IfNone region (t' ≡ t) → IfNone region (s' ≡ s)
    → IfSome region (λ r. t' ≡ opened t (live (slot_of t 0 0)) r) → IfSome region (λ r. s' ≡ with_level s r 0) → IfSome region (λ r. IsUnclassed t r)
    → IsGround s' t' → IsOneArea s t l o m → IsOneArea s' t' l o m
area_placed None s s' t t' l o m v same behind table level free g x = subst (λ (w : Table). IsOneArea s' w l o m) (sym same) (subst (λ (w : Store). IsOneArea w t l o m) (sym behind) x)
area_placed (Some r) s s' t t' l o m v same behind table level free g x =
    let two = two_slots s t l o m x in
    let zero_slot = first_slot t in
    let words : (class : ℕ) → words_of_class t' class ≡ words_of_class t class = λ class. ap (λ (w : Table). words_of_class w class) table ∙ opened_words t (slot_of t 0 0) r class x.table (omega arith) free in
    area_from s s' t t' l o m l o m x (ap (λ (w : Table). w.top) table) (ap (λ (w : Table). w.quotas) table) (ap (λ (w : Table). w.kinds) table) (ap (λ (w : Table). w.regions) table)
    v g (λ at to word got. x.nothing at to word (sym (ap (λ (w : Store). slice_get w.words at) level) ∙ got))
    (words 0 ∙ x.live_0) (words 1 ∙ x.old_0) (words 2 ∙ x.live_1) (words 3 ∙ x.old_1)
    (subst (λ (w : Table). l ≤ slice_index w.charges 0) (sym table) x.live_charge) (subst (λ (w : Table). m ≤ slice_index w.charges 1) (sym table) x.old_charge) x.within

-- a place is in slot 0
pub end_first : (t u : Table) (at words : ℕ) → IsEnd u (slot_of t 0 0) at words → IsEnd u 0 at words
end_first t u at words e = subst (λ (k : ℕ). IsEnd u k at words) (first_slot t) e

area_of_slot : (s : Store) (t : Table) (l o m slot : ℕ) → IsOneArea s t l o m → slot < slots_of t → slot / levels_of t ≡ 0
area_of_slot s t l o m slot x low = (let two = two_slots s t l o m x in let half : slot / (t.top + 1) ≡ slot / 2 = ap (λ (k : ℕ). slot / (k + 1)) x.top in half ∙ (omega arith))

pub new_allowed : (s : Store) (t : Table) (l o m at words slot : ℕ) → IsOneArea s t l o m → account_of t 0 + words ≤ quota_of t 0 → IsEnd t slot at words → AllowsOrigin t slot words New
new_allowed s t l o m at words slot x fits e = subst (λ (a : ℕ). account_of t a + words ≤ quota_of t a) (sym (area_of_slot s t l o m slot x e.inside)) fits

-- the class of which copies are made
abbrev pub first_old : Class
first_old = record { area = 0; level = 0; stale = true }

pub moved_allowed : (s : Store) (t : Table) (l o m at words slot : ℕ) → IsOneArea s t l o m → words ≤ m → IsEnd t slot at words → AllowsOrigin t slot words (Moved first_old)
moved_allowed s t l o m at words slot x enough e = (
  refl,
  sym (area_of_slot s t l o m slot x e.inside),
  omega arith,
  (let c = x.old_charge in let one : stale (slot_of t 0 0) ≡ 1 = omega arith in subst (λ (k : ℕ). words ≤ slice_index t.charges k) (sym one) (omega arith)),
)

-- a commit of a new object
pub area_put : (s : Store) (t u : Table) (l o m at words : ℕ) → IsTable u → IsEnd t 0 at words → u ≡ record (committed t 0 at words words New) { pages = u.pages } → l + o + words ≤ 2 * quota_of t 0 → IsGround s u → IsOneArea s t l o m → IsOneArea s u (l + words) o m
area_put s t u l o m at words v e is within g x =
    let two = two_slots s t l o m x in
    let size = x.table.charges_size in
    let charges : u.charges ≡ slice_set t.charges 0 (slice_index t.charges 0 + words) = ap (λ (w : Table). w.charges) is in
    let here : slice_index u.charges 0 ≡ slice_index t.charges 0 + words = ap (λ (cs : List ℕ). slice_index cs 0) charges ∙ get_or-set_same t.charges 0 (slice_index t.charges 0 + words) 0 (omega arith) in
    let there : slice_index u.charges 1 ≡ slice_index t.charges 1 = ap (λ (cs : List ℕ). slice_index cs 1) charges ∙ get_or-set_other t.charges 0 1 (slice_index t.charges 0 + words) 0 (λ q. omega arith) in
    let a = x.live_charge in
    let b = x.old_charge in
    area_from s s t u l o m (l + words) o m x (ap (λ (w : Table). w.top) is) (ap (λ (w : Table). w.quotas) is) (ap (λ (w : Table). w.kinds) is) (ap (λ (w : Table). w.regions) is)
    v g x.nothing (committed_words t u 0 at words words New x.table e is ∙ ap (λ (k : ℕ). k + words) x.live_0)
    (committed_words_other t u 0 at words words 1 New x.table e is (λ q. omega arith) ∙ x.old_0) (committed_words_other t u 0 at words words 2 New x.table e is (λ q. omega arith) ∙ x.live_1) (committed_words_other t u 0 at words words 3 New x.table e is (λ q. omega arith) ∙ x.old_1)
    (omega arith) (omega arith) (omega arith)

moved_charges : (cs : List ℕ) (k w : ℕ) → k ≡ 1 → 2 ≤ length cs → (let ds = slice_set cs k (slice_index cs k - w) in let es = slice_set ds 0 (slice_index ds 0 + w) in (slice_index es 0 ≡ slice_index cs 0 + w) × (slice_index es 1 ≡ slice_index cs 1 - w))
moved_charges cs k w one size =
    let ds = slice_set cs k (slice_index cs k - w) in
    let len = length-set cs k (slice_index cs k - w) in
    let same : slice_index ds 0 ≡ slice_index cs 0 = get_or-set_other cs k 0 (slice_index cs k - w) 0 (λ q. omega arith) in
    let here : slice_index ds 1 ≡ slice_index cs 1 - w = ap (slice_index ds) (sym one) ∙ (get_or-set_same cs k (slice_index cs k - w) 0 (omega arith) ∙ ap (λ (j : ℕ). slice_index cs j - w) one) in
    (get_or-set_same ds 0 (slice_index ds 0 + w) 0 (omega arith) ∙ ap (λ (j : ℕ). j + w) same, get_or-set_other ds 0 1 (slice_index ds 0 + w) 0 (λ q. omega arith) ∙ here)

-- a commit of a copy
pub area_moved : (s : Store) (t u : Table) (l o m at words : ℕ) → IsTable u → IsEnd t 0 at words → u ≡ record (committed t 0 at words words (Moved first_old)) { pages = u.pages } → words ≤ m → l + o + words ≤ 2 * quota_of t 0 → IsGround s u → IsOneArea s t l o m → IsOneArea s u (l + words) o (m - words)
area_moved s t u l o m at words v e is enough within g x =
    let two = two_slots s t l o m x in
    let size = x.table.charges_size in
    let one : stale (slot_of t 0 0) ≡ 1 = omega arith in
    let both_charges = moved_charges t.charges (stale (slot_of t 0 0)) words one (omega arith) in
    let here : slice_index u.charges 0 ≡ slice_index t.charges 0 + words = ap (λ (w : Table). slice_index w.charges 0) is ∙ both_charges.0 in
    let there : slice_index u.charges 1 ≡ slice_index t.charges 1 - words = ap (λ (w : Table). slice_index w.charges 1) is ∙ both_charges.1 in
    let a = x.live_charge in
    let b = x.old_charge in
    area_from s s t u l o m (l + words) o (m - words) x (ap (λ (w : Table). w.top) is) (ap (λ (w : Table). w.quotas) is) (ap (λ (w : Table). w.kinds) is) (ap (λ (w : Table). w.regions) is)
    v g x.nothing (committed_words t u 0 at words words (Moved first_old) x.table e is ∙ ap (λ (k : ℕ). k + words) x.live_0)
    (committed_words_other t u 0 at words words 1 (Moved first_old) x.table e is (λ q. omega arith) ∙ x.old_0) (committed_words_other t u 0 at words words 2 (Moved first_old) x.table e is (λ q. omega arith) ∙ x.live_1) (committed_words_other t u 0 at words words 3 (Moved first_old) x.table e is (λ q. omega arith) ∙ x.old_1)
    (omega arith) (omega arith) (omega arith)

-- a full flip
pub area_flipped : (s : Store) (t u : Table) (l o m : ℕ) → IsTable u → ((region : ℕ) → IsOld t region → ⊥) → Condemns t u Full → IsGround s u → IsOneArea s t l o m → IsOneArea s u 0 l l
area_flipped s t u l o m v none f g x =
    let two = two_slots s t l o m x in
    let flips : (slot : ℕ) → slot < slots_of t → condemns t Full slot ≡ true = λ slot low.
    ap (λ (k : ℕ). not (kind_is_static (kind_of t k)) && true) (area_of_slot s t l o m slot x low) ∙ ap (λ (kind : AreaKind). not (kind_is_static kind) && true) x.dynamic in
    let live_words : (slot : ℕ) → slot < slots_of t → words_of_class u (live slot) ≡ 0 = λ slot low.
    condemned_live_words t u Full slot f low ∙ ap (λ (b : Bool). if b then 0 else words_of_class t (live slot)) (flips slot low) in
    let old_words : (slot : ℕ) → slot < slots_of t → words_of_class u (stale slot) ≡ words_of_class t (live slot) = λ slot low.
    condemned_old_words t u Full slot none f low ∙ ap (λ (b : Bool). if b then words_of_class t (live slot) else 0) (flips slot low) in
    let charge : slice_index u.charges 1 ≡ slice_index t.charges 0 = ap (λ (w : Slot). w.old_charge) (f.slots 0 (omega arith) ∙ ap (λ (b : Bool). after_flip b (state_of t 0)) (flips 0 (omega arith))) in
    let a = x.live_charge in
    let b = x.within in
    area_from s s t u l o m 0 l l x (ap (λ (w : Table). w.top) f.same) (ap (λ (w : Table). w.quotas) f.same) (ap (λ (w : Table). w.kinds) f.same) (ap (λ (w : Table). w.regions) f.same)
    v g x.nothing (live_words 0 (omega arith)) (old_words 0 (omega arith) ∙ x.live_0) (live_words 1 (omega arith)) (old_words 1 (omega arith) ∙ x.live_1)
    (omega arith) (omega arith) (omega arith)

-- a reclaim
pub area_freed : (s s' : Store) (t u : Table) (l o m : ℕ) → IsTable u → ClearsOld s s' t t.regions → Frees t u → IsGround s' u → IsOneArea s t l o m → IsOneArea s' u l 0 0
area_freed s s' t u l o m v c f g x =
    let two = two_slots s t l o m x in
    let charge : slice_index u.charges 0 ≡ slice_index t.charges 0 = ap (λ (w : Slot). w.live_charge) (f.slots 0 (omega arith)) in
    let a = x.live_charge in
    let b = x.within in
    let nothing : NamesNothing s' = λ at to word got is.
    elim (old_or_not t (at / 4096) x.table) [
      | inl old ↦
          let low = slice_get_within s'.words at word got in
          let size = c.size in
          let null : slice_get s'.words at ≡ Some null_word = c.null at old (x.table.sound.within (stale old.0) (at / 4096) old.1) (omega arith) in
          let same : Some word ≡ Some null_word = sym got ∙ null in
          let eq : word ≡ null_word = cc in
          let no : address_of word.content ≡ None = ap (λ (w : Parts). address_of w.content) eq in
          absurd (cc)
      | inr not_old ↦ x.nothing at to word (sym (c.others at (λ l o. not_old o)) ∙ got) is
    ] in
    area_from s s' t u l o m l 0 0 x (ap (λ (w : Table). w.top) f.same) (ap (λ (w : Table). w.quotas) f.same) (ap (λ (w : Table). w.kinds) f.same) (ap (λ (w : Table). w.regions) f.same)
    v g nothing (freed_live_words t u 0 x.table f (omega arith) ∙ x.live_0) (freed_old_words t u 0 f (omega arith)) (freed_live_words t u 1 x.table f (omega arith) ∙ x.live_1) (freed_old_words t u 1 f (omega arith))
    (omega arith) (omega arith) (omega arith)

-- a new area
pub area_start : (s : Store) (t : Table) (regions : ℕ) (rules : List AreaRule) (rule : AreaRule) → IsFresh s regions 1 → t ≡ fresh regions 1 rules → rules ≡ rule ∷ [] → rule.kind ≡ Dynamic
    → regions ≤ 1024 → rule.quota ≤ 1048576 → (rule.quota + 1023) / 1024 + 4 ≤ regions → IsOneArea s t 0 0 0
area_start s t regions rules rule f is one kind few small room =
    subst (λ (w : Table). IsOneArea s w 0 0 0) (sym (is ∙ ap (fresh regions 1) one)) (made rule kind small room)
  where
    made : (rule : AreaRule) → rule.kind ≡ Dynamic → rule.quota ≤ 1048576 → (rule.quota + 1023) / 1024 + 4 ≤ regions → IsOneArea s (fresh regions 1 (rule ∷ [])) 0 0 0
    made rule kind small room = record {
      top = refl;
      one = refl;
      dynamic = kind;
      room = room_from regions 1 (rule ∷ []) (omega arith);
      table = fresh_is regions 1 (rule ∷ []) few (omega arith) (record { count = (omega arith, omega arith); quotas = All-cons (λ (one : AreaRule). one.quota ≤ 1048576) rule [] small (All-nil (λ (one : AreaRule). one.quota ≤ 1048576)) });
      ground = ground_fresh s regions 1 (rule ∷ []) f;
      nothing = λ at to word got is.
          (let low = slice_get_within s.words at word got in
          let size : length s.words ≡ 4096 * regions = ap length f.words ∙ length-replicate (4096 * regions) null_word in
          let here : slice_get s.words at ≡ Some null_word = ap (λ (ws : List Parts). slice_get ws at) f.words ∙ get-replicate (4096 * regions) at null_word (omega arith) in
          let same : Some word ≡ Some null_word = sym got ∙ here in
          let eq : word ≡ null_word = cc in
          let no : address_of word.content ≡ None = ap (λ (w : Parts). address_of w.content) eq in
          absurd (cc));
      live_0 = refl;
      old_0 = refl;
      live_1 = refl;
      old_1 = refl;
      live_charge = omega arith;
      old_charge = omega arith;
      within = omega arith;
    }

-- a place changes no quota
pub quota_placed : (region : Option ℕ) (t t' : Table) → IfNone region (t' ≡ t) → IfSome region (λ r. t' ≡ opened t (live (slot_of t 0 0)) r) → quota_of t' 0 ≡ quota_of t 0
quota_placed None t t' same table = ap (λ (w : Table). quota_of w 0) same
quota_placed (Some r) t t' same table = ap (λ (w : Table). quota_of w 0) table
