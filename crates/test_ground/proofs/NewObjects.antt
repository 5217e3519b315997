-- New objects on the ground of the machine.
use Rattle.std.proofs.Common.{ℕ, zero, suc, ◌≡◌, ◌+◌, ◌*◌, ◌<◌, ◌≤◌, ◌==◌, Bool, false, cond, List, [], ◌∷◌, length, get_or, Some, None, pos, refl, sym, ◌∙◌, ap, subst, inl, arith}
use Rattle.std.specs.Prelude.{ℤ, Contains, replicate, slice_get}
use Rattle.std.proofs.lemmas.Bool.{eq-eqb, ne_eqb}
use Rattle.std.proofs.lemmas.List.{length-replicate, get_or-replicate}
use Rattle.std.proofs.lemmas.Option.{slice_get-get_or}
use Rattle.store_word.specs.Words.{Parts, null_word}
use Rattle.store_word.specs.declared.word.CdrCode.TheVariants.{Next as CdrNext, Nil as CdrNil, Second}
use Rattle.store_word.specs.declared.word.Content.TheVariants.{List as ListAt, Struct as StructAt, Fixnum, Header}
use Rattle.lisp_graph.specs.declared.object.Value.{Value}
use Rattle.lisp_graph.specs.declared.object.Value.TheVariants as V
use Rattle.mem_port.specs.Store.{Store, StoresNothing}
use Rattle.area_space.specs.declared.classes.Origin.{Origin}
use Rattle.area_space.specs.declared.classes.Origin.TheVariants.{New, Moved, Reserve}
use Rattle.area_space.specs.Table.{Table, areas_of, levels_of, slot_of, live, stale, chain, quota_of, IsOld}
use Rattle.area_space.specs.Accounts.{account_of}
use Rattle.area_space.specs.Charges.{committed}
use Rattle.area_space.specs.Room.{words_of_area}
use Rattle.transporter.specs.lisp_meaning.State.{no_aim, rule_of}
use Rattle.transporter.specs.lisp_meaning.State as M
use Rattle.transporter.specs.lisp_meaning.Charges.{account}
use Rattle.transporter.specs.lisp_meaning.Roles.{AsCons, AsBlock, RoleMap, names_as, as_ref, value_of}
use Rattle.transporter.proofs.lisp_meaning.maps.Frames.{refined}
use Rattle.transporter.specs.lisp_ground.GroundInvariant.{GroundInvariant}
use Rattle.transporter.specs.lisp_ground.Making.{Commits}
use Rattle.transporter.proofs.lisp_ground.sums.Accounts.{areas_agree, quota_agrees, account_agrees}
use Rattle.transporter.proofs.lisp_ground.words.PlaceRoom.{new_room}
use Rattle.transporter.proofs.lisp_ground.words.Places.{place_kept_on}
use Rattle.transporter.proofs.lisp_ground.invariant.NewObjects.{pair_made_on, block_made_on, list_made_on}
use Rattle.transporter.proofs.lisp_ground.invariant.WordStores.{kept_on_same}
use Rattle.transporter.specs.LiveWordsUnchanged.{LiveWordsUnchanged}
use Rattle.transporter.specs.Writes.{Writes}
use Rattle.transporter.proofs.Places.{end_inside}
use Rattle.transporter.proofs.LiveObjects.{live-opened}
use Rattle.transporter.proofs.MovedParcels.{within-written}
use Rattle.test_ground.specs.Written.{Reserves, pair_of, cell_of, block_of}
use Rattle.test_ground.specs.Trials.{IsOpen, open_objects}

-- nothing is stored
pub open-same : {m m' : Store} {t : Table} {front middle : Parts} → IsOpen m t front middle → StoresNothing m m' → IsOpen m' t front middle
open-same {m} {m'} {t} x n = record {
  map = x.map;
  space = x.space;
  areas = x.areas;
  store = x.store;
  first = x.first;
  second = x.second;
  on = kept_on_same m m' t (open_objects x.map x.space x.areas x.store) x.on n;
  front_is = x.front_is;
  middle_is = x.middle_is;
  idle = x.idle;
  young = x.young;
  some = x.some;
}

-- Room

pub some-area : {m : Store} {t : Table} {front middle : Parts} → IsOpen m t front middle → 0 < areas_of t
some-area {m} {t} x = let a = areas_agree m t (open_objects x.map x.space x.areas x.store) x.on in let s = x.some in omega arith

pub fits-quota : {m : Store} {t : Table} {front middle : Parts} (charge : ℕ) (x : IsOpen m t front middle) → account_of t 0 + charge ≤ quota_of t 0 → account x.space.levels x.store no_aim 0 + charge ≤ (rule_of x.areas 0).quota
fits-quota {m} {t} charge x fits =
    let a = account_agrees m t (open_objects x.map x.space x.areas x.store) x.on 0 in
    let q = quota_agrees m t (open_objects x.map x.space x.areas x.store) x.on 0 x.some in
    omega arith

pub enough-room : {m : Store} {t : Table} {front middle : Parts} (words charge : ℕ) → IsOpen m t front middle → words ≤ charge → account_of t 0 + charge ≤ quota_of t 0 → words_of_area t 0 + words ≤ 2 * quota_of t 0
enough-room {m} {t} words charge x few fits = new_room m t (open_objects x.map x.space x.areas x.store) x.on 0 words charge x.some few (fits-quota charge x fits)

pub reserved-inside : {m m' : Store} {t t' : Table} {origin : Origin} (at words charge : ℕ) → Reserves m t m' t' at words charge origin → at + words ≤ length m'.words
reserved-inside {m} {m'} {t} {t'} at words charge r = end_inside r.room (slot_of r.room 0 0) at words (length m'.words) r.opens.sound r.end r.opens.ground.size

pub reserved-small : {m m' : Store} {t t' : Table} {origin : Origin} (at words charge : ℕ) → Reserves m t m' t' at words charge origin → at + words ≤ 4194304
reserved-small at words charge r =
    let inside = end_inside r.room (slot_of r.room 0 0) at words (4096 * r.room.regions) r.opens.sound r.end refl in
    let few = r.opens.sound.few_regions in
    omega arith

-- Words that were written

pub written : {old new : Store} {at count : ℕ} {word : ℕ → Parts} → Writes old new at count word → at + count ≤ length old.words → (i : ℕ) → i < count → slice_get new.words (at + i) ≡ Some (word i)
written {old} {new} {at} w inside i l = let size = w.size in slice_get-get_or new.words (at + i) null_word (omega arith) ∙ ap Some (w.there i l)

-- What was reserved

committed-aim : (t : Table) (slot at words charge : ℕ) (origin : Origin) → (committed t slot at words charge origin).aim ≡ t.aim
committed-aim t slot at words charge New = refl
committed-aim t slot at words charge (Moved from) = refl
committed-aim t slot at words charge Reserve = refl

committed-chains : (t : Table) (slot at words charge : ℕ) (origin : Origin) → (committed t slot at words charge origin).chains ≡ t.chains
committed-chains t slot at words charge New = refl
committed-chains t slot at words charge (Moved from) = refl
committed-chains t slot at words charge Reserve = refl

module _ (m m1 : Store) (t t' : Table) (front middle : Parts) (x : IsOpen m t front middle) (at words charge : ℕ) (origin : Origin) (r : Reserves m t m1 t' at words charge origin) where
  pub first_level : 0 < levels_of t
  first_level = omega arith

  pub reserved_on : GroundInvariant m1 r.room (open_objects x.map x.space x.areas x.store)
  reserved_on = place_kept_on m m1 t r.room r.region 0 0 (open_objects x.map x.space x.areas x.store) x.on (some-area x) first_level r.opens

  pub reserved_chains : t'.chains ≡ r.room.chains
  reserved_chains = ap (λ (u : Table). u.chains) r.commit ∙ committed-chains r.room (slot_of r.room 0 0) at words charge origin

  opened_same : LiveWordsUnchanged m t m1 r.room
  opened_same = live-opened r.region x.on.table (some-area x) first_level r.opens

  -- what was in the first class is in it
  pub still_first : (region : ℕ) → Contains (chain t (live (slot_of t 0 0))) region → Contains (chain r.room (live (slot_of r.room 0 0))) region
  still_first region there =
      let e : slot_of t 0 0 ≡ slot_of r.room 0 0 = omega arith in
      subst (λ (slot : ℕ). Contains (chain r.room (live slot)) region) e (opened_same.table.live_chains (slot_of t 0 0) region there)

  still_idle : t'.aim ≡ None
  still_idle = ap (λ (u : Table). u.aim) r.commit ∙ (committed-aim r.room (slot_of r.room 0 0) at words charge origin ∙ (opened_same.table.aim ∙ x.idle))

  still_young : (region : ℕ) → IsOld t' region → ⊥
  still_young region old =
      let before : Contains (chain r.room (stale old.0)) region = subst (λ (cs : List (List ℕ)). Contains (chain (record r.room { chains = cs }) (stale old.0)) region) reserved_chains old.1 in
      x.young region (old.0, subst (λ (rs : List ℕ). Contains rs region) (opened_same.table.old_chains old.0) before)

  -- with these registers, in a table with its chains
  pub opened-as : {m' : Store} {u : Table} (front' middle' : Parts) (store : M.Store) (map : RoleMap) (first second : Value) → u.aim ≡ t'.aim → u.chains ≡ t'.chains → GroundInvariant m' u (open_objects map x.space x.areas store)
      → value_of map.role front'.content ≡ Some first → value_of map.role middle'.content ≡ Some second → IsOpen m' u front' middle'
  opened-as front' middle' store map first second aim chains kept a b = record {
    map = map;
    space = x.space;
    areas = x.areas;
    store = store;
    first = first;
    second = second;
    on = kept;
    front_is = a;
    middle_is = b;
    idle = aim ∙ still_idle;
    young = λ region old. still_young region (old.0, subst (λ (cs : List (List ℕ)). Contains (chain (record t' { chains = cs }) (stale old.0)) region) chains old.1);
    some = x.some;
  }

-- What was made

module _ (m m1 m2 : Store) (t t' : Table) (front middle : Parts) (x : IsOpen m t front middle) (at words charge : ℕ) (r : Reserves m t m1 t' at words charge New) (word : ℕ → Parts) (w : Writes m1 m2 at words word) where
  on : GroundInvariant m1 r.room (open_objects x.map x.space x.areas x.store)
  on = reserved_on m m1 t t' front middle x at words charge New r

  commits : Commits m1 r.room m2 t' at words 0 0 charge
  commits = record { end = r.end; writes = within-written w; commit = r.commit; sound = r.sound }

  there : (i : ℕ) → i < words → slice_get m2.words (at + i) ≡ Some (word i)
  there = written w (reserved-inside at words charge r)

  opened-with : (front' middle' : Parts) (store : M.Store) (map : RoleMap) (first second : Value) → GroundInvariant m2 t' (open_objects map x.space x.areas store) → value_of map.role front'.content ≡ Some first → value_of map.role middle'.content ≡ Some second → IsOpen m2 t' front' middle'
  opened-with front' middle' store map first second kept a b = opened-as m m1 t t' front middle x at words charge New r front' middle' store map first second refl refl kept a b

-- A pair

pub open-pair : {m m1 m2 : Store} {t t' : Table} {front middle front' : Parts} {number : ℤ} (at : ℕ) (car : Parts) → car.content ≡ Fixnum number → IsOpen m t front middle → Reserves m t m1 t' at 2 2 New → Writes m1 m2 at 2 (pair_of Second car front) → account_of t 0 + 2 ≤ quota_of t 0
    → front'.content ≡ ListAt at → IsOpen m2 t' front' middle
open-pair {m} {m1} {m2} {t} {t'} {front} {middle} {front'} {number} at car car_is x r w fits is =
    let got = there m m1 m2 t t' front middle x at 2 2 r (pair_of Second car front) w in
    let after = pair_made_on m1 m2 r.room t' (open_objects x.map x.space x.areas x.store) at 0 0 2 (V.Fix number) x.first (on m m1 m2 t t' front middle x at 2 2 r (pair_of Second car front) w) x.some (omega arith) (fits-quota 2 x fits)
    (record {
      commits = commits m m1 m2 t t' front middle x at 2 2 r (pair_of Second car front) w;
      first = pair_of Second car front 0;
      first_at = ap (slice_get m2.words) (let e : at ≡ at + 0 = omega arith in e) ∙ got 0 (omega arith);
      first_code = refl;
      car_is = ap (value_of x.map.role) car_is;
      second = pair_of Second car front 1;
      second_at = ap (slice_get m2.words) (let e : suc at ≡ at + 1 = omega arith in e) ∙ got 1 (omega arith);
      second_code = inl (refl, refl);
      cdr_is = x.front_is;
    }) in
    opened-with m m1 m2 t t' front middle x at 2 2 r (pair_of Second car front) w front' middle _ after.map (V.Ref (length x.store.objects)) x.second after.kept
    (ap (value_of after.map.role) is ∙ ap as_ref (ap (λ (a : ℕ). names_as AsCons (after.map.role a)) (let e : at ≡ at + 0 = omega arith in e) ∙ after.there 0 (omega arith)))
    (refined x.map.role after.map.role after.refines middle.content x.second x.middle_is)

-- Cells

unfoldable numbers : ℕ → ℕ → List Value
numbers from zero = []
numbers from (suc n) = V.Fix (pos from) ∷ numbers (suc from) n

length-numbers : (from n : ℕ) → length (numbers from n) ≡ n
unfolding numbers
length-numbers from zero = refl
length-numbers from (suc n) = ap suc (length-numbers (suc from) n)

get_or-numbers : (from n i : ℕ) → i < n → get_or (numbers from n) i V.Nil ≡ V.Fix (pos (from + i))
unfolding numbers
get_or-numbers from zero i l = absurd (omega arith)
get_or-numbers from (suc n) zero l = ap (λ (k : ℕ). V.Fix (pos k)) (let e : from ≡ from + 0 = omega arith in e)
get_or-numbers from (suc n) (suc i) l = get_or-numbers (suc from) n i (omega arith) ∙ ap (λ (k : ℕ). V.Fix (pos k)) (let e : suc from + i ≡ from + suc i = omega arith in e)

eq-no : (i n : ℕ) → (i ≡ n → ⊥) → (i == n) ≡ false
eq-no i n ne = ne_eqb i n ne

pub open-cells : {m m1 m2 : Store} {t t' : Table} {front middle front' middle' : Parts} (at count index : ℕ) → IsOpen m t front middle → Reserves m t m1 t' at count (3 * count) New → Writes m1 m2 at count (cell_of count) → account_of t 0 + 3 * count ≤ quota_of t 0
    → count ≤ 1024 → index < count → front'.content ≡ ListAt at → middle'.content ≡ ListAt (at + index) → IsOpen m2 t' front' middle'
open-cells {m} {m1} {m2} {t} {t'} {front} {middle} {front'} {middle'} at count index x r w fits few low front_is middle_is =
    let n = length-numbers 0 count in
    let got = there m m1 m2 t t' front middle x at count (3 * count) r (cell_of count) w in
    let same : count ≡ length (numbers 0 count) = sym (length-numbers 0 count) in
    let P : ℕ → Type 0 = λ c. Commits m1 r.room m2 t' at c 0 0 (3 * c) in
    let after = list_made_on m1 m2 r.room t' (open_objects x.map x.space x.areas x.store) at 0 0 (numbers 0 count) (on m m1 m2 t t' front middle x at count (3 * count) r (cell_of count) w) x.some (omega arith)
    (subst (λ (c : ℕ). account x.space.levels x.store no_aim 0 + 3 * c ≤ (rule_of x.areas 0).quota) same (fits-quota (3 * count) x fits)) (omega arith)
    (record {
      commits = subst P same (commits m m1 m2 t t' front middle x at count (3 * count) r (cell_of count) w);
      cells_at = λ i l. (
        cell_of count i,
        got i (omega arith),
        sym (ap Some (get_or-numbers 0 count i (omega arith)) ∙ ap (λ (k : ℕ). Some (V.Fix (pos k))) (let e : 0 + i ≡ i = omega arith in e)),
        (λ more. ap (λ (b : Bool). cond b CdrNil CdrNext) (eq-no (suc i) count (λ e. omega arith))),
        (λ last. ap (λ (b : Bool). cond b CdrNil CdrNext) (eq-eqb (suc i) count (omega arith))),
      );
    }) in
    opened-with m m1 m2 t t' front middle x at count (3 * count) r (cell_of count) w front' middle' _ after.map (V.Ref (length x.store.objects + 0)) (V.Ref (length x.store.objects + index)) after.kept
    (ap (value_of after.map.role) front_is ∙ ap as_ref (ap (λ (a : ℕ). names_as AsCons (after.map.role a)) (let e : at ≡ at + 0 = omega arith in e) ∙ after.there 0 (omega arith)))
    (ap (value_of after.map.role) middle_is ∙ ap as_ref (after.there index (omega arith)))

-- A block

pub open-block : {m m1 m2 : Store} {t t' : Table} {front middle front' : Parts} (at fields : ℕ) → IsOpen m t front middle → Reserves m t m1 t' at (fields + 1) (fields + 1) New → Writes m1 m2 at (fields + 1) (block_of fields) → account_of t 0 + (fields + 1) ≤ quota_of t 0
    → front'.content ≡ StructAt at → IsOpen m2 t' front' middle
open-block {m} {m1} {m2} {t} {t'} {front} {middle} {front'} at fields x r w fits is =
    let n : length (replicate fields V.Nil) ≡ fields = length-replicate fields V.Nil in
    let same : fields + 1 ≡ suc (length (replicate fields V.Nil)) = omega arith in
    let got = there m m1 m2 t t' front middle x at (fields + 1) (fields + 1) r (block_of fields) w in
    let P : ℕ → Type 0 = λ c. Commits m1 r.room m2 t' at c 0 0 c in
    let after = block_made_on m1 m2 r.room t' (open_objects x.map x.space x.areas x.store) at 0 0 0 (replicate fields V.Nil) (on m m1 m2 t t' front middle x at (fields + 1) (fields + 1) r (block_of fields) w) x.some (omega arith)
    (subst (λ (c : ℕ). account x.space.levels x.store no_aim 0 + c ≤ (rule_of x.areas 0).quota) same (fits-quota (fields + 1) x fits))
    (record {
      commits = subst P same (commits m m1 m2 t t' front middle x at (fields + 1) (fields + 1) r (block_of fields) w);
      header_at = ap (slice_get m2.words) (let e : at ≡ at + 0 = omega arith in e) ∙ got 0 (omega arith) ∙ ap (λ (k : ℕ). Some (record { cdr = CdrNext; content = Header 0 k })) (sym n);
      fields_at = λ i l. (block_of fields (suc i), ap (slice_get m2.words) (let e : suc at + i ≡ at + suc i = omega arith in e) ∙ got (suc i) (omega arith), sym (ap Some (get_or-replicate fields i V.Nil V.Nil (omega arith))));
    }) in
    opened-with m m1 m2 t t' front middle x at (fields + 1) (fields + 1) r (block_of fields) w front' middle _ after.map (V.Ref (length x.store.objects)) x.second after.kept
    (ap (value_of after.map.role) is ∙ ap as_ref (ap (λ (a : ℕ). names_as AsBlock (after.map.role a)) (let e : at ≡ at + 0 = omega arith in e) ∙ after.there 0 (omega arith)))
    (refined x.map.role after.map.role after.refines middle.content x.second x.middle_is)
