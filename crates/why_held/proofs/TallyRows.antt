-- Tallies of what was counted, and the rows that they give.
use Rattle.std.proofs.Common.{◌≡◌, ℕ, zero, suc, ◌+◌, ◌*◌, ◌^◌, ◌<◌, ◌≤◌, ◌⊎◌, inl, inr, Bool, true, false, cond, ◌==◌, ◌&&◌, nat_lt, if◌then◌else◌, refl, sym, ◌∙◌, ap, ap₂, subst, arith, List, [], ◌∷◌, ◌++◌, length, map, get_or, take, Option, Some, None, All, AllPairs, Any, BTreeMap}
use Rattle.std.specs.declared.cmp.Ordering.{Ordering}
use Rattle.std.specs.declared.cmp.Ordering.TheVariants.{Less, Equal, Greater}
use Rattle.std.specs.Ordering.{is_eq, nat_cmp, ordering_then}
use Rattle.std.specs.Option.{option_cmp, option_map}
use Rattle.std.specs.Cmp.{IsTotalOrder, nat_cmp_total, on_total, then_total, tied_then}
use Rattle.std.specs.Cmp.Lexicographic.{options_total}
use Rattle.std.specs.BTreeMap.{IsOrdered, Updates, get}
use Rattle.std.specs.Map.{keys_of}
use Rattle.std.proofs.lemmas.Bool.{cases_order, cases_eq, eqb-true, eq-eqb, ne_eqb, lt-ltb, le-ltb, and_parts}
use Rattle.std.proofs.lemmas.List.{length-map, map_more}
use Rattle.std.proofs.lemmas.List.Elements.{All-map, All-push}
use Rattle.std.proofs.lemmas.List.Sums.{count_by-le-length, sum_by-cons, sum_by-le, sum_by_push}
use Rattle.std.proofs.lemmas.Map.Entries.{btree_map_get_place, place_from_lookup}
use Rattle.std.proofs.lemmas.Map.Keys.{Less-from_sorted}
use Rattle.std.proofs.lemmas.Option.{get_or_from_slice_get, slice_get-get_or, slice_get-map, slice_get_within}
use Rattle.lisp_graph.specs.declared.object.Object.{Object}
use Rattle.why_held.specs.declared.rows.CensusRow.{CensusRow}
use Rattle.why_held.specs.declared.rows.Counted.{Counted}
use Rattle.why_held.specs.declared.tallies.KindCount.{KindCount}
use Rattle.why_held.specs.declared.tallies.KindTally.{KindTally}
use Rattle.why_held.specs.declared.tallies.Tallies.{Tallies}
use Rattle.why_held.specs.Census.{IsBefore, IsCensus, IsRow, charge_of, count_of, counted_object, is_code_before, is_kind, same_code}
use Rattle.why_held.specs.Tallies.{AreTallies, Counts, HasRoom, Kind, kind_cmp, latest_or, more, row_of, tally_in, tally_of}

-- The order of kinds

code_total : IsTotalOrder (option_cmp nat_cmp)
code_total = options_total nat_cmp_total

kind_total : IsTotalOrder kind_cmp
kind_total = then_total (on_total (λ (k : Kind). k.0) nat_cmp_total) (on_total (λ (k : Kind). k.1) code_total)

cmp_at : (a b : ℕ) (p q : Bool) → nat_lt a b ≡ p → (a == b) ≡ q → nat_cmp a b ≡ cond p Less (cond q Equal Greater)
cmp_at a b p q e f = ap₂ (λ (x y : Bool). cond x Less (cond y Equal Greater)) e f

cmp_less : (a b : ℕ) → a < b → nat_cmp a b ≡ Less
cmp_less a b l = cmp_at a b true false (lt-ltb a b l) (ne_eqb a b (λ e. absurd (omega arith)))

cmp_equal : (a b : ℕ) → a ≡ b → nat_cmp a b ≡ Equal
cmp_equal a b e = cmp_at a b false true (le-ltb a b (omega arith)) (eq-eqb a b e)

cmp_greater : (a b : ℕ) → b < a → nat_cmp a b ≡ Greater
cmp_greater a b l = cmp_at a b false false (le-ltb a b (omega arith)) (ne_eqb a b (λ e. absurd (omega arith)))

nat_same : (a b : ℕ) → is_eq (nat_cmp a b) ≡ (a == b)
nat_same a b = go (cases_order a b)
  where
    go : (a ≡ b) ⊎ ((a < b) ⊎ (b < a)) → is_eq (nat_cmp a b) ≡ (a == b)
    go (inl e) = ap is_eq (cmp_equal a b e) ∙ sym (eq-eqb a b e)
    go (inr (inl l)) = ap is_eq (cmp_less a b l) ∙ sym (ne_eqb a b (λ e. absurd (omega arith)))
    go (inr (inr l)) = ap is_eq (cmp_greater a b l) ∙ sym (ne_eqb a b (λ e. absurd (omega arith)))

code_same : (x y : Option ℕ) → is_eq (option_cmp nat_cmp x y) ≡ same_code x y
code_same None None = refl
code_same None (Some b) = refl
code_same (Some a) None = refl
code_same (Some a) (Some b) = nat_same a b

kind_same : (k : Kind) (b : ℕ) (y : Option ℕ) → is_eq (kind_cmp k (b, y)) ≡ ((k.0 == b) && same_code k.1 y)
kind_same k b y = sym (tied_then (nat_cmp k.0 b) (option_cmp nat_cmp k.1 y)) ∙ ap₂ (λ (p q : Bool). p && q) (nat_same k.0 b) (code_same k.1 y)

pub same_code_is : (x y : Option ℕ) → same_code x y ≡ true → x ≡ y
same_code_is None None e = refl
same_code_is None (Some b) e = absurd cc
same_code_is (Some a) None e = absurd cc
same_code_is (Some a) (Some b) e = ap Some (eqb-true a b e)

nat_less : (a b : ℕ) → nat_cmp a b ≡ Less → a < b
nat_less a b e = go (cases_order a b)
  where
    go : (a ≡ b) ⊎ ((a < b) ⊎ (b < a)) → a < b
    go (inl s) = (let x = cmp_equal a b s in absurd cc)
    go (inr (inl l)) = l
    go (inr (inr l)) = (let x = cmp_greater a b l in absurd cc)

code_less : (x y : Option ℕ) → option_cmp nat_cmp x y ≡ Less → is_code_before x y ≡ true
code_less None None e = absurd cc
code_less None (Some b) e = refl
code_less (Some a) None e = absurd cc
code_less (Some a) (Some b) e = lt-ltb a b (nat_less a b e)

nat_equal : (a b : ℕ) → nat_cmp a b ≡ Equal → a ≡ b
nat_equal a b e = eqb-true a b (sym (nat_same a b) ∙ ap is_eq e)

kind_less : (k q : Kind) → kind_cmp k q ≡ Less → (k.0 < q.0) ⊎ ((k.0 ≡ q.0) × (is_code_before k.1 q.1 ≡ true))
kind_less k q e = go (nat_cmp k.0 q.0) refl e
  where
    go : (o : Ordering) → nat_cmp k.0 q.0 ≡ o → ordering_then o (option_cmp nat_cmp k.1 q.1) ≡ Less → (k.0 < q.0) ⊎ ((k.0 ≡ q.0) × (is_code_before k.1 q.1 ≡ true))
    go Less is e = inl (nat_less k.0 q.0 is)
    go Equal is e = inr (nat_equal k.0 q.0 is, code_less k.1 q.1 e)
    go Greater is e = absurd cc

-- One more object

count_push : (counted : List Counted) (one : Counted) (area : ℕ) (code : Option ℕ) → count_of (counted ++ one ∷ []) area code ≡ count_of counted area code + cond (is_kind area code one) 1 0
count_push counted one area code = sum_by_push (λ (x : Counted). cond (is_kind area code x) 1 0) counted one

charge_push : (counted : List Counted) (one : Counted) (area : ℕ) (code : Option ℕ) → charge_of (counted ++ one ∷ []) area code ≡ charge_of counted area code + cond (is_kind area code one) one.charge 0
charge_push counted one area code = sum_by_push (λ (x : Counted). if is_kind area code x then x.charge else 0) counted one

abbrev one_if : Bool → ℕ
one_if b = cond b 1 0

pub charge_none : (counted : List Counted) (area : ℕ) (code : Option ℕ) → count_of counted area code ≡ 0 → charge_of counted area code ≡ 0
charge_none [] area code e = refl
charge_none (one ∷ counted) area code e = go (is_kind area code one) refl (charge_none counted area code)
  where
    counts : count_of (one ∷ counted) area code ≡ cond (is_kind area code one) 1 0 + count_of counted area code
    counts = sum_by-cons (λ (x : Counted). cond (is_kind area code x) 1 0) one counted

    charges : charge_of (one ∷ counted) area code ≡ cond (is_kind area code one) one.charge 0 + charge_of counted area code
    charges = sum_by-cons (λ (x : Counted). if is_kind area code x then x.charge else 0) one counted

    go : (b : Bool) → is_kind area code one ≡ b → (count_of counted area code ≡ 0 → charge_of counted area code ≡ 0) → charge_of (one ∷ counted) area code ≡ 0
    go true is rest = (let x = ap (λ (t : Bool). one_if t) is in let y = counts in absurd (omega arith))
    go false is rest = (
        let x = ap (λ (t : Bool). one_if t) is in
        let y = ap (λ (t : Bool). cond t one.charge 0) is in
        let u = counts in let v = charges in
        let z = rest (omega arith) in
        omega arith)

tally : ℕ → ℕ → Option KindCount
tally n charge = if n == 0 then None else Some (record { count = n; charge = charge })

tally_some : (n charge : ℕ) → 0 < n → tally n charge ≡ Some (record { count = n; charge = charge })
unfolding tally
tally_some n charge l = ap (λ (b : Bool). if b then None else Some (let t : KindCount = record { count = n; charge = charge } in t)) (ne_eqb n 0 (λ e. absurd (omega arith)))

tally_none : (n charge : ℕ) → n ≡ 0 → tally n charge ≡ None
unfolding tally
tally_none n charge e = ap (λ (b : Bool). if b then None else Some (let t : KindCount = record { count = n; charge = charge } in t)) (eq-eqb n 0 e)

more_tally : (n charge one n' charge' : ℕ) → n' ≡ n + 1 → charge' ≡ charge + one → (n ≡ 0 → charge ≡ 0) → Some (more (tally n charge) one) ≡ tally n' charge'
more_tally n charge one n' charge' e f none = go (cases_eq n 0)
  where
    is_new : tally n' charge' ≡ Some (record { count = n'; charge = charge' })
    is_new = tally_some n' charge' (omega arith)

    go : (n ≡ 0) ⊎ (n ≡ 0 → ⊥) → Some (more (tally n charge) one) ≡ tally n' charge'
    go (inl z) = (
        let a : 1 ≡ n' = omega arith in
        let c = none z in
        let b : one ≡ charge' = omega arith in
        ap (λ (t : Option KindCount). Some (more t one)) (tally_none n charge z)
        ∙ ap₂ (λ (x y : ℕ). Some (let t : KindCount = record { count = x; charge = y } in t)) a b ∙ sym is_new)
    go (inr z) = (
        let a : n + 1 ≡ n' = omega arith in
        let b : charge + one ≡ charge' = omega arith in
        ap (λ (t : Option KindCount). Some (more t one)) (tally_some n charge (omega arith))
        ∙ ap₂ (λ (x y : ℕ). Some (let t : KindCount = record { count = x; charge = y } in t)) a b ∙ sym is_new)

tally_is : (counted : List Counted) (area : ℕ) (code : Option ℕ) → tally_of counted area code ≡ tally (count_of counted area code) (charge_of counted area code)
unfolding tally
tally_is counted area code = refl

module _ (counted : List Counted) (m : Tallies) (are : AreTallies counted m) where
  pub tallies_room : (area : ℕ) (code : Option ℕ) → length counted < 2 ^ 32 → HasRoom (tally_in m area code)
  tallies_room area code few = subst HasRoom (sym (are.each area code ∙ tally_is counted area code)) (go (cases_eq (count_of counted area code) 0))
    where
      counts : count_of counted area code ≤ length counted
      counts = count_by-le-length (is_kind area code) counted

      at_most : (b : Bool) (charge : ℕ) → charge < 2 ^ 32 → cond b charge 0 ≤ 4294967295
      at_most true charge l = omega arith
      at_most false charge l = omega arith

      charges : charge_of counted area code ≤ length counted * 4294967295
      charges = sum_by-le (λ (x : Counted). if is_kind area code x then x.charge else 0) 4294967295 counted (λ k d l. at_most (is_kind area code (get_or counted k d)) (get_or counted k d).charge (are.small k d l))

      go : (count_of counted area code ≡ 0) ⊎ (count_of counted area code ≡ 0 → ⊥) → HasRoom (tally (count_of counted area code) (charge_of counted area code))
      go (inl z) = subst HasRoom (sym (tally_none (count_of counted area code) (charge_of counted area code) z)) tt
      go (inr z) = subst HasRoom (sym (tally_some (count_of counted area code) (charge_of counted area code) (omega arith))) (let x = counts in let y = charges in (omega arith, omega arith))

  module _ (one : Counted) (n : Tallies) (counts : Counts one m n) where
    each_more : (area : ℕ) (code : Option ℕ) → tally_in n area code ≡ tally_of (counted ++ one ∷ []) area code
    each_more area code = go (is_kind area code one) refl
      where
        go : (b : Bool) → is_kind area code one ≡ b → tally_in n area code ≡ tally_of (counted ++ one ∷ []) area code
        go true is =
            let parts = and_parts (one.area == area) (same_code one.code code) is in
            let a : one.area ≡ area = eqb-true one.area area parts.0 in
            let x : one.code ≡ code = same_code_is one.code code parts.1 in
            let here : tally_in m one.area one.code ≡ tally (count_of counted area code) (charge_of counted area code) =
            ap₂ (λ (p : ℕ) (q : Option ℕ). tally_in m p q) a x ∙ are.each area code ∙ tally_is counted area code in
            let number : count_of (counted ++ one ∷ []) area code ≡ count_of counted area code + 1 = count_push counted one area code ∙ ap (λ (b : Bool). count_of counted area code + cond b 1 0) is in
            let charges : charge_of (counted ++ one ∷ []) area code ≡ charge_of counted area code + one.charge = charge_push counted one area code ∙ ap (λ (b : Bool). charge_of counted area code + cond b one.charge 0) is in
            counts.updates area code ∙ ap (λ (b : Bool). cond b (Some (more (tally_in m one.area one.code) one.charge)) (tally_in m area code)) is
            ∙ ap (λ (t : Option KindCount). Some (more t one.charge)) here
            ∙ more_tally (count_of counted area code) (charge_of counted area code) one.charge (count_of (counted ++ one ∷ []) area code) (charge_of (counted ++ one ∷ []) area code) number charges (charge_none counted area code)
            ∙ sym (tally_is (counted ++ one ∷ []) area code)
        go false is =
            let number : count_of (counted ++ one ∷ []) area code ≡ count_of counted area code = count_push counted one area code ∙ ap (λ (b : Bool). count_of counted area code + cond b 1 0) is ∙ (omega arith) in
            let charges : charge_of (counted ++ one ∷ []) area code ≡ charge_of counted area code = charge_push counted one area code ∙ ap (λ (b : Bool). charge_of counted area code + cond b one.charge 0) is ∙ (omega arith) in
            counts.updates area code ∙ ap (λ (b : Bool). cond b (Some (more (tally_in m one.area one.code) one.charge)) (tally_in m area code)) is
            ∙ are.each area code ∙ tally_is counted area code ∙ sym (ap₂ tally number charges) ∙ sym (tally_is (counted ++ one ∷ []) area code)

    pub tallies_more : AreTallies (counted ++ one ∷ []) n
    tallies_more = record { each = each_more; small = All-push (λ (x : Counted). x.charge < 2 ^ 32) counted one are.small counts.small }

-- The latest tally and those in the map

module _ (latest : KindTally) (one : Counted) (same : (latest.area == one.area && same_code latest.code one.code) ≡ true) where
  same_parts : (latest.area ≡ one.area) × (latest.code ≡ one.code)
  same_parts =
      let parts = and_parts (latest.area == one.area) (same_code latest.code one.code) same in
      (eqb-true latest.area one.area parts.0, same_code_is latest.code one.code parts.1)

  -- the tally of another kind than the latest one is in the map
  pub other_stored : (area : ℕ) (code : Option ℕ) (stored : Option KindCount) → is_kind area code one ≡ false → latest_or (Some latest) area code stored ≡ stored
  other_stored area code stored other =
      let e : (latest.area == area && same_code latest.code code) ≡ false = ap₂ (λ (a : ℕ) (x : Option ℕ). a == area && same_code x code) same_parts.0 same_parts.1 ∙ other in
      ap (λ (b : Bool). if b then Some latest.tally else stored) e

  pub latest_is : (stored : Option KindCount) → latest_or (Some latest) one.area one.code stored ≡ Some latest.tally
  latest_is stored = ap (λ (b : Bool). if b then Some latest.tally else stored) same

-- the map has each tally after the latest one is put into it
pub stored_all : (latest : KindTally) (old : Tallies) (stored : BTreeMap Kind KindCount) → old.latest ≡ Some latest → Updates kind_cmp old.stored stored (latest.area, latest.code) (Some latest.tally)
    → (area : ℕ) (code : Option ℕ) → get kind_cmp stored (area, code) ≡ tally_in old area code
stored_all latest old stored is updates area code =
    updates.0 (area, code)
    ∙ ap (λ (b : Bool). cond b (Some latest.tally) (get kind_cmp old.stored (area, code))) (kind_same (latest.area, latest.code) area code)
    ∙ sym (ap (λ (l : Option KindTally). latest_or l area code (get kind_cmp old.stored (area, code))) is)

-- The rows

abbrev count_in : Option KindCount → ℕ
count_in None = 0
count_in (Some x) = x.count

abbrev charge_in : Option KindCount → ℕ
charge_in None = 0
charge_in (Some x) = x.charge

is_some_tally : (counted : List Counted) (area : ℕ) (code : Option ℕ) (t : KindCount) → tally_of counted area code ≡ Some t → (0 < t.count) × (t.count ≡ count_of counted area code) × (t.charge ≡ charge_of counted area code)
is_some_tally counted area code t e = go (cases_eq (count_of counted area code) 0)
  where
    go : (count_of counted area code ≡ 0) ⊎ (count_of counted area code ≡ 0 → ⊥) → (0 < t.count) × (t.count ≡ count_of counted area code) × (t.charge ≡ charge_of counted area code)
    go (inl z) = (let x = tally_none (count_of counted area code) (charge_of counted area code) z in let y = tally_is counted area code in absurd cc)
    go (inr z) =
        let x = sym e ∙ tally_is counted area code ∙ tally_some (count_of counted area code) (charge_of counted area code) (omega arith) in
        let a : t.count ≡ count_of counted area code = ap count_in x in
        let b : t.charge ≡ charge_of counted area code = ap charge_in x in
        (omega arith, a, b)

no_entry : Kind × KindCount
no_entry = ((0, None), record { count = 0; charge = 0 })

entry_at : (es : List (Kind × KindCount)) (i : ℕ) (d : CensusRow) → i < length es → get_or (map row_of es) i d ≡ row_of (get_or es i no_entry)
entry_at es i d l =
    get_or_from_slice_get (map row_of es) i (row_of (get_or es i no_entry)) d (slice_get-map row_of es i ∙ ap (option_map row_of) (slice_get-get_or es i no_entry l))

key_at : (es : List (Kind × KindCount)) (i : ℕ) → i < length es → get_or (keys_of es) i no_entry.0 ≡ (get_or es i no_entry).0
key_at [] i l = absurd (omega arith)
key_at (e ∷ es) zero l = refl
key_at (e ∷ es) (suc i) l = key_at es i (omega arith)

length_keys : (es : List (Kind × KindCount)) → length (keys_of es) ≡ length es
length_keys [] = refl
length_keys (e ∷ es) = ap suc (length_keys es)

module _ (counted : List Counted) (m : BTreeMap Kind KindCount) (are : (area : ℕ) (code : Option ℕ) → get kind_cmp m (area, code) ≡ tally_of counted area code) (ordered : IsOrdered kind_cmp m) where
  rows_each : All (IsRow counted) (map row_of m.entries)
  rows_each = All-map (IsRow counted) row_of m.entries (λ i d l. (
      let e = get_or m.entries i d in
      let t = sym (are e.0.0 e.0.1) ∙ btree_map_get_place kind_total m i e.0 e.1 ordered (slice_get-get_or m.entries i d l) in
      let x = is_some_tally counted e.0.0 e.0.1 e.1 t in
      record { some = x.0; count = x.1; charge = x.2 }))

  rows_whole : (area : ℕ) (code : Option ℕ) → 0 < count_of counted area code → Any (λ row. (row.area ≡ area) × (row.code ≡ code)) (map row_of m.entries)
  rows_whole area code some =
      let t = are area code ∙ tally_is counted area code ∙ tally_some (count_of counted area code) (charge_of counted area code) some in
      let p = place_from_lookup (λ (k : Kind). is_eq (kind_cmp (area, code) k)) m.entries _ t in
      let same = and_parts (area == p.1.0) (same_code code p.1.1) (sym (kind_same (area, code) p.1.0 p.1.1) ∙ p.3) in
      let a : p.1.0 ≡ area = sym (eqb-true area p.1.0 same.0) in
      let x : p.1.1 ≡ code = sym (same_code_is code p.1.1 same.1) in
      let l = slice_get_within m.entries p.0 _ p.2 in
      let n = length-map m.entries row_of in
      (p.0, row_of (p.1, _), omega arith, get_or_from_slice_get (map row_of m.entries) p.0 _ _ (slice_get-map row_of m.entries p.0 ∙ ap (option_map row_of) p.2), (a, x))

  rows_ordered : AllPairs IsBefore (map row_of m.entries)
  rows_ordered i j d less within =
      let n = length-map m.entries row_of in
      let k = length_keys m.entries in
      let li : i < length m.entries = omega arith in
      let lj : j < length m.entries = omega arith in
      let b = Less-from_sorted kind_cmp (keys_of m.entries) i j no_entry.0 ordered less (omega arith) in
      let c : kind_cmp (get_or m.entries i no_entry).0 (get_or m.entries j no_entry).0 ≡ Less = sym (ap₂ kind_cmp (key_at m.entries i li) (key_at m.entries j lj)) ∙ b in
      let P : CensusRow → Type 0 = λ row. IsBefore row (get_or (map row_of m.entries) j d) in
      let Q : CensusRow → Type 0 = λ row. IsBefore (row_of (get_or m.entries i no_entry)) row in
      subst P (sym (entry_at m.entries i d li)) (subst Q (sym (entry_at m.entries j d lj)) (kind_less (get_or m.entries i no_entry).0 (get_or m.entries j no_entry).0 c))

  pub tallies_census : (rows : List CensusRow) → rows ≡ map row_of m.entries → IsCensus counted rows
  tallies_census rows e = subst (IsCensus counted) (sym e) (record { each = rows_each; whole = rows_whole; ordered = rows_ordered })

pub counted_more : (objects : List Object) (k more : ℕ) (d : Object) (one : Counted) → k < length objects → more ≡ k + 1 → one ≡ counted_object (get_or objects k d)
    → map counted_object (take more objects) ≡ map counted_object (take k objects) ++ one ∷ []
counted_more objects k more d one l e is =
    ap (λ (n : ℕ). map counted_object (take n objects)) e ∙ map_more counted_object objects k d l ∙ ap (λ (x : Counted). map counted_object (take k objects) ++ x ∷ []) (sym is)
