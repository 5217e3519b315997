-- A table without a region in use is sound.
use Rattle.std.proofs.Common.{◌≡◌, ℕ, zero, suc, ◌+◌, ◌*◌, ◌<◌, ◌≤◌, List, [], length, slice_index, replicate, refl, sym, ◌∙◌, ap, subst, arith, inl, inr, ◌-◌, ◌∷◌}
use Rattle.std.proofs.lemmas.List.{length-replicate, length-map, get_or_past}
use Rattle.std.specs.Prelude.{Contains, eqb, None}
use Rattle.std.specs.List.{sum_by}
use Rattle.std.proofs.lemmas.List.Sums.{sum_by-cons}
use Rattle.std.specs.List.{IsDistinct}
use Rattle.index_lists.specs.Chains.{Chains}
use Rattle.std.proofs.lemmas.Bool.{cases_lt}
use Rattle.std.proofs.lemmas.List.Elements.{All-map, All-get_or}
use Rattle.lisp_graph.specs.declared.world.AreaKind.{AreaKind}
use Rattle.lisp_graph.specs.declared.world.AreaRule.{AreaRule}
use Rattle.lisp_graph.specs.World.{AreAreas}
use Rattle.area_space.specs.declared.classes.Class.{Class}
use Rattle.area_space.proofs.FreeSets.{empties, holds_all}
use Rattle.area_space.proofs.PageSets.{zeros}
use Rattle.area_space.specs.Accounts.{debt}
use Rattle.area_space.specs.Fresh.{fresh, share_of, RoomRuleFor, quotas_in, kinds_in}
use Rattle.area_space.specs.Inside.{TableInvariant, HasAccounts, HasClasses}
use Rattle.area_space.specs.PageList.{PageList, Adds}
use Rattle.area_space.specs.Room.{share, RoomRule, regions_of_class, IsPacked}
use Rattle.area_space.specs.Sound.{IsTable}
use Rattle.area_space.specs.Sums.{both}
use Rattle.area_space.specs.Table.{Table, chain, levels_of, stale}
use Rattle.index_lists.proofs.Members.{distinct_from_apart}
use Rattle.lisp_graph.specs.Totals.{total}
use Rattle.lisp_graph.proofs.Totals.{total-zero, total-suc, total-plus, total-cong}

total-none : (f : ℕ → ℕ) (n : ℕ) → ((m : ℕ) → f m ≡ 0) → total f n ≡ 0
total-none f zero h = total-zero f
total-none f (suc n) h = let a = total-suc f n in let b = h n in let i = total-none f n h in omega arith

quotas_small : (rules : List AreaRule) → AreAreas rules → (area : ℕ) → slice_index (quotas_in rules) area ≤ 1048576
quotas_small rules ok area =
    elim (cases_lt area (length (quotas_in rules))) [
      | inl low ↦ All-get_or (λ quota. quota ≤ 1048576) (quotas_in rules) area 0 low (All-map (λ quota. quota ≤ 1048576) (λ (rule : AreaRule). rule.quota) rules ok.quotas)
      | inr high ↦ (let e = get_or_past (quotas_in rules) area 0 high in omega arith)
    ]

pub quotas_length : (rules : List AreaRule) → length (quotas_in rules) ≡ length rules
quotas_length rules = simp length-map

kinds_length : (rules : List AreaRule) → length (kinds_in rules) ≡ length rules
kinds_length rules = simp length-map

pub fresh_is : (regions top : ℕ) (rules : List AreaRule) → regions ≤ 1024 → top ≤ 6 → AreAreas rules → IsTable (fresh regions top rules)
fresh_is regions top rules few low ok =
    let quotas = quotas_in rules in
    let t : Table = fresh regions top rules in
    let n : ℕ = 2 * (length quotas * (top + 1)) in
    let chains : (c : ℕ) → chain t c ≡ [] = empties n in
    let nothing : (c r : ℕ) → Contains (chain t c) r → ⊥ = λ c r m. (let x = subst (λ (xs : List ℕ). Contains xs r) (chains c) m in absurd (omega (arith, x.1))) in
    let debts : (c : ℕ) → debt t c ≡ 0 = λ c. (let a = zeros n c in omega arith) in
    let lens : (c : ℕ) → regions_of_class t c ≡ 0 = λ c. ap length (chains c) in
    record {
      few_regions = few;
      few_levels = low;
      few_areas = (let e = quotas_length rules in let c = ok.count.1 in omega arith);
      small = quotas_small rules ok;
      kinds_size = kinds_length rules ∙ sym (quotas_length rules);
      chains_size = length-replicate n [];
      charges_size = length-replicate n 0;
      husks_size = length-replicate n 0;
      used_size = length-replicate regions 0;
      marks_size = length-replicate regions 0;
      sound = record {
        within = λ l r m. absurd (nothing l r m);
        one_list = λ l k r m q. absurd (nothing l r m);
        one_place = λ l. (let d = distinct_from_apart [] tt in subst (IsDistinct eqb) (sym (chains l)) d);
      };
      full = λ r. (let a = zeros regions r in omega arith);
      blank = λ r f. zeros regions r;
      unmarked = λ r f. zeros regions r;
      owing = λ c e. debts c;
      packed = λ c. subst (IsPacked t.used) (sym (chains c)) tt;
      fitting = λ a l. (let x = total-none (λ m. both (regions_of_class t) (a * levels_of t + m)) (levels_of t) (λ m. let p = lens (2 * (a * levels_of t + m)) in let q = lens (2 * (a * levels_of t + m) + 1) in omega arith) in omega arith);
      paid = λ a l. (let x = total-none (λ m. both (debt t) (a * levels_of t + m)) (levels_of t) (λ m. let p = debts (2 * (a * levels_of t + m)) in let q = debts (2 * (a * levels_of t + m) + 1) in omega arith) in omega arith);
      counted = omega arith;
      idle = λ _ slot. chains (stale slot);
    }

-- nothing is owed in it
fresh_accounts : (regions top : ℕ) (rules : List AreaRule) → HasAccounts (replicate (length (quotas_in rules)) 0) (fresh regions top rules)
fresh_accounts regions top rules =
    let t : Table = fresh regions top rules in
    let n : ℕ = 2 * (length (quotas_in rules) * (top + 1)) in
    let owes : (c : ℕ) → debt t c ≡ 0 = λ c. (let a = zeros n c in omega arith) in (
      length-replicate (length (quotas_in rules)) 0,
      λ a low.
          zeros (length (quotas_in rules)) a ∙ sym (total-none (λ m. both (debt t) (a * levels_of t + m)) (levels_of t) (λ m. let p = owes (2 * (a * levels_of t + m)) in let q = owes (2 * (a * levels_of t + m) + 1) in omega arith)),
    )

pub start_kept : (ch : Chains) (used marks charges husks debts quotas : List ℕ) (kinds : List AreaKind) (classes : List Class) (rules : List AreaRule) (scan set free : PageList) (regions top areas : ℕ)
    → ch ≡ record { nodes = regions; lists = replicate (2 * (areas * (top + 1))) [] } → used ≡ replicate regions 0 → marks ≡ replicate regions 0 → charges ≡ replicate (2 * (areas * (top + 1))) 0 → husks ≡ replicate (2 * (areas * (top + 1))) 0 → debts ≡ replicate areas 0
    → quotas ≡ quotas_in rules → kinds ≡ kinds_in rules → scan ≡ record { count = 16 * regions; pages = [] } → areas ≡ length (quotas_in rules)
    → set ≡ record { count = regions; pages = [] } → Adds set free 0 (regions - 1) → 0 < regions → IsTable (fresh regions top rules)
    → HasClasses classes (top + 1) (2 * (areas * (top + 1)))
    → TableInvariant (record { regions = ch.nodes; top = top; quotas = quotas; kinds = kinds; chains = ch.lists; charges = charges; husks = husks; used = used; marks = marks; aim = None; last = None; pages = scan.pages; placed = 0 }) regions areas scan.count free debts classes
start_kept ch used marks charges husks debts quotas kinds classes rules scan set free regions top areas c u m g h o q f s a is d some v b =
    rw (c, u, m, g, h, o, q, f, s, a) (record { table = v; regions_is = refl; areas_is = refl; pages_is = refl; free_is = holds_all set free regions (2 * (length (quotas_in rules) * (top + 1))) some is d; debts_is = fresh_accounts regions top rules; classes_is = subst (λ (n : ℕ). HasClasses classes (top + 1) (2 * (n * (top + 1)))) a b })

-- the shares of areas, by the list of their rules
shares : (top : ℕ) (rules : List AreaRule) → total (λ area. share_of top (slice_index (quotas_in rules) area)) (length (quotas_in rules)) ≡ sum_by (λ (rule : AreaRule). share_of top rule.quota) rules
shares top [] = total-zero (λ area. share_of top (slice_index [] area))
shares top (rule ∷ rules) =
    let qs = quotas_in rules in
    let f : ℕ → ℕ = λ area. share_of top (slice_index (rule.quota ∷ qs) area) in
    let i = shares top rules in
    let b = total-plus f 1 (length qs) in
    let c = total-suc f 0 in
    let d = total-zero f in
    let e : total (λ l. f (1 + l)) (length qs) ≡ total (λ area. share_of top (slice_index qs area)) (length qs) = total-cong (λ l. f (1 + l)) (λ area. share_of top (slice_index qs area)) (length qs) (λ m l. let q : 1 + m ≡ suc m = omega arith in ap f q) in
    let g : total f (length (rule.quota ∷ qs)) ≡ total f (1 + length qs) = ap (total f) (omega arith) in
    let first : f 0 ≡ share_of top rule.quota = refl in
    let split : total f (length (rule.quota ∷ qs)) ≡ share_of top rule.quota + sum_by (λ (r : AreaRule). share_of top r.quota) rules = omega arith in
    split ∙ sym (sum_by-cons (λ (r : AreaRule). share_of top r.quota) rule rules)

pub room_from : (regions top : ℕ) (rules : List AreaRule) → RoomRuleFor regions top rules → RoomRule (fresh regions top rules)
room_from regions top rules h =
    let e = shares top rules in
    let same : total (share (fresh regions top rules)) (length (quotas_in rules)) ≡ total (λ area. share_of top (slice_index (quotas_in rules) area)) (length (quotas_in rules)) = refl in
    omega arith
