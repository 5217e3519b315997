use Rattle.std.proofs.Common.{◌≡◌, ◌≢◌, ◌<◌, ◌≤◌, ◌+◌, ◌-◌, ◌*◌, ℕ, [], slice_index, slice_set, length-set, subst, sym, ap, ◌∙◌, arith}
use Rattle.std.proofs.lemmas.List.{get_or_default}
use Rattle.area_space.specs.declared.classes.Origin.TheVariants.{Moved}
use Rattle.area_space.specs.declared.classes.Class.{Class}
use Rattle.area_space.specs.Inside.{table_of}
use Rattle.area_space.proofs.Accounts.{moved_accounts}
use Rattle.area_space.proofs.ChargeChanges.{moved_is, left_below, discharged_is, debt_small}
use Rattle.area_space.proofs.table.RegionTable.move_charge.Goals as goal
use Rattle.area_space.specs.Charges.{AllowsOrigin, discharged}
use Rattle.area_space.specs.Table.{Table, slots_of, chain, live, stale, slot_of}

-- the charge leaves a class below the number of slots, as the table is seen in its fields
leaving : (t u : Table) (slot amount : ℕ) (from : Class) (class : ℕ) → t ≡ u → slot < slots_of u → AllowsOrigin u slot amount (Moved from) → class ≡ slot_of u from.area from.level
    → (slot < slots_of t) × AllowsOrigin t slot amount (Moved from) × (class ≡ slot_of t from.area from.level) × (slot_of t from.area from.level < slots_of t)
leaving t u slot amount from class is inside allowed value =
    let low = subst (λ (v : Table). slot < slots_of v) (sym is) inside in
    let may = subst (λ (v : Table). AllowsOrigin v slot amount (Moved from)) (sym is) allowed in (
      low,
      may,
      value ∙ ap (λ (v : Table). slot_of v from.area from.level) (sym is),
      left_below t slot amount from low may,
    )

pub invariant_of-self : goal.invariant_of-self
invariant_of-self c =
    let k = c.self.invariant in
    let t : Table = table_of c.self.inside in
    let left = leaving t _ c.args.slot c.args.amount c.args.from _ c.self.view_is c.requires.in_range c.requires.allowed c.slot.ensures.value in
    let low = left.3 in
    let size = k.table.charges_size in
    let e : c.index_mut.result.now ≡ slice_index c.self.inside.charges.items (2 * c.slot.result + 1) = c.index_mut.ensures.value ∙ get_or_default c.self.inside.charges.items (2 * c.slot.result + 1) c.index_mut.result.now 0 (omega arith) in
    let taken = slice_set c.self.inside.charges.items (2 * c.slot.result + 1) (c.index_mut.result.now - c.args.amount) in
    let same = length-set c.self.inside.charges.items (2 * c.slot.result + 1) (c.index_mut.result.now - c.args.amount) in
    let f : c.index_mut-2.result.now ≡ slice_index taken (2 * c.args.slot) = c.index_mut-2.ensures.value ∙ get_or_default taken (2 * c.args.slot) c.index_mut-2.result.now 0 (omega arith) in
    rw (f, e, left.2) (record {
      table = moved_is t c.args.slot c.args.amount c.args.from k.table left.0 (subst (λ (u : Table). chain u (live c.args.slot) ≢ []) (sym c.self.view_is) c.requires.placed) left.1;
      regions_is = k.regions_is;
      areas_is = k.areas_is;
      pages_is = k.pages_is;
      free_is = k.free_is;
      debts_is = moved_accounts t c.args.slot c.args.amount c.args.from c.self.inside.debts.items k.table left.0 left.1 k.debts_is;
      classes_is = k.classes_is;
    })

pub overflow_sub-index_mut : goal.overflow_sub-index_mut
overflow_sub-index_mut c =
    let k = c.self.invariant in
    let t : Table = table_of c.self.inside in
    let left = leaving t _ c.args.slot c.args.amount c.args.from _ c.self.view_is c.requires.in_range c.requires.allowed c.slot.ensures.value in
    let low = left.3 in
    let size = k.table.charges_size in
    let e : c.index_mut.result.now ≡ slice_index c.self.inside.charges.items (2 * c.slot.result + 1) = c.index_mut.ensures.value ∙ get_or_default c.self.inside.charges.items (2 * c.slot.result + 1) c.index_mut.result.now 0 (omega arith) in
    let enough = subst (λ (s : ℕ). c.args.amount ≤ slice_index t.charges (stale s)) (sym left.2) left.1.3 in
    omega arith

pub overflow_add-index_mut : goal.overflow_add-index_mut
overflow_add-index_mut c =
    let k = c.self.invariant in
    let t : Table = table_of c.self.inside in
    let left = leaving t _ c.args.slot c.args.amount c.args.from _ c.self.view_is c.requires.in_range c.requires.allowed c.slot.ensures.value in
    let low = left.3 in
    let size = k.table.charges_size in
    let e : c.index_mut.result.now ≡ slice_index c.self.inside.charges.items (2 * c.slot.result + 1) = c.index_mut.ensures.value ∙ get_or_default c.self.inside.charges.items (2 * c.slot.result + 1) c.index_mut.result.now 0 (omega arith) in
    let taken = slice_set c.self.inside.charges.items (2 * c.slot.result + 1) (c.index_mut.result.now - c.args.amount) in
    let same = length-set c.self.inside.charges.items (2 * c.slot.result + 1) (c.index_mut.result.now - c.args.amount) in
    let f : c.index_mut-2.result.now ≡ slice_index taken (2 * c.args.slot) = c.index_mut-2.ensures.value ∙ get_or_default taken (2 * c.args.slot) c.index_mut-2.result.now 0 (omega arith) in
    let d : Table = discharged t (stale c.slot.result) c.args.amount in
    let after = discharged_is t (stale c.slot.result) c.args.amount k.table (omega arith) in
    let small = debt_small d (live c.args.slot) after (omega arith) in
    let most = debt_small t (stale c.slot.result) k.table (omega arith) in
    let enough = subst (λ (s : ℕ). c.args.amount ≤ slice_index t.charges (stale s)) (sym left.2) left.1.3 in
    let g : slice_index taken (2 * c.args.slot) ≡ slice_index d.charges (live c.args.slot) = ap (λ (n : ℕ). slice_index (slice_set c.self.inside.charges.items (2 * c.slot.result + 1) (n - c.args.amount)) (2 * c.args.slot)) e in
    omega arith

pub index_mut-requires : goal.index_mut-requires
index_mut-requires c =
    let k = c.self.invariant in
    let t : Table = table_of c.self.inside in
    let left = leaving t _ c.args.slot c.args.amount c.args.from _ c.self.view_is c.requires.in_range c.requires.allowed c.slot.ensures.value in
    let low = left.3 in
    let size = k.table.charges_size in
    let whole = c.self.inside.charges.ok.0 in
    omega arith
