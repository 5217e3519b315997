-- What holds of the fields after a change, from what holds of the value.
use Rattle.std.proofs.Common.{◌≡◌, ◌≢◌, ℕ, ◌+◌, ◌*◌, ◌<◌, ◌≤◌, Some, None, List, [], ◌∷◌, ◌++◌, slice_index, slice_set, sym, ◌∙◌, ap, subst, arith, inl, inr}
use Rattle.std.specs.Prelude.{Option}
use Rattle.std.proofs.lemmas.Bool.{cases_lt}
use Rattle.std.proofs.lemmas.List.{get_or_past}
use Rattle.lisp_graph.specs.declared.command.Condemn.{Condemn}
use Rattle.index_lists.specs.Chains.{Chains, IsSound, with_list, list_at, last_of}
use Rattle.area_space.proofs.CondemnedClasses.{turned_is}
use Rattle.area_space.proofs.Accounts.{turned_accounts}
use Rattle.area_space.proofs.NewRegions.{opened_is, slot_below}
use Rattle.area_space.proofs.FreeSets.{holds_pushed, holds_moved}
use Rattle.area_space.specs.PageList.{PageList, Drops}
use Rattle.area_space.specs.Flips.{made_old}
use Rattle.area_space.specs.declared.classes.Class.{Class}
use Rattle.area_space.specs.Inside.{TableInvariant}
use Rattle.area_space.specs.Places.{opened}
use Rattle.area_space.specs.Room.{share, regions_of_area}
use Rattle.area_space.specs.Sound.{IsTable}
use Rattle.area_space.specs.Table.{Table, IsUnclassed, slot_of, levels_of, slots_of, areas_of, used_of, chain, lists_of, live, stale}

pub open_kept : {debts : List ℕ} {classes : List Class} (t u : Table) (new : Chains) (free less : PageList) (area level region slot regions areas count : ℕ) → t ≡ u → TableInvariant t regions areas count free debts classes → Drops free less region
    → area < areas_of u → level < levels_of u → IsUnclassed u region
    → ((r : ℕ) → last_of (chain u (live (slot_of u area level))) ≡ Some r → 2048 < used_of u r)
    → regions_of_area u area + 1 ≤ share u area
    → slot ≡ slot_of u area level
    → new ≡ with_list (lists_of t) (2 * slot) (list_at (lists_of t) (2 * slot) ++ region ∷ [])
    → IsSound new
    → TableInvariant (record t { regions = new.nodes; chains = new.lists }) regions areas count less debts classes
open_kept {debts} {classes} t u new set less area level region slot regions areas count e k d a l free full one is pushed sound =
    let family : Table → Type 0 = λ w. area < areas_of w → level < levels_of w → IsUnclassed w region
    → ((r : ℕ) → last_of (chain w (live (slot_of w area level))) ≡ Some r → 2048 < used_of w r)
    → regions_of_area w area + 1 ≤ share w area → slot ≡ slot_of w area level
    → TableInvariant (record t { regions = new.nodes; chains = new.lists }) regions areas count less debts classes in
    let core : family t = λ a l free full one is.
    let whole : new ≡ lists_of (opened t (live (slot_of t area level)) region) = pushed ∙ ap (λ (s : ℕ). with_list (lists_of t) (2 * s) (list_at (lists_of t) (2 * s) ++ region ∷ [])) is in
    let after = opened_is t area level region k.table a l free full one (subst IsSound whole sound) in
    let low = slot_below t area level a l in
    let size = k.table.chains_size in
    let kept : TableInvariant (opened t (live (slot_of t area level)) region) regions areas count less debts classes = record {
      table = after;
      regions_is = k.regions_is;
      areas_is = k.areas_is;
      pages_is = k.pages_is;
      free_is = holds_pushed set less (lists_of t) (live (slot_of t area level)) region (omega arith) k.free_is d;
      debts_is = k.debts_is;
      classes_is = k.classes_is;
    } in
    subst (λ (c : Chains). TableInvariant (record t { regions = c.nodes; chains = c.lists }) regions areas count less debts classes) (sym whole) kept in
    subst family e core a l free full one is

-- what a collection aims at, and what has no law of its own
pub aimed_is : (t : Table) (aim : Option Condemn) (last : Option ℕ) (pages : List ℕ) → IsTable t → (aim ≡ None → (slot : ℕ) → chain t (stale slot) ≡ []) → IsTable (record t { aim = aim; last = last; pages = pages })
aimed_is t aim last pages v idle = record {
  few_regions = v.few_regions;
  few_levels = v.few_levels;
  few_areas = v.few_areas;
  small = v.small;
  kinds_size = v.kinds_size;
  chains_size = v.chains_size;
  charges_size = v.charges_size;
  husks_size = v.husks_size;
  used_size = v.used_size;
  marks_size = v.marks_size;
  sound = v.sound;
  full = v.full;
  blank = v.blank;
  unmarked = v.unmarked;
  owing = v.owing;
  packed = v.packed;
  fitting = v.fitting;
  paid = v.paid;
  counted = v.counted;
  idle = idle;
}

pub noted_is : (t : Table) (aim : Option Condemn) (last : Option ℕ) (pages : List ℕ) → IsTable t → IsTable (record t { last = last; pages = pages })
noted_is t aim last pages v = aimed_is t t.aim last pages v v.idle

pub turn_kept : {debts : List ℕ} {classes : List Class} (t : Table) (new : Chains) (charges husks : List ℕ) (slot regions areas count : ℕ) (free : PageList) → TableInvariant t regions areas count free debts classes
    → slot < slots_of t → chain t (stale slot) ≡ [] → t.placed ≡ 0 → t.aim ≢ None
    → new ≡ with_list (with_list (lists_of t) (2 * slot) []) (2 * slot + 1) (list_at (lists_of t) (2 * slot + 1) ++ list_at (lists_of t) (2 * slot))
    → IsSound new
    → charges ≡ slice_set (slice_set t.charges (2 * slot + 1) (slice_index t.charges (2 * slot + 1) + slice_index t.charges (2 * slot))) (2 * slot) 0
    → husks ≡ slice_set (slice_set t.husks (2 * slot + 1) (slice_index t.husks (2 * slot + 1) + slice_index t.husks (2 * slot))) (2 * slot) 0
    → TableInvariant (record t { regions = new.nodes; chains = new.lists; charges = charges; husks = husks }) regions areas count free debts classes
turn_kept {debts} {classes} t new charges husks slot regions areas count free k low empty none going moved sound c h =
    let after = turned_is t slot k.table low empty none going (subst IsSound moved sound) in
    let size = k.table.chains_size in
    let kept : TableInvariant (made_old t slot) regions areas count free debts classes = record {
      table = after;
      regions_is = k.regions_is;
      areas_is = k.areas_is;
      pages_is = k.pages_is;
      free_is = holds_moved free (lists_of t) (stale slot) (live slot) (omega arith) (omega arith) (λ e. omega arith) k.free_is;
      debts_is = turned_accounts t slot debts k.table low empty k.debts_is;
      classes_is = k.classes_is;
    } in
    let one = subst (λ (w : Chains). TableInvariant (record t { regions = w.nodes; chains = w.lists; charges = (made_old t slot).charges; husks = (made_old t slot).husks }) regions areas count free debts classes) (sym moved) kept in
    let two = subst (λ (xs : List ℕ). TableInvariant (record t { regions = new.nodes; chains = new.lists; charges = xs; husks = (made_old t slot).husks }) regions areas count free debts classes) (sym c) one in
    subst (λ (xs : List ℕ). TableInvariant (record t { regions = new.nodes; chains = new.lists; charges = charges; husks = xs }) regions areas count free debts classes) (sym h) two

-- no class is old, if none of a slot is
pub none_old : (t : Table) → IsTable t → ((slot : ℕ) → slot < slots_of t → chain t (stale slot) ≡ []) → (slot : ℕ) → chain t (stale slot) ≡ []
none_old t v none slot =
    elim (cases_lt slot (slots_of t)) [
      | inl low ↦ none slot low
      | inr past ↦ get_or_past t.chains (stale slot) [] (let size = v.chains_size in omega arith)
    ]
