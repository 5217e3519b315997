-- Commands on collections, and on pages.
use Rattle.std.proofs.Common.{◌≡◌, ◌≢◌, ℕ, ◌+◌, ◌*◌, ◌/◌, ◌%◌, ◌<◌, ◌&&◌, nat_lt, refl, sym, ◌∙◌, ap, inl, Bool, true, false, List, length, Option, Some, None, Result, Ok, Err, arith}
use Rattle.std.specs.Prelude.{if◌then◌else◌}
use Rattle.store_word.specs.Words.{Parts}
use Rattle.store_word.specs.declared.faults.SwapFault.{SwapFault}
use Rattle.lisp_graph.specs.declared.command.Command.TheVariants as C
use Rattle.lisp_graph.specs.declared.command.Condemn.{Condemn}
use Rattle.lisp_graph.specs.declared.reply.Reply.{Reply}
use Rattle.lisp_graph.specs.declared.reply.Reply.TheVariants as R
use Rattle.lisp_graph.specs.Totals.{if_true}
use Rattle.lisp_graph.proofs.Totals.{total-cong}
use Rattle.mem_port.specs.Store.{MarksHold, Store, StoresNothing}
use Rattle.area_space.specs.Table.{Table, mark_of}
use Rattle.word_graph.specs.lisp_meaning.State.{State}
use Rattle.word_graph.specs.lisp_meaning.Roles.{RoleMap}
use Rattle.scavenger.specs.Scan.{Scan}
use Rattle.heap_state.specs.RepresentsAll.{RepresentsAll}
use Rattle.heap_state.specs.Laws.{PerformsIsStep}
use Rattle.heap_state.specs.StepsTo.{StepsTo}
use Rattle.heap_state.proofs.CommandEffects.{leaves_same, performs_fault}
use Rattle.lisp_heap.specs.Words.{paged}
use Rattle.scavenger.specs.Starting.{Begins, base_pages, is_base, may_name, units_on, used_on}
use Rattle.lisp_heap.specs.HeapView.{lists_of, store_of}
use Rattle.lisp_heap.proofs.ListedMemory.{read_all, same_mark}
use Rattle.lisp_heap.proofs.NoAllocation.{pays_nothing}

-- The reply

-- a flip replied with pages only if no collection ran
pub was_idle : (aim : Option Condemn) (r : Reply) (pages : ℕ) → (aim ≢ None → r ≡ R.Busy) → r ≡ R.Flipped pages → aim ≡ None
was_idle None r pages busy is = refl
was_idle (Some what) r pages busy is = absurd (let e = busy (λ none. cc) in cc)

pub same_count : (aim : Option Condemn) (r : Reply) (pages count : ℕ) → aim ≡ None → (aim ≡ None → r ≡ R.Flipped pages) → r ≡ R.Flipped count → count ≡ pages
same_count aim r pages count none flips is = let e = flips none in cc

-- if one runs already, what holds then holds
pub busy_still : {A : Type 0} (aim : Option Condemn) (r : Reply) (pages : ℕ) → (aim ≡ None → r ≡ R.Flipped pages) → (aim ≢ None → A) → r ≡ R.Busy → A
busy_still None r pages flips still busy = absurd (let e = flips refl in cc)
busy_still (Some what) r pages flips still busy = still (λ none. cc)

pub flip_sure : (aim : Option Condemn) (r : Reply) (pages : ℕ) → (aim ≢ None → r ≡ R.Busy) → (aim ≡ None → r ≡ R.Flipped pages) → r ≢ R.Fault
flip_sure None r pages busy flips fault = let e = flips refl in cc
flip_sure (Some what) r pages busy flips fault = let e = busy (λ none. cc) in cc

module _ (aim : Option Condemn) (over : Bool) (r : Reply) (idle : aim ≡ None → r ≡ R.NotFlipped) (left : aim ≢ None → over ≡ false → r ≡ R.NotDone) (ends : aim ≢ None → over ≡ true → r ≡ R.Reclaimed) where
  pub reclaim_sure : r ≢ R.Fault
  reclaim_sure fault = by aim over idle left ends
    where
      by : (aim : Option Condemn) (over : Bool) → (aim ≡ None → r ≡ R.NotFlipped) → (aim ≢ None → over ≡ false → r ≡ R.NotDone) → (aim ≢ None → over ≡ true → r ≡ R.Reclaimed) → ⊥
      by None over idle left ends = let e = idle refl in cc
      by (Some what) true idle left ends = let e = ends (λ none. cc) refl in cc
      by (Some what) false idle left ends = let e = left (λ none. cc) refl in cc

  pub was_left : r ≡ R.NotDone → over ≡ false
  was_left is = by aim over refl idle ends
    where
      by : (aim : Option Condemn) (b : Bool) → over ≡ b → (aim ≡ None → r ≡ R.NotFlipped) → (aim ≢ None → over ≡ true → r ≡ R.Reclaimed) → over ≡ false
      by None b e idle ends = absurd (let a = idle refl in cc)
      by (Some what) true e idle ends = absurd (let a = ends (λ none. cc) e in cc)
      by (Some what) false e idle ends = e

  pub was_over : r ≡ R.Reclaimed → over ≡ true
  was_over is = by aim over refl idle left
    where
      by : (aim : Option Condemn) (b : Bool) → over ≡ b → (aim ≡ None → r ≡ R.NotFlipped) → (aim ≢ None → over ≡ false → r ≡ R.NotDone) → over ≡ true
      by None b e idle left = absurd (let a = idle refl in cc)
      by (Some what) true e idle left = e
      by (Some what) false e idle left = absurd (let a = left (λ none. cc) e in cc)

-- Pages

pub page_steps : PerformsIsStep → (m m' : Store) (t : Table) (scan : Scan) (registers : List Parts) (count : ℕ) (evicted : Result ℕ SwapFault) → StoresNothing m m' → MarksHold m' → (k : RoleMap) (s : State) → RepresentsAll m t scan registers k s
    → StepsTo m' t scan registers s (C.PageOut count) (paged evicted)
page_steps law m m' t scan registers count (Ok n) stays hold k s b =
    let x = read_all m m' t scan registers k s stays hold b in
    record { next = s; step = inl (refl, refl); map = k; represents = x.represents; scans = x.scans }
page_steps law m m' t scan registers count (Err fault) stays hold k s b =
    law m m' t t scan registers registers k s (C.PageOut count) R.Fault 0 b.represents b.scans b.reach (pays_nothing s (C.PageOut count) refl)
    (performs_fault m m' t t registers registers (C.PageOut count) refl (leaves_same m m' t registers stays))

-- Base pages of a memory in lists

pub base_listed : (m : Store) (t u : Table) (what : Condemn) (pages : ℕ) → pages ≡ base_pages m u what → length m.levels ≡ t.regions → u.regions ≡ t.regions → pages ≡ base_pages (store_of (lists_of m)) u what
base_listed m t u what pages is size regions =
    is
    ∙ total-cong (λ page. if_true (is_base m u what page) 1) (λ page. if_true (is_base (store_of (lists_of m)) u what page) 1) (16 * u.regions)
    (λ page low. let inside : page < 16 * length m.levels = omega arith in ap (λ (set : ℕ). if_true (nat_lt (256 * (page % 16)) (mark_of u (page / 16)) && may_name what set) 1) (sym (same_mark m page inside)))

-- and what a scan of it begins with

module _ (m : Store) (u : Table) (what : Condemn) (size : u.regions ≡ length m.levels) where
  base_same : (page : ℕ) → page < 16 * u.regions → is_base m u what page ≡ is_base (store_of (lists_of m)) u what page
  base_same page low =
      let inside : page < 16 * length m.levels = omega arith in
      ap (λ (set : ℕ). nat_lt (256 * (page % 16)) (mark_of u (page / 16)) && may_name what set) (sym (same_mark m page inside))

  pub begins_listed : (old new : Scan) → Begins m u what old new → Begins (store_of (lists_of m)) u what old new
  begins_listed old new x = record {
    same = x.same ∙ ap (λ (n : ℕ). (let s : Scan = record old { scanned = 0; pages = new.pages; over = false; begun = old.registers + n; done = 0 } in s))
        (total-cong (units_on m u what) (units_on (store_of (lists_of m)) u what) (16 * u.regions) (λ page low. ap (λ (b : Bool). if b then used_on u page else 0) (base_same page low)));
    pages = x.pages;
    spared = λ page low. x.spared page low ∙ ap (λ (b : Bool). if b then 0 else used_on u page) (base_same page low);
  }
