-- A compact run of cells that is moving: from its last word to its first.
use Rattle.std.specs.Prelude.{◌≡◌, ℕ, suc, ◌+◌, ◌<◌, ◌≤◌, true, Some}
use Rattle.lisp_graph.specs.store_word.Words.{Parts}
use Rattle.lisp_graph.specs.store_word.declared.word.CdrCode.TheVariants.{Next as CdrNext}
use Rattle.lisp_meaning.specs.machine.State.{Store}
use Rattle.lisp_meaning.specs.reading.Classes.{Class, region_of, is_old_at, is_live_at}
use Rattle.lisp_meaning.specs.invariants.Roles.{RoleMap, AsCons, Scratch, Cell, names_as}
use Rattle.lisp_meaning.specs.invariants.Fits.{Roled}

-- the first cells are at their old places, and are copied
pub record Copied (W : ℕ → Parts) (k : RoleMap) (from to left start : ℕ) (name : ℕ → ℕ) : Type 0 where
  pub cell : (i : ℕ) → i < left → k.role (from + i) ≡ Cell (name i) (start + i)
  pub copy : (i : ℕ) → i < left → k.role (to + i) ≡ Scratch
  pub content : (i : ℕ) → i < left → (W (to + i)).content ≡ (W (from + i)).content
  pub code : (i : ℕ) → i < left → (W (from + i)).cdr ≡ CdrNext
  pub code_there : (i : ℕ) → i < left → (W (to + i)).cdr ≡ CdrNext

-- the others are known by both places
pub record Known (k : RoleMap) (from to left count start : ℕ) (name : ℕ → ℕ) : Type 0 where
  pub here : (i : ℕ) → left ≤ i → i < count → names_as AsCons (k.role (from + i)) ≡ Some (name i)
  pub there : (i : ℕ) → left ≤ i → i < count → names_as AsCons (k.role (to + i)) ≡ Some (name i)
  pub place : (i : ℕ) → left ≤ i → i < count → (p j : ℕ) → k.role (to + i) ≡ Cell p j → j ≡ start + i

-- the first `left` of `count` cells are at their old places; the others have moved
pub record Moving (W : ℕ → Parts) (regions : ℕ → Class) (k : RoleMap) (s : Store) (from to left count start : ℕ) (name : ℕ → ℕ) : Type 0 where
  pub roled : Roled W regions k s
  pub copied : Copied W k from to left start name
  pub known : Known k from to left count start name
  pub old : (i : ℕ) → i < count → is_old_at regions (from + i) ≡ true
  pub live : (i : ℕ) → i < count → is_live_at regions (to + i) ≡ true
  pub near : (i : ℕ) → suc i < count → region_of (suc (to + i)) ≡ region_of (to + i)
