-- Which names are held after an allocation.
use Rattle.std.proofs.Common.{◌≡◌, ℕ, ◌<◌, ◌≤◌, ◌⊎◌, inl, inr, Bool, true, sym, ◌∙◌, ap, arith, Option, Some, nat_le, nat_lt, if◌then◌else◌}
use Rattle.std.specs.Prelude.{is_some}
use Rattle.std.proofs.lemmas.Bool.{cases_lt, and_from, and_left, and_right, lt-ltb, le-ltb, le-leb, lt-leb}
use Rattle.lisp_meaning.specs.machine.Changes.{holding}
use Rattle.lisp_meaning.proofs.closure.ClosedSets.{Extends}

module _ (held : ℕ → Option ℕ) (from to level : ℕ) where
  pub holding-new : (n : ℕ) → from ≤ n → n < to → holding held from to level n ≡ Some level
  holding-new n l m = ap (λ (b : Bool). if b then Some level else held n) (and_from (nat_le from n) (nat_lt n to) (le-leb from n l) (lt-ltb n to m))

  pub holding-old : (n : ℕ) → n < from → holding held from to level n ≡ held n
  holding-old n l = ap (λ (b : Bool). if b then Some level else held n) (and_left (nat_le from n) (nat_lt n to) (lt-leb from n l))

  pub holding-past : (n : ℕ) → to ≤ n → holding held from to level n ≡ held n
  holding-past n l = ap (λ (b : Bool). if b then Some level else held n) (and_right (nat_le from n) (nat_lt n to) (le-ltb n to l))

  module _ (below : (n : ℕ) → is_some (held n) ≡ true → n < from) where
    pub holding_few : (n : ℕ) → is_some (holding held from to level n) ≡ true → from ≤ to → n < to
    holding_few n e more = go (cases_lt n to)
      where
        go : (n < to) ⊎ (to ≤ n) → n < to
        go (inl l) = l
        go (inr l) = let x = below n (ap is_some (sym (holding-past n l)) ∙ e) in omega arith

    pub holding_extends : Extends (λ n. is_some (held n)) (λ n. is_some (holding held from to level n)) from
    holding_extends = record {
      up = λ n e. ap is_some (holding-old n (below n e)) ∙ e;
      down = λ n l e. ap is_some (sym (holding-old n l)) ∙ e;
    }
