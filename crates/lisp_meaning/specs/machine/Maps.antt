-- Maps from numbers: names, addresses, areas.
use Rattle.std.specs.Prelude.{ℕ, zero, suc, Bool, false, if◌then◌else◌, ◌==◌, ◌||◌}

-- f with another value at one place
abbrev pub put_at : {A : Type 0} → (ℕ → A) → ℕ → A → (ℕ → A)
put_at f n a = λ m. if m == n then a else f m

-- some number below n passes
unfoldable pub some_below : (ℕ → Bool) → ℕ → Bool
some_below p zero = false
some_below p (suc n) = p n || some_below p n
