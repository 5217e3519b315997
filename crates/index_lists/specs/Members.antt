-- Which numbers a list has, by recursion on the list.
use Rattle.std.specs.Prelude.{◌≢◌, ℕ, List, [], ◌∷◌}

-- q is an element
abbrev pub Has : ℕ → List ℕ → Type 0
Has q [] = ⊥
Has q (x ∷ xs) = x ≢ q → Has q xs

-- no element is q
abbrev pub Lacks : ℕ → List ℕ → Type 0
Lacks q [] = Unit {0}
Lacks q (x ∷ xs) = (x ≢ q) × Lacks q xs

-- no element occurs twice
abbrev pub IsApart : List ℕ → Type 0
IsApart [] = Unit {0}
IsApart (x ∷ xs) = Lacks x xs × IsApart xs
