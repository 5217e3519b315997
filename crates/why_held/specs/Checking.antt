-- When an answer is right, judged by the depths that it contains.
use Rattle.std.specs.Prelude.{◌≡◌, ℕ, suc, Bool, true, false, ◌==◌, List, length, Option, Some, None}
use Rattle.lisp_graph.specs.Graph.{Graph}
use Rattle.why_held.specs.declared.chain.Held.{Held}
use Rattle.why_held.specs.declared.chain.Held.TheVariants.{Path, Free}
use Rattle.why_held.specs.Chains.{IsChain, depth_at}

-- this many hops are a chain as long as the depth
abbrev pub has_length : Option ℕ → ℕ → Bool
has_length None hops = false
has_length (Some depth) hops = suc depth == hops

-- the answer is a chain as long as the object is deep, or `Free` for an object without a depth
abbrev pub IsAnswered : Graph → List (Option ℕ) → ℕ → Held → Type 0
IsAnswered graph depths object (Path hops) = (has_length (depth_at depths object) (length hops) ≡ true) × IsChain graph hops object
IsAnswered graph depths object Free = depth_at depths object ≡ None
