-- What a sink gains through a buffer.
use Rattle.std.specs.Prelude.{◌≡◌, ℕ, List, ◌++◌, Result, OnOk, OnErr}
use Rattle.outer_ports.specs.Ports.{Gained, IsCut}

-- the pending bytes of a buffer, in their order, and how many bytes it has room for
pub record Buffered : Type 0 where
  pub pending : List ℕ
  pub room : ℕ

-- the sink gained all of these bytes except the last ones, which are pending
pub record Gathered (before now : List ℕ → Type 0) (pending bytes : List ℕ) : Type 0 where
  pub given : List ℕ
  pub all : bytes ≡ given ++ pending
  pub gained : Gained before now given

-- if the call succeeded, the whole text was gathered after what was pending; otherwise a prefix of it, and not all. (Eight parameters: a result with its two types, what the sink has and what its buffer has, each before and after, which are two arguments of a call, and the text.)
pub record Gathers {T E : Type 0} (before now : List ℕ → Type 0) (had pending text : List ℕ) (result : Result T E) : Type 0 where
  pub whole : OnOk result (Gathered before now pending (had ++ text))
  pub part : OnErr result ((front : List ℕ) × IsCut text front × Gathered before now pending (had ++ front))
