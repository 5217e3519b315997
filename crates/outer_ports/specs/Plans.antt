-- A source and a sink in memory, and which of their calls are planned to fail.
use Rattle.std.specs.Prelude.{◌≡◌, ℕ, ◌+◌, List, [], Bool, false, if◌then◌else◌, Contains}
use Rattle.outer_ports.specs.Ports.{next_count}

-- the numbers of the calls that fail, counted from 1, how many calls there were, how many failed, and whether the latest did
pub record Plan : Type 0 where
  pub fails : List ℕ
  pub calls : ℕ
  pub faults : ℕ
  pub failed : Bool

-- the plan before the first call
abbrev pub plan_of : List ℕ → Plan
plan_of fails = record { fails = fails; calls = 0; faults = 0; failed = false }

-- the next call is planned to fail
abbrev pub FailsNext : Plan → Type 0
FailsNext plan = Contains plan.fails (plan.calls + 1)

-- the plan after a call, which failed or didn't
abbrev pub after_call : Plan → Bool → Plan
after_call plan failed = record plan {
  calls = next_count plan.calls;
  faults = if failed then next_count plan.faults else plan.faults;
  failed = failed;
}

-- a source in memory: the bytes that remain, the most bytes that a call gives, the length of the latest piece, and the plan
pub record Served : Type 0 where
  pub left : List ℕ
  pub piece : ℕ
  pub last : ℕ
  pub plan : Plan

-- a sink in memory: the bytes that it contains, how many it has room for, the most bytes that a call takes, and the plan
pub record Kept : Type 0 where
  pub bytes : List ℕ
  pub room : ℕ
  pub piece : ℕ
  pub plan : Plan

-- a sink that contains no bytes, before the first call
abbrev pub kept_of : ℕ → ℕ → List ℕ → Kept
kept_of room piece fails = record { bytes = []; room = room; piece = piece; plan = plan_of fails }

-- the sink represents the bytes that it contains, and no others
abbrev pub Holds : Kept → List ℕ → Type 0
Holds kept bytes = kept.bytes ≡ bytes
