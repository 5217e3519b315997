-- What a run that shows its machine writes, for each status.
use Rattle.std.specs.Prelude.{◌≡◌, ◌⊎◌, ◌++◌, IfSome, unwrap_or, ◌^◌, ◌-◌, ℕ, List, [], ◌∷◌, if◌then◌else◌, bytes_eq, codes, drop, eqb, map, string_bytes, String, Option, is_some, Some, None}
use Rattle.std.specs.List.{starts_with}
use Rattle.outer_ports.specs.Ports.{Gained, Gave, IsCut}
use Rattle.outer_ports.specs.Pages.{Device}
use Rattle.paged_machine.specs.lisp_heap.HeapView.{HeapView}
use Rattle.paged_machine.specs.Holding.{HasReading}
use Rattle.line_input.specs.declared.statuses.status.Status.{Status}
use Rattle.line_input.specs.declared.statuses.status.Status.TheVariants.{Done, WriteFailed}
use Rattle.world_text.specs.Numbers.{number_in}
use Rattle.replay_run.specs.Outcome.{Wrote}
use Rattle.inside_text.specs.InsideText.{inside_text}

-- the number of the page call that has to fail: 0, so that none does, if there is no argument, or the one given by `--fail`; none if the arguments are refused
abbrev pub fail_in : List (List ℕ) → Option ℕ
fail_in [] = Some 0
fail_in (word ∷ []) = if starts_with eqb word (codes "--fail=") then number_in 0 (2 ^ 32 - 1) (drop 7 word) else None
fail_in (word ∷ value ∷ []) = if bytes_eq word (codes "--fail") then number_in 0 (2 ^ 32 - 1) value else None
fail_in _ = None

abbrev pub fail_of : {A : Type 0} → List (String A) → Option ℕ
fail_of words = fail_in (map string_bytes words)

-- the swap device that the arguments request: no page call was made yet, and the one with their number is to fail; if they are refused, none is
abbrev pub device_of : {A : Type 0} → List (String A) → Device
device_of words = record { stored = []; fail = unwrap_or (fail_of words) 0; calls = 0; writes = 0; reads = 0 }

-- the text of a machine: that of its heap, once a world was opened
abbrev pub machine_text : Option HeapView → List ℕ
machine_text None = []
machine_text (Some heap) = inside_text heap

-- what is written after the replies: the machine if the run reached its end, otherwise nothing
abbrev pub shown : Status → Option HeapView → List ℕ
shown Done heap = machine_text heap
shown status heap = []

-- The replies and then the text were written; or the sink failed in the text.
abbrev pub Told : (List ℕ → Type 0) → (List ℕ → Type 0) → List ℕ → List ℕ → Status → Status → Type 0
Told held held' replies text ended status =
    ((status ≡ ended) × Gained held held' (replies ++ text))
    ⊎ ((status ≡ WriteFailed) × ((front : List ℕ) × IsCut text front × Gained held held' (replies ++ front)))

-- A run that shows its machine, and ended with this status. The input, what the source gave and the replies are as in a run that ended with the status `ended` and had this heap at its end: the heap has the meaning of its last state. If `ended` is `Done`, the heap is written after the replies; otherwise it isn't. The status is `ended`, or the sink failed in the heap's text. (Nine parameters: what the source and the sink have, each before and after, the length of the latest piece, the heap, the errors of source and swap device, and the status.)
pub record Shows (left left' : Option (List ℕ)) (last : ℕ) (held held' : List ℕ → Type 0) (heap : Option HeapView) (source_rose : Type 0) (rose : ℕ) (status : Status) : Type 0 where
  pub i : List ℕ
  pub b : List ℕ
  pub replies : List ℕ
  pub ended : Status
  pub input : IfSome left (λ bytes. bytes ≡ i)
  pub gave : Gave left left' b
  pub rest : i ≡ b ++ unwrap_or left' []
  pub wrote : Wrote ended (record { input = i; taken = b; last = last; written = replies; stands = HasReading heap; loaded = is_some heap; source_rose = source_rose; swap_rose = rose })
  pub told : Told held held' replies (shown ended heap) ended status
