-- A line that is judged where it is buffered.
use Rattle.std.proofs.Common.{◌≡◌, ℕ, ◌+◌, ◌<◌, List, length, take, get_or, refl, Ok, ap, ◌∙◌, arith}
use Rattle.std.proofs.Math.Seq.{get_or-append_right, take-append_seam}
use Rattle.std.proofs.lemmas.List.{length-append}
use Rattle.lisp_graph.specs.declared.command.Command.{Command}
use Rattle.lisp_graph.specs.declared.world.World.{World}
use Rattle.lisp_graph.specs.Commands.{IsRunnable}
use Rattle.world_text.specs.Limits.{AreNamed}
use Rattle.world_text.specs.Words.{is_well_formed}
use Rattle.world_text.specs.Fast.{IsLineBeforeFeed}
use Rattle.world_text.proofs.reading_laws.ReadLaws.{guard_ok}
use Rattle.trace_text.specs.declared.read.LineKind.TheVariants as kinds
use Rattle.trace_text.specs.Commands.{InLimits, Run, trace_line}
use Rattle.trace_text.specs.Fast.{LeadsCommand}
use Rattle.trace_text.proofs.NamedLevels.{line_levels}
use Rattle.trace_text.proofs.LineMeanings.{given_line}
use Rattle.line_input.specs.Reader.{Buffered, IsWholeLine}
use Rattle.input_verdict.proofs.Places.{runnable}
use Rattle.input_verdict.proofs.WellFormedLines.{formed_feed}

-- The command at the front of a text
module _ (world : World) (text : List ℕ) (command : Command) (rest : List ℕ) (lead : LeadsCommand world.space world.areas text command rest) (n : ℕ) (before : n + length rest ≡ length text) where
  length_is : n ≡ length lead.line
  length_is = omega (arith, before, ap length lead.is, length-append lead.line rest)

  front_is : take n text ≡ lead.line
  front_is = ap (λ k. take k text) length_is ∙ ap (λ bytes. take (length lead.line) bytes) lead.is ∙ take-append_seam lead.line rest

  pub command_read : trace_line world.space world.areas (take n text) ≡ Ok (Run command)
  command_read = ap (trace_line world.space world.areas) front_is ∙ lead.means

  -- a line feed after it ends the line
  pub command_line : 0 < length rest → get_or rest 0 0 ≡ 10 → IsLineBeforeFeed text n
  command_line some feed = record {
    within = omega (arith, before);
    feed =
        ap (λ bytes. get_or bytes n 0) lead.is ∙ get_or-append_right lead.line rest n 0 (omega (arith, length_is))
        ∙ ap (λ i. get_or rest i 0) (omega (arith, length_is)) ∙ feed;
    formed = ap is_well_formed front_is ∙ (guard_ok (is_well_formed lead.line) _ _ (Run command) lead.means).0;
  }

  pub command_runnable : InLimits world.space world.areas → AreNamed world.areas → IsRunnable world command
  command_runnable limits named =
      runnable world lead.line command lead.means
      (line_levels world.space world.areas lead.line (Ok kinds.Command) command (given_line world.space world.areas lead.line (Ok kinds.Command) command limits lead.means named))

-- A line before a line feed
pub whole_line : (held : Buffered) (size : ℕ) → IsLineBeforeFeed held.bytes size → IsWholeLine held (record { length = size; size = size + 1 })
whole_line held size line = record { below = line.within; first = formed_feed (take size held.bytes) line.formed; feed = line.feed; size = refl }
