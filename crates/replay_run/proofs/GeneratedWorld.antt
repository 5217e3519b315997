-- The world of the generated input has no objects.
use Rattle.std.proofs.Common.{◌≡◌, ℕ, ◌+◌, List, [], ◌∷◌, true, false, Option, Some, refl, sym, ap, ◌∙◌, arith}
use Rattle.std.specs.Prelude.{replicate}
use Rattle.lisp_graph.specs.declared.object.Value.TheVariants.{Nil}
use Rattle.lisp_graph.specs.declared.world.World.{World}
use Rattle.world_text.specs.declared.reading.reader.Section.TheVariants.{Closed}
use Rattle.world_text.specs.Words.{is_well_formed, words_of}
use Rattle.world_text.specs.Next.{next}
use Rattle.world_text.specs.Header.{area_line, rule_in, space_in, space_line}
use Rattle.world_text.specs.Closing.{closing_line}
use Rattle.world_text.specs.Line.{area_lines, last_lines, line_in as world_line_in, object_lines}
use Rattle.world_text.specs.Reader.{opening_place}
use Rattle.trace_text.specs.Made.{header_line, made, made_from, state_of}
use Rattle.trace_text.specs.MadeWorld.{made_areas, made_space}
use Rattle.line_input.specs.Lines.{Line, lines_of}
use Rattle.input_verdict.specs.Verdict.{Read, Verdict, ended, judged, start, verdict, world_of}
use Rattle.input_verdict.proofs.VerdictInvariant.{judged_world}
use Rattle.replay_run.proofs.NoDumps.{lines_at}

-- Its first six lines

abbrev head : ℕ → Line
head i = record { text = header_line i; whole = true }

-- the input is these lines, followed by others
header : (number count : ℕ) → (rest : List Line) × (lines_of (made number count) ≡ head 0 ∷ head 1 ∷ head 2 ∷ head 3 ∷ head 4 ∷ head 5 ∷ rest)
header number count =
    let s1 = state_of count number 0 in
    let s2 = state_of count s1 1 in
    let s3 = state_of count s2 2 in
    let s4 = state_of count s3 3 in
    let s5 = state_of count s4 4 in
    let s6 = state_of count s5 5 in (
      lines_of (made_from count s6 6 (count + 2)),
      lines_at count number 0 (count + 8) (count + 7) (omega arith)
          ∙ ap (λ ls. head 0 ∷ ls) (lines_at count s1 1 (count + 7) (count + 6) (omega arith))
          ∙ ap (λ ls. head 0 ∷ head 1 ∷ ls) (lines_at count s2 2 (count + 6) (count + 5) (omega arith))
          ∙ ap (λ ls. head 0 ∷ head 1 ∷ head 2 ∷ ls) (lines_at count s3 3 (count + 5) (count + 4) (omega arith))
          ∙ ap (λ ls. head 0 ∷ head 1 ∷ head 2 ∷ head 3 ∷ ls) (lines_at count s4 4 (count + 4) (count + 3) (omega arith))
          ∙ ap (λ ls. head 0 ∷ head 1 ∷ head 2 ∷ head 3 ∷ head 4 ∷ ls) (lines_at count s5 5 (count + 3) (count + 2) (omega arith)),
    )

-- the world that they describe
abbrev made_world : World
made_world = record { space = made_space; areas = made_areas; objects = []; roots = replicate 16 Nil }

-- what was read of them
abbrev opened : Read
opened = record {
  place = record { judge = record { builder = record (opening_place false) { part = Closed; world = made_world }; ended = false }; lines = 6; bytes = 111 };
  commands = [];
  starts = [];
}

opens : (rest : List Line) → judged start (head 0 ∷ head 1 ∷ head 2 ∷ head 3 ∷ head 4 ∷ head 5 ∷ rest) ≡ judged opened rest
unfolding world_line_in space_line space_in next is_well_formed words_of area_lines area_line rule_in object_lines last_lines closing_line
opens rest = refl

some_world : (a b : World) → ◌≡◌ {A = Option World} (Some a) (Some b) → a ≡ b
some_world a b is = cc (is)

pub made_bare : (number count : ℕ) (world : World) → world_of (verdict (made number count)).read.place ≡ Some world → world.objects ≡ []
made_bare number count world is =
    let h = header number count in
    let judges : verdict (made number count) ≡ ended (judged opened h.0) = ap ended (ap (judged start) h.1 ∙ opens h.0) in
    let same = some_world world made_world (sym is ∙ ap (λ (v : Verdict). world_of v.read.place) judges ∙ judged_world made_world opened h.0 refl) in
    ap (λ (w : World). w.objects) same
