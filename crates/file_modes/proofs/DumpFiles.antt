-- The lines of a dump are judged as those of a world file, one after another.
use Rattle.std.proofs.Common.{◌≡◌, ℕ, suc, ◌+◌, ◌^◌, ◌≤◌, List, [], ◌∷◌, ◌++◌, length, length-append, true, false, Result, Ok, Err, codes, refl, sym, ap, ◌∙◌, append_assoc, arith}
use Rattle.std.specs.List.{All}
use Rattle.lisp_graph.specs.store_word.declared.space.Space.{Space}
use Rattle.lisp_graph.specs.KeyedGraph.{KeyedGraph}
use Rattle.lisp_graph.specs.declared.world.AreaRule.{AreaRule}
use Rattle.lisp_graph.specs.declared.world.World.{World}
use Rattle.world_text.specs.declared.fault.WorldStep.{WorldStep}
use Rattle.world_text.specs.declared.fault.WorldStep.TheVariants.{WorldEnds}
use Rattle.world_text.specs.declared.reading.reader.Section.TheVariants.{Closed}
use Rattle.world_text.specs.declared.reading.reader.WorldReader.{WorldReader}
use Rattle.world_text.specs.Dump.{IsDump}
use Rattle.world_text.specs.Line.{line_at}
use Rattle.world_text.specs.Next.{◌>>=◌}
use Rattle.world_text.specs.Reader.{Said as WorldSaid, is_closed}
use Rattle.line_input.specs.declared.judging.input.InputReader.{InputReader}
use Rattle.line_input.specs.declared.world_file.WorldFile.{WorldFile}
use Rattle.line_input.specs.declared.statuses.status.RunError.{RunError}
use Rattle.line_input.specs.Lines.{lines_of}
use Rattle.line_input.specs.Reader.{no_feed}
use Rattle.line_input.specs.Verdict.{Said, decided, ended, judged, judged_as}
use Rattle.line_input.specs.Verdict as lines
use Rattle.line_input.specs.WorldFile.{file_rules, next, start, verdict}
use Rattle.line_input.proofs.Cuts.{lines_feed}
use Rattle.line_input.proofs.JudgedLines.{judged_here}
use Rattle.line_input.proofs.WorldLines.{accepts_open, printable_has_no_feed}
use Rattle.file_modes.specs.dump_laws.Back.{IsLine, KeepsLimits, read_from, read_world, with_feeds}
use Rattle.file_modes.proofs.dump_laws.DumpLines.{dump_back}

-- One line

-- the place after a line with this number of bytes, after which the builder is this one
abbrev after : InputReader WorldFile → ℕ → WorldReader → InputReader WorldFile
after place size builder = record { judge = record { builder = builder }; lines = place.lines + 1; bytes = place.bytes + size }

one_line : (place : InputReader WorldFile) (line rest : List ℕ) (said : WorldStep × WorldReader) → line_at place.judge.builder line ≡ Ok said → no_feed line ≡ true → length line ≤ 32768 → place.bytes + (length line + 1) ≤ 2 ^ 40
    → judged file_rules place (lines_of ((line ++ 10 ∷ []) ++ rest)) ≡ judged file_rules (after place (length line + 1) said.1) (lines_of rest)
one_line place line rest (step, builder) is feed short small =
    let going : is_closed place.judge.builder.part ≡ false = accepts_open place.judge.builder line (step, builder) is in
    let cut : lines_of ((line ++ 10 ∷ []) ++ rest) ≡ record { text = line; whole = true } ∷ lines_of rest = ap lines_of (append_assoc line (10 ∷ []) rest) ∙ lines_feed line rest feed in
    let here : judged_as file_rules place line (length line + 1) ≡ Ok (after place (length line + 1) builder) =
    judged_here file_rules place (record { builder = builder }) line (length line + 1) going (omega arith) short (ap (next (place.lines + 1) place.judge) is) in
    ap (judged file_rules place) cut ∙ ap (λ (s : Said WorldFile). decided s (λ more. judged file_rules more (lines_of rest))) here

-- Several lines

-- these lines were judged, and the builder after them is this one
record Behind (place : InputReader WorldFile) (text rest : List ℕ) (last : WorldReader) : Type 0 where
  pub next : InputReader WorldFile
  pub judges : judged file_rules place (lines_of (text ++ rest)) ≡ judged file_rules next (lines_of rest)
  pub builder : next.judge.builder ≡ last
  pub bytes : next.bytes ≡ place.bytes + length text

line_more : (line : List ℕ) (others : List (List ℕ)) (place : InputReader WorldFile) (last : WorldReader) (rest : List ℕ)
    → ((more : InputReader WorldFile) → read_from more.judge.builder others ≡ Ok last → more.bytes + length (with_feeds others) ≤ 2 ^ 40 → Behind more (with_feeds others) rest last)
    → read_from place.judge.builder (line ∷ others) ≡ Ok last → IsLine line → place.bytes + length (with_feeds (line ∷ others)) ≤ 2 ^ 40 → Behind place (with_feeds (line ∷ others)) rest last
unfolding read_from
line_more line others place last rest behind is good small = go (line_at place.judge.builder line) refl is
  where
    go : (r : WorldSaid) → line_at place.judge.builder line ≡ r → (r >>= (λ said. read_from said.1 others)) ≡ Ok last → Behind place (with_feeds (line ∷ others)) rest last
    go (Err fault) e f = absurd (cc (f))
    go (Ok (step, builder)) e f =
        let size = length-append line (10 ∷ []) in
        let sum = length-append (line ++ 10 ∷ []) (with_feeds others) in
        let more : InputReader WorldFile = after place (length line + 1) builder in
        let one = one_line place line (with_feeds others ++ rest) (step, builder) e (printable_has_no_feed line good.graphic) good.short (omega arith) in
        let b = behind more f (omega arith) in
        record {
          next = b.next;
          judges = ap (λ (t : List ℕ). judged file_rules place (lines_of t)) (append_assoc (line ++ 10 ∷ []) (with_feeds others) rest) ∙ one ∙ b.judges;
          builder = b.builder;
          bytes = (let n = b.bytes in omega arith);
        }

file_lines : (all : List (List ℕ)) (place : InputReader WorldFile) (last : WorldReader) (rest : List ℕ) → read_from place.judge.builder all ≡ Ok last → All IsLine all → place.bytes + length (with_feeds all) ≤ 2 ^ 40
    → Behind place (with_feeds all) rest last
unfolding read_from
file_lines [] place last rest is good small = record { next = place; judges = refl; builder = cc (is); bytes = omega arith }
file_lines (line ∷ others) place last rest is good small =
    line_more line others place last rest (λ more f few. file_lines others more last rest f (λ index default within. good (suc index) default (omega arith)) few) is (good 0 line (omega arith)) small

-- A dump

feeds_append : (xs ys : List (List ℕ)) → with_feeds (xs ++ ys) ≡ with_feeds xs ++ with_feeds ys
feeds_append [] ys = refl
feeds_append (line ∷ xs) ys = ap (λ (t : List ℕ). (line ++ 10 ∷ []) ++ t) (feeds_append xs ys) ∙ sym (append_assoc (line ++ 10 ∷ []) (with_feeds xs) (with_feeds ys))

pub dump_file : (graph : KeyedGraph) (space : Space) (areas : List AreaRule) (text : List ℕ) (dump : IsDump graph space areas text) → KeepsLimits graph dump.keys space areas → verdict text ≡ Ok (read_world graph dump.keys space areas)
dump_file graph space areas text dump keeps =
    let back = dump_back graph space areas text dump keeps in
    let said = back.file in
    let closing : List (List ℕ) = codes "end-world" ∷ [] in
    let cut : text ≡ with_feeds back.lines ++ with_feeds closing = back.is ∙ feeds_append back.lines closing in
    let long : length text ≡ length (with_feeds back.lines) + length (with_feeds closing) = ap length cut ∙ length-append (with_feeds back.lines) (with_feeds closing) in
    let short = back.short in
    let first = file_lines back.lines (lines.start start) said.place (with_feeds closing) said.read back.cut (omega arith) in
    let bytes = first.bytes in
    let closes : line_at first.next.judge.builder (codes "end-world") ≡ Ok (WorldEnds, record said.place { part = Closed }) = ap (λ (b : WorldReader). line_at b (codes "end-world")) first.builder ∙ said.closes in
    let final : InputReader WorldFile = after first.next (length (codes "end-world") + 1) (record said.place { part = Closed }) in
    let last : judged file_rules first.next (lines_of (with_feeds closing)) ≡ Ok final = one_line first.next (codes "end-world") [] (WorldEnds, record said.place { part = Closed }) closes refl (omega arith) (omega arith) in
    let all : judged file_rules (lines.start start) (lines_of text) ≡ Ok final = ap (λ (t : List ℕ). judged file_rules (lines.start start) (lines_of t)) cut ∙ first.judges ∙ last in
    ap (ended file_rules) all ∙ ap (λ (w : World). let r : Result World RunError = Ok w in r) said.is
