-- The lines of a dump are judged, one after another, and then the lines of the trace.
use Rattle.std.proofs.Common.{◌≡◌, ℕ, suc, ◌+◌, ◌^◌, ◌≤◌, List, [], ◌∷◌, ◌++◌, length, length-append, true, false, Some, Result, Ok, Err, codes, refl, sym, ap, ◌∙◌, append_assoc, arith}
use Rattle.std.specs.List.{All}
use Rattle.lisp_graph.specs.store_word.declared.space.Space.{Space}
use Rattle.lisp_graph.specs.KeyedGraph.{KeyedGraph}
use Rattle.lisp_graph.specs.declared.world.AreaRule.{AreaRule}
use Rattle.lisp_graph.specs.declared.world.World.{World}
use Rattle.lisp_graph.specs.declared.command.Command.{Command}
use Rattle.lisp_graph.specs.declared.command.Command.TheVariants.{Dump}
use Rattle.world_text.specs.declared.fault.WorldStep.TheVariants.{TraceBegins}
use Rattle.world_text.specs.declared.reading.reader.Section.TheVariants.{Closed}
use Rattle.world_text.specs.declared.reading.reader.WorldReader.{WorldReader}
use Rattle.world_text.specs.Dump.{IsDump}
use Rattle.world_text.specs.Line.{line_at}
use Rattle.world_text.specs.Reader.{Said as WorldSaid, is_closed}
use Rattle.world_text.specs.Next.{◌>>=◌}
use Rattle.trace_text.specs.Commands.{Run, End, trace_line}
use Rattle.dump_laws.specs.Back.{IsLine, KeepsLimits, read_from, read_world, with_feeds}
use Rattle.dump_laws.proofs.DumpLines.{dump_back}
use Rattle.dump_laws.proofs.UniqueDump.{dump_is_function}
use Rattle.line_input.specs.Lines.{lines_of}
use Rattle.line_input.specs.Verdict.{further}
use Rattle.line_input.proofs.WorldLines.{accepts_open, printable_has_no_feed}
use Rattle.input_verdict.proofs.LineVerdicts.{goes}
use Rattle.input_verdict.specs.Input.{JudgedInput}
use Rattle.input_verdict.specs.Events.{Nothing, Opens, Does}
use Rattle.input_verdict.specs.Verdict.{Read, Stopped, Whole, ended, in_trace, judged, line_in, noted, start, trace_next, world_of}
use Rattle.input_verdict.specs.Asking.{IsWholeInput, asking}

-- Lines of the world

open_before : (lines : List (List ℕ)) (place last : WorldReader) → read_from place lines ≡ Ok last → is_closed last.part ≡ false → is_closed place.part ≡ false
unfolding read_from
open_before [] place last is going =
    let same : place ≡ last = cc (is) in
    ap (λ (p : WorldReader). is_closed p.part) same ∙ going
open_before (line ∷ lines) place last is going = go (line_at place line) refl is
  where
    go : (r : WorldSaid) → line_at place line ≡ r → (r >>= (λ said. read_from said.1 lines)) ≡ Ok last → is_closed place.part ≡ false
    go (Ok said) e f = accepts_open place line said e
    go (Err fault) e f = absurd (cc (f))

-- these lines were judged, and the world goes on
record Behind (read : Read) (text rest : List ℕ) (last : WorldReader) : Type 0 where
  pub next : Read
  pub judges : judged read (lines_of (text ++ rest)) ≡ judged next (lines_of rest)
  pub builder : next.place.judge.builder ≡ last
  pub unended : next.place.judge.ended ≡ false
  pub bytes : next.place.bytes ≡ read.place.bytes + length text
  pub commands : next.commands ≡ read.commands

-- one line, and those after it
line_more : (line : List ℕ) (lines : List (List ℕ)) (read : Read) (last : WorldReader) (rest : List ℕ)
    → ((more : Read) → read_from more.place.judge.builder lines ≡ Ok last → more.place.judge.ended ≡ false → more.place.bytes + length (with_feeds lines) ≤ 2 ^ 40 → Behind more (with_feeds lines) rest last)
    → read_from read.place.judge.builder (line ∷ lines) ≡ Ok last → is_closed last.part ≡ false → IsLine line → read.place.judge.ended ≡ false → read.place.bytes + length (with_feeds (line ∷ lines)) ≤ 2 ^ 40 → Behind read (with_feeds (line ∷ lines)) rest last
unfolding read_from
line_more line lines read last rest behind is going good unended small = go (line_at read.place.judge.builder line) refl is
  where
    go : (r : WorldSaid) → line_at read.place.judge.builder line ≡ r → (r >>= (λ said. read_from said.1 lines)) ≡ Ok last → Behind read (with_feeds (line ∷ lines)) rest last
    go (Err fault) e f = absurd (cc (f))
    go (Ok (step, builder)) e f =
        let size = length-append line (10 ∷ []) in
        let sum = length-append (line ++ 10 ∷ []) (with_feeds lines) in
        let before : in_trace read.place ≡ false = accepts_open read.place.judge.builder line (step, builder) e in
        let after : is_closed builder.part ≡ false = open_before lines builder last f going in
        let place : JudgedInput = record read.place { judge = record read.place.judge { builder = builder } } in
        let says : line_in read.place line ≡ Ok (record { event = Nothing; place = place }) = rw (before, e, after) refl in
        let more : Read = record read { place = further place (length line + 1) } in
        let one = goes read line (with_feeds lines ++ rest) Nothing place says unended (printable_has_no_feed line good.graphic) good.short (omega arith) in
        let others = behind more f unended (omega arith) in
        record {
          next = others.next;
          judges = ap (λ (t : List ℕ). judged read (lines_of t)) (append_assoc (line ++ 10 ∷ []) (with_feeds lines) rest) ∙ one ∙ others.judges;
          builder = others.builder;
          unended = others.unended;
          bytes = (let b = others.bytes in omega arith);
          commands = others.commands;
        }

world_lines : (lines : List (List ℕ)) (read : Read) (last : WorldReader) (rest : List ℕ) → read_from read.place.judge.builder lines ≡ Ok last → is_closed last.part ≡ false → All IsLine lines → read.place.judge.ended ≡ false
    → read.place.bytes + length (with_feeds lines) ≤ 2 ^ 40 → Behind read (with_feeds lines) rest last
unfolding read_from
world_lines [] read last rest is going good unended small = record {
  next = read;
  judges = refl;
  builder = cc (is);
  unended = unended;
  bytes = omega arith;
  commands = refl;
}
world_lines (line ∷ lines) read last rest is going good unended small =
    line_more line lines read last rest (λ more f going_on few. world_lines lines more last rest f going (λ index default within. good (suc index) default (omega arith)) going_on few) is going (good 0 line (omega arith)) unended small

-- The line that closes the world, and the trace

abbrev trace_lines : List (List ℕ)
trace_lines = codes "trace" ∷ codes "dump" ∷ codes "end" ∷ []

record Asked (read : Read) (world : World) : Type 0 where
  pub last : Read
  pub judges : judged read (lines_of (with_feeds trace_lines)) ≡ Ok last
  pub whole : last.place.judge.ended ≡ true
  pub world_is : world_of last.place ≡ Some world
  pub commands : last.commands ≡ read.commands ++ Dump ∷ []

trace_judged : (read : Read) (builder : WorldReader) → read.place.judge.builder ≡ builder → read.place.judge.ended ≡ false → read.place.bytes + 16 ≤ 2 ^ 40 → is_closed builder.part ≡ false
    → line_at builder (codes "trace") ≡ Ok (TraceBegins, record builder { part = Closed })
    → trace_line builder.world.space builder.world.areas (codes "dump") ≡ Ok (Run Dump) → trace_line builder.world.space builder.world.areas (codes "end") ≡ Ok End → Asked read builder.world
trace_judged read builder at unended small going closes dumps ends =
    let closed : WorldReader = record builder { part = Closed } in
    let first : in_trace read.place ≡ false = ap (λ (b : WorldReader). is_closed b.part) at ∙ going in
    let says : line_at read.place.judge.builder (codes "trace") ≡ Ok (TraceBegins, closed) = ap (λ (b : WorldReader). line_at b (codes "trace")) at ∙ closes in
    let p1 : JudgedInput = record read.place { judge = record read.place.judge { builder = closed } } in
    let r1 : Read = record read { place = further p1 6 } in
    let r2 : Read = noted r1 (Does Dump) (further r1.place 5) in
    let p3 : JudgedInput = record r2.place { judge = record r2.place.judge { ended = true } } in
    let r3 : Read = record r2 { place = further p3 4 } in
    let one : line_in read.place (codes "trace") ≡ Ok (record { event = Opens; place = p1 }) = rw (first, says) refl in
    let two : line_in r1.place (codes "dump") ≡ Ok (record { event = Does Dump; place = r1.place }) = ap (trace_next r1.place) dumps in
    let three : line_in r2.place (codes "end") ≡ Ok (record { event = Nothing; place = p3 }) = ap (trace_next r2.place) ends in
    record {
      last = r3;
      judges = goes read (codes "trace") (with_feeds (codes "dump" ∷ codes "end" ∷ [])) Opens p1 one unended refl (omega arith) (omega arith)
          ∙ goes r1 (codes "dump") (with_feeds (codes "end" ∷ [])) (Does Dump) r1.place two unended refl (omega arith) (omega arith)
          ∙ goes r2 (codes "end") [] Nothing p3 three unended refl (omega arith) (omega arith);
      whole = refl;
      world_is = refl;
      commands = refl;
    }

-- A dump

feeds_append : (xs ys : List (List ℕ)) → with_feeds (xs ++ ys) ≡ with_feeds xs ++ with_feeds ys
feeds_append [] ys = refl
feeds_append (line ∷ xs) ys = ap (λ (t : List ℕ). (line ++ 10 ∷ []) ++ t) (feeds_append xs ys) ∙ sym (append_assoc (line ++ 10 ∷ []) (with_feeds xs) (with_feeds ys))

pub dump_whole : (graph : KeyedGraph) (space : Space) (areas : List AreaRule) (text : List ℕ) (dump : IsDump graph space areas text) → KeepsLimits graph dump.keys space areas → IsWholeInput graph dump.keys space areas text
dump_whole graph space areas text dump keeps =
    let back = dump_back graph space areas text dump keeps in
    let world : World = read_world graph dump.keys space areas in
    let said = back.input in
    let going = accepts_open said.place (codes "trace") (TraceBegins, record said.place { part = Closed }) said.closes in
    let long = ap length (back.is ∙ feeds_append back.lines (codes "end-world" ∷ [])) ∙ length-append (with_feeds back.lines) (with_feeds (codes "end-world" ∷ [])) in
    let short = back.short in
    let lines = world_lines back.lines start said.place (with_feeds trace_lines) said.read going back.cut refl (omega arith) in
    let bytes = lines.bytes in
    let dumps : trace_line said.place.world.space said.place.world.areas (codes "dump") ≡ Ok (Run Dump) = ap (λ (w : World). trace_line w.space w.areas (codes "dump")) said.is ∙ back.dumps in
    let ends : trace_line said.place.world.space said.place.world.areas (codes "end") ≡ Ok End = ap (λ (w : World). trace_line w.space w.areas (codes "end")) said.is ∙ back.ends in
    let asked = trace_judged lines.next said.place lines.builder lines.unended (omega arith) going said.closes dumps ends in
    let judges : judged start (lines_of (asking back.lines)) ≡ Ok asked.last = ap (λ (t : List ℕ). judged start (lines_of t)) (feeds_append back.lines trace_lines) ∙ lines.judges ∙ asked.judges in
    record {
      lines = back.lines;
      is = back.is;
      whole = ap (λ (r : Result Read Stopped). (ended r).ending) judges ∙ whole_there asked.last asked.whole;
      world = ap (λ (r : Result Read Stopped). world_of (ended r).read.place) judges ∙ asked.world_is ∙ ap (λ (w : World). Some w) said.is;
      commands = ap (λ (r : Result Read Stopped). (ended r).read.commands) judges ∙ asked.commands ∙ ap (λ (cs : List Command). cs ++ Dump ∷ []) lines.commands;
      accepted = back.world;
      same = dump_is_function world text back.same;
    }
  where
    whole_there : (last : Read) → last.place.judge.ended ≡ true → (ended (Ok last)).ending ≡ Whole
    whole_there last is = rw is refl
