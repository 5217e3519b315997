-- The generated input is whole, given that its world and its commands are accepted.
use Rattle.std.proofs.Common.{◌≡◌, ℕ, zero, suc, ◌+◌, ◌-◌, ◌*◌, ◌^◌, ◌<◌, ◌≤◌, ◌⊎◌, inl, inr, List, [], ◌∷◌, ◌++◌, length, true, false, Result, Ok, codes, refl, sym, ap, ◌∙◌, subst, arith}
use Rattle.std.specs.Prelude.{◌==◌, nat_lt, replicate}
use Rattle.std.proofs.lemmas.Bool.{cases_lt, eq-eqb, le-ltb, lt-ltb, ne_eqb}
use Rattle.lisp_graph.specs.declared.object.Value.TheVariants.{Nil}
use Rattle.lisp_graph.specs.declared.command.Command.TheVariants.{Stats}
use Rattle.lisp_graph.specs.declared.world.AreaKind.TheVariants.{Static, Dynamic}
use Rattle.world_text.specs.declared.fault.WorldStep.{WorldStep}
use Rattle.world_text.specs.declared.fault.WorldStep.TheVariants.{Next as on, TraceBegins}
use Rattle.world_text.specs.declared.reading.reader.Section.TheVariants.{Sizing, FirstArea, Areas, Closed}
use Rattle.world_text.specs.declared.reading.reader.WorldReader.{WorldReader}
use Rattle.world_text.specs.Words.{is_well_formed, words_of}
use Rattle.world_text.specs.Next.{next}
use Rattle.world_text.specs.Header.{area_line, rule_in, space_in, space_line}
use Rattle.world_text.specs.Closing.{closing_line}
use Rattle.world_text.specs.Line.{area_lines, last_lines, line_at, line_in as world_line_in, object_lines}
use Rattle.world_text.specs.Reader.{is_closed, opening_place}
use Rattle.world_text.proofs.reading_laws.ReadLaws.{guard_ok}
use Rattle.trace_text.specs.Commands.{Run, trace_line}
use Rattle.trace_text.specs.Made.{command_line, line_of, made, made_from, state_of}
use Rattle.trace_text.specs.MadeWorld.{made_areas, made_space}
use Rattle.trace_text.proofs.GeneratedCommands.{IsMadeLine, end_said, made_line, stats_said}
use Rattle.line_input.specs.Lines.{lines_of}
use Rattle.line_input.specs.Reader.{no_feed}
use Rattle.line_input.specs.Verdict.{further}
use Rattle.input_verdict.proofs.LineVerdicts.{goes}
use Rattle.input_verdict.specs.Input.{JudgedInput}
use Rattle.input_verdict.specs.Events.{Nothing, Opens, Does}
use Rattle.input_verdict.proofs.WellFormedLines.{formed_feed}
use Rattle.input_verdict.specs.Verdict.{Read, Stopped, Whole, ended, in_trace, judged, line_in, noted, start, trace_next, verdict, world_next}

-- The trace

made_suc : (count state i left n : ℕ) → left ≡ suc n → made_from count state i left ≡ (line_of count state i ++ 10 ∷ []) ++ made_from count (state_of count state i) (i + 1) n
unfolding made_from
made_suc count state i zero n e = absurd (omega arith)
made_suc count state i (suc left) n e = let s : left ≡ n = omega arith in ap (λ k. (line_of count state i ++ 10 ∷ []) ++ made_from count (state_of count state i) (i + 1) k) s

made_zero : (count state i : ℕ) → made_from count state i 0 ≡ []
unfolding made_from
made_zero count state i = refl

-- each line after `trace` except the last is a command
command_at : (count state i : ℕ) → 6 ≤ i → i < count + 7 → IsMadeLine (line_of count state i)
command_at count state i low high = go (cases_lt (i - 6) count)
  where
    first : nat_lt i 6 ≡ false
    first = le-ltb i 6 low

    go : (i - 6 < count) ⊎ (count ≤ i - 6) → IsMadeLine (line_of count state i)
    go (inl l) =
        let t : line_of count state i ≡ command_line state (i - 6) = let a : nat_lt (i - 6) count ≡ true = lt-ltb (i - 6) count l in let f = first in rw (f, a) refl in
        subst IsMadeLine (sym t) (made_line state (i - 6))
    go (inr r) =
        let t : line_of count state i ≡ codes "stats" =
        let a : nat_lt (i - 6) count ≡ false = le-ltb (i - 6) count r in
        let b : (i - 6 == count) ≡ true = eq-eqb (i - 6) count (omega arith) in
        let f = first in rw (f, a, b) refl in
        subst IsMadeLine (sym t) (record { command = Stats; said = stats_said; short = omega arith })

end_at : (count state i : ℕ) → i ≡ count + 7 → line_of count state i ≡ codes "end"
end_at count state i e =
    let f : nat_lt i 6 ≡ false = le-ltb i 6 (omega arith) in
    let a : nat_lt (i - 6) count ≡ false = le-ltb (i - 6) count (omega arith) in
    let b : (i - 6 == count) ≡ false = ne_eqb (i - 6) count (λ same. omega (arith, e, same)) in
    rw (f, a, b) refl

-- the world is read, and the trace goes on
record IsReady (read : Read) : Type 0 where
  pub closed : in_trace read.place ≡ true
  pub space : read.place.judge.builder.world.space ≡ made_space
  pub areas : read.place.judge.builder.world.areas ≡ made_areas
  pub unended : read.place.judge.ended ≡ false

trace_feed : (text : List ℕ) (said : _) → trace_line made_space made_areas text ≡ Ok said → no_feed text ≡ true
trace_feed text said is = formed_feed text (guard_ok (is_well_formed text) _ _ said is).0

said_in : (read : Read) (text : List ℕ) → IsReady read → line_in read.place text ≡ trace_next read.place (trace_line made_space made_areas text)
said_in read text ready =
    let c = ready.closed in
    let s = ready.space in
    let a = ready.areas in
    rw (c, s, a) refl

opens_next : (place : JudgedInput) (step : WorldStep) (builder : WorldReader) → is_closed builder.part ≡ true → world_next place (Ok (step, builder)) ≡ Ok (record { event = Opens; place = record place { judge = record place.judge { builder = builder } } })
opens_next place step builder closed = rw closed refl

module _ (count : ℕ) where
  abbrev Ends : Result Read Stopped → Type 0
  Ends said = (ended said).ending ≡ Whole

  trace_whole : (left state i : ℕ) (read : Read) → 6 ≤ i → i + suc left ≡ count + 8 → IsReady read → read.place.bytes + 54 * suc left ≤ 2 ^ 40 → Ends (judged read (lines_of (made_from count state i (suc left))))
  trace_whole zero state i read low all ready small =
      let text : line_of count state i ≡ codes "end" = end_at count state i (omega arith) in
      let made : made_from count state i 1 ≡ (codes "end" ++ 10 ∷ []) ++ [] =
      made_suc count state i 1 0 refl ∙ ap (λ (t : List ℕ). (t ++ 10 ∷ []) ++ made_from count (state_of count state i) (i + 1) 0) text ∙ ap (λ (t : List ℕ). (codes "end" ++ 10 ∷ []) ++ t) (made_zero count (state_of count state i) (i + 1)) in
      let last : JudgedInput = record read.place { judge = record read.place.judge { ended = true } } in
      let said : line_in read.place (codes "end") ≡ Ok (record { event = Nothing; place = last }) = said_in read (codes "end") ready ∙ ap (trace_next read.place) end_said in
      let step = goes read (codes "end") [] Nothing last said ready.unended refl (omega arith) (omega arith) in
      ap (λ (t : List ℕ). (ended (judged read (lines_of t))).ending) made ∙ ap (λ (s : Result Read Stopped). (ended s).ending) step
  trace_whole (suc left) state i read low all ready small =
      let line = command_at count state i low (omega arith) in
      let text : List ℕ = line_of count state i in
      let rest : List ℕ = made_from count (state_of count state i) (i + 1) (suc left) in
      let said : line_in read.place text ≡ Ok (record { event = Does line.command; place = read.place }) =
      said_in read text ready ∙ ap (trace_next read.place) line.said in
      let step = goes read text rest (Does line.command) read.place said ready.unended (trace_feed text (Run line.command) line.said) (omega (arith, line.short)) (omega (arith, line.short)) in
      let new : Read = noted read (Does line.command) (further read.place (length text + 1)) in
      let again : IsReady new = record { closed = ready.closed; space = ready.space; areas = ready.areas; unended = ready.unended } in
      ap (λ (t : List ℕ). (ended (judged read (lines_of t))).ending) (made_suc count state i (suc (suc left)) (suc left) refl)
      ∙ ap (λ (s : Result Read Stopped). (ended s).ending) step
      ∙ trace_whole left (state_of count state i) (i + 1) new (omega arith) (omega arith) again (let h = line.short in omega arith)

-- The world

abbrev w0 : WorldReader
w0 = opening_place false

abbrev w1 : WorldReader
w1 = record w0 { part = Sizing; second = false }

abbrev w2 : WorldReader
w2 = record w1 { part = FirstArea; world = record w1.world { space = made_space; roots = replicate 16 Nil } }

abbrev w3 : WorldReader
w3 = record w2 { part = Areas; world = record w2.world { areas = record { name = codes "perm"; kind = Static; quota = 4000 } ∷ [] } }

abbrev w4 : WorldReader
w4 = record w3 { world = record w3.world { areas = record { name = codes "perm"; kind = Static; quota = 4000 } ∷ record { name = codes "work"; kind = Dynamic; quota = 20000 } ∷ [] } }

abbrev w5 : WorldReader
w5 = record w4 { world = record w4.world { areas = made_areas } }

abbrev w6 : WorldReader
w6 = record w5 { part = Closed }

says_0 : line_at w0 (codes "lispm-world 1") ≡ Ok (on, w1)
says_0 = refl

says_1 : line_at w1 (codes "space 64 64 16 3 4") ≡ Ok (on, w2)
unfolding world_line_in space_line space_in next is_well_formed words_of
says_1 = refl

says_2 : line_at w2 (codes "area perm static 4000") ≡ Ok (on, w3)
unfolding world_line_in area_line rule_in next is_well_formed words_of
says_2 = refl

says_3 : line_at w3 (codes "area work dynamic 20000") ≡ Ok (on, w4)
unfolding world_line_in area_lines area_line rule_in next is_well_formed words_of
says_3 = refl

says_4 : line_at w4 (codes "area temp ephemeral 12000") ≡ Ok (on, w5)
unfolding world_line_in area_lines area_line rule_in next is_well_formed words_of
says_4 = refl

says_5 : line_at w5 (codes "trace") ≡ Ok (TraceBegins, w6)
unfolding world_line_in area_lines object_lines last_lines closing_line is_well_formed words_of
says_5 = refl

-- a line of the world, after which the world's lines go on
head_goes : (read : Read) (text rest : List ℕ) (old new : WorldReader) → read.place.judge.builder ≡ old → is_closed old.part ≡ false → is_closed new.part ≡ false → line_at old text ≡ Ok (on, new) → read.place.judge.ended ≡ false → no_feed text ≡ true → length text ≤ 53
    → read.place.bytes + 54 ≤ 2 ^ 40 → judged read (lines_of ((text ++ 10 ∷ []) ++ rest)) ≡ judged (record read { place = further (record read.place { judge = record read.place.judge { builder = new } }) (length text + 1) }) (lines_of rest)
head_goes read text rest old new at before behind said unended feed short low =
    let first : in_trace read.place ≡ false = ap (λ (b : WorldReader). is_closed b.part) at ∙ before in
    let says : line_at read.place.judge.builder text ≡ Ok (on, new) = ap (λ (b : WorldReader). line_at b text) at ∙ said in
    let one : line_in read.place text ≡ Ok (record { event = Nothing; place = record read.place { judge = record read.place.judge { builder = new } } }) = rw (first, says, behind) refl in
    goes read text rest Nothing (record read.place { judge = record read.place.judge { builder = new } }) one unended feed (omega (arith, short)) (omega (arith, short, low))

pub made_whole : (number count : ℕ) → count ≤ 1000000 → (verdict (made number count)).ending ≡ Whole
made_whole number count few =
    let tail : ℕ → ℕ → List ℕ = λ i n. made_from count number i n in
    let r1 : Read = record start { place = further (record start.place { judge = record start.place.judge { builder = w1 } }) 14 } in
    let r2 : Read = record r1 { place = further (record r1.place { judge = record r1.place.judge { builder = w2 } }) 19 } in
    let r3 : Read = record r2 { place = further (record r2.place { judge = record r2.place.judge { builder = w3 } }) 22 } in
    let r4 : Read = record r3 { place = further (record r3.place { judge = record r3.place.judge { builder = w4 } }) 24 } in
    let r5 : Read = record r4 { place = further (record r4.place { judge = record r4.place.judge { builder = w5 } }) 26 } in
    let r6 : Read = record r5 { place = further (record r5.place { judge = record r5.place.judge { builder = w6 } }) 6 } in
    let s0 = ap (λ (t : List ℕ). judged start (lines_of t)) (made_suc count number 0 (count + 8) (count + 7) (omega arith)) ∙ head_goes start (codes "lispm-world 1") (tail 1 (count + 7)) w0 w1 refl refl refl says_0 refl refl (omega arith) (omega arith) in
    let s1 = ap (λ (t : List ℕ). judged r1 (lines_of t)) (made_suc count number 1 (count + 7) (count + 6) (omega arith)) ∙ head_goes r1 (codes "space 64 64 16 3 4") (tail 2 (count + 6)) w1 w2 refl refl refl says_1 refl refl (omega arith) (omega arith) in
    let s2 = ap (λ (t : List ℕ). judged r2 (lines_of t)) (made_suc count number 2 (count + 6) (count + 5) (omega arith)) ∙ head_goes r2 (codes "area perm static 4000") (tail 3 (count + 5)) w2 w3 refl refl refl says_2 refl refl (omega arith) (omega arith) in
    let s3 = ap (λ (t : List ℕ). judged r3 (lines_of t)) (made_suc count number 3 (count + 5) (count + 4) (omega arith)) ∙ head_goes r3 (codes "area work dynamic 20000") (tail 4 (count + 4)) w3 w4 refl refl refl says_3 refl refl (omega arith) (omega arith) in
    let s4 = ap (λ (t : List ℕ). judged r4 (lines_of t)) (made_suc count number 4 (count + 4) (count + 3) (omega arith)) ∙ head_goes r4 (codes "area temp ephemeral 12000") (tail 5 (count + 3)) w4 w5 refl refl refl says_4 refl refl (omega arith) (omega arith) in
    let opens : line_in r5.place (codes "trace") ≡ Ok (record { event = Opens; place = record r5.place { judge = record r5.place.judge { builder = w6 } } }) =
    ap (world_next r5.place) says_5 ∙ opens_next r5.place TraceBegins w6 refl in
    let s5 = ap (λ (t : List ℕ). judged r5 (lines_of t)) (made_suc count number 5 (count + 3) (count + 2) (omega arith)) ∙ goes r5 (codes "trace") (tail 6 (count + 2)) Opens (record r5.place { judge = record r5.place.judge { builder = w6 } }) opens refl refl (omega arith) (omega arith) in
    let e : count + 2 ≡ suc (count + 1) = omega arith in
    ap (λ (s : Result Read Stopped). (ended s).ending) (s0 ∙ s1 ∙ s2 ∙ s3 ∙ s4 ∙ s5)
    ∙ ap (λ (n : ℕ). (ended (judged r6 (lines_of (tail 6 n)))).ending) e
    ∙ trace_whole count (count + 1) number 6 r6 (omega arith) (omega arith) (record { closed = refl; space = refl; areas = refl; unended = refl }) (omega arith)
