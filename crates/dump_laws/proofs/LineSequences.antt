-- Lines that are read one after another.
use Rattle.std.proofs.Common.{◌≡◌, ℕ, List, [], ◌∷◌, ◌++◌, map, Ok, Err, refl, ap, sym, ◌∙◌, subst}
use Rattle.std.proofs.lemmas.List.{map-append}
use Rattle.trace_text.specs.lisp_graph.declared.world.AreaRule.{AreaRule}
use Rattle.trace_text.specs.world_text.declared.fault.WorldStep.{WorldStep}
use Rattle.trace_text.specs.world_text.declared.reading.reader.WorldReader.{WorldReader}
use Rattle.trace_text.specs.world_text.Next.{◌>>=◌}
use Rattle.trace_text.specs.world_text.Reader.{Said}
use Rattle.trace_text.specs.world_text.Line.{line_at}
use Rattle.trace_text.specs.world_text.Limits.{IsReached}
use Rattle.trace_text.specs.world_text.Spelling.{WorldLine, spelled}
use Rattle.trace_text.specs.world_text.Accepts.{IsAllowed, Says, outcome}
use Rattle.trace_text.proofs.world_text.reading_laws.LineLaws.{accepted_all}
use Rattle.trace_text.proofs.world_text.reading_laws.PlaceInvariant.{known_at, line_keeps}
use Rattle.dump_laws.specs.Back.{read_from}

-- one more line is read
pub line_read : (place : WorldReader) (line : WorldLine) (text : List ℕ) (lines : List (List ℕ)) (next : WorldReader) → IsReached place → IsAllowed place line → text ≡ spelled place.world.areas line
    → read_from (outcome place line).1 lines ≡ Ok next → read_from place (text ∷ lines) ≡ Ok next
unfolding read_from
line_read place line text lines next reached allowed is rest =
    let says : Says place text (outcome place line).0 (outcome place line).1 = record { line = line; allowed = allowed; is = is; brings = refl } in
    let read : line_at place text ≡ Ok (outcome place line) = accepted_all place text (outcome place line).0 (outcome place line).1 (known_at place reached) says in
    ap (λ (said : Said). said >>= (λ one. read_from one.1 lines)) read ∙ rest

-- some lines and then others
pub lines_read : (place middle next : WorldReader) (first others : List (List ℕ)) → read_from place first ≡ Ok middle → read_from middle others ≡ Ok next → read_from place (first ++ others) ≡ Ok next
unfolding read_from
lines_read place middle next [] others one two = let e : place ≡ middle = cc (one) in subst (λ (p : WorldReader). read_from p others ≡ Ok next) (sym e) two
lines_read place middle next (line ∷ first) others one two = of_said (line_at place line) (λ step. lines_read step.1 middle next first others) one
  where
    of_said : (said : Said) → ((step : WorldStep × WorldReader) → read_from step.1 first ≡ Ok middle → read_from middle others ≡ Ok next → read_from step.1 (first ++ others) ≡ Ok next)
        → (said >>= (λ one. read_from one.1 first)) ≡ Ok middle → (said >>= (λ one. read_from one.1 (first ++ others))) ≡ Ok next
    of_said (Ok step) more is = more step is two
    of_said (Err fault) more is = absurd (cc (is))

-- What lines lead to

-- these lines are read, in a world with these areas, and lead from one place to another
pub record LeadTo (areas : List AreaRule) (place next : WorldReader) (lines : List WorldLine) : Type 0 where
  pub read : read_from place (map (spelled areas) lines) ≡ Ok next
  pub reached : IsReached next

pub lead_none : (areas : List AreaRule) (place : WorldReader) → IsReached place → LeadTo areas place place []
unfolding read_from
lead_none areas place reached = record { read = refl; reached = reached }

-- a line leads to what another of the same spelling causes
pub lead_as : (areas : List AreaRule) (place next : WorldReader) (line said : WorldLine) (lines : List WorldLine) → IsReached place → IsAllowed place said → spelled areas line ≡ spelled place.world.areas said
    → LeadTo areas (outcome place said).1 next lines → LeadTo areas place next (line ∷ lines)
lead_as areas place next line said lines reached allowed same rest = record {
  read = line_read place said (spelled areas line) (map (spelled areas) lines) next reached allowed same rest.read;
  reached = rest.reached;
}

-- a line leads to what it causes
pub lead_more : (areas : List AreaRule) (place next : WorldReader) (line : WorldLine) (lines : List WorldLine) → IsReached place → IsAllowed place line → spelled areas line ≡ spelled place.world.areas line
    → LeadTo areas (outcome place line).1 next lines → LeadTo areas place next (line ∷ lines)
lead_more areas place next line lines reached allowed same rest = lead_as areas place next line line lines reached allowed same rest

pub lead_on : (place : WorldReader) (line : WorldLine) → IsReached place → IsAllowed place line → IsReached (outcome place line).1
lead_on place line reached allowed = line_keeps place line reached allowed

-- some lines and then others
pub lead_append : (areas : List AreaRule) (place middle next : WorldReader) (first others : List WorldLine) → LeadTo areas place middle first → LeadTo areas middle next others → LeadTo areas place next (first ++ others)
lead_append areas place middle next first others one two = record {
  read = ap (read_from place) (map-append (spelled areas) first others) ∙ lines_read place middle next (map (spelled areas) first) (map (spelled areas) others) one.read two.read;
  reached = two.reached;
}
