-- The root lines of a dump are read, and the line that closes the world.
use Rattle.std.proofs.Common.{◌≡◌, ℕ, zero, suc, ◌+◌, ◌<◌, ◌≤◌, List, [], ◌∷◌, ◌++◌, length, Bool, true, false, Option, Ok, inr, refl, ap, sym, ◌∙◌, subst, arith, append_assoc, length-append}
use Rattle.std.specs.Prelude.{if◌then◌else◌, replicate, slice_get, slice_set, unwrap_or}
use Rattle.std.specs.List.{All}
use Rattle.std.proofs.lemmas.List.{set_at}
use Rattle.std.proofs.lemmas.List.Elements.{All-head, All-tail}
use Rattle.trace_text.specs.lisp_graph.Graph.{RefersBelow}
use Rattle.trace_text.specs.lisp_graph.declared.object.Value.{Value}
use Rattle.trace_text.specs.lisp_graph.declared.object.Value.TheVariants.{Fix, Nil, Ref}
use Rattle.trace_text.specs.lisp_graph.declared.world.AreaRule.{AreaRule}
use Rattle.trace_text.specs.world_text.declared.fault.WorldStep.TheVariants.{TraceBegins, WorldEnds}
use Rattle.trace_text.specs.world_text.declared.reading.reader.Section.{Section}
use Rattle.trace_text.specs.world_text.declared.reading.reader.Section.TheVariants.{Opening, Sizing, FirstArea, Areas, Objects, Roots, Closed}
use Rattle.trace_text.specs.world_text.declared.reading.reader.WorldReader.{WorldReader}
use Rattle.trace_text.specs.world_text.Closing.{closing_word, has_root}
use Rattle.trace_text.specs.world_text.Line.{line_at}
use Rattle.trace_text.specs.world_text.Limits.{AllRefer, IsReached}
use Rattle.trace_text.specs.world_text.File.{root_lines_of}
use Rattle.trace_text.specs.world_text.Spelling.{IsWritten, WorldLine, ClosingLine, RootLine, spelled}
use Rattle.trace_text.specs.world_text.Accepts.{IsAllowed, Says, outcome, takes_object, takes_root}
use Rattle.trace_text.proofs.world_text.reading_laws.LineLaws.{accepted_all}
use Rattle.trace_text.proofs.world_text.reading_laws.PlaceInvariant.{known_at}
use Rattle.dump_laws.proofs.LineSequences.{LeadTo, lead_more, lead_none, lead_on}

-- when object lines are allowed, so are root lines
pub object_then_root : (second : Bool) (part : Section) → takes_object second part ≡ true → takes_root second part ≡ true
object_then_root second Opening takes = takes
object_then_root second Sizing takes = takes
object_then_root second FirstArea takes = takes
object_then_root second Areas takes = takes
object_then_root second Objects takes = takes
object_then_root second Roots takes = refl
object_then_root second Closed takes = takes

-- a value of a register in a world with this many objects
abbrev pub IsRoot : ℕ → Value → Type 0
IsRoot count value = IsWritten value × RefersBelow count value

-- these lines set the roots, and change nothing else
pub record SetTo (areas : List AreaRule) (place : WorldReader) (lines : List WorldLine) (roots : List Value) : Type 0 where
  pub next : WorldReader
  pub leads : LeadTo areas place next lines
  pub takes : takes_root next.second next.part ≡ true
  pub file : next.file ≡ place.file
  pub world : next.world ≡ record place.world { roots = roots }

-- a place before the root line of this register, or a later one
pub record IsBefore (areas : List AreaRule) (place : WorldReader) (register : ℕ) (first values : List Value) : Type 0 where
  pub reached : IsReached place
  pub same : areas ≡ place.world.areas
  pub takes : takes_root place.second place.part ≡ true
  pub refer : AllRefer place.world.objects
  pub roots : place.world.roots ≡ first ++ replicate (length values) Nil
  pub here : length first ≡ register
  pub all : register + length values ≡ place.world.space.registers
  pub fresh : (later : ℕ) → register ≤ later → has_root place later ≡ false
  pub good : All (IsRoot (length place.world.objects)) values

roots_none : (areas : List AreaRule) (place : WorldReader) (register : ℕ) (first : List Value) → IsBefore areas place register first [] → SetTo areas place [] (first ++ [])
roots_none areas place register first before = record {
  next = place;
  leads = lead_none areas place before.reached;
  takes = before.takes;
  file = refl;
  world = ap (λ (roots : List Value). record place.world { roots = roots }) before.roots;
}

-- a register that is nil
before_nil : (areas : List AreaRule) (place : WorldReader) (register : ℕ) (first values : List Value) → IsBefore areas place register first (Nil ∷ values) → IsBefore areas place (register + 1) (first ++ Nil ∷ []) values
before_nil areas place register first values before = record {
  reached = before.reached;
  same = before.same;
  takes = before.takes;
  refer = before.refer;
  roots = before.roots ∙ sym (append_assoc first (Nil ∷ []) (replicate (length values) Nil));
  here = omega (arith, before.here, length-append first (Nil ∷ []));
  all = omega (arith, before.all);
  fresh = λ later more. before.fresh later (omega arith);
  good = All-tail (IsRoot (length place.world.objects)) Nil values before.good;
}

-- the root line of a register
set_other : (roots : List Bool) (register later : ℕ) → register < later → slice_get (slice_set roots register true) later ≡ slice_get roots later
set_other [] register later less = refl
set_other (root ∷ roots) zero zero less = absurd (omega arith)
set_other (root ∷ roots) zero (suc later) less = refl
set_other (root ∷ roots) (suc register) zero less = absurd (omega arith)
set_other (root ∷ roots) (suc register) (suc later) less = set_other roots register later (omega arith)

root_allowed : (areas : List AreaRule) (place : WorldReader) (register : ℕ) (value : Value) (first values : List Value) → IsBefore areas place register first (value ∷ values) → IsAllowed place (RootLine register value)
root_allowed areas place register value first values before =
    let good = All-head (IsRoot (length place.world.objects)) value values before.good in (
      record { part = before.takes; refer = inr before.refer },
      record { within = omega (arith, before.all); fresh = before.fresh register (omega arith); written = good.0; refers = good.1 },
    )

before_root : (areas : List AreaRule) (place : WorldReader) (register : ℕ) (value : Value) (first values : List Value) → IsBefore areas place register first (value ∷ values)
    → IsBefore areas (outcome place (RootLine register value)).1 (register + 1) (first ++ value ∷ []) values
before_root areas place register value first values before = record {
  reached = lead_on place (RootLine register value) before.reached (root_allowed areas place register value first values before);
  same = before.same;
  takes = refl;
  refer = before.refer;
  roots = ap (λ (roots : List Value). slice_set roots register value) before.roots ∙ set_at first Nil (replicate (length values) Nil) value register before.here ∙ sym (append_assoc first (value ∷ []) (replicate (length values) Nil));
  here = omega (arith, before.here, length-append first (value ∷ []));
  all = omega (arith, before.all);
  fresh = λ later more. ap (λ (o : Option Bool). unwrap_or o false) (set_other place.rooted register later (omega arith)) ∙ before.fresh later (omega arith);
  good = All-tail (IsRoot (length place.world.objects)) value values before.good;
}

-- one line more
root_more : (areas : List AreaRule) (place : WorldReader) (register : ℕ) (value : Value) (first values : List Value) → IsBefore areas place register first (value ∷ values)
    → SetTo areas (outcome place (RootLine register value)).1 (root_lines_of (register + 1) values) ((first ++ value ∷ []) ++ values)
    → SetTo areas place (RootLine register value ∷ root_lines_of (register + 1) values) (first ++ value ∷ values)
root_more areas place register value first values before rest = record {
  next = rest.next;
  leads = lead_more areas place rest.next (RootLine register value) (root_lines_of (register + 1) values) before.reached (root_allowed areas place register value first values before)
      (ap (λ (a : List AreaRule). spelled a (RootLine register value)) before.same) rest.leads;
  takes = rest.takes;
  file = rest.file;
  world = rest.world ∙ ap (λ (roots : List Value). record place.world { roots = roots }) (append_assoc first (value ∷ []) values);
}

pub roots_read : (areas : List AreaRule) (place : WorldReader) (register : ℕ) (first values : List Value) → IsBefore areas place register first values → SetTo areas place (root_lines_of register values) (first ++ values)
roots_read areas place register first [] before = roots_none areas place register first before
roots_read areas place register first (Nil ∷ values) before =
    let rest = roots_read areas place (register + 1) (first ++ Nil ∷ []) values (before_nil areas place register first values before) in
    subst (SetTo areas place (root_lines_of (register + 1) values)) (append_assoc first (Nil ∷ []) values) rest
roots_read areas place register first (Fix number ∷ values) before =
    root_more areas place register (Fix number) first values before
    (roots_read areas (outcome place (RootLine register (Fix number))).1 (register + 1) (first ++ Fix number ∷ []) values (before_root areas place register (Fix number) first values before))
roots_read areas place register first (Ref name ∷ values) before =
    root_more areas place register (Ref name) first values before
    (roots_read areas (outcome place (RootLine register (Ref name))).1 (register + 1) (first ++ Ref name ∷ []) values (before_root areas place register (Ref name) first values before))

-- The last line

closing_spelled : (areas : List AreaRule) (file : Bool) → closing_word file ≡ spelled areas (ClosingLine file)
closing_spelled areas true = refl
closing_spelled areas false = refl

pub closing_read : (place : WorldReader) (file : Bool) → IsReached place → takes_root place.second place.part ≡ true → AllRefer place.world.objects → place.file ≡ file
    → line_at place (closing_word file) ≡ Ok (if file then WorldEnds else TraceBegins, record place { part = Closed })
closing_read place file reached takes refer is =
    let allowed : IsAllowed place (ClosingLine file) = (record { part = takes; refer = inr refer }, is) in
    let says : Says place (closing_word file) (outcome place (ClosingLine file)).0 (outcome place (ClosingLine file)).1 =
    record { line = ClosingLine file; allowed = allowed; is = closing_spelled place.world.areas file; brings = refl } in
    accepted_all place (closing_word file) (outcome place (ClosingLine file)).0 (outcome place (ClosingLine file)).1 (known_at place reached) says
