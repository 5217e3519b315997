-- A header is read back.
use Rattle.std.proofs.Common.{◌≡◌, ℕ, suc, ◌+◌, ◌<◌, ◌≤◌, ◌^◌, List, [], ◌∷◌, ◌++◌, length, get_or, take, drop, map, Bool, true, false, Option, Result, Ok, Err, refl, ap, sym, subst, ◌∙◌, arith, codes, append_assoc, length-append}
use Rattle.std.specs.Prelude.{◌==◌, ◌||◌, if◌then◌else◌, bytes_eq, nat_lt, slice_index}
use Rattle.std.specs.List.{All}
use Rattle.std.specs.Option.{option_map_or}
use Rattle.std.proofs.lemmas.Bool.Decides.{nat_tests}
use Rattle.std.proofs.lemmas.List.{drop_at, length-map, take_at}
use Rattle.std.proofs.lemmas.List.Elements.{All-cons, All-head, All-map, All-tail}
use Rattle.std.proofs.lemmas.Option.{slice_get-get_or}
use Rattle.file_modes.specs.lisp_graph.Name.{is_name}
use Rattle.file_modes.specs.lisp_graph.declared.world.AreaRule.{AreaRule}
use Rattle.file_modes.specs.lisp_graph.declared.world.World.{World}
use Rattle.file_modes.specs.world_text.declared.fault.WorldStep.{WorldStep}
use Rattle.file_modes.specs.world_text.declared.reading.reader.WorldReader.{WorldReader}
use Rattle.file_modes.specs.world_text.declared.reading.reason.Reason.TheVariants.{LineTooLong, NotAWorld}
use Rattle.file_modes.specs.world_text.Next.{◌>>=◌}
use Rattle.file_modes.specs.world_text.Reader.{opening_place}
use Rattle.file_modes.specs.world_text.Line.{line_at}
use Rattle.file_modes.specs.world_text.Limits.{AreNamed, IsAccepted, IsReached, has_objects}
use Rattle.file_modes.specs.world_text.Accepts.{outcome}
use Rattle.file_modes.specs.world_text.Spelling.{WorldLine, AreaLine, BlockLine, CapacityLine, ClosingLine, ConsLine, FormatLine, RootLine, RunLine, SpaceLine, name_of, spelled}
use Rattle.file_modes.specs.world_text.File.{head_lines, text_of}
use Rattle.file_modes.proofs.world_text.reading_laws.LineLaws.{accepted_only}
use Rattle.file_modes.proofs.world_text.reading_laws.PlaceInvariant.{known_at, line_keeps, opening_reached}
use Rattle.file_modes.proofs.world_text.reading_laws.ReadLaws.{step_parts}
use Rattle.file_modes.specs.sexpr_text.declared.fault.SexprFault.{SexprFault}
use Rattle.file_modes.specs.sexpr_text.declared.fault.SexprFault.TheVariants.{Bad}
use Rattle.file_modes.specs.sexpr_text.declared.fault.SexprReason.TheVariants.{Header, InputTooLong}
use Rattle.file_modes.specs.sexpr_text.Pieces.{is_feed}
use Rattle.file_modes.specs.sexpr_text.Meaning.{Head, behind_line, first_line, graph_behind, header_line, line_of_byte, meaning, place_behind, said_behind, second_place}
use Rattle.file_modes.proofs.sexpr_text.HeaderLines.{LinesGo, lines_first, lines_last, lines_more}
use Rattle.file_modes.specs.sexpr_print.Spelling.{header_text}
use Rattle.file_modes.specs.dump_laws.Back.{read_from}
use Rattle.file_modes.proofs.dump_laws.HeaderLines.{AreRules, head_read}
use Rattle.file_modes.proofs.dump_laws.LineLengths.{IsShort, head_few, text_cons}
use Rattle.file_modes.proofs.dump_laws.PrintableLines.{IsPrintable, is_printable, lines_printable}
use Rattle.sexpr_laws.specs.ReadBack.{IsHeaderReadBack, bare_world, header_behind, headed, line_behind, said_with}
use Rattle.file_modes.proofs.sexpr_text.Cuts.{NonePass, first_place, none_from}

-- Lines of a text

pub line_cut : (line rest : List ℕ) → NonePass is_feed line → first_line (line ++ 10 ∷ rest) ≡ line
line_cut line rest none = ap (λ n. take n (line ++ 10 ∷ rest)) (first_place is_feed line 10 rest none refl) ∙ take_at line (10 ∷ rest) (length line) refl

pub line_left : (line rest : List ℕ) → NonePass is_feed line → behind_line (line ++ 10 ∷ rest) ≡ rest
line_left line rest none =
    ap (λ n. drop (n + 1) (line ++ 10 ∷ rest)) (first_place is_feed line 10 rest none refl)
    ∙ ap (drop (length line + 1)) (sym (append_assoc line (10 ∷ []) rest))
    ∙ drop_at (line ++ 10 ∷ []) rest (length line + 1) (length-append line (10 ∷ []))

no_feed : (byte : ℕ) → is_printable byte ≡ true → is_feed byte ≡ false
no_feed byte good = of_test (byte == 10) refl
  where
    of_test : (b : Bool) → (byte == 10) ≡ b → (byte == 10) ≡ false
    of_test true is = let e : byte ≡ 10 = grind (arith, nat_tests, is) in absurd (cc (good, ap is_printable e))
    of_test false is = is

-- Lines before the last one of a header

-- the line begins as `area` or `space`
abbrev is_early : List ℕ → Bool
is_early line = slice_index line 0 == 97 || slice_index line 0 == 115

abbrev IsEarly : List AreaRule → WorldLine → Type 0
IsEarly areas line = is_early (spelled areas line) ≡ true

-- after such a line no objects were read yet
bare_behind : (place : WorldReader) (line : WorldLine) → is_early (spelled place.world.areas line) ≡ true → has_objects (outcome place line).1.part ≡ false
bare_behind place (FormatLine second) early = refl
bare_behind place (SpaceLine space) early = refl
bare_behind place (AreaLine rule) early = refl
bare_behind place (CapacityLine numbers) early = absurd (cc (early))
bare_behind place (ConsLine area car cdr) early = absurd (cc (early))
bare_behind place (BlockLine area code fields) early = absurd (cc (early))
bare_behind place (RunLine area cars) early = absurd (cc (early))
bare_behind place (RootLine register value) early = absurd (cc (early))
bare_behind place (ClosingLine true) early = absurd (cc (early))
bare_behind place (ClosingLine false) early = absurd (cc (early))

-- a place within a header
record IsWithin (place : WorldReader) : Type 0 where
  bare : has_objects place.part ≡ false
  reached : IsReached place

early_within : (place : WorldReader) (text : List ℕ) (said : WorldStep × WorldReader) → IsReached place → is_early text ≡ true → line_at place text ≡ Ok said → IsWithin said.1
early_within place text said reached early is =
    let says = accepted_only place text said.0 said.1 (known_at place reached) is in
    let P : WorldStep × WorldReader → Type 0 = λ y. IsWithin y.1 in
    subst P says.brings (record {
      bare = bare_behind place says.line (ap is_early (sym says.is) ∙ early);
      reached = line_keeps place says.line reached says.allowed;
    })

-- All lines of a header

printable_none : (line : List ℕ) → IsPrintable line → NonePass is_feed line
printable_none line printable = none_from is_printable is_feed no_feed line printable

-- the first line of a text is taken
line_taken : (place : WorldReader) (number : ℕ) (line rest : List ℕ) (said : WorldStep × WorldReader) → IsPrintable line → length line ≤ 32768 → line_at place line ≡ Ok said
    → header_line place number (first_line (line ++ 10 ∷ rest)) ≡ Ok said.1
line_taken place number line rest said printable short is =
    let e : nat_lt 32768 (length line) ≡ false = grind (arith, nat_tests) in
    ap (header_line place number) (line_cut line rest (printable_none line printable))
    ∙ ap (λ (b : Bool). if b then Err (Bad number (Header LineTooLong)) else place_behind number (line_at place line)) e
    ∙ ap (place_behind number) is

-- a line that isn't the last one
line_goes : (whole : Result Head SexprFault) (place : WorldReader) (number : ℕ) (line rest : List ℕ) (said : WorldStep × WorldReader) → LinesGo whole place number (line ++ 10 ∷ rest) → IsPrintable line → length line ≤ 32768
    → line_at place line ≡ Ok said → has_objects said.1.part ≡ false → LinesGo whole said.1 (number + 1) rest
line_goes whole place number line rest said goes printable short is bare =
    let behind : behind_line (line ++ 10 ∷ rest) ≡ rest = line_left line rest (printable_none line printable) in
    let long : length (line ++ 10 ∷ rest) ≡ length line + suc (length rest) = length-append line (10 ∷ rest) in
    subst (LinesGo whole said.1 (number + 1)) behind
    (lines_more whole place said.1 number (line ++ 10 ∷ rest) goes (omega (arith, long)) (line_taken place number line rest said printable short is) bare (omega (arith, long, ap length behind)))

-- the last one
line_ends : (whole : Result Head SexprFault) (place : WorldReader) (number : ℕ) (line rest : List ℕ) (said : WorldStep × WorldReader) → LinesGo whole place number (line ++ 10 ∷ rest) → IsPrintable line → length line ≤ 32768
    → line_at place line ≡ Ok said → has_objects said.1.part ≡ true → whole ≡ Ok (record { world = said.1.world; line = number + 1; rest = rest })
line_ends whole place number line rest said goes printable short is whole_header =
    lines_last whole place said.1 number (line ++ 10 ∷ rest) goes (omega (arith, length-append line (10 ∷ rest))) (line_taken place number line rest said printable short is) whole_header
    ∙ ap (λ (left : List ℕ). Ok (record { world = said.1.world; line = number + 1; rest = left })) (line_left line rest (printable_none line printable))

-- the first of these lines, and what follows it
text_split : (areas : List AreaRule) (line : WorldLine) (lines : List WorldLine) (rest : List ℕ) → text_of areas (line ∷ lines) ++ rest ≡ spelled areas line ++ 10 ∷ (text_of areas lines ++ rest)
text_split areas line lines rest =
    append_assoc (spelled areas line ++ 10 ∷ []) (text_of areas lines) rest ∙ append_assoc (spelled areas line) (10 ∷ []) (text_of areas lines ++ rest)

-- lines that can be taken from a place on
record AreTaken (areas : List AreaRule) (place next : WorldReader) (lines : List WorldLine) : Type 0 where
  short : All (IsShort areas) lines
  printable : All IsPrintable (map (spelled areas) lines)
  read : read_from place (map (spelled areas) lines) ≡ Ok next

-- the first of them is taken
record IsTaken (areas : List AreaRule) (place next : WorldReader) (line : WorldLine) (lines : List WorldLine) : Type 0 where
  said : WorldStep × WorldReader
  is : line_at place (spelled areas line) ≡ Ok said
  short : length (spelled areas line) ≤ 32768
  printable : IsPrintable (spelled areas line)
  others : AreTaken areas said.1 next lines

first_taken : (areas : List AreaRule) (place next : WorldReader) (line : WorldLine) (lines : List WorldLine) → AreTaken areas place next (line ∷ lines) → IsTaken areas place next line lines
unfolding read_from
first_taken areas place next line lines all =
    let said = step_parts (line_at place (spelled areas line)) (λ step. read_from step.1 (map (spelled areas) lines)) next all.read in
    record {
      said = said.0;
      is = said.1;
      short = All-head (IsShort areas) line lines all.short;
      printable = All-head IsPrintable (spelled areas line) (map (spelled areas) lines) all.printable;
      others = record {
        short = All-tail (IsShort areas) line lines all.short;
        printable = All-tail IsPrintable (spelled areas line) (map (spelled areas) lines) all.printable;
        read = said.2;
      };
    }

none_taken : (areas : List AreaRule) (place next : WorldReader) → AreTaken areas place next [] → place ≡ next
unfolding read_from
none_taken areas place next all = let read = all.read in cc

header_lines : (whole : Result Head SexprFault) (areas : List AreaRule) (place : WorldReader) (number : ℕ) (lines : List WorldLine) (last : WorldLine) (rest : List ℕ) (next : WorldReader)
    → LinesGo whole place number (text_of areas (lines ++ last ∷ []) ++ rest) → IsReached place → All (IsEarly areas) lines → AreTaken areas place next (lines ++ last ∷ []) → has_objects next.part ≡ true
    → whole ≡ Ok (record { world = next.world; line = number + length lines + 1; rest = rest })
header_lines whole areas place number [] last rest next goes reached early all part =
    let one = first_taken areas place next last [] all in
    let after : one.said.1 ≡ next = none_taken areas one.said.1 next one.others in
    let here : LinesGo whole place number (spelled areas last ++ 10 ∷ rest) = subst (LinesGo whole place number) (text_split areas last [] rest) goes in
    let count : number + 1 ≡ number + 0 + 1 = omega arith in
    line_ends whole place number (spelled areas last) rest one.said here one.printable one.short one.is (ap (λ (p : WorldReader). has_objects p.part) after ∙ part)
    ∙ ap (λ (p : WorldReader). Ok (record { world = p.world; line = number + 1; rest = rest })) after
    ∙ ap (λ n. Ok (record { world = next.world; line = n; rest = rest })) count
header_lines whole areas place number (first ∷ lines) last rest next goes reached early all part =
    let others : List WorldLine = lines ++ last ∷ [] in
    let one = first_taken areas place next first others all in
    let within = early_within place (spelled areas first) one.said reached (All-head (IsEarly areas) first lines early) one.is in
    let here : LinesGo whole place number (spelled areas first ++ 10 ∷ (text_of areas others ++ rest)) = subst (LinesGo whole place number) (text_split areas first others rest) goes in
    let more = line_goes whole place number (spelled areas first) (text_of areas others ++ rest) one.said here one.printable one.short one.is within.bare in
    let count : number + 1 + length lines + 1 ≡ number + suc (length lines) + 1 = omega arith in
    header_lines whole areas one.said.1 (number + 1) lines last rest next more within.reached (All-tail (IsEarly areas) first lines early) one.others part
    ∙ ap (λ n. Ok (record { world = next.world; line = n; rest = rest })) count

-- The header of a world

names_good : (areas : List AreaRule) → AreNamed areas → All (λ rule. is_name rule.name ≡ true) areas
names_good areas named = λ index default within.
    let e : name_of areas index ≡ (get_or areas index default).name = ap (λ (o : Option AreaRule). option_map_or (λ rule. rule.name) o []) (slice_get-get_or areas index default within) in
    subst (λ (name : List ℕ). is_name name ≡ true) e (named.names index within)

abbrev rules_of : (world : World) → IsAccepted world → AreRules world.space.levels world.space.regions world.areas
rules_of world accepted = record { few = accepted.limits.areas.count.1; quotas = accepted.limits.areas.quotas; named = accepted.named; room = accepted.room }

-- the lines between the first one and that of the capacities
abbrev early_lines : World → List WorldLine
early_lines world = SpaceLine world.space ∷ map AreaLine world.areas

abbrev last_line : World → WorldLine
last_line world = CapacityLine (take world.space.levels world.space.capacity)

-- all lines after the first one
abbrev later_text : World → List ℕ
later_text world = text_of world.areas (early_lines world ++ last_line world ∷ [])

all_early : (world : World) → All (IsEarly world.areas) (early_lines world)
all_early world = All-cons (IsEarly world.areas) (SpaceLine world.space) (map AreaLine world.areas) refl (All-map (IsEarly world.areas) AreaLine world.areas (λ index default within. refl))

later_read : (world : World) (text : List ℕ) → IsAccepted world → header_behind (later_text world ++ text) ≡ Ok (record { world = bare_world world.space world.areas; line = line_behind world.areas; rest = text })
unfolding read_from
later_read world text accepted =
    let areas : List AreaRule = world.areas in
    let rules = rules_of world accepted in
    let head = head_read true world.space areas accepted.limits.space accepted.capacities accepted.limits.areas.count.0 rules in
    let few = head_few world.space areas accepted.limits.space accepted.capacities rules.few rules.quotas (names_good areas rules.named) in
    let all : AreTaken areas (opening_place true) head.next (head_lines world.space areas) = record {
      short = few.each;
      printable = lines_printable (opening_place true) head.next (map (spelled areas) (head_lines world.space areas)) head.leads.read;
      read = head.leads.read;
    } in
    let behind = first_taken areas (opening_place true) head.next (FormatLine true) (early_lines world ++ last_line world ∷ []) all in
    let reached : IsReached second_place = line_keeps (opening_place true) (FormatLine true) (opening_reached true) refl in
    let count : 2 + length (early_lines world) + 1 ≡ line_behind areas = omega (arith, length-map areas AreaLine) in
    header_lines (header_behind (later_text world ++ text)) areas second_place 2 (early_lines world) (last_line world) text head.next (lines_first second_place 2 (later_text world ++ text)) reached (all_early world)
    (record { short = behind.others.short; printable = behind.others.printable; read = head.leads.read }) (ap has_objects head.part)
    ∙ ap (λ n. Ok (record { world = head.next.world; line = n; rest = text })) count
    ∙ ap (λ (w : World). Ok (record { world = w; line = line_behind areas; rest = text })) head.world

said_is : (world : World) (text behind : List ℕ) → header_behind behind ≡ Ok (record { world = bare_world world.space world.areas; line = line_behind world.areas; rest = text }) → said_behind behind ≡ said_with world text
unfolding said_behind
said_is world text behind is =
    ap (λ (read : Result Head SexprFault). read >>= (λ head. graph_behind head.world.areas head.world.space.registers head.line head.rest >>= λ graph. Ok (record head.world { objects = graph.0; roots = graph.1 }))) is

means_is : (text : List ℕ) → length text ≤ 2 ^ 40 → first_line text ≡ codes "sexpr-world 1" → meaning text ≡ said_behind (behind_line text)
means_is text short first =
    let long : nat_lt (2 ^ 40) (length text) ≡ false = grind (arith, nat_tests) in
    let wide : nat_lt 32768 (length (first_line text)) ≡ false = ap (λ (line : List ℕ). nat_lt 32768 (length line)) first in
    let same : bytes_eq (first_line text) (codes "sexpr-world 1") ≡ true = ap (λ (line : List ℕ). bytes_eq line (codes "sexpr-world 1")) first in
    of_tests (nat_lt (2 ^ 40) (length text)) (nat_lt 32768 (length (first_line text))) (bytes_eq (first_line text) (codes "sexpr-world 1")) long wide same
  where
    of_tests : (long wide same : Bool) → long ≡ false → wide ≡ false → same ≡ true
        → (if long then Err (Bad (line_of_byte (2 ^ 40) text) InputTooLong) else if wide then Err (Bad 1 (Header LineTooLong)) else if same then said_behind (behind_line text) else Err (Bad 1 (Header NotAWorld))) ≡ said_behind (behind_line text)
    of_tests long wide same a b c = rw (a, b, c) refl

header_short : (world : World) → IsAccepted world → length (header_text world.space world.areas) < 2 ^ 20
header_short world accepted =
    let rules = rules_of world accepted in
    let few = head_few world.space world.areas accepted.limits.space accepted.capacities rules.few rules.quotas (names_good world.areas rules.named) in
    let long = text_cons world.areas (FormatLine true) (early_lines world ++ last_line world ∷ []) in
    omega (arith, few.all, long)

pub header_back : (world : World) (text : List ℕ) → IsAccepted world → IsHeaderReadBack world text
header_back world text accepted =
    let behind : behind_line (headed world text) ≡ later_text world ++ text = line_left (codes "sexpr-world 1") (later_text world ++ text) refl in
    let first : first_line (headed world text) ≡ codes "sexpr-world 1" = line_cut (codes "sexpr-world 1") (later_text world ++ text) refl in
    let read = ap header_behind behind ∙ later_read world text accepted in
    let said = said_is world text (behind_line (headed world text)) read in
    record {
      first = first;
      read = read;
      said = said;
      means = λ short. means_is (headed world text) short first ∙ said;
      short = header_short world accepted;
    }
