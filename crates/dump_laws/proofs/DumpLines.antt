-- The lines of a dump are read again.
use Rattle.std.proofs.Common.{◌≡◌, ℕ, zero, suc, ◌*◌, ◌<◌, ◌≤◌, ◌^◌, List, [], ◌∷◌, ◌++◌, length, get_or, map, Bool, true, false, Option, Ok, inr, refl, ap, sym, ◌∙◌, subst, arith, codes}
use Rattle.std.specs.Prelude.{replicate, slice_get, unwrap_or}
use Rattle.std.specs.List.{All}
use Rattle.std.specs.Option.{option_map_or}
use Rattle.std.proofs.lemmas.List.{length-map, map-append}
use Rattle.std.proofs.lemmas.List.Elements.{All-map}
use Rattle.std.proofs.lemmas.Option.{slice_get-get_or}
use Rattle.trace_text.specs.store_word.declared.space.Space.{Space}
use Rattle.trace_text.specs.lisp_graph.Name.{is_name}
use Rattle.trace_text.specs.lisp_graph.Graph.{PartsReferBelow}
use Rattle.trace_text.specs.lisp_graph.World.{AreAreas, IsSpace, opening}
use Rattle.trace_text.specs.lisp_graph.KeyedGraph.{KeyedGraph, keyed}
use Rattle.trace_text.specs.lisp_graph.declared.object.Value.{Value}
use Rattle.trace_text.specs.lisp_graph.declared.object.Value.TheVariants.{Nil}
use Rattle.trace_text.specs.lisp_graph.declared.object.Object.{Object}
use Rattle.trace_text.specs.lisp_graph.declared.world.AreaRule.{AreaRule}
use Rattle.trace_text.specs.lisp_graph.declared.world.World.{World}
use Rattle.trace_text.specs.lisp_graph.declared.command.Command.TheVariants.{Dump}
use Rattle.trace_text.specs.world_text.declared.reading.reader.WorldReader.{WorldReader}
use Rattle.trace_text.specs.world_text.Words.{is_well_formed, words_of}
use Rattle.trace_text.specs.world_text.Header.{room}
use Rattle.trace_text.specs.world_text.Objects.{quota_in}
use Rattle.trace_text.specs.world_text.Limits.{AllRefer, AreNamed, IsAccepted, charged_in}
use Rattle.trace_text.specs.world_text.Reader.{opening_place}
use Rattle.trace_text.specs.world_text.Spelling.{WorldLine, ClosingLine, name_of, spelled}
use Rattle.trace_text.specs.world_text.Accepts.{IsAllowed, outcome, takes_object}
use Rattle.trace_text.specs.world_text.File.{head_lines, object_lines_of, root_lines_of, text_of}
use Rattle.trace_text.specs.world_text.Dump.{IsDump, dumped_object, dumped_value}
use Rattle.trace_text.proofs.world_text.reading_laws.PlaceInvariant.{accepted_world}
use Rattle.trace_text.specs.Commands.{Run, End, command_in, line_in, store_command, trace_line}
use Rattle.dump_laws.specs.Loaded.{loaded}
use Rattle.dump_laws.specs.Back.{IsLine, IsReadBack, KeepsLimits, SayWorld, read_world, with_feeds}
use Rattle.dump_laws.proofs.RenamedGraphs.{dump_one}
use Rattle.dump_laws.proofs.LineSequences.{lead_append, lead_on}
use Rattle.dump_laws.proofs.ObjectLines.{AddTo, FitQuotas, IsSayable, objects_read}
use Rattle.dump_laws.proofs.RootLines.{IsBefore, IsRoot, closing_read, object_then_root, roots_read}
use Rattle.dump_laws.proofs.HeaderLines.{AreRules, HeadTo, head_read}
use Rattle.dump_laws.proofs.DumpContents.{bodies_hold, loaded_area, loaded_long, object_good, values_good}
use Rattle.dump_laws.proofs.SameDump.{dump_again}
use Rattle.dump_laws.proofs.PrintableLines.{IsPrintable, lines_printable, printable_bytes}
use Rattle.dump_laws.proofs.LineLengths.{AreFew, IsShort, few_append, head_few, objects_short, roots_few, text_append}
use Rattle.dump_laws.proofs.Totals.{total_bound}

-- What is known of the space, the areas, the objects and the roots in the lines

pub record IsSaid (space : Space) (areas : List AreaRule) (objects : List Object) (roots : List Value) : Type 0 where
  pub space_fits : IsSpace space
  pub six : length space.capacity ≡ 6
  pub some : 1 ≤ length areas
  pub rules : AreRules space.levels space.regions areas
  pub sayable : All (IsSayable (length areas)) objects
  pub refer : All (λ object. PartsReferBelow (length objects) object.body) objects
  pub fits : (area : ℕ) → area < length areas → charged_in area (loaded objects) ≤ quota_in areas area
  pub count : length roots ≡ space.registers
  pub good : All (IsRoot (length objects)) roots

-- the world that the lines mean
abbrev pub said_world : Space → List AreaRule → List Object → List Value → World
said_world space areas objects roots = record { space = space; areas = areas; objects = loaded objects; roots = roots }

-- the lines before the last one
abbrev pub said_lines : Space → List AreaRule → List Object → List Value → List WorldLine
said_lines space areas objects roots = head_lines space areas ++ object_lines_of 0 0 objects ++ root_lines_of 0 roots

no_roots : (size index : ℕ) → unwrap_or (slice_get (replicate size false) index) false ≡ false
no_roots zero index = refl
no_roots (suc size) zero = refl
no_roots (suc size) (suc index) = no_roots size index

loaded_refer : (objects : List Object) → All (λ object. PartsReferBelow (length objects) object.body) objects → AllRefer (loaded objects)
loaded_refer objects refer =
    let long : length (loaded objects) ≡ length objects = loaded_long 0 0 objects in
    subst (λ n. All (λ (o : Object). PartsReferBelow n o.body) (loaded objects)) (sym long) (bodies_hold (PartsReferBelow (length objects)) 0 0 objects refer)

-- the place after the objects
objects_to : (file : Bool) (space : Space) (areas : List AreaRule) (objects : List Object) (roots : List Value) → IsSaid space areas objects roots → (head : HeadTo file space areas)
    → AddTo areas head.next (object_lines_of 0 0 objects) (loaded objects)
objects_to file space areas objects roots said head =
    let takes : takes_object head.next.second head.next.part ≡ true = ap (takes_object head.next.second) head.part in
    let fits : FitQuotas head.next (loaded objects) = λ area within.
    let inside : area < length areas = omega (arith, within, ap (λ (w : World). length w.areas) head.world) in
    subst (λ (w : World). charged_in area (w.objects ++ loaded objects) ≤ quota_in w.areas area) (sym head.world) (said.fits area inside) in
    objects_read areas head.next 0 0 objects head.leads.reached (sym (ap (λ (w : World). w.areas) head.world)) takes head.second (ap (λ (w : World). length w.objects) head.world) (omega arith) said.sayable fits

-- the world after the objects
abbrev with_objects : Space → List AreaRule → List Object → World
with_objects space areas objects = record { space = space; areas = areas; objects = loaded objects; roots = replicate space.registers Nil }

world_to : (file : Bool) (space : Space) (areas : List AreaRule) (objects : List Object) (head : HeadTo file space areas) (added : AddTo areas head.next (object_lines_of 0 0 objects) (loaded objects))
    → added.next.world ≡ with_objects space areas objects
world_to file space areas objects head added = added.world ∙ ap (λ (w : World). record w { objects = w.objects ++ loaded objects }) head.world

before_roots : (file : Bool) (space : Space) (areas : List AreaRule) (objects : List Object) (roots : List Value) → IsSaid space areas objects roots → (head : HeadTo file space areas)
    → (added : AddTo areas head.next (object_lines_of 0 0 objects) (loaded objects)) → IsBefore areas added.next 0 [] roots
before_roots file space areas objects roots said head added =
    let world : added.next.world ≡ with_objects space areas objects = world_to file space areas objects head added in
    let long : length (loaded objects) ≡ length objects = loaded_long 0 0 objects in
    record {
      reached = added.leads.reached;
      same = sym (ap (λ (w : World). w.areas) world);
      takes = object_then_root added.next.second added.next.part added.takes;
      refer = subst (λ (w : World). AllRefer w.objects) (sym world) (loaded_refer objects said.refer);
      roots = ap (λ (w : World). w.roots) world ∙ ap (λ n. replicate n Nil) (sym said.count);
      here = refl;
      all = omega (arith, said.count, ap (λ (w : World). w.space.registers) world);
      fresh = λ later more. ap (λ (rooted : List Bool). unwrap_or (slice_get rooted later) false) (added.rooted ∙ head.rooted) ∙ no_roots 256 later;
      good = subst (λ (w : World). All (IsRoot (length w.objects)) roots) (sym world) (rw long said.good);
    }

-- The lines are read

-- all lines before the last, and what is known of the place after them
pub record AllRead (file : Bool) (space : Space) (areas : List AreaRule) (objects : List Object) (roots : List Value) : Type 0 where
  pub says : SayWorld file (map (spelled areas) (said_lines space areas objects roots)) (said_world space areas objects roots)
  pub accepted : IsAccepted (said_world space areas objects roots)
  pub printable : All IsPrintable (map (spelled areas) (said_lines space areas objects roots))

pub all_read : (file : Bool) (space : Space) (areas : List AreaRule) (objects : List Object) (roots : List Value) → IsSaid space areas objects roots → AllRead file space areas objects roots
all_read file space areas objects roots said =
    let head = head_read file space areas said.space_fits said.six said.some said.rules in
    let added = objects_to file space areas objects roots said head in
    let world_before = world_to file space areas objects head added in
    let set = roots_read areas added.next 0 [] roots (before_roots file space areas objects roots said head added) in
    let world : set.next.world ≡ said_world space areas objects roots = set.world ∙ ap (λ (w : World). record w { roots = roots }) world_before in
    let start : WorldReader = opening_place file in
    let first = lead_append areas start head.next added.next (head_lines space areas) (object_lines_of 0 0 objects) head.leads added.leads in
    let whole = lead_append areas start added.next set.next (head_lines space areas ++ object_lines_of 0 0 objects) (root_lines_of 0 roots) first set.leads in
    let kind : set.next.file ≡ file = set.file ∙ added.file ∙ head.kind in
    let refer : AllRefer set.next.world.objects = subst (λ (w : World). AllRefer w.objects) (sym world) (loaded_refer objects said.refer) in
    let allowed : IsAllowed set.next (ClosingLine file) = (record { part = set.takes; refer = inr refer }, kind) in
    record {
      says = record { place = set.next; read = whole.read; closes = closing_read set.next file set.leads.reached set.takes refer kind; is = world };
      accepted = subst IsAccepted world (accepted_world (outcome set.next (ClosingLine file)).1 (lead_on set.next (ClosingLine file) set.leads.reached allowed) refl);
      printable = lines_printable start set.next (map (spelled areas) (said_lines space areas objects roots)) whole.read;
    }

-- Their text

feeds_of : (areas : List AreaRule) (lines : List WorldLine) → text_of areas lines ≡ with_feeds (map (spelled areas) lines)
feeds_of areas [] = refl
feeds_of areas (line ∷ lines) = ap (λ (rest : List ℕ). (spelled areas line ++ 10 ∷ []) ++ rest) (feeds_of areas lines)

names_of : (areas : List AreaRule) → AreNamed areas → All (λ rule. is_name rule.name ≡ true) areas
names_of areas named = λ index default within.
    let e : name_of areas index ≡ (get_or areas index default).name = ap (λ (o : Option AreaRule). option_map_or (λ rule. rule.name) o []) (slice_get-get_or areas index default within) in
    subst (λ (name : List ℕ). is_name name ≡ true) e (named.names index within)

all_short : (space : Space) (areas : List AreaRule) (objects : List Object) (roots : List Value) → IsSaid space areas objects roots → AreFew areas (said_lines space areas objects roots) (2 ^ 29)
all_short space areas objects roots said =
    let head = head_few space areas said.space_fits said.six said.rules.few said.rules.quotas (names_of areas said.rules.named) in
    let short = objects_short areas 0 0 objects said.rules.named (omega arith) said.sayable in
    let placed : All (λ (o : Object). o.area < length areas) (loaded objects) =
    λ index default within. subst (λ n. n < length areas) (sym (loaded_area 0 0 objects index default)) (said.sayable index default (omega (arith, within, loaded_long 0 0 objects))).within in
    let bound = total_bound areas (loaded objects) said.rules.few said.rules.quotas placed said.fits in
    let middle : AreFew areas (object_lines_of 0 0 objects) 486539264 = record { each = short.each; all = omega (arith, short.all, bound) } in
    let last = roots_few areas (length objects) 0 roots said.good (omega (arith, said.count, said.space_fits.registers)) in
    let whole = few_append areas (head_lines space areas ++ object_lines_of 0 0 objects) (root_lines_of 0 roots) 486540264 (21 * length roots)
    (few_append areas (head_lines space areas) (object_lines_of 0 0 objects) 1000 486539264 head middle) last in
    record { each = whole.each; all = omega (arith, whole.all, said.count, said.space_fits.registers) }

lines_cut : (areas : List AreaRule) (lines : List WorldLine) → All (IsShort areas) lines → All IsPrintable (map (spelled areas) lines) → All IsLine (map (spelled areas) lines)
lines_cut areas lines short printable =
    let shorts : All (λ (line : List ℕ). length line ≤ 32768) (map (spelled areas) lines) = All-map (λ (line : List ℕ). length line ≤ 32768) (spelled areas) lines short in
    λ index default within. record { short = shorts index default within; graphic = printable_bytes _ (printable index default within) }

-- The lines of a trace

dump_line : (space : Space) (areas : List AreaRule) → trace_line space areas (codes "dump") ≡ Ok (Run Dump)
unfolding is_well_formed words_of line_in command_in store_command
dump_line space areas = refl

end_line : (space : Space) (areas : List AreaRule) → trace_line space areas (codes "end") ≡ Ok End
unfolding is_well_formed words_of line_in
end_line space areas = refl

-- A dump

dump_said : (graph : KeyedGraph) (space : Space) (areas : List AreaRule) (text : List ℕ) (dump : IsDump graph space areas text) → KeepsLimits graph dump.keys space areas
    → IsSaid space areas (map (dumped_object graph dump.keys) dump.keys) (map (dumped_value dump.keys) graph.registers)
dump_said graph space areas text dump keeps =
    let keys : List ℕ = dump.keys in
    let world : World = keeps.accepted.0 in
    let good = keeps.accepted.1 in
    let same_space = keeps.accepted.2 in
    let same_areas = keeps.accepted.3 in
    let long : length (map (dumped_object graph keys) keys) ≡ length keys = length-map keys (dumped_object graph keys) in
    let areas_good : AreAreas areas = subst AreAreas same_areas good.limits.areas in
    record {
      space_fits = subst IsSpace same_space good.limits.space;
      six = ap (λ (s : Space). length s.capacity) (sym same_space) ∙ good.capacities;
      some = areas_good.count.0;
      rules = record {
        few = areas_good.count.1;
        quotas = areas_good.quotas;
        named = subst AreNamed same_areas good.named;
        room = omega (arith, good.room, ap (λ (s : Space). s.regions) same_space, ap (λ (s : Space). room s.levels world.areas) same_space, ap (room space.levels) same_areas);
      };
      sayable = All-map (IsSayable (length areas)) (dumped_object graph keys) keys (λ index default within. (object_good graph (length areas) keys _ (keeps.objects index default within) dump.few).0);
      refer = subst (λ n. All (λ (o : Object). PartsReferBelow n o.body) (map (dumped_object graph keys) keys)) (sym long) (All-map (λ (o : Object). PartsReferBelow (length keys) o.body) (dumped_object graph keys) keys (λ index default within. (object_good graph (length areas) keys _ (keeps.objects index default within) dump.few).1));
      fits = keeps.quotas;
      count = length-map graph.registers (dumped_value keys) ∙ keeps.registers;
      good = rw long (values_good keys graph.registers keeps.integers dump.few);
    }

pub dump_back : (graph : KeyedGraph) (space : Space) (areas : List AreaRule) (text : List ℕ) (dump : IsDump graph space areas text) → KeepsLimits graph dump.keys space areas → IsReadBack graph dump.keys space areas text
dump_back graph space areas text dump keeps =
    let keys : List ℕ = dump.keys in
    let objects : List Object = map (dumped_object graph keys) keys in
    let roots : List Value = map (dumped_value keys) graph.registers in
    let said = dump_said graph space areas text dump keeps in
    let lines : List WorldLine = said_lines space areas objects roots in
    let file = all_read true space areas objects roots said in
    let input = all_read false space areas objects roots said in
    let short = all_short space areas objects roots said in
    let again = dump_again graph space areas text dump in
    let feeds : text ≡ with_feeds (map (spelled areas) lines ++ codes "end-world" ∷ []) =
    dump.is ∙ feeds_of areas (lines ++ ClosingLine true ∷ []) ∙ ap with_feeds (map-append (spelled areas) lines (ClosingLine true ∷ [])) in
    record {
      lines = map (spelled areas) lines;
      is = feeds;
      cut = lines_cut areas lines short.each file.printable;
      short = omega (arith, ap length dump.is, text_append areas lines (ClosingLine true ∷ []), short.all);
      file = file.says;
      input = input.says;
      dumps = dump_line space areas;
      ends = end_line space areas;
      world = file.accepted;
      same = again;
      only = λ other is. dump_one (keyed (opening (read_world graph keys space areas))) space areas other text is again;
    }
