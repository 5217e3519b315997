-- The lines before the objects are read.
use Rattle.std.proofs.Common.{◌≡◌, ℕ, zero, suc, ◌+◌, ◌-◌, ◌<◌, ◌≤◌, List, [], ◌∷◌, ◌++◌, length, get_or, take, map, Bool, true, false, Some, None, refl, ap, sym, ◌∙◌, subst, arith, append_assoc, append-nil, length-append, length-take-le}
use Rattle.std.specs.Prelude.{bytes_eq, nat_lt, position, replicate, slice_index}
use Rattle.std.specs.List.{All, position_or_len}
use Rattle.std.proofs.lemmas.Bool.Decides.{nat_tests}
use Rattle.std.proofs.lemmas.List.{get_or_append_left, get_or_at}
use Rattle.std.proofs.lemmas.List.Elements.{All-take}
use Rattle.std.proofs.lemmas.List.Quantifiers.{position-Some}
use Rattle.std.proofs.lemmas.List.Sums.{position_or_len_is, sum_by-append}
use Rattle.trace_text.specs.store_word.declared.space.Space.{Space}
use Rattle.trace_text.specs.lisp_graph.Name.{is_name}
use Rattle.trace_text.specs.lisp_graph.World.{IsSpace}
use Rattle.trace_text.specs.lisp_graph.declared.object.Value.TheVariants.{Nil}
use Rattle.trace_text.specs.lisp_graph.declared.world.AreaRule.{AreaRule}
use Rattle.trace_text.specs.lisp_graph.declared.world.World.{World}
use Rattle.trace_text.specs.world_text.declared.reading.reader.Section.{Section}
use Rattle.trace_text.specs.world_text.declared.reading.reader.Section.TheVariants.{FirstArea, Areas, Objects}
use Rattle.trace_text.specs.world_text.declared.reading.reader.WorldReader.{WorldReader}
use Rattle.trace_text.specs.world_text.Numbers.{area_of}
use Rattle.trace_text.specs.world_text.Header.{room, rule_room}
use Rattle.trace_text.specs.world_text.Reader.{opening_place}
use Rattle.trace_text.specs.world_text.Limits.{AreNamed, IsReached}
use Rattle.trace_text.specs.world_text.File.{head_lines}
use Rattle.trace_text.specs.world_text.Spelling.{WorldLine, AreaLine, CapacityLine, FormatLine, SpaceLine, name_of}
use Rattle.trace_text.specs.world_text.Accepts.{AreSizes, IsAllowed, outcome, takes_area}
use Rattle.trace_text.proofs.world_text.reading_laws.PlaceInvariant.{opening_reached}
use Rattle.dump_laws.proofs.LineSequences.{LeadTo, lead_append, lead_as, lead_more, lead_none, lead_on}

-- Areas

-- areas that may be added one after another
pub record AreRules (levels regions : ℕ) (areas : List AreaRule) : Type 0 where
  pub few : length areas ≤ 16
  pub quotas : All (λ rule. rule.quota ≤ 1048576) areas
  pub named : AreNamed areas
  pub room : room levels areas ≤ regions

-- none of a list passes
none_found : (test : AreaRule → Bool) (rules : List AreaRule) → ((place : ℕ) (default : AreaRule) → place < length rules → test (get_or rules place default) ≡ false) → position test rules ≡ None
none_found test [] fails = refl
none_found test (rule ∷ rules) fails =
    let all : position_or_len test (rule ∷ rules) ≡ length (rule ∷ rules) =
    position_or_len_is test (rule ∷ rules) (length (rule ∷ rules)) rule (omega arith) (λ place below. fails place rule below) (λ below. absurd (omega arith)) in
    let e : nat_lt (length (rule ∷ rules)) (length (rule ∷ rules)) ≡ false = grind (arith, nat_tests) in
    rw (all, e) refl

named_at : (first : List AreaRule) (rule : AreaRule) (rest : List AreaRule) → name_of (first ++ rule ∷ rest) (length first) ≡ rule.name
named_at [] rule rest = refl
named_at (one ∷ first) rule rest = named_at first rule rest

-- an area with a name of its own isn't found among those before it
before_fresh : (first : List AreaRule) (rule : AreaRule) (rest : List AreaRule) → AreNamed (first ++ rule ∷ rest) → area_of first rule.name ≡ None
before_fresh first rule rest named =
    let areas : List AreaRule = first ++ rule ∷ rest in
    let within : length first < length areas = omega (arith, length-append first (rule ∷ rest)) in
    let found : area_of areas rule.name ≡ Some (length first) = ap (area_of areas) (sym (named_at first rule rest)) ∙ named.found (length first) within in
    let test : AreaRule → Bool = λ one. bytes_eq one.name rule.name in
    none_found test first
    (λ place default below.
    let e : get_or areas place default ≡ get_or first place default = get_or_append_left first (rule ∷ rest) default place below in
    subst (λ (one : AreaRule). test one ≡ false) e ((position-Some test areas (length first) default found).2 place below))

before_named : (first : List AreaRule) (rule : AreaRule) (rest : List AreaRule) → AreNamed (first ++ rule ∷ rest) → is_name rule.name ≡ true
before_named first rule rest named =
    subst (λ (name : List ℕ). is_name name ≡ true) (named_at first rule rest) (named.names (length first) (omega (arith, length-append first (rule ∷ rest))))

-- the part after these area lines
abbrev pub part_behind : Section → List AreaRule → Section
part_behind part [] = part
part_behind part (rule ∷ rules) = Areas

still_areas : (rules : List AreaRule) → part_behind Areas rules ≡ Areas
still_areas [] = refl
still_areas (rule ∷ rules) = refl

-- these lines add these areas, and change nothing else
pub record AreasTo (all : List AreaRule) (place : WorldReader) (rest : List AreaRule) : Type 0 where
  pub next : WorldReader
  pub leads : LeadTo all place next (map AreaLine rest)
  pub part : next.part ≡ part_behind place.part rest
  pub file : next.file ≡ place.file
  pub second : next.second ≡ place.second
  pub rooted : next.rooted ≡ place.rooted
  pub world : next.world ≡ record place.world { areas = all }

area_allowed : (all : List AreaRule) (place : WorldReader) (first : List AreaRule) (rule : AreaRule) (rest : List AreaRule) → AreRules place.world.space.levels place.world.space.regions all → all ≡ first ++ rule ∷ rest
    → place.world.areas ≡ first → takes_area place.part ≡ true → IsAllowed place (AreaLine rule)
area_allowed all place first rule rest rules is here takes =
    let named : AreNamed (first ++ rule ∷ rest) = subst AreNamed is rules.named in
    let quotas : All (λ (one : AreaRule). one.quota ≤ 1048576) (first ++ rule ∷ rest) = subst (All (λ (one : AreaRule). one.quota ≤ 1048576)) is rules.quotas in
    let long : length all ≡ length first + length (rule ∷ rest) = ap length is ∙ length-append first (rule ∷ rest) in
    let wants : AreaRule → ℕ = λ one. rule_room place.world.space.levels one.quota in
    let sums : room place.world.space.levels all ≡ room place.world.space.levels first + room place.world.space.levels (rule ∷ rest) = ap (room place.world.space.levels) is ∙ sum_by-append wants first (rule ∷ rest) in
    let one : room place.world.space.levels (rule ∷ rest) ≡ (0 + wants rule) + room place.world.space.levels rest = sum_by-append wants (rule ∷ []) rest in
    let quota : rule.quota ≤ 1048576 = subst (λ (r : AreaRule). r.quota ≤ 1048576) (get_or_at first rule rest rule (length first) refl) (quotas (length first) rule (omega (arith, length-append first (rule ∷ rest)))) in (
      takes,
      record {
        few = omega (arith, ap length here, long, rules.few);
        name = before_named first rule rest named;
        fresh = ap (λ (areas : List AreaRule). area_of areas rule.name) here ∙ before_fresh first rule rest named;
        quota = quota;
        fits = omega (arith, ap (room place.world.space.levels) here, sums, one, rules.room);
      },
    )

areas_read : (all : List AreaRule) (place : WorldReader) (first rest : List AreaRule) → AreRules place.world.space.levels place.world.space.regions all → all ≡ first ++ rest → place.world.areas ≡ first → IsReached place → takes_area place.part ≡ true
    → AreasTo all place rest
areas_read all place first [] rules is here reached takes = record {
  next = place;
  leads = lead_none all place reached;
  part = refl;
  file = refl;
  second = refl;
  rooted = refl;
  world = ap (λ (areas : List AreaRule). record place.world { areas = areas }) (here ∙ sym (append-nil first) ∙ sym is);
}
areas_read all place first (rule ∷ rest) rules is here reached takes =
    let allowed = area_allowed all place first rule rest rules is here takes in
    let after : WorldReader = (outcome place (AreaLine rule)).1 in
    let others = areas_read all after (first ++ rule ∷ []) rest rules (is ∙ sym (append_assoc first (rule ∷ []) rest)) (ap (λ (areas : List AreaRule). areas ++ rule ∷ []) here) (lead_on place (AreaLine rule) reached allowed) refl in
    record {
      next = others.next;
      leads = lead_more all place others.next (AreaLine rule) (map AreaLine rest) reached allowed refl others.leads;
      part = others.part ∙ still_areas rest;
      file = others.file;
      second = others.second;
      rooted = others.rooted;
      world = others.world;
    }

-- Capacities

all_zeros : (numbers : List ℕ) → ((index : ℕ) → slice_index numbers index ≡ 0) → replicate (length numbers) 0 ≡ numbers
all_zeros [] none = refl
all_zeros (number ∷ numbers) none = rw (none zero, all_zeros numbers (λ index. none (suc index))) refl

zeros_behind : (levels : ℕ) (numbers : List ℕ) → levels ≤ length numbers → ((index : ℕ) → levels ≤ index → slice_index numbers index ≡ 0) → take levels numbers ++ replicate (length numbers - levels) 0 ≡ numbers
zeros_behind zero numbers within none = let e : length numbers - 0 ≡ length numbers = omega arith in rw e (all_zeros numbers (λ index. none index (omega arith)))
zeros_behind (suc levels) [] within none = absurd (omega arith)
zeros_behind (suc levels) (number ∷ numbers) within none =
    let e : suc (length numbers) - suc levels ≡ length numbers - levels = omega arith in
    rw e (ap (λ (l : List ℕ). number ∷ l) (zeros_behind levels numbers (omega arith) (λ index above. none (suc index) (omega arith))))

capacity_again : (space : Space) → IsSpace space → length space.capacity ≡ 6 → take space.levels space.capacity ++ replicate (6 - length (take space.levels space.capacity)) 0 ≡ space.capacity
capacity_again space limits six =
    let up : space.levels ≤ length space.capacity = omega (arith, six, limits.levels.1) in
    let long : length (take space.levels space.capacity) ≡ space.levels = length-take-le space.levels space.capacity up in
    rw long (ap (λ n. take space.levels space.capacity ++ replicate (n - space.levels) 0) (sym six) ∙ zeros_behind space.levels space.capacity up limits.none_above)

-- All lines before the objects

-- the place before the objects
pub record HeadTo (file : Bool) (space : Space) (areas : List AreaRule) : Type 0 where
  pub next : WorldReader
  pub leads : LeadTo areas (opening_place file) next (head_lines space areas)
  pub part : next.part ≡ Objects
  pub kind : next.file ≡ file
  pub second : next.second ≡ true
  pub rooted : next.rooted ≡ replicate 256 false
  pub world : next.world ≡ record { space = space; areas = areas; objects = []; roots = replicate space.registers Nil }

-- the space before its capacities
abbrev bare : Space → Space
bare space = record space { capacity = replicate 6 0 }

bare_sizes : (space : Space) → IsSpace space → AreSizes (bare space)
bare_sizes space limits = record { regions = limits.regions; frames = limits.frames; registers = limits.registers; levels = limits.levels; rate = limits.rate; capacity = refl }

-- the capacity line
capacity_to : (space : Space) (areas : List AreaRule) (place : WorldReader) → IsSpace space → length space.capacity ≡ 6 → IsReached place → place.part ≡ Areas → place.second ≡ true → place.world.space ≡ bare space
    → IsAllowed place (CapacityLine (take space.levels space.capacity))
capacity_to space areas place limits six reached part second is =
    let up : space.levels ≤ length space.capacity = omega (arith, six, limits.levels.1) in
    (part, second, length-take-le space.levels space.capacity up ∙ sym (ap (λ (s : Space). s.levels) is), All-take (λ number. number ≤ 16777216) space.levels space.capacity limits.capacities)

pub head_read : (file : Bool) (space : Space) (areas : List AreaRule) → IsSpace space → length space.capacity ≡ 6 → 1 ≤ length areas → AreRules space.levels space.regions areas → HeadTo file space areas
head_read file space areas limits six some rules =
    let start : WorldReader = opening_place file in
    let sized : WorldReader = (outcome start (FormatLine true)).1 in
    let first : WorldReader = (outcome sized (SpaceLine (bare space))).1 in
    let on_format : IsReached sized = lead_on start (FormatLine true) (opening_reached file) refl in
    let on_space : IsReached first = lead_on sized (SpaceLine (bare space)) on_format (refl, bare_sizes space limits) in
    let ruled = areas_read areas first [] areas rules refl refl on_space refl in
    let part : ruled.next.part ≡ Areas = ruled.part ∙ some_areas areas some in
    let numbers : List ℕ = take space.levels space.capacity in
    let allowed : IsAllowed ruled.next (CapacityLine numbers) = capacity_to space areas ruled.next limits six ruled.leads.reached part ruled.second (ap (λ (w : World). w.space) ruled.world) in
    let last : WorldReader = (outcome ruled.next (CapacityLine numbers)).1 in
    let behind : LeadTo areas ruled.next last (CapacityLine numbers ∷ []) =
    lead_more areas ruled.next last (CapacityLine numbers) [] ruled.leads.reached allowed refl (lead_none areas last (lead_on ruled.next (CapacityLine numbers) ruled.leads.reached allowed)) in
    let lines : List WorldLine = map AreaLine areas ++ CapacityLine numbers ∷ [] in
    record {
      next = last;
      leads = lead_more areas start last (FormatLine true) (SpaceLine space ∷ lines) (opening_reached file) refl refl
          (lead_as areas sized last (SpaceLine space) (SpaceLine (bare space)) lines on_format (refl, bare_sizes space limits) refl
          (lead_append areas first ruled.next last (map AreaLine areas) (CapacityLine numbers ∷ []) ruled.leads behind));
      part = refl;
      kind = ruled.file;
      second = ruled.second;
      rooted = ruled.rooted;
      world = ap (λ (w : World). record w { space = record w.space { capacity = numbers ++ replicate (6 - length numbers) 0 } }) ruled.world
          ∙ ap (λ (c : List ℕ). record { space = record space { capacity = c }; areas = areas; objects = []; roots = replicate space.registers Nil }) (capacity_again space limits six);
    }
  where
    some_areas : (rules : List AreaRule) → 1 ≤ length rules → part_behind FirstArea rules ≡ Areas
    some_areas [] none = absurd (omega arith)
    some_areas (rule ∷ rules) some = refl
