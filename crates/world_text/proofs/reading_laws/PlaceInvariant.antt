-- What is known of a place remains true after an accepted line.
use Rattle.std.proofs.Common.{◌≡◌, IfOk, ℕ, zero, suc, ◌+◌, ◌-◌, ◌*◌, ◌<◌, ◌≤◌, List, [], ◌∷◌, ◌++◌, length, Bool, true, false, Result, Ok, Err, inl, inr, refl, ap, sym, ◌∙◌, arith, subst, length-append, length-set}
use Rattle.std.specs.Prelude.{◌==◌, if◌then◌else◌, replicate, slice_index, slice_set}
use Rattle.std.specs.List.{All}
use Rattle.std.proofs.lemmas.Bool.Decides.{nat_tests}
use Rattle.std.proofs.lemmas.Grind.{common_steps}
use Rattle.std.proofs.lemmas.List.{length-replicate, get_or-set_same}
use Rattle.std.proofs.lemmas.List.Elements.{All-append, All-cons, All-nil, All-push, All-replicate, All-set, All-weaker}
use Rattle.std.proofs.lemmas.List.Sums.{sum_by-append, sum_by_push}
use Rattle.store_word.specs.declared.space.Space.{Space}
use Rattle.lisp_graph.specs.Graph.{IsObject, PartsReferBelow, RefersBelow, width}
use Rattle.lisp_graph.specs.World.{IsCharge, IsSpace}
use Rattle.lisp_graph.specs.declared.object.Value.{Value}
use Rattle.lisp_graph.specs.declared.object.Value.TheVariants.{Fix, Nil, Ref}
use Rattle.lisp_graph.specs.declared.object.Object.{Object}
use Rattle.lisp_graph.specs.declared.world.AreaRule.{AreaRule}
use Rattle.world_text.specs.declared.fault.WorldStep.{WorldStep}
use Rattle.world_text.specs.declared.fault.WorldStep.TheVariants.{TraceBegins, WorldEnds}
use Rattle.world_text.specs.declared.reading.reader.Section.{Section}
use Rattle.world_text.specs.declared.reading.reader.Section.TheVariants.{Opening, Sizing, FirstArea, Areas, Objects, Roots, Closed}
use Rattle.world_text.specs.declared.reading.reader.WorldReader.{WorldReader}
use Rattle.world_text.specs.declared.fault.WorldFault.{WorldFault}
use Rattle.world_text.specs.reading.Reader.{Judged, is_closed, opening_place, step_to}
use Rattle.world_text.specs.reading.Line.{line_at}
use Rattle.world_text.specs.reading.Header.{rule_room}
use Rattle.lisp_graph.specs.Effect.{cell_of, link, list_from, pair_of}
use Rattle.world_text.specs.reading.Objects.{block_with, charged_of, quota_of}
use Rattle.world_text.specs.writing.Spelling.{WorldLine, FormatLine, SpaceLine, AreaLine, CapacityLine, ConsLine, BlockLine, RunLine, RootLine, ClosingLine}
use Rattle.world_text.specs.reading.Limits.{AllRefer, IsAccepted, IsPlaced, IsReached, charged_in, has_areas, has_objects, has_roots, has_space}
use Rattle.world_text.specs.reading.Accepts.{AreSizes, HasQuota, IsAllowed, IsNewArea, MayClose, outcome, takes_area, takes_object, takes_root, with_objects}
use Rattle.world_text.proofs.reading_laws.LineLaws.{Known, accepted_only}
use Rattle.world_text.proofs.reading_laws.AreaLaws.{named_push}

zeros_get : (n i : ℕ) → slice_index (replicate n 0) i ≡ 0
zeros_get zero i = refl
zeros_get (suc n) zero = refl
zeros_get (suc n) (suc i) = zeros_get n i

-- The first line

format_keeps : (place : WorldReader) (second : Bool) → IsReached place → place.part ≡ Opening → IsReached (record place { part = Sizing; second = second })
format_keeps place second old part = record {
  limits = record { areas = old.limits.areas; registers = old.limits.registers; levels = old.limits.levels; roots = old.limits.roots };
  space = λ has. absurd (cc (has));
  capacities = old.capacities;
  some = λ has. absurd (cc (has));
  none = λ has. old.none (ap has_areas part);
  room = old.room;
  quotas = old.quotas;
  named = old.named;
  slots = old.slots;
  bare = λ has. old.bare (ap has_objects part);
  accounts = old.accounts;
  leaves = old.leaves;
  objects = old.objects;
  roots = old.roots;
  refer = λ has. absurd (cc (has));
}

-- The space

sizes_space : (space : Space) → AreSizes space → IsSpace space
sizes_space space sizes = record {
  regions = sizes.regions;
  frames = sizes.frames;
  registers = sizes.registers;
  levels = sizes.levels;
  rate = sizes.rate;
  capacities = rw sizes.capacity (All-replicate (λ capacity. capacity ≤ 16777216) 6 0 (omega arith));
  none_above = λ index above. rw sizes.capacity (zeros_get 6 index);
}

space_keeps : (place : WorldReader) (space : Space) → IsReached place → (place.part ≡ Sizing) × AreSizes space → IsReached (outcome place (SpaceLine space)).1
space_keeps place space old may = record {
  limits = record { areas = old.limits.areas; registers = may.1.registers.1; levels = may.1.levels.1; roots = length-replicate space.registers Nil };
  space = λ has. sizes_space space may.1;
  capacities = ap length may.1.capacity;
  some = λ has. absurd (cc (has));
  none = λ has. old.none (ap has_areas may.0);
  room = rw (old.none (ap has_areas may.0)) (omega arith);
  quotas = old.quotas;
  named = old.named;
  slots = old.slots;
  bare = λ has. old.bare (ap has_objects may.0);
  accounts = old.accounts;
  leaves = old.leaves;
  objects = old.objects;
  roots = All-replicate (RefersBelow (length place.world.objects)) space.registers Nil tt;
  refer = λ has. absurd (cc (has));
}

-- Areas

area_part : (part : Section) → takes_area part ≡ true → (has_space part ≡ true) × (has_objects part ≡ false)
area_part Opening takes = absurd (cc (takes))
area_part Sizing takes = absurd (cc (takes))
area_part FirstArea takes = (refl, refl)
area_part Areas takes = (refl, refl)
area_part Objects takes = absurd (cc (takes))
area_part Roots takes = absurd (cc (takes))
area_part Closed takes = absurd (cc (takes))

no_charge : (place : WorldReader) (area : ℕ) → place.charged ≡ replicate 16 0 → charged_of place area ≡ 0
no_charge place area bare = ap (λ charged. slice_index charged area) bare ∙ zeros_get 16 area

area_keeps : (place : WorldReader) (rule : AreaRule) → IsReached place → (takes_area place.part ≡ true) × IsNewArea place rule → IsReached (outcome place (AreaLine rule)).1
area_keeps place rule old may =
    let part = area_part place.part may.0 in
    let new = may.1 in
    let bare = old.bare part.1 in
    let more : length (place.world.areas ++ rule ∷ []) ≡ length place.world.areas + 1 = length-append place.world.areas (rule ∷ []) in
    record {
      limits = record { areas = omega (arith, more, new.few); registers = old.limits.registers; levels = old.limits.levels; roots = old.limits.roots };
      space = λ has. old.space part.0;
      capacities = old.capacities;
      some = λ has. omega (arith, more);
      none = λ has. absurd (cc (has));
      room = omega (arith, new.fits, sum_by_push (λ (one : AreaRule). rule_room place.world.space.levels one.quota) place.world.areas rule);
      quotas = All-push (λ (one : AreaRule). one.quota ≤ 1048576) place.world.areas rule old.quotas new.quota;
      named = named_push place.world.areas rule old.named new.name new.fresh;
      slots = old.slots;
      bare = λ has. bare;
      accounts = old.accounts;
      leaves = λ area within. omega (arith, no_charge place area bare.1);
      objects = rw bare.0 (All-nil (IsPlaced (length (place.world.areas ++ rule ∷ []))));
      roots = old.roots;
      refer = λ has. absurd (cc (has));
    }

-- Capacities

capacity_zeros : (numbers : List ℕ) (index : ℕ) → length numbers ≤ index → slice_index (numbers ++ replicate (6 - length numbers) 0) index ≡ 0
capacity_zeros numbers index above = behind numbers (6 - length numbers) index above
  where
    behind : (numbers : List ℕ) (left index : ℕ) → length numbers ≤ index → slice_index (numbers ++ replicate left 0) index ≡ 0
    behind [] left index above = zeros_get left index
    behind (number ∷ numbers) left zero above = absurd (omega arith)
    behind (number ∷ numbers) left (suc index) above = behind numbers left index (omega arith)

capacity_long : (numbers : List ℕ) → length numbers ≤ 6 → length (numbers ++ replicate (6 - length numbers) 0) ≡ 6
capacity_long numbers few = omega (arith, length-append numbers (replicate (6 - length numbers) 0), length-replicate {A = ℕ} (6 - length numbers) 0)

capacity_keeps : (place : WorldReader) (numbers : List ℕ) → IsReached place → IsAllowed place (CapacityLine numbers) → IsReached (outcome place (CapacityLine numbers)).1
capacity_keeps place numbers old may =
    let space = old.space (ap has_space may.0) in
    let bare = old.bare (ap has_objects may.0) in
    record {
      limits = record { areas = old.limits.areas; registers = old.limits.registers; levels = old.limits.levels; roots = old.limits.roots };
      space = λ has. record {
        regions = space.regions;
        frames = space.frames;
        registers = space.registers;
        levels = space.levels;
        rate = space.rate;
        capacities = All-append (λ capacity. capacity ≤ 16777216) numbers (replicate (6 - length numbers) 0) may.3 (All-replicate (λ capacity. capacity ≤ 16777216) (6 - length numbers) 0 (omega arith));
        none_above = λ index above. capacity_zeros numbers index (omega (arith, may.2, above));
      };
      capacities = capacity_long numbers (omega (arith, may.2, space.levels.1));
      some = λ has. old.some (ap has_areas may.0);
      none = λ has. absurd (cc (has));
      room = old.room;
      quotas = old.quotas;
      named = old.named;
      slots = old.slots;
      bare = λ has. bare;
      accounts = old.accounts;
      leaves = old.leaves;
      objects = old.objects;
      roots = old.roots;
      refer = λ has. absurd (cc (has));
    }

-- Objects

refers_more : (count more : ℕ) (value : Value) → RefersBelow count value → RefersBelow (count + more) value
refers_more count more (Fix number) below = tt
refers_more count more Nil below = tt
refers_more count more (Ref name) below = omega arith

object_part : (second : Bool) (part : Section) → takes_object second part ≡ true → (has_space part ≡ true) × (has_areas part ≡ true)
object_part second Opening takes = absurd (cc (takes))
object_part second Sizing takes = absurd (cc (takes))
object_part second FirstArea takes = absurd (cc (takes))
object_part second Areas takes = (refl, refl)
object_part second Objects takes = (refl, refl)
object_part second Roots takes = absurd (cc (takes))
object_part second Closed takes = absurd (cc (takes))

-- objects of an area that have this charge together
pub record AreNew (areas area wanted : ℕ) (objects : List Object) : Type 0 where
  pub placed : All (IsPlaced areas) objects
  pub here : charged_in area objects ≡ wanted
  pub elsewhere : (other : ℕ) → (area == other) ≡ false → charged_in other objects ≡ 0

set_other : (charged : List ℕ) (area other charge : ℕ) → (area == other) ≡ false → slice_index (slice_set charged area charge) other ≡ slice_index charged other
set_other charged area other charge differs = grind (arith, nat_tests, common_steps)

set_here : (charged : List ℕ) (area charge : ℕ) → area < length charged → slice_index (slice_set charged area charge) area ≡ charge
set_here charged area charge within = get_or-set_same charged area charge 0 within

abbrev counted_in : ℕ → Object → ℕ
counted_in area object = if object.area == area then object.charge else 0

charge_here : (place : WorldReader) (area wanted : ℕ) (objects : List Object) → IsReached place → area < length place.world.areas → charged_in area objects ≡ wanted
    → slice_index (slice_set place.charged area (charged_of place area + wanted)) area ≡ charged_in area (place.world.objects ++ objects)
charge_here place area wanted objects old within here =
    let slot : area < length place.charged = omega (arith, old.slots, old.limits.areas) in
    let all = sum_by-append (counted_in area) place.world.objects objects in
    let first = old.accounts area (omega (arith, old.limits.areas)) in
    set_here place.charged area (charged_of place area + wanted) slot ∙ omega (arith, all, first, here)

charge_elsewhere : (place : WorldReader) (area wanted other : ℕ) (objects : List Object) → IsReached place → other < 16 → (area == other) ≡ false → charged_in other objects ≡ 0
    → slice_index (slice_set place.charged area (charged_of place area + wanted)) other ≡ charged_in other (place.world.objects ++ objects)
charge_elsewhere place area wanted other objects old within differs none =
    let all = sum_by-append (counted_in other) place.world.objects objects in
    let first = old.accounts other within in
    set_other place.charged area other (charged_of place area + wanted) differs ∙ omega (arith, all, first, none)

same_area : (area other : ℕ) → (area == other) ≡ true → area ≡ other
same_area area other same = grind (arith, nat_tests)

account_at : (place : WorldReader) (area wanted : ℕ) (objects : List Object) → IsReached place → HasQuota place area wanted → AreNew (length place.world.areas) area wanted objects
    → (other : ℕ) → other < 16 → (b : Bool) → (area == other) ≡ b → slice_index (slice_set place.charged area (charged_of place area + wanted)) other ≡ charged_in other (place.world.objects ++ objects)
account_at place area wanted objects old quota new other within true same =
    let P : ℕ → Type 0 = λ n. slice_index (slice_set place.charged area (charged_of place area + wanted)) n ≡ charged_in n (place.world.objects ++ objects) in
    subst P (same_area area other same) (charge_here place area wanted objects old quota.within new.here)
account_at place area wanted objects old quota new other within false differs =
    charge_elsewhere place area wanted other objects old within differs (new.elsewhere other differs)

leave_at : (place : WorldReader) (area wanted : ℕ) → IsReached place → HasQuota place area wanted
    → (other : ℕ) → other < length place.world.areas → (b : Bool) → (area == other) ≡ b → slice_index (slice_set place.charged area (charged_of place area + wanted)) other ≤ quota_of place other
leave_at place area wanted old quota other within true same =
    let P : ℕ → Type 0 = λ n. slice_index (slice_set place.charged area (charged_of place area + wanted)) n ≤ quota_of place n in
    let slot : area < length place.charged = let few = quota.within in omega (arith, old.slots, old.limits.areas) in
    subst P (same_area area other same) (omega (arith, set_here place.charged area (charged_of place area + wanted) slot, quota.leaves))
leave_at place area wanted old quota other within false differs =
    omega (arith, set_other place.charged area other (charged_of place area + wanted) differs, old.leaves other within)

objects_keep : (place : WorldReader) (area wanted : ℕ) (objects : List Object) → IsReached place → takes_object place.second place.part ≡ true → HasQuota place area wanted
    → AreNew (length place.world.areas) area wanted objects → IsReached (with_objects place area wanted objects).1
objects_keep place area wanted objects old takes quota new =
    let part = object_part place.second place.part takes in
    let charge : ℕ = charged_of place area + wanted in
    let more : length (place.world.objects ++ objects) ≡ length place.world.objects + length objects = length-append place.world.objects objects in
    record {
      limits = record { areas = old.limits.areas; registers = old.limits.registers; levels = old.limits.levels; roots = old.limits.roots };
      space = λ has. old.space part.0;
      capacities = old.capacities;
      some = λ has. old.some part.1;
      none = λ has. absurd (cc (has));
      room = old.room;
      quotas = old.quotas;
      named = old.named;
      slots = length-set place.charged area charge ∙ old.slots;
      bare = λ has. absurd (cc (has));
      accounts = λ other within. account_at place area wanted objects old quota new other within (area == other) refl;
      leaves = λ other within. leave_at place area wanted old quota other within (area == other) refl;
      objects = All-append (IsPlaced (length place.world.areas)) place.world.objects objects old.objects new.placed;
      roots = rw more (All-weaker (RefersBelow (length place.world.objects)) (RefersBelow (length place.world.objects + length objects)) (refers_more (length place.world.objects) (length objects)) place.world.roots old.roots);
      refer = λ has. absurd (cc (has));
    }

-- each kind of object line

charge_same : (area : ℕ) (object : Object) → object.area ≡ area → charged_in area (object ∷ []) ≡ object.charge
charge_same area object is = let e : (object.area == area) ≡ true = grind (arith, nat_tests) in rw e (omega arith)

charge_other : (area other : ℕ) (object : Object) → object.area ≡ area → (area == other) ≡ false → charged_in other (object ∷ []) ≡ 0
charge_other area other object is differs = let e : (object.area == other) ≡ false = grind (arith, nat_tests) in rw e (omega arith)

one_new : (areas area : ℕ) (object : Object) → area < areas → object.area ≡ area → IsCharge object.body object.charge → width object.body ≤ 2047 → AreNew areas area object.charge (object ∷ [])
one_new areas area object within is charge wide = record {
  placed = All-cons (IsPlaced areas) object [] (record { within = omega (arith, is); charge = charge; wide = wide }) (All-nil (IsPlaced areas));
  here = charge_same area object is;
  elsewhere = λ other differs. charge_other area other object is differs;
}

run_new : (areas area number : ℕ) (cars : List Value) → area < areas → AreNew areas area (3 * length cars) (list_from area number cars)
unfolding list_from
run_new areas area number [] within = record {
  placed = All-nil (IsPlaced areas);
  here = refl;
  elsewhere = λ other differs. refl;
}
run_new areas area number (car ∷ cars) within =
    let first : Object = cell_of area car (link number cars) in
    let rest : List Object = list_from area (suc number) cars in
    let one = one_new areas area first within refl (inr refl) (omega arith) in
    let more = run_new areas area (suc number) cars within in
    record {
      placed = All-append (IsPlaced areas) (first ∷ []) rest one.placed more.placed;
      here = omega (arith, sum_by-append (counted_in area) (first ∷ []) rest, one.here, more.here);
      elsewhere = λ other differs. omega (arith, sum_by-append (counted_in other) (first ∷ []) rest, one.elsewhere other differs, more.elsewhere other differs);
    }

-- The last lines

root_part : (second : Bool) (part : Section) → takes_root second part ≡ true → (has_space part ≡ true) × (has_areas part ≡ true)
root_part second Opening takes = absurd (cc (takes))
root_part second Sizing takes = absurd (cc (takes))
root_part second FirstArea takes = absurd (cc (takes))
root_part second Areas takes = (refl, refl)
root_part second Objects takes = (refl, refl)
root_part second Roots takes = (refl, refl)
root_part second Closed takes = absurd (cc (takes))

all_refer : (place : WorldReader) → IsReached place → MayClose place → AllRefer place.world.objects
all_refer place old may = elim may.refer [ inl roots ↦ old.refer (ap has_roots roots) | inr refer ↦ refer ]

last_keeps : (place : WorldReader) (part : Section) (roots : List Value) (rooted : List Bool) → has_areas part ≡ true → has_objects part ≡ true → length roots ≡ length place.world.roots → All (RefersBelow (length place.world.objects)) roots
    → IsReached place → MayClose place → IsReached (record place { part = part; world = record place.world { roots = roots }; rooted = rooted })
last_keeps place part roots rooted areas objects size refer old may =
    let known = root_part place.second place.part may.part in
    record {
      limits = record { areas = old.limits.areas; registers = old.limits.registers; levels = old.limits.levels; roots = size ∙ old.limits.roots };
      space = λ has. old.space known.0;
      capacities = old.capacities;
      some = λ has. old.some known.1;
      none = λ has. absurd (cc (areas, has));
      room = old.room;
      quotas = old.quotas;
      named = old.named;
      slots = old.slots;
      bare = λ has. absurd (cc (objects, has));
      accounts = old.accounts;
      leaves = old.leaves;
      objects = old.objects;
      roots = refer;
      refer = λ has. all_refer place old may;
    }

root_keeps : (place : WorldReader) (register : ℕ) (value : Value) → IsReached place → IsAllowed place (RootLine register value) → IsReached (outcome place (RootLine register value)).1
root_keeps place register value old may =
    let refer = All-set (RefersBelow (length place.world.objects)) place.world.roots register value may.1.refers old.roots in
    last_keeps place Roots (slice_set place.world.roots register value) (slice_set place.rooted register true) refl refl (length-set place.world.roots register value) refer old may.0

closing_keeps : (place : WorldReader) (file : Bool) → IsReached place → IsAllowed place (ClosingLine file) → IsReached (outcome place (ClosingLine file)).1
closing_keeps place file old may = last_keeps place Closed place.world.roots place.rooted refl refl refl old.roots old may.0

-- All lines

pub line_keeps : (place : WorldReader) (line : WorldLine) → IsReached place → IsAllowed place line → IsReached (outcome place line).1
line_keeps place (FormatLine second) old may = format_keeps place second old may
line_keeps place (SpaceLine space) old may = space_keeps place space old may
line_keeps place (AreaLine rule) old may = area_keeps place rule old may
line_keeps place (CapacityLine numbers) old may = capacity_keeps place numbers old may
line_keeps place (ConsLine area car cdr) old may =
    objects_keep place area 2 (pair_of area car cdr ∷ []) old may.0 may.3 (one_new (length place.world.areas) area (pair_of area car cdr) may.3.within refl (inl refl) (omega arith))
line_keeps place (BlockLine area code fields) old may =
    objects_keep place area (length fields + 1) (block_with area code fields ∷ []) old may.0 may.4 (one_new (length place.world.areas) area (block_with area code fields) may.4.within refl (omega arith) may.2)
line_keeps place (RunLine area cars) old may =
    objects_keep place area (3 * length cars) (list_from area (length place.world.objects) cars) old may.0 may.5 (run_new (length place.world.areas) area (length place.world.objects) cars may.5.within)
line_keeps place (RootLine register value) old may = root_keeps place register value old may
line_keeps place (ClosingLine file) old may = closing_keeps place file old may

-- before the first line
pub opening_reached : (file : Bool) → IsReached (opening_place file)
opening_reached file = record {
  limits = record { areas = omega arith; registers = omega arith; levels = omega arith; roots = refl };
  space = λ has. absurd (cc (has));
  capacities = refl;
  some = λ has. absurd (cc (has));
  none = λ has. refl;
  room = omega arith;
  quotas = All-nil (λ (rule : AreaRule). rule.quota ≤ 1048576);
  named = record { names = λ area within. absurd (omega arith); found = λ area within. absurd (omega arith) };
  slots = refl;
  bare = λ has. (refl, refl);
  accounts = λ area within. zeros_get 16 area;
  leaves = λ area within. absurd (omega arith);
  objects = All-nil (IsPlaced 0);
  roots = All-nil (RefersBelow 0);
  refer = λ has. absurd (cc (has));
}

pub known_at : (place : WorldReader) → IsReached place → Known place
known_at place reached = record { named = reached.named; few = reached.limits.registers }

-- what a line did to a place
pub judged_reached : (old new : WorldReader) (text : List ℕ) (result : Result WorldStep WorldFault) → IsReached old → Judged old new result (line_at old text) → IsReached new
judged_reached old new text (Ok step) reached judged =
    let says = accepted_only old text step new (known_at old reached) judged in
    let P : WorldStep × WorldReader → Type 0 = λ y. IsReached y.1 in
    subst P says.brings (line_keeps old says.line reached says.allowed)
judged_reached old new text (Err fault) reached judged = subst IsReached (sym judged.0) reached

-- each line causes what follows from the place after it
step_of : (place : WorldReader) (line : WorldLine) → IsAllowed place line → (outcome place line).0 ≡ step_to (outcome place line).1
step_of place (FormatLine second) may = refl
step_of place (SpaceLine space) may = refl
step_of place (AreaLine rule) may = refl
step_of place (CapacityLine numbers) may = refl
step_of place (ConsLine area car cdr) may = refl
step_of place (BlockLine area code fields) may = refl
step_of place (RunLine area cars) may = refl
step_of place (RootLine register value) may = refl
step_of place (ClosingLine file) may = ap (λ b. if b then WorldEnds else TraceBegins) (sym may.1)

pub judged_step : (old new : WorldReader) (text : List ℕ) (result : Result WorldStep WorldFault) → IsReached old → Judged old new result (line_at old text) → IfOk result (λ step. step ≡ step_to new)
judged_step old new text (Err fault) reached judged = tt
judged_step old new text (Ok step) reached judged =
    let says = accepted_only old text step new (known_at old reached) judged in
    let P : WorldStep × WorldReader → Type 0 = λ y. y.0 ≡ step_to y.1 in
    subst P says.brings (step_of old says.line says.allowed)

closed_part : (part : Section) → is_closed part ≡ true → (has_space part ≡ true) × (has_areas part ≡ true) × (has_roots part ≡ true)
closed_part Opening closed = absurd (cc (closed))
closed_part Sizing closed = absurd (cc (closed))
closed_part FirstArea closed = absurd (cc (closed))
closed_part Areas closed = absurd (cc (closed))
closed_part Objects closed = absurd (cc (closed))
closed_part Roots closed = absurd (cc (closed))
closed_part Closed closed = (refl, refl, refl)

all_objects : (areas count : ℕ) (objects : List Object) → All (IsPlaced areas) objects → All (λ object. PartsReferBelow count object.body) objects → All (IsObject count) objects
all_objects areas count objects placed refer = λ k d within. record { refers = refer k d within; wide = (placed k d within).wide }

-- the world after the line that closes it
pub accepted_world : (place : WorldReader) → IsReached place → is_closed place.part ≡ true → IsAccepted place.world
accepted_world place reached closed =
    let part = closed_part place.part closed in
    record {
      limits = record {
        space = reached.space part.0;
        areas = record { count = (reached.some part.1, reached.limits.areas); quotas = reached.quotas };
        roots = reached.limits.roots;
        graph = record { registers = reached.roots; objects = all_objects (length place.world.areas) (length place.world.objects) place.world.objects reached.objects (reached.refer part.2) };
        placed = All-weaker (IsPlaced (length place.world.areas)) (λ (object : Object). object.area < length place.world.areas) (λ object one. one.within) place.world.objects reached.objects;
        charged = All-weaker (IsPlaced (length place.world.areas)) (λ (object : Object). IsCharge object.body object.charge) (λ object one. one.charge) place.world.objects reached.objects;
      };
      capacities = reached.capacities;
      named = reached.named;
      room = reached.room;
      quotas = λ area within. omega (arith, reached.accounts area (omega (arith, reached.limits.areas)), reached.leaves area within);
    }
