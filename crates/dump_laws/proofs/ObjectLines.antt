-- The object lines of a dump are read.
use Rattle.std.proofs.Common.{◌≡◌, ℕ, zero, suc, ◌+◌, ◌-◌, ◌*◌, ◌<◌, ◌≤◌, List, [], ◌∷◌, ◌++◌, length, take, drop, map, true, refl, ap, sym, ◌∙◌, subst, arith, append_assoc, append-nil, length-append, length-take-le}
use Rattle.std.specs.Prelude.{◌==◌, if◌then◌else◌}
use Rattle.std.specs.List.{All}
use Rattle.std.proofs.lemmas.Bool.Decides.{nat_tests}
use Rattle.std.proofs.lemmas.List.{length-map}
use Rattle.std.proofs.lemmas.List.Elements.{All-head, All-map, All-tail, All-take}
use Rattle.std.proofs.lemmas.List.Sums.{sum_by-append}
use Rattle.trace_text.specs.lisp_graph.Graph.{width}
use Rattle.trace_text.specs.lisp_graph.KeyedGraph.{code_of}
use Rattle.trace_text.specs.lisp_graph.Effect.{cell_of, link, list_from}
use Rattle.trace_text.specs.lisp_graph.declared.object.Value.{Value}
use Rattle.trace_text.specs.lisp_graph.declared.object.Body.{Body}
use Rattle.trace_text.specs.lisp_graph.declared.object.Body.TheVariants.{Cons, Block}
use Rattle.trace_text.specs.lisp_graph.declared.object.Object.{Object}
use Rattle.trace_text.specs.lisp_graph.declared.world.AreaRule.{AreaRule}
use Rattle.trace_text.specs.world_text.declared.reading.reader.WorldReader.{WorldReader}
use Rattle.trace_text.specs.world_text.Objects.{quota_in}
use Rattle.trace_text.specs.world_text.Limits.{IsReached, charged_in}
use Rattle.trace_text.specs.lisp_graph.Groups.{group_size, to_tail}
use Rattle.trace_text.specs.world_text.File.{car_of, line_of_size, object_line, object_lines_of}
use Rattle.trace_text.specs.world_text.Spelling.{IsWritten, WorldLine, RunLine, spelled}
use Rattle.trace_text.specs.world_text.Accepts.{HasQuota, IsAllowed, outcome, takes_object, with_objects}
use Rattle.dump_laws.specs.Loaded.{load_first, loaded_from, own_charge}
use Rattle.dump_laws.proofs.LoadedObjects.{car_in, group_is, loaded_parts, size_is}
use Rattle.dump_laws.proofs.LineSequences.{LeadTo, lead_more, lead_none, lead_on}

-- each part of an object is spelled by a word
abbrev pub PartsWritten : Body → Type 0
PartsWritten (Cons car cdr) = IsWritten car × IsWritten cdr
PartsWritten (Block code fields) = All IsWritten fields

-- an object in one of this many areas that a line can mean
pub record IsSayable (areas : ℕ) (object : Object) : Type 0 where
  pub within : object.area < areas
  pub code : code_of object.body ≤ 65535
  pub wide : width object.body ≤ 2047
  pub written : PartsWritten object.body

-- Charges

pub charged_append : (area : ℕ) (first others : List Object) → charged_in area (first ++ others) ≡ charged_in area first + charged_in area others
charged_append area first others = sum_by-append (λ (object : Object). if object.area == area then object.charge else 0) first others

charged_one : (object : Object) → charged_in object.area (object ∷ []) ≡ object.charge
charged_one object = let e : (object.area == object.area) ≡ true = grind (arith, nat_tests) in rw e (omega arith)

-- the quota that the objects so far leave is enough for these, if it is for these and more
quota_left : (place : WorldReader) (area wanted : ℕ) (new others : List Object) → IsReached place → area < length place.world.areas → wanted ≡ charged_in area new
    → charged_in area (place.world.objects ++ (new ++ others)) ≤ quota_in place.world.areas area → HasQuota place area wanted
quota_left place area wanted new others reached within is fits = record {
  within = within;
  leaves = omega (arith, reached.accounts area (omega (arith, within, reached.limits.areas)), is, fits, charged_append area place.world.objects (new ++ others), charged_append area new others);
}

-- What object lines lead to

-- these lines add these objects, and change nothing else
pub record AddTo (areas : List AreaRule) (place : WorldReader) (lines : List WorldLine) (objects : List Object) : Type 0 where
  pub next : WorldReader
  pub leads : LeadTo areas place next lines
  pub takes : takes_object next.second next.part ≡ true
  pub file : next.file ≡ place.file
  pub second : next.second ≡ place.second
  pub rooted : next.rooted ≡ place.rooted
  pub world : next.world ≡ record place.world { objects = place.world.objects ++ objects }

add_none : (areas : List AreaRule) (place : WorldReader) → IsReached place → takes_object place.second place.part ≡ true → AddTo areas place [] []
add_none areas place reached takes = record {
  next = place;
  leads = lead_none areas place reached;
  takes = takes;
  file = refl;
  second = refl;
  rooted = refl;
  world = ap (λ (objects : List Object). record place.world { objects = objects }) (sym (append-nil place.world.objects));
}

-- the place after an object line
abbrev behind : WorldReader → ℕ → ℕ → List Object → WorldReader
behind place area wanted objects = (with_objects place area wanted objects).1

add_more : (areas : List AreaRule) (place : WorldReader) (area wanted : ℕ) (line : WorldLine) (lines : List WorldLine) (new others : List Object) → IsReached place → areas ≡ place.world.areas
    → IsAllowed place line → (outcome place line).1 ≡ behind place area wanted new → AddTo areas (behind place area wanted new) lines others → AddTo areas place (line ∷ lines) (new ++ others)
add_more areas place area wanted line lines new others reached same allowed brings rest = record {
  next = rest.next;
  leads = lead_more areas place rest.next line lines reached allowed (ap (λ (a : List AreaRule). spelled a line) same) (subst (λ (p : WorldReader). LeadTo areas p rest.next lines) (sym brings) rest.leads);
  takes = rest.takes;
  file = rest.file;
  second = rest.second;
  rooted = rest.rooted;
  world = rest.world ∙ ap (λ (objects : List Object). record place.world { objects = objects }) (append_assoc place.world.objects new others);
}

-- a line of its own
own_allowed : (place : WorldReader) (area charge : ℕ) (body : Body) (others : List Object) → IsReached place → takes_object place.second place.part ≡ true → area < length place.world.areas
    → code_of body ≤ 65535 → width body ≤ 2047 → PartsWritten body
    → charged_in area (place.world.objects ++ (load_first zero (record { area = area; charge = charge; body = body }) ∷ others)) ≤ quota_in place.world.areas area
    → IsAllowed place (object_line area body) × ((outcome place (object_line area body)).1 ≡ behind place area (own_charge body) (load_first zero (record { area = area; charge = charge; body = body }) ∷ []))
own_allowed place area charge (Cons car cdr) others reached takes within code wide written fits =
    let object : Object = load_first zero (record { area = area; charge = charge; body = Cons car cdr }) in
    ((takes, written.0, written.1, quota_left place area 2 (object ∷ []) others reached within (sym (charged_one object)) fits), refl)
own_allowed place area charge (Block size fields) others reached takes within code wide written fits =
    let object : Object = load_first zero (record { area = area; charge = charge; body = Block size fields }) in
    ((takes, code, wide, written, quota_left place area (length fields + 1) (object ∷ []) others reached within (sym (charged_one object)) fits), refl)

-- cars are parts
car_written : (body : Body) → PartsWritten body → IsWritten (car_of body)
car_written (Cons car cdr) written = written.0
car_written (Block code fields) written = tt

pub cars_written : (areas : ℕ) (objects : List Object) → All (IsSayable areas) objects → All IsWritten (map car_in objects)
cars_written areas objects sayable = All-map IsWritten car_in objects (λ index default within. car_written _ (sayable index default within).written)

-- conses of a list are charged 3 words each
list_charged : (area number : ℕ) (cars : List Value) → charged_in area (list_from area number cars) ≡ 3 * length cars
unfolding list_from
list_charged area number [] = refl
list_charged area number (car ∷ cars) =
    omega (arith, charged_append area (cell_of area car (link number cars) ∷ []) (list_from area (suc number) cars), charged_one (cell_of area car (link number cars)), list_charged area (suc number) cars)

-- a group
run_allowed : (place : WorldReader) (areas : ℕ) (area size number : ℕ) (objects others : List Object) → IsReached place → takes_object place.second place.part ≡ true → place.second ≡ true → area < length place.world.areas
    → 1 ≤ size → size ≤ 1024 → size ≤ length objects → length place.world.objects ≡ number → take size objects ≡ list_from area number (map car_in (take size objects))
    → All (IsSayable areas) objects → charged_in area (place.world.objects ++ (take size objects ++ others)) ≤ quota_in place.world.areas area
    → IsAllowed place (RunLine area (map car_in (take size objects)))
    × ((outcome place (RunLine area (map car_in (take size objects)))).1 ≡ behind place area (3 * length (map car_in (take size objects))) (take size objects))
run_allowed place areas area size number objects others reached takes second within some few long here is sayable fits =
    let cars : List Value = map car_in (take size objects) in
    let count : length cars ≡ size = length-map (take size objects) car_in ∙ length-take-le size objects long in
    let charge : 3 * length cars ≡ charged_in area (take size objects) = sym (list_charged area number cars) ∙ ap (charged_in area) (sym is) in (
      (
        takes,
        second,
        omega (arith, count, some),
        omega (arith, count, few),
        cars_written areas (take size objects) (All-take (IsSayable areas) size objects sayable),
        quota_left place area (3 * length cars) (take size objects) others reached within charge fits,
      ),
      ap (λ (n : ℕ). behind place area (3 * length cars) (list_from area n cars)) here ∙ ap (behind place area (3 * length cars)) (sym is),
    )

-- All object lines

-- the quotas are enough for these objects in addition to those of a place
abbrev pub FitQuotas : WorldReader → List Object → Type 0
FitQuotas place objects = (area : ℕ) → area < length place.world.areas → charged_in area (place.world.objects ++ objects) ≤ quota_in place.world.areas area

pub objects_read : (areas : List AreaRule) (place : WorldReader) (skip number : ℕ) (objects : List Object) → IsReached place → areas ≡ place.world.areas → takes_object place.second place.part ≡ true → place.second ≡ true
    → length place.world.objects ≡ number + skip → skip ≤ length objects → All (IsSayable (length areas)) objects → FitQuotas place (drop skip (loaded_from skip number objects))
    → AddTo areas place (object_lines_of skip number objects) (drop skip (loaded_from skip number objects))
objects_read areas place zero number [] reached same takes second here long sayable fits = add_none areas place reached takes
objects_read areas place (suc skip) number [] reached same takes second here long sayable fits = absurd (omega arith)
objects_read areas place (suc skip) number (object ∷ objects) reached same takes second here long sayable fits =
    objects_read areas place skip (number + 1) objects reached same takes second (omega (arith, here)) (omega arith) (All-tail (IsSayable (length areas)) object objects sayable) fits
objects_read areas place zero number (object ∷ objects) reached same takes second here long sayable fits =
    of_size (group_size (to_tail object.area number (object ∷ objects))) refl fits
    (λ next skip. objects_read areas next skip (number + 1) objects)
  where
    of_size : (size : ℕ) → group_size (to_tail object.area number (object ∷ objects)) ≡ size → FitQuotas place (load_first size object ∷ loaded_from (size - 1) (number + 1) objects)
        → ((next : WorldReader) (skip : ℕ) → IsReached next → areas ≡ next.world.areas → takes_object next.second next.part ≡ true → next.second ≡ true
        → length next.world.objects ≡ (number + 1) + skip → skip ≤ length objects → All (IsSayable (length areas)) objects → FitQuotas next (drop skip (loaded_from skip (number + 1) objects))
        → AddTo areas next (object_lines_of skip (number + 1) objects) (drop skip (loaded_from skip (number + 1) objects)))
        → AddTo areas place (line_of_size size object objects ∷ object_lines_of (size - 1) (number + 1) objects) (load_first size object ∷ loaded_from (size - 1) (number + 1) objects)
    of_size zero is fit more =
        let rest : List Object = loaded_from 0 (number + 1) objects in
        let one = All-head (IsSayable (length areas)) object objects sayable in
        let within : object.area < length place.world.areas = omega (arith, one.within, ap length same) in
        let may = own_allowed place object.area object.charge object.body rest reached takes within one.code one.wide one.written (fit object.area within) in
        let next : WorldReader = behind place object.area (own_charge object.body) (load_first zero object ∷ []) in
        let on : IsReached next = subst IsReached may.1 (lead_on place (object_line object.area object.body) reached may.0) in
        add_more areas place object.area (own_charge object.body) (object_line object.area object.body) (object_lines_of 0 (number + 1) objects) (load_first zero object ∷ []) rest reached same may.0 may.1
        (more next 0 on same refl second (omega (arith, here, length-append place.world.objects (load_first zero object ∷ []))) (omega arith) (All-tail (IsSayable (length areas)) object objects sayable)
        (λ area inside. subst (λ (l : List Object). charged_in area l ≤ quota_in place.world.areas area) (sym (append_assoc place.world.objects (load_first zero object ∷ []) rest)) (fit area inside)))
    of_size (suc left) is fit more =
        let less : suc left - 1 ≡ left = omega arith in
        let found = size_is (to_tail object.area number (object ∷ objects)) left is in
        let group = group_is object.area number (object ∷ objects) (suc left) found.0 in
        let new : List Object = take (suc left) (object ∷ objects) in
        let rest : List Object = drop left (loaded_from left (number + 1) objects) in
        let whole : object ∷ loaded_from left (number + 1) objects ≡ new ++ rest = ap (λ (l : List Object). object ∷ l) (loaded_parts left (number + 1) objects) in
        let fit_now : FitQuotas place (new ++ rest) = subst (FitQuotas place) whole (subst (λ (n : ℕ). FitQuotas place (object ∷ loaded_from n (number + 1) objects)) less fit) in
        let one = All-head (IsSayable (length areas)) object objects sayable in
        let within : object.area < length place.world.areas = omega (arith, one.within, ap length same) in
        let line : WorldLine = RunLine object.area (map car_in new) in
        let charge : ℕ = 3 * length (map car_in new) in
        let may = run_allowed place (length areas) object.area (suc left) number (object ∷ objects) rest reached takes second within group.some found.1 group.within (omega (arith, here)) group.is sayable (fit_now object.area within) in
        let next : WorldReader = behind place object.area charge new in
        let on : IsReached next = subst IsReached may.1 (lead_on place line reached may.0) in
        let size : length new ≡ suc left = length-take-le (suc left) (object ∷ objects) group.within in
        let after : AddTo areas next (object_lines_of left (number + 1) objects) rest =
        more next left on same refl second (omega (arith, here, size, length-append place.world.objects new)) (omega (arith, group.within)) (All-tail (IsSayable (length areas)) object objects sayable)
        (λ area inside. subst (λ (l : List Object). charged_in area l ≤ quota_in place.world.areas area) (sym (append_assoc place.world.objects new rest)) (fit_now area inside)) in
        let all = add_more areas place object.area charge line (object_lines_of left (number + 1) objects) new rest reached same may.0 may.1 after in
        rw less (subst (AddTo areas place (line ∷ object_lines_of left (number + 1) objects)) (sym whole) all)
