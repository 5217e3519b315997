-- The lines that the fast reader takes.
use Rattle.std.proofs.Common.{◌≡◌, ℕ, suc, ◌+◌, ◌*◌, ◌≤◌, ◌<◌, ◌-◌, List, [], ◌∷◌, ◌++◌, length, take, get_or, Bool, true, false, Option, Some, None, Result, Ok, refl, sym, ap, ◌∙◌, subst, arith, decimal, codes}
use Rattle.std.specs.Prelude.{◌&&◌, nat_lt, if◌then◌else◌, map, IfSome}
use Rattle.std.specs.List.{All, list_all}
use Rattle.std.proofs.lemmas.Bool.Decides.{nat_tests}
use Rattle.std.proofs.lemmas.List.{append-nil, append_assoc, length-append, length-map}
use Rattle.std.proofs.Math.Seq.{get_or-append_right, take-append_seam}
use Rattle.lisp_graph.specs.Effect.{list_from, pair_of}
use Rattle.lisp_graph.specs.declared.object.Value.{Value}
use Rattle.lisp_graph.specs.declared.object.Object.{Object}
use Rattle.world_text.specs.declared.fault.WorldStep.{WorldStep}
use Rattle.world_text.specs.declared.fault.WorldStep.TheVariants.{Next}
use Rattle.world_text.specs.declared.reading.reason.Reason.{Reason}
use Rattle.world_text.specs.declared.reading.reason.Reason.TheVariants.{NoArea}
use Rattle.world_text.specs.declared.reading.reader.Section.TheVariants.{Objects}
use Rattle.world_text.specs.declared.reading.reader.WorldReader.{WorldReader}
use Rattle.world_text.specs.reading.Words.{is_well_formed, is_word}
use Rattle.world_text.specs.reading.Next.{◌>>=◌, a_number, a_value, an_area, found, next}
use Rattle.world_text.specs.reading.Numbers.{area_of}
use Rattle.world_text.specs.reading.Reader.{Said, bad}
use Rattle.world_text.specs.reading.Objects.{added, block_line, block_with, cons_line, run_line}
use Rattle.world_text.specs.reading.Line.{line_at, line_in, object_lines}
use Rattle.world_text.specs.reading.Fast.{AreSpaced, BeginsBlock, BeginsRun, IsLineBeforeFeed, LeadsCons}
use Rattle.world_text.specs.reading.Limits.{IsReached}
use Rattle.world_text.specs.writing.Spelling.{IsWritten, line_of, spaced, value_text}
use Rattle.world_text.proofs.reading_laws.NumberLaws.{decimal_word, numbers}
use Rattle.world_text.proofs.reading_laws.ReadLaws.{all_words, bad_back, each_back, next_reads, step_goes}
use Rattle.world_text.proofs.reading_laws.ObjectLaws.{added_only}
use Rattle.world_text.proofs.reading_laws.PlaceInvariant.{judged_reached}
use Rattle.world_text.proofs.reading_laws.Rows.{line_formed}
use Rattle.world_text.proofs.reading_laws.ValueLaws.{values_spell}

-- Words after a first one, with a space before each

-- the name of an area is read
area_back : (place : WorldReader) (area : ℕ) (name : List ℕ) (rest : List (List ℕ)) (goal : ℕ × List (List ℕ) → Said) → area_of place.world.areas name ≡ Some area
    → (bad (next (an_area place.world.areas) (name ∷ rest)) >>= goal) ≡ goal (area, rest)
area_back place area name rest goal is =
    step_goes (bad (next (an_area place.world.areas) (name ∷ rest))) goal (area, rest)
    (ap {A = Result (ℕ × List (List ℕ)) Reason} bad (next_reads (an_area place.world.areas) name rest area (ap (found NoArea) is)))

-- a line of words after the areas and the capacities
objects_say : (place : WorldReader) (head : List ℕ) (words : List (List ℕ)) → place.part ≡ Objects → list_all is_word (head ∷ words) ≡ true
    → line_at place (line_of (head ∷ words)) ≡ object_lines place head (length words + 1) words
unfolding line_in
objects_say place head words part good =
    let f = line_formed head words good in
    let e : suc (length words) ≡ length words + 1 = omega arith in
    rw (part, f.0, f.1, e) refl

values_good : (values : List Value) → All IsWritten values → list_all is_word (map value_text values) ≡ true
values_good values written = all_words IsWritten value_text values values_spell.words written

-- Conses

cons_words_say : (place : WorldReader) (area : ℕ) (car cdr : Value) (name : List ℕ) → area_of place.world.areas name ≡ Some area → IsWritten car → IsWritten cdr
    → cons_line place 4 (name ∷ value_text car ∷ value_text cdr ∷ []) ≡ added place area 2 (pair_of area car cdr ∷ [])
unfolding cons_line
cons_words_say place area car cdr name is first second =
    area_back place area name (value_text car ∷ value_text cdr ∷ []) _ is
    ∙ bad_back a_value IsWritten value_text car (value_text cdr ∷ []) _ values_spell first
    ∙ bad_back a_value IsWritten value_text cdr [] _ values_spell second

cons_text : (name car cdr : List ℕ) → codes "cons " ++ (name ++ (32 ∷ car ++ 32 ∷ cdr)) ≡ line_of (codes "cons" ∷ name ∷ car ∷ cdr ∷ [])
cons_text name car cdr = simp append-nil

cons_rest : (name car cdr rest : List ℕ) → codes "cons " ++ (name ++ (32 ∷ car ++ (32 ∷ cdr ++ rest))) ≡ codes "cons " ++ (name ++ (32 ∷ car ++ 32 ∷ cdr)) ++ rest
cons_rest name car cdr rest = simp append_assoc

-- a line with which a text begins, and what it means
pub record LineLeads (place : WorldReader) (text rest : List ℕ) (said : Said) : Type 0 where
  pub line : List ℕ
  pub is : text ≡ line ++ rest
  pub formed : is_well_formed line ≡ true
  pub says : line_at place line ≡ said

pub cons_leads : (place : WorldReader) (text : List ℕ) (area : ℕ) (car cdr : Value) (rest : List ℕ) → place.part ≡ Objects → LeadsCons place.world.areas text area car cdr rest
    → LineLeads place text rest (added place area 2 (pair_of area car cdr ∷ []))
unfolding object_lines
cons_leads place text area car cdr rest part s =
    let words : List (List ℕ) = s.name.name ∷ value_text car ∷ value_text cdr ∷ [] in
    let good : list_all is_word (codes "cons" ∷ words) ≡ true = rw (s.name.word, values_spell.words car s.first.1, values_spell.words cdr s.second.1) refl in
    let values : s.values ≡ 32 ∷ value_text car ++ (32 ∷ value_text cdr ++ rest) = s.first.0 ∙ ap (λ last. 32 ∷ value_text car ++ last) s.second.0 in
    let named : s.named ≡ s.name.name ++ (32 ∷ value_text car ++ (32 ∷ value_text cdr ++ rest)) = s.name.is ∙ ap (λ values. s.name.name ++ values) values in
    let whole : text ≡ codes "cons " ++ (s.name.name ++ (32 ∷ value_text car ++ (32 ∷ value_text cdr ++ rest))) = s.head ∙ ap (λ named. codes "cons " ++ named) named in
    let line : List ℕ = line_of (codes "cons" ∷ words) in
    record {
      line = line;
      is = whole ∙ cons_rest s.name.name (value_text car) (value_text cdr) rest ∙ ap (λ front. front ++ rest) (cons_text s.name.name (value_text car) (value_text cdr));
      formed = (line_formed (codes "cons") words good).0;
      says = objects_say place (codes "cons") words part good ∙ cons_words_say place area car cdr s.name.name s.name.found s.first.1 s.second.1;
    }

-- the whole text is the line
pub line_says : (place : WorldReader) (text rest : List ℕ) (said : Said) → LineLeads place text rest said → length rest ≡ 0 → line_at place text ≡ said
line_says place text rest said leads none = ap (line_at place) (leads.is ∙ no_rest leads.line rest none) ∙ leads.says
  where
    no_rest : (line rest : List ℕ) → length rest ≡ 0 → line ++ rest ≡ line
    no_rest line [] none = append-nil line
    no_rest line (byte ∷ bytes) none = absurd (omega arith)

-- a line feed follows the line
pub line_fed : (place : WorldReader) (text rest : List ℕ) (said : Said) → LineLeads place text rest said → 0 < length rest → get_or rest 0 0 ≡ 10 → (size : ℕ) → size + length rest ≡ length text
    → IsLineBeforeFeed text size × (line_at place (take size text) ≡ said)
line_fed place text rest said leads some feed size sized =
    let long : size ≡ length leads.line = omega (arith, sized, ap length leads.is, length-append leads.line rest) in
    let front : take size text ≡ leads.line = ap (λ k. take k text) long ∙ ap (λ bytes. take (length leads.line) bytes) leads.is ∙ take-append_seam leads.line rest in (
      record {
        within = omega (arith, sized, some);
        feed = ap (λ bytes. get_or bytes size 0) leads.is ∙ get_or-append_right leads.line rest size 0 (omega (arith, long)) ∙ ap (λ i. get_or rest i 0) (omega (arith, long)) ∙ feed;
        formed = ap is_well_formed front ∙ leads.formed;
      },
      ap (line_at place) front ∙ leads.says,
    )

-- what objects that were added lead to
added_next : (old new : WorldReader) (area wanted : ℕ) (objects : List Object) (step : WorldStep) → added old area wanted objects ≡ Ok (step, new) → (step ≡ Next) × (new.part ≡ Objects)
added_next old new area wanted objects step is =
    let brings = (added_only old area wanted objects (step, new) is).1 in
    (sym (ap (λ (y : WorldStep × WorldReader). y.0) brings), sym (ap (λ (y : WorldStep × WorldReader). y.1.part) brings))

-- a cons line that a line feed ends, and that was taken
pub cons_fed : (old new : WorldReader) (text : List ℕ) (area : ℕ) (car cdr : Value) (rest : List ℕ) (step : WorldStep) → old.part ≡ Objects → LeadsCons old.world.areas text area car cdr rest → 0 < length rest → get_or rest 0 0 ≡ 10
    → added old area 2 (pair_of area car cdr ∷ []) ≡ Ok (step, new)
    → IsLineBeforeFeed text (length text - length rest) × (line_at old (take (length text - length rest) text) ≡ Ok (Next, new)) × (new.part ≡ Objects)
cons_fed old new text area car cdr rest step part s some feed is =
    let leads = cons_leads old text area car cdr rest part s in
    let fed = line_fed old text rest (added old area 2 (pair_of area car cdr ∷ [])) leads some feed (length text - length rest) (omega (arith, ap length leads.is, length-append leads.line rest)) in
    let next = added_next old new area 2 (pair_of area car cdr ∷ []) step is in
    (fed.0, fed.1 ∙ is ∙ ap (λ (s : WorldStep). Ok (s, new)) next.0, next.1)

pub fed_reached : (old new : WorldReader) (text : List ℕ) (result : Option ℕ) → IsReached old → IfSome result (λ size. line_at old (take size text) ≡ Ok (Next, new)) → (result ≡ None → new ≡ old) → IsReached new
fed_reached old new text (Some size) reached judged same = judged_reached old new (take size text) (Ok Next) reached judged
fed_reached old new text None reached judged same = subst IsReached (sym (same refl)) reached

-- Blocks

block_words_say : (place : WorldReader) (area code : ℕ) (fields : List Value) (name : List ℕ) (count : ℕ) → area_of place.world.areas name ≡ Some area → count ≡ length fields + 3 → code ≤ 65535 → length fields ≤ 2047 → All IsWritten fields
    → block_line place count (name ∷ decimal code ∷ map value_text fields) ≡ added place area (length fields + 1) (block_with area code fields ∷ [])
unfolding block_line
block_words_say place area code fields name count is counted small few written =
    let e : nat_lt 2050 count ≡ false = grind (arith, nat_tests) in
    let f : nat_lt count 3 ≡ false = grind (arith, nat_tests) in
    rw (e, f)
    (area_back place area name (decimal code ∷ map value_text fields) _ is
    ∙ bad_back (a_number 0 65535) (λ n. (0 ≤ n) × (n ≤ 65535)) decimal code (map value_text fields) _ (numbers 0 65535 (omega arith)) (omega arith, small)
    ∙ each_back a_value IsWritten value_text fields _ values_spell written)

block_text : (name code values : List ℕ) (words : List (List ℕ)) → values ≡ spaced words → codes "block " ++ (name ++ (32 ∷ code ++ values)) ≡ line_of (codes "block" ∷ name ∷ code ∷ words)
block_text name code values words is = rw is refl

pub block_says : (place : WorldReader) (line : List ℕ) (area code : ℕ) (values : List ℕ) (fields : List Value) → place.part ≡ Objects → BeginsBlock place.world.areas line area code values → AreSpaced values fields 2047
    → line_at place line ≡ added place area (length fields + 1) (block_with area code fields ∷ [])
unfolding object_lines
block_says place line area code values fields part s v =
    let words : List (List ℕ) = s.name.name ∷ decimal code ∷ map value_text fields in
    let good : list_all is_word (codes "block" ∷ words) ≡ true = rw (s.name.word, decimal_word code (omega (arith, s.small)), values_good fields v.written) refl in
    let named : s.named ≡ s.name.name ++ (32 ∷ decimal code ++ values) = s.name.is ∙ ap (λ rest. s.name.name ++ rest) s.is in
    let whole : line ≡ codes "block " ++ (s.name.name ++ (32 ∷ decimal code ++ values)) = s.head ∙ ap (λ rest. codes "block " ++ rest) named in
    ap (line_at place) (whole ∙ block_text s.name.name (decimal code) values (map value_text fields) v.is) ∙ objects_say place (codes "block") words part good
    ∙ block_words_say place area code fields s.name.name (length words + 1) s.name.found (omega (arith, length-map fields value_text)) s.small v.few v.written

-- Runs

run_words_say : (place : WorldReader) (area : ℕ) (cars : List Value) (name : List ℕ) (count : ℕ) → area_of place.world.areas name ≡ Some area → count ≡ length cars + 2 → 1 ≤ length cars → length cars ≤ 1024 → All IsWritten cars
    → run_line place count (name ∷ map value_text cars) ≡ added place area (3 * length cars) (list_from area (length place.world.objects) cars)
unfolding run_line
run_words_say place area cars name count is counted some few written =
    let e : nat_lt 1026 count ≡ false = grind (arith, nat_tests) in
    let f : nat_lt count 3 ≡ false = grind (arith, nat_tests) in
    rw (e, f) (area_back place area name (map value_text cars) _ is ∙ each_back a_value IsWritten value_text cars _ values_spell written)

run_text : (name values : List ℕ) (words : List (List ℕ)) → values ≡ spaced words → codes "run " ++ (name ++ values) ≡ line_of (codes "run" ∷ name ∷ words)
run_text name values words is = rw is refl

-- no values spell no text
some_values : (text : List ℕ) (values : List Value) → text ≡ spaced (map value_text values) → 1 ≤ length text → 1 ≤ length values
some_values text [] is some = absurd (omega (arith, ap length is))
some_values text (value ∷ values) is some = omega arith

-- a run line is in format 2
second_run : (second : Bool) (one other said : Said) → second ≡ true → one ≡ said → (if second && true then one else other) ≡ said
second_run true one other said is goes = goes
second_run false one other said is goes = absurd (cc (is))

pub run_says : (place : WorldReader) (line : List ℕ) (area : ℕ) (values : List ℕ) (cars : List Value) → place.part ≡ Objects → place.second ≡ true → BeginsRun place.world.areas line area values → AreSpaced values cars 1024
    → line_at place line ≡ added place area (3 * length cars) (list_from area (length place.world.objects) cars)
unfolding object_lines
run_says place line area values cars part second s v =
    let words : List (List ℕ) = s.name.name ∷ map value_text cars in
    let good : list_all is_word (codes "run" ∷ words) ≡ true = rw (s.name.word, values_good cars v.written) refl in
    let whole : line ≡ codes "run " ++ (s.name.name ++ values) = s.head ∙ ap (λ rest. codes "run " ++ rest) s.name.is in
    ap (line_at place) (whole ∙ run_text s.name.name values (map value_text cars) v.is) ∙ objects_say place (codes "run") words part good
    ∙ second_run place.second _ _ _ second (run_words_say place area cars s.name.name (length words + 1) s.name.found (omega (arith, length-map cars value_text)) (some_values values cars v.is s.some) v.few v.written)
