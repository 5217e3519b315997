-- The object lines, and what they mean.
use Rattle.std.proofs.Common.{◌≡◌, ℕ, ◌+◌, ◌*◌, ◌<◌, ◌≤◌, List, [], ◌∷◌, ◌++◌, length, false, Ok, refl, ap, ◌∙◌, arith, decimal}
use Rattle.std.proofs.lemmas.List.{length-map}
use Rattle.std.specs.Prelude.{◌==◌, nat_lt, map, slice_set}
use Rattle.std.specs.List.{All}
use Rattle.std.proofs.lemmas.Bool.Decides.{nat_tests}
use Rattle.lisp_graph.specs.declared.object.Value.{Value}
use Rattle.lisp_graph.specs.declared.object.Object.{Object}
use Rattle.world_text.specs.declared.fault.WorldStep.{WorldStep}
use Rattle.world_text.specs.declared.fault.WorldStep.TheVariants.{Next}
use Rattle.world_text.specs.declared.fault.WorldFault.TheVariants.{Bad, Exhausted}
use Rattle.world_text.specs.declared.reading.reason.Reason.TheVariants.{TooManyFields, TooManyItems, WrongCount}
use Rattle.world_text.specs.declared.reading.reader.Section.TheVariants.{Objects}
use Rattle.world_text.specs.declared.reading.reader.WorldReader.{WorldReader}
use Rattle.world_text.specs.reading.Next.{a_number, a_value, an_area}
use Rattle.lisp_graph.specs.Effect.{list_from, pair_of}
use Rattle.world_text.specs.reading.Objects.{added, block_line, block_with, charge_with, charged_of, cons_line, quota_of, run_line}
use Rattle.world_text.specs.writing.Spelling.{IsWritten, name_of, value_text}
use Rattle.world_text.specs.reading.Limits.{AreNamed}
use Rattle.world_text.specs.reading.Accepts.{HasQuota, with_objects}
use Rattle.world_text.proofs.reading_laws.ValueLaws.{areas_spell, values_spell}
use Rattle.world_text.proofs.reading_laws.NumberLaws.{numbers}
use Rattle.world_text.proofs.reading_laws.ReadLaws.{also, bad_back, each_back, each_bad, eq_number, guard_not, guard_ok, step_parts, take_bad}

-- objects are added if and only if the quota allows their charge
abbrev charged_to : WorldReader → ℕ → List Object → ℕ → WorldStep × WorldReader
charged_to place area objects charge = (Next, record place { part = Objects; charged = slice_set place.charged area charge; world = record place.world { objects = place.world.objects ++ objects } })

pub added_only : (place : WorldReader) (area wanted : ℕ) (objects : List Object) (y : WorldStep × WorldReader) → added place area wanted objects ≡ Ok y
    → (charged_of place area + wanted ≤ quota_of place area) × (with_objects place area wanted objects ≡ y)
unfolding added charge_with
added_only place area wanted objects y is =
    let p = step_parts (charge_with place area wanted) (λ charged. Ok (charged_to place area objects charged)) y is in
    let g = guard_not (nat_lt (quota_of place area) (charged_of place area + wanted)) (Ok (charged_of place area + wanted)) (Exhausted area (charged_of place area) wanted (quota_of place area)) p.0 p.1 in
    let e : charged_of place area + wanted ≡ p.0 = let f = g.1 in cc in
    let leaves : charged_of place area + wanted ≤ quota_of place area = grind (arith, nat_tests, g.0) in
    let last : charged_to place area objects p.0 ≡ y = let f = p.2 in cc in
    (leaves, ◌∙◌ {b = charged_to place area objects p.0} (ap (charged_to place area objects) e) last)

pub added_goes : (place : WorldReader) (area wanted : ℕ) (objects : List Object) → charged_of place area + wanted ≤ quota_of place area → added place area wanted objects ≡ Ok (with_objects place area wanted objects)
unfolding added charge_with
added_goes place area wanted objects leaves =
    let e : nat_lt (quota_of place area) (charged_of place area + wanted) ≡ false = grind (arith, nat_tests) in
    rw e refl

-- a list that has no words
pub no_words : (words : List (List ℕ)) → length words ≤ 0 → words ≡ []
no_words [] none = refl
no_words (word ∷ words) none = absurd (omega arith)

-- what a cons line means
pub record SaysCons (place : WorldReader) (words : List (List ℕ)) (y : WorldStep × WorldReader) : Type 0 where
  pub area : ℕ
  pub car : Value
  pub cdr : Value
  pub is : words ≡ name_of place.world.areas area ∷ value_text car ∷ value_text cdr ∷ []
  pub first : IsWritten car
  pub second : IsWritten cdr
  pub quota : HasQuota place area 2
  pub brings : with_objects place area 2 (pair_of area car cdr ∷ []) ≡ y

pub cons_only : (place : WorldReader) (count : ℕ) (words : List (List ℕ)) (y : WorldStep × WorldReader) → AreNamed place.world.areas → count ≡ length words + 1 → cons_line place count words ≡ Ok y → SaysCons place words y
unfolding cons_line
cons_only place count words y named counted is =
    let g = guard_ok (count == 4) _ (Bad WrongCount) y is in
    let a = take_bad (an_area place.world.areas) (λ area. area < length place.world.areas) (name_of place.world.areas) words _ y (areas_spell place.world.areas named) g.1 in
    let b = take_bad a_value IsWritten value_text a.rest _ y values_spell a.goes in
    let c = take_bad a_value IsWritten value_text b.rest _ y values_spell b.goes in
    let d = added_only place a.what 2 (pair_of a.what b.what c.what ∷ []) y c.goes in
    let four = eq_number count 4 g.0 in
    let none : c.rest ≡ [] = no_words c.rest (omega (arith, ap length a.is, ap length b.is, ap length c.is)) in
    record {
      area = a.what;
      car = b.what;
      cdr = c.what;
      is = also a.is (also b.is (also c.is none));
      first = b.fits;
      second = c.fits;
      quota = record { within = a.fits; leaves = d.0 };
      brings = d.1;
    }

pub cons_all : (place : WorldReader) (area : ℕ) (car cdr : Value) → AreNamed place.world.areas → IsWritten car → IsWritten cdr → HasQuota place area 2
    → cons_line place 4 (name_of place.world.areas area ∷ value_text car ∷ value_text cdr ∷ []) ≡ Ok (with_objects place area 2 (pair_of area car cdr ∷ []))
unfolding cons_line
cons_all place area car cdr named first second quota =
    bad_back (an_area place.world.areas) (λ area. area < length place.world.areas) (name_of place.world.areas) area (value_text car ∷ value_text cdr ∷ []) _ (areas_spell place.world.areas named) quota.within
    ∙ bad_back a_value IsWritten value_text car (value_text cdr ∷ []) _ values_spell first
    ∙ bad_back a_value IsWritten value_text cdr [] _ values_spell second
    ∙ added_goes place area 2 (pair_of area car cdr ∷ []) quota.leaves

-- what a block line means
pub record SaysBlock (place : WorldReader) (words : List (List ℕ)) (y : WorldStep × WorldReader) : Type 0 where
  pub area : ℕ
  pub code : ℕ
  pub fields : List Value
  pub is : words ≡ name_of place.world.areas area ∷ decimal code ∷ map value_text fields
  pub small : code ≤ 65535
  pub few : length fields ≤ 2047
  pub written : All IsWritten fields
  pub quota : HasQuota place area (length fields + 1)
  pub brings : with_objects place area (length fields + 1) (block_with area code fields ∷ []) ≡ y

pub block_only : (place : WorldReader) (count : ℕ) (words : List (List ℕ)) (y : WorldStep × WorldReader) → AreNamed place.world.areas → count ≡ length words + 1 → block_line place count words ≡ Ok y → SaysBlock place words y
unfolding block_line
block_only place count words y named counted is =
    let many = guard_not (nat_lt 2050 count) _ (Bad TooManyFields) y is in
    let few = guard_not (nat_lt count 3) _ (Bad WrongCount) y many.1 in
    let a = take_bad (an_area place.world.areas) (λ area. area < length place.world.areas) (name_of place.world.areas) words _ y (areas_spell place.world.areas named) few.1 in
    let b = take_bad (a_number 0 65535) (λ n. (0 ≤ n) × (n ≤ 65535)) decimal a.rest _ y (numbers 0 65535 (omega arith)) a.goes in
    let c = each_bad a_value IsWritten value_text b.rest _ y values_spell b.goes in
    let d = added_only place a.what (length c.0 + 1) (block_with a.what b.what c.0 ∷ []) y c.3 in
    let most : count ≤ 2050 = grind (arith, nat_tests, many.0) in
    record {
      area = a.what;
      code = b.what;
      fields = c.0;
      is = also a.is (also b.is c.1);
      small = b.fits.1;
      few = omega (arith, most, ap length a.is, ap length b.is, ap length c.1, length-map c.0 value_text);
      written = c.2;
      quota = record { within = a.fits; leaves = d.0 };
      brings = d.1;
    }

pub block_all : (place : WorldReader) (area code : ℕ) (fields : List Value) (count : ℕ) → AreNamed place.world.areas → count ≡ length fields + 3 → code ≤ 65535 → length fields ≤ 2047 → All IsWritten fields → HasQuota place area (length fields + 1)
    → block_line place count (name_of place.world.areas area ∷ decimal code ∷ map value_text fields) ≡ Ok (with_objects place area (length fields + 1) (block_with area code fields ∷ []))
unfolding block_line
block_all place area code fields count named counted small few written quota =
    let e : nat_lt 2050 count ≡ false = grind (arith, nat_tests) in
    let f : nat_lt count 3 ≡ false = grind (arith, nat_tests) in
    rw (e, f)
    (bad_back (an_area place.world.areas) (λ area. area < length place.world.areas) (name_of place.world.areas) area (decimal code ∷ map value_text fields) _ (areas_spell place.world.areas named) quota.within
    ∙ bad_back (a_number 0 65535) (λ n. (0 ≤ n) × (n ≤ 65535)) decimal code (map value_text fields) _ (numbers 0 65535 (omega arith)) (omega arith, small)
    ∙ each_back a_value IsWritten value_text fields _ values_spell written
    ∙ added_goes place area (length fields + 1) (block_with area code fields ∷ []) quota.leaves)

-- what a run line means
pub record SaysRun (place : WorldReader) (words : List (List ℕ)) (y : WorldStep × WorldReader) : Type 0 where
  pub area : ℕ
  pub cars : List Value
  pub is : words ≡ name_of place.world.areas area ∷ map value_text cars
  pub some : 1 ≤ length cars
  pub few : length cars ≤ 1024
  pub written : All IsWritten cars
  pub quota : HasQuota place area (3 * length cars)
  pub brings : with_objects place area (3 * length cars) (list_from area (length place.world.objects) cars) ≡ y

pub run_only : (place : WorldReader) (count : ℕ) (words : List (List ℕ)) (y : WorldStep × WorldReader) → AreNamed place.world.areas → count ≡ length words + 1 → run_line place count words ≡ Ok y → SaysRun place words y
unfolding run_line
run_only place count words y named counted is =
    let many = guard_not (nat_lt 1026 count) _ (Bad TooManyItems) y is in
    let few = guard_not (nat_lt count 3) _ (Bad WrongCount) y many.1 in
    let a = take_bad (an_area place.world.areas) (λ area. area < length place.world.areas) (name_of place.world.areas) words _ y (areas_spell place.world.areas named) few.1 in
    let c = each_bad a_value IsWritten value_text a.rest _ y values_spell a.goes in
    let d = added_only place a.what (3 * length c.0) (list_from a.what (length place.world.objects) c.0) y c.3 in
    let most : count ≤ 1026 = grind (arith, nat_tests, many.0) in
    let least : 3 ≤ count = grind (arith, nat_tests, few.0) in
    record {
      area = a.what;
      cars = c.0;
      is = also a.is c.1;
      some = omega (arith, least, ap length a.is, ap length c.1, length-map c.0 value_text);
      few = omega (arith, most, ap length a.is, ap length c.1, length-map c.0 value_text);
      written = c.2;
      quota = record { within = a.fits; leaves = d.0 };
      brings = d.1;
    }

pub run_all : (place : WorldReader) (area : ℕ) (cars : List Value) (count : ℕ) → AreNamed place.world.areas → count ≡ length cars + 2 → 1 ≤ length cars → length cars ≤ 1024 → All IsWritten cars → HasQuota place area (3 * length cars)
    → run_line place count (name_of place.world.areas area ∷ map value_text cars) ≡ Ok (with_objects place area (3 * length cars) (list_from area (length place.world.objects) cars))
unfolding run_line
run_all place area cars count named counted some few written quota =
    let e : nat_lt 1026 count ≡ false = grind (arith, nat_tests) in
    let f : nat_lt count 3 ≡ false = grind (arith, nat_tests) in
    rw (e, f)
    (bad_back (an_area place.world.areas) (λ area. area < length place.world.areas) (name_of place.world.areas) area (map value_text cars) _ (areas_spell place.world.areas named) quota.within
    ∙ each_back a_value IsWritten value_text cars _ values_spell written
    ∙ added_goes place area (3 * length cars) (list_from area (length place.world.objects) cars) quota.leaves)
