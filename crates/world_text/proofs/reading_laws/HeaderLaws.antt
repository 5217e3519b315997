-- The lines before the objects, and what they mean.
use Rattle.std.proofs.Common.{◌≡◌, ℕ, ◌+◌, ◌-◌, ◌≤◌, List, [], ◌∷◌, ◌++◌, length, true, false, Result, Ok, refl, ap, sym, ◌∙◌, arith, subst, decimal}
use Rattle.std.specs.Prelude.{◌==◌, nat_le, nat_lt, map, replicate, ⊤}
use Rattle.std.specs.List.{All}
use Rattle.std.proofs.lemmas.List.{length-map}
use Rattle.std.proofs.lemmas.List.Elements.{All-weaker}
use Rattle.std.proofs.lemmas.Bool.Decides.{nat_tests}
use Rattle.store_word.specs.declared.space.Space.{Space}
use Rattle.lisp_graph.specs.declared.object.Value.TheVariants.{Nil}
use Rattle.lisp_graph.specs.declared.world.AreaRule.{AreaRule}
use Rattle.world_text.specs.declared.fault.WorldStep.{WorldStep}
use Rattle.world_text.specs.declared.fault.WorldStep.TheVariants.{Next}
use Rattle.world_text.specs.declared.fault.WorldFault.TheVariants.{Bad, TooSmall}
use Rattle.world_text.specs.declared.reading.reason.Reason.{Reason}
use Rattle.world_text.specs.declared.reading.reason.Reason.TheVariants.{TooManyAreas, WrongCount}
use Rattle.world_text.specs.declared.reading.reader.Section.TheVariants.{FirstArea, Areas, Objects}
use Rattle.world_text.specs.declared.reading.reader.WorldReader.{WorldReader}
use Rattle.world_text.specs.reading.Next.{a_number, each}
use Rattle.world_text.specs.reading.Reader.{bad}
use Rattle.world_text.specs.reading.Header.{a_kind, area_line, capacity_in, capacity_line, new_name, room, rule_in, rule_room, space_in, space_line}
use Rattle.world_text.specs.writing.Spelling.{kind_text}
use Rattle.world_text.specs.reading.Accepts.{AreSizes, IsNewArea}
use Rattle.world_text.proofs.reading_laws.ValueLaws.{IsNew, kinds_spell, names_spell}
use Rattle.world_text.proofs.reading_laws.NumberLaws.{numbers}
use Rattle.world_text.proofs.reading_laws.ObjectLaws.{no_words}
use Rattle.world_text.proofs.reading_laws.ReadLaws.{also, bad_ok, each_only, each_reads, eq_number, guard_not, guard_ok, step_goes, step_parts, take_back, take_only}

-- a number of a space line
abbrev within : ℕ → ℕ → ℕ → Type 0
within low high n = (low ≤ n) × (n ≤ high)

-- the sizes that words spell
abbrev pub size_words : Space → List (List ℕ)
size_words space = map decimal (space.regions ∷ space.frames ∷ space.registers ∷ space.levels ∷ space.rate ∷ [])

space_only : (words : List (List ℕ)) (space : Space) → length words ≡ 5 → space_in words ≡ Ok space → (words ≡ size_words space) × AreSizes space
unfolding space_in
space_only words space five is =
    let a = take_only (a_number 5 1024) (within 5 1024) decimal words _ space (numbers 5 1024 (omega arith)) is in
    let b = take_only (a_number 32 4096) (within 32 4096) decimal a.rest _ space (numbers 32 4096 (omega arith)) a.goes in
    let c = take_only (a_number 1 256) (within 1 256) decimal b.rest _ space (numbers 1 256 (omega arith)) b.goes in
    let d = take_only (a_number 1 6) (within 1 6) decimal c.rest _ space (numbers 1 6 (omega arith)) c.goes in
    let e = take_only (a_number 0 16) (within 0 16) decimal d.rest _ space (numbers 0 16 (omega arith)) d.goes in
    let made : Space = record { regions = a.what; frames = b.what; registers = c.what; levels = d.what; rate = e.what; capacity = replicate 6 0 } in
    let last : made ≡ space = let f = e.goes in cc in
    let none : e.rest ≡ [] = no_words e.rest (omega (arith, five, ap length a.is, ap length b.is, ap length c.is, ap length d.is, ap length e.is)) in
    let P : Space → Type 0 = λ s. (words ≡ size_words s) × AreSizes s in
    subst P last (
      also a.is (also b.is (also c.is (also d.is (also e.is none)))),
      record { regions = a.fits; frames = b.fits; registers = c.fits; levels = d.fits; rate = e.fits.1; capacity = refl },
    )

space_all : (space : Space) → AreSizes space → space_in (size_words space) ≡ Ok space
unfolding space_in
space_all space sizes =
    take_back (a_number 5 1024) (within 5 1024) decimal space.regions _ _ (numbers 5 1024 (omega arith)) sizes.regions
    ∙ take_back (a_number 32 4096) (within 32 4096) decimal space.frames _ _ (numbers 32 4096 (omega arith)) sizes.frames
    ∙ take_back (a_number 1 256) (within 1 256) decimal space.registers _ _ (numbers 1 256 (omega arith)) sizes.registers
    ∙ take_back (a_number 1 6) (within 1 6) decimal space.levels _ _ (numbers 1 6 (omega arith)) sizes.levels
    ∙ take_back (a_number 0 16) (within 0 16) decimal space.rate _ _ (numbers 0 16 (omega arith)) (omega arith, sizes.rate)
    ∙ ap (λ capacity. Ok (record space { capacity = capacity })) (sym sizes.capacity)

-- what a space line means
pub record SaysSpace (place : WorldReader) (words : List (List ℕ)) (y : WorldStep × WorldReader) : Type 0 where
  pub space : Space
  pub is : words ≡ size_words space
  pub sizes : AreSizes space
  pub brings : (Next, record place { part = FirstArea; world = record place.world { space = space; roots = replicate space.registers Nil } }) ≡ y

pub space_line_only : (place : WorldReader) (count : ℕ) (words : List (List ℕ)) (y : WorldStep × WorldReader) → count ≡ length words + 1 → space_line place count words ≡ Ok y → SaysSpace place words y
unfolding space_line
space_line_only place count words y counted is =
    let g = guard_ok (count == 6) _ (Bad WrongCount) y is in
    let p = step_parts (bad (space_in words)) _ y g.1 in
    let o = space_only words p.0 (omega (arith, eq_number count 6 g.0)) (bad_ok (space_in words) p.0 p.1) in
    record { space = p.0; is = o.0; sizes = o.1; brings = let f = p.2 in cc }

pub space_line_all : (place : WorldReader) (space : Space) → AreSizes space
    → space_line place 6 (size_words space) ≡ Ok (Next, record place { part = FirstArea; world = record place.world { space = space; roots = replicate space.registers Nil } })
unfolding space_line
space_line_all place space sizes = step_goes (bad (space_in (size_words space))) _ space (ap {A = Result Space Reason} bad (space_all space sizes))

-- Areas

abbrev rule_words : AreaRule → List (List ℕ)
rule_words rule = rule.name ∷ kind_text rule.kind ∷ decimal rule.quota ∷ []

-- a rule of a new name
pub record IsNewRule (areas : List AreaRule) (rule : AreaRule) : Type 0 where
  pub name : IsNew areas rule.name
  pub quota : rule.quota ≤ 1048576

rule_only : (areas : List AreaRule) (words : List (List ℕ)) (rule : AreaRule) → length words ≡ 3 → rule_in areas words ≡ Ok rule → (words ≡ rule_words rule) × IsNewRule areas rule
unfolding rule_in
rule_only areas words rule three is =
    let a = take_only (new_name areas) (IsNew areas) (λ name. name) words _ rule (names_spell areas) is in
    let b = take_only a_kind (λ kind. ⊤) kind_text a.rest _ rule kinds_spell a.goes in
    let c = take_only (a_number 0 1048576) (within 0 1048576) decimal b.rest _ rule (numbers 0 1048576 (omega arith)) b.goes in
    let made : AreaRule = record { name = a.what; kind = b.what; quota = c.what } in
    let last : made ≡ rule = let f = c.goes in cc in
    let none : c.rest ≡ [] = no_words c.rest (omega (arith, three, ap length a.is, ap length b.is, ap length c.is)) in
    let P : AreaRule → Type 0 = λ r. (words ≡ rule_words r) × IsNewRule areas r in
    subst P last (also a.is (also b.is (also c.is none)), record { name = a.fits; quota = c.fits.1 })

rule_all : (areas : List AreaRule) (rule : AreaRule) → IsNewRule areas rule → rule_in areas (rule_words rule) ≡ Ok rule
unfolding rule_in
rule_all areas rule new =
    take_back (new_name areas) (IsNew areas) (λ name. name) rule.name _ _ (names_spell areas) new.name
    ∙ take_back a_kind (λ kind. ⊤) kind_text rule.kind _ _ kinds_spell tt
    ∙ take_back (a_number 0 1048576) (within 0 1048576) decimal rule.quota _ _ (numbers 0 1048576 (omega arith)) (omega arith, new.quota)

-- what an area line means
pub record SaysArea (place : WorldReader) (words : List (List ℕ)) (y : WorldStep × WorldReader) : Type 0 where
  pub rule : AreaRule
  pub is : words ≡ rule_words rule
  pub new : IsNewArea place rule
  pub brings : (Next, record place { part = Areas; world = record place.world { areas = place.world.areas ++ rule ∷ [] } }) ≡ y

pub area_line_only : (place : WorldReader) (count : ℕ) (words : List (List ℕ)) (y : WorldStep × WorldReader) → count ≡ length words + 1 → area_line place count words ≡ Ok y → SaysArea place words y
unfolding area_line
area_line_only place count words y counted is =
    let many = guard_not (nat_le 16 (length place.world.areas)) _ (Bad TooManyAreas) y is in
    let g = guard_ok (count == 4) _ (Bad WrongCount) y many.1 in
    let p = step_parts (bad (rule_in place.world.areas words)) _ y g.1 in
    let o = rule_only place.world.areas words p.0 (omega (arith, eq_number count 4 g.0)) (bad_ok (rule_in place.world.areas words) p.0 p.1) in
    let fits = guard_not (nat_lt place.world.space.regions (room place.world.space.levels place.world.areas + rule_room place.world.space.levels p.0.quota)) _ TooSmall y p.2 in
    record {
      rule = p.0;
      is = o.0;
      new = record {
        few = grind (arith, nat_tests, many.0);
        name = o.1.name.formed;
        fresh = o.1.name.fresh;
        quota = o.1.quota;
        fits = grind (arith, nat_tests, fits.0);
      };
      brings = let f = fits.1 in cc;
    }

pub area_line_all : (place : WorldReader) (rule : AreaRule) → IsNewArea place rule → area_line place 4 (rule_words rule) ≡ Ok (Next, record place { part = Areas; world = record place.world { areas = place.world.areas ++ rule ∷ [] } })
unfolding area_line
area_line_all place rule new =
    let e : nat_le 16 (length place.world.areas) ≡ false = let few = new.few in grind (arith, nat_tests) in
    let f : nat_lt place.world.space.regions (room place.world.space.levels place.world.areas + rule_room place.world.space.levels rule.quota) ≡ false = let fits = new.fits in grind (arith, nat_tests) in
    let read = rule_all place.world.areas rule (record { name = record { formed = new.name; fresh = new.fresh }; quota = new.quota }) in
    rw e (step_goes (bad (rule_in place.world.areas (rule_words rule))) _ rule (ap {A = Result AreaRule Reason} bad read) ∙ rw f refl)

-- what a capacity line means
pub record SaysCapacity (place : WorldReader) (words : List (List ℕ)) (y : WorldStep × WorldReader) : Type 0 where
  pub numbers : List ℕ
  pub is : words ≡ map decimal numbers
  pub count : length numbers ≡ place.world.space.levels
  pub small : All (λ number. number ≤ 16777216) numbers
  pub brings : (Next, record place { part = Objects; world = record place.world { space = record place.world.space { capacity = numbers ++ replicate (6 - length numbers) 0 } } }) ≡ y

pub capacity_line_only : (place : WorldReader) (count : ℕ) (words : List (List ℕ)) (y : WorldStep × WorldReader) → count ≡ length words + 1 → capacity_line place count words ≡ Ok y → SaysCapacity place words y
unfolding capacity_line capacity_in
capacity_line_only place count words y counted is =
    let g = guard_ok (count == place.world.space.levels + 1) _ (Bad WrongCount) y is in
    let p = step_parts (bad (capacity_in words)) _ y g.1 in
    let q = step_parts (each (a_number 0 16777216) words) (λ numbers. Ok (numbers ++ replicate (6 - length numbers) 0)) p.0 (bad_ok (capacity_in words) p.0 p.1) in
    let o = each_only (a_number 0 16777216) (within 0 16777216) decimal words q.0 (numbers 0 16777216 (omega arith)) q.1 in
    let e : q.0 ++ replicate (6 - length q.0) 0 ≡ p.0 = let f = q.2 in cc in
    let last : (Next, record place { part = Objects; world = record place.world { space = record place.world.space { capacity = p.0 } } }) ≡ y = let f = p.2 in cc in
    record {
      numbers = q.0;
      is = o.0;
      count = omega (arith, eq_number count (place.world.space.levels + 1) g.0, ap length o.0, length-map q.0 decimal);
      small = All-weaker (within 0 16777216) (λ n. n ≤ 16777216) (λ n fits. fits.1) q.0 o.1;
      brings = ap (λ capacity. (Next, record place { part = Objects; world = record place.world { space = record place.world.space { capacity = capacity } } })) e ∙ last;
    }

pub capacity_line_all : (place : WorldReader) (capacities : List ℕ) (count : ℕ) → count ≡ length capacities + 1 → length capacities ≡ place.world.space.levels → All (λ number. number ≤ 16777216) capacities
    → capacity_line place count (map decimal capacities) ≡ Ok (Next, record place { part = Objects; world = record place.world { space = record place.world.space { capacity = capacities ++ replicate (6 - length capacities) 0 } } })
unfolding capacity_line capacity_in
capacity_line_all place capacities count counted all small =
    let e : (count == place.world.space.levels + 1) ≡ true = grind (arith, nat_tests) in
    let fit = All-weaker (λ n. n ≤ 16777216) (within 0 16777216) (λ n up. (omega arith, up)) capacities small in
    let read = each_reads (a_number 0 16777216) (within 0 16777216) decimal capacities (numbers 0 16777216 (omega arith)) fit in
    rw (e, read) refl
