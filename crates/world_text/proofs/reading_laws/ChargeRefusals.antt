-- The refusal of a line for the charge of its objects names an area of the world.
use Rattle.std.proofs.Common.{◌≡◌, ℕ, ◌+◌, ◌<◌, List, [], ◌∷◌, length, Bool, true, false, Option, Some, None, Result, Ok, Err, refl, ap, sym, subst}
use Rattle.std.specs.Prelude.{if◌then◌else◌, IfErr, ◌==◌, ◌&&◌, bytes_eq, codes, nat_le, nat_lt, drop}
use Rattle.std.proofs.lemmas.List.Quantifiers.{position-Some}
use Rattle.lisp_graph.specs.declared.object.Object.{Object}
use Rattle.lisp_graph.specs.declared.world.AreaRule.{AreaRule}
use Rattle.world_text.specs.declared.reading.reason.Reason.{Reason}
use Rattle.world_text.specs.declared.reading.reason.Reason.TheVariants.{AreaExpected, BadLine, CapacityExpected, NoArea, NotAWorld, RegisterTwice, SpaceExpected, TooManyAreas, TooManyFields, TooManyItems, UnexpectedLine, WrongCount}
use Rattle.world_text.specs.declared.fault.WorldFault.{WorldFault}
use Rattle.world_text.specs.declared.fault.WorldFault.TheVariants.{Bad, TooSmall, Exhausted, NoMemory}
use Rattle.world_text.specs.declared.fault.WorldStep.{WorldStep}
use Rattle.world_text.specs.declared.reading.reader.Section.{Section}
use Rattle.world_text.specs.declared.reading.reader.Section.TheVariants.{Opening, Sizing, FirstArea, Areas, Objects, Roots, Closed}
use Rattle.world_text.specs.declared.reading.reader.WorldReader.{WorldReader}
use Rattle.world_text.specs.reading.Words.{first_word, is_well_formed, words_of}
use Rattle.world_text.specs.reading.Numbers.{area_of}
use Rattle.world_text.specs.reading.Next.{◌>>=◌, a_number, a_register, a_value, an_area, each, next}
use Rattle.world_text.specs.reading.Reader.{Judged, NamesArea, Said, bad}
use Rattle.world_text.specs.reading.Header.{area_line, capacity_in, capacity_line, rule_in, space_in, space_line}
use Rattle.world_text.specs.reading.Objects.{added, block_line, charge_with, charged_of, cons_line, quota_of, run_line}
use Rattle.world_text.specs.reading.Closing.{closing_line, closing_word, has_root, missing_at, missing_value, root_line, unless_missing}
use Rattle.world_text.specs.reading.Line.{area_lines, is_opening, last_lines, line_at, line_in, object_lines}
use Rattle.world_text.proofs.reading_laws.NumberLaws.{found_is}
use Rattle.world_text.proofs.reading_laws.ReadLaws.{step_parts}

bad_is : {A : Type 0} (read : Result A Reason) (x : A) → bad read ≡ Ok x → read ≡ Ok x
bad_is (Ok y) x is = let e : y ≡ x = cc (is) in ap Ok e
bad_is (Err why) x is = absurd (cc (is))

-- an area that a word names
area_fits : (areas : List AreaRule) (word : List ℕ) (area : ℕ) → an_area areas word ≡ Ok area → area < length areas
area_fits [] word area is = absurd (cc (is))
area_fits (rule ∷ rules) word area is = (position-Some (λ (one : AreaRule). bytes_eq one.name word) (rule ∷ rules) area rule (found_is NoArea (area_of (rule ∷ rules) word) area is)).0

area_next : (areas : List AreaRule) (words : List (List ℕ)) (x : ℕ × List (List ℕ)) → bad (next (an_area areas) words) ≡ Ok x → x.0 < length areas
unfolding next
area_next areas words x is =
    let p = step_parts (an_area areas (first_word words)) _ x (bad_is (next (an_area areas) words) x is) in
    let e : p.0 ≡ x.0 = let last = p.2 in cc (last) in
    subst (λ n. n < length areas) e (area_fits areas (first_word words) p.0 p.1)

module _ (areas : List AreaRule) (fault : WorldFault) where
  -- in both cases of a test
  either : {A : Type 0} (b : Bool) (x y : Result A WorldFault) → (if b then x else y) ≡ Err fault → (x ≡ Err fault → NamesArea areas fault) → (y ≡ Err fault → NamesArea areas fault) → NamesArea areas fault
  either true x y is h k = h is
  either false x y is h k = k is

  -- a reason names no area
  why : {A : Type 0} (reason : Reason) → ◌≡◌ {A = Result A WorldFault} (Err (Bad reason)) (Err fault) → NamesArea areas fault
  why {A} reason is = let e : Bad reason ≡ fault = cc (is) in subst (NamesArea areas) e tt

  fine : {A : Type 0} (x : A) → ◌≡◌ {A = Result A WorldFault} (Ok x) (Err fault) → NamesArea areas fault
  fine {A} x is = absurd (cc (is))

  -- words that are read, and what follows them
  read_bad : {A B : Type 0} (read : Result A Reason) (f : A → Result B WorldFault) → (bad read >>= f) ≡ Err fault → ((x : A) → bad read ≡ Ok x → f x ≡ Err fault → NamesArea areas fault) → NamesArea areas fault
  read_bad (Ok x) f is k = k x refl is
  read_bad {A} {B} (Err reason) f is k = why {A = B} reason is

module _ (place : WorldReader) (fault : WorldFault) where
  abbrev Fits : Said → Type 0
  Fits said = said ≡ Err fault → NamesArea place.world.areas fault

  charge_fits : (area charged wanted quota : ℕ) (b : Bool) → area < length place.world.areas → (if b then Err (Exhausted area charged wanted quota) else Ok (charged + wanted)) ≡ Err fault → NamesArea place.world.areas fault
  charge_fits area charged wanted quota true within is = let e : Exhausted area charged wanted quota ≡ fault = cc (is) in subst (NamesArea place.world.areas) e within
  charge_fits area charged wanted quota false within is = absurd (cc (is))

  charged_fits : (read : Result ℕ WorldFault) (f : ℕ → WorldStep × WorldReader) → (read ≡ Err fault → NamesArea place.world.areas fault) → (read >>= λ x. Ok (f x)) ≡ Err fault → NamesArea place.world.areas fault
  charged_fits (Ok x) f h is = absurd (cc (is))
  charged_fits (Err e) f h is = h (let k : e ≡ fault = cc (is) in ap Err k)

  added_fits : (area wanted : ℕ) (objects : List Object) → area < length place.world.areas → Fits (added place area wanted objects)
  unfolding added charge_with
  added_fits area wanted objects within is =
      charged_fits (charge_with place area wanted) _ (λ e. charge_fits area (charged_of place area) wanted (quota_of place area) _ within e) is

  cons_fits : (count : ℕ) (words : List (List ℕ)) → Fits (cons_line place count words)
  unfolding cons_line
  cons_fits count words is =
      either place.world.areas fault (count == 4) _ _ is
      (λ e. read_bad place.world.areas fault (next (an_area place.world.areas) words) _ e
      (λ area at f. read_bad place.world.areas fault (next a_value area.1) _ f
      (λ car first g. read_bad place.world.areas fault (next a_value car.1) _ g
      (λ cdr second h. added_fits area.0 2 _ (area_next place.world.areas words area at) h))))
      (why place.world.areas fault WrongCount)

  block_fits : (count : ℕ) (words : List (List ℕ)) → Fits (block_line place count words)
  unfolding block_line
  block_fits count words is =
      either place.world.areas fault (nat_lt 2050 count) _ _ is (why place.world.areas fault TooManyFields)
      (λ d. either place.world.areas fault (nat_lt count 3) _ _ d (why place.world.areas fault WrongCount)
      (λ e. read_bad place.world.areas fault (next (an_area place.world.areas) words) _ e
      (λ area at f. read_bad place.world.areas fault (next (a_number 0 65535) area.1) _ f
      (λ code first g. read_bad place.world.areas fault (each a_value code.1) _ g
      (λ fields second h. added_fits area.0 _ _ (area_next place.world.areas words area at) h)))))

  run_fits : (count : ℕ) (words : List (List ℕ)) → Fits (run_line place count words)
  unfolding run_line
  run_fits count words is =
      either place.world.areas fault (nat_lt 1026 count) _ _ is (why place.world.areas fault TooManyItems)
      (λ d. either place.world.areas fault (nat_lt count 3) _ _ d (why place.world.areas fault WrongCount)
      (λ e. read_bad place.world.areas fault (next (an_area place.world.areas) words) _ e
      (λ area at f. read_bad place.world.areas fault (each a_value area.1) _ f
      (λ cars first g. added_fits area.0 _ _ (area_next place.world.areas words area at) g))))

  space_fits : (count : ℕ) (words : List (List ℕ)) → Fits (space_line place count words)
  unfolding space_line
  space_fits count words is =
      either place.world.areas fault (count == 6) _ _ is
      (λ e. read_bad place.world.areas fault (space_in words) _ e (λ space at f. fine place.world.areas fault _ f))
      (why place.world.areas fault WrongCount)

  small : (b : Bool) (x : WorldStep × WorldReader) → (if b then Err TooSmall else Ok x) ≡ Err fault → NamesArea place.world.areas fault
  small true x is = let e : TooSmall ≡ fault = cc (is) in subst (NamesArea place.world.areas) e tt
  small false x is = absurd (cc (is))

  area_line_fits : (count : ℕ) (words : List (List ℕ)) → Fits (area_line place count words)
  unfolding area_line
  area_line_fits count words is =
      either place.world.areas fault (nat_le 16 (length place.world.areas)) _ _ is (why place.world.areas fault TooManyAreas)
      (λ d. either place.world.areas fault (count == 4) _ _ d
      (λ e. read_bad place.world.areas fault (rule_in place.world.areas words) _ e (λ rule at f. small _ _ f))
      (why place.world.areas fault WrongCount))

  capacity_fits : (count : ℕ) (words : List (List ℕ)) → Fits (capacity_line place count words)
  unfolding capacity_line
  capacity_fits count words is =
      either place.world.areas fault (count == place.world.space.levels + 1) _ _ is
      (λ e. read_bad place.world.areas fault (capacity_in words) _ e (λ numbers at f. fine place.world.areas fault _ f))
      (why place.world.areas fault WrongCount)

  missing_fits : (missing : Option ℕ) (said : Said) → Fits said → Fits (unless_missing missing said)
  missing_fits None said fits is = fits is
  missing_fits (Some number) said fits is = why place.world.areas fault _ is

  root_fits : (count : ℕ) (words : List (List ℕ)) → Fits (root_line place count words)
  unfolding root_line
  root_fits count words is =
      either place.world.areas fault (count == 3) _ _ is
      (λ e. read_bad place.world.areas fault (next (a_register place.world.space.registers) words) _ e
      (λ register at f. either place.world.areas fault (has_root place register.0) _ _ f (why place.world.areas fault RegisterTwice)
      (λ g. read_bad place.world.areas fault (next a_value register.1) _ g
      (λ value second h. missing_fits (missing_value (length place.world.objects) None value.0) _ (fine place.world.areas fault _) h))))
      (why place.world.areas fault WrongCount)

  closing_fits : (count : ℕ) → Fits (closing_line place count)
  unfolding closing_line
  closing_fits count is = either place.world.areas fault (count == 1) _ _ is (fine place.world.areas fault _) (why place.world.areas fault WrongCount)

  last_fits : (head : List ℕ) (count : ℕ) (words : List (List ℕ)) → Fits (last_lines place head count words)
  unfolding last_lines
  last_fits head count words is =
      either place.world.areas fault (bytes_eq head (codes "root")) _ _ is (missing_fits (missing_at place) (root_line place count words) (root_fits count words))
      (λ e. either place.world.areas fault (bytes_eq head (closing_word place.file)) _ _ e (missing_fits (missing_at place) (closing_line place count) (closing_fits count)) (why place.world.areas fault UnexpectedLine))

  object_fits : (head : List ℕ) (count : ℕ) (words : List (List ℕ)) → Fits (object_lines place head count words)
  unfolding object_lines
  object_fits head count words is =
      either place.world.areas fault (bytes_eq head (codes "cons")) _ _ is (cons_fits count words)
      (λ e. either place.world.areas fault (bytes_eq head (codes "block")) _ _ e (block_fits count words)
      (λ f. either place.world.areas fault (place.second && bytes_eq head (codes "run")) _ _ f (run_fits count words) (last_fits head count words)))

  area_fit : (head : List ℕ) (count : ℕ) (words : List (List ℕ)) → Fits (area_lines place head count words)
  unfolding area_lines
  area_fit head count words is =
      either place.world.areas fault (bytes_eq head (codes "area")) _ _ is (area_line_fits count words)
      (λ e. either place.world.areas fault place.second _ _ e
      (λ f. either place.world.areas fault (bytes_eq head (codes "capacity")) _ _ f (capacity_fits count words) (why place.world.areas fault CapacityExpected))
      (object_fits head count words))

  in_fits : (part : Section) (head : List ℕ) (count : ℕ) (words : List (List ℕ)) → Fits (line_in part place head count words)
  unfolding line_in
  in_fits Opening head count words is = why place.world.areas fault NotAWorld is
  in_fits Sizing head count words is = either place.world.areas fault (bytes_eq head (codes "space")) _ _ is (space_fits count words) (why place.world.areas fault SpaceExpected)
  in_fits FirstArea head count words is = either place.world.areas fault (bytes_eq head (codes "area")) _ _ is (area_line_fits count words) (why place.world.areas fault AreaExpected)
  in_fits Areas head count words is = area_fit head count words is
  in_fits Objects head count words is = object_fits head count words is
  in_fits Roots head count words is = last_fits head count words is
  in_fits Closed head count words is = why place.world.areas fault UnexpectedLine is

  line_fits : (text : List ℕ) → Fits (line_at place text)
  line_fits text is =
      either place.world.areas fault (is_opening place.part) _ _ is
      (λ e. either place.world.areas fault (bytes_eq text (codes "lispm-world 1")) _ _ e (fine place.world.areas fault _)
      (λ f. either place.world.areas fault (bytes_eq text (codes "lispm-world 2")) _ _ f (fine place.world.areas fault _) (why place.world.areas fault NotAWorld)))
      (λ e. either place.world.areas fault (is_well_formed text) _ _ e (in_fits place.part (first_word (words_of text)) (length (words_of text)) (drop 1 (words_of text))) (why place.world.areas fault BadLine))

-- a refusal is what the line means
pub judged_area : (old new : WorldReader) (text : List ℕ) (result : Result WorldStep WorldFault) → Judged old new result (line_at old text) → IfErr result (NamesArea new.world.areas)
judged_area old new text (Ok step) judged = tt
judged_area old new text (Err (Bad why)) judged = tt
judged_area old new text (Err TooSmall) judged = tt
judged_area old new text (Err NoMemory) judged = tt
judged_area old new text (Err (Exhausted area charged wanted quota)) judged =
    let P : WorldReader → Type 0 = λ place. area < length place.world.areas in
    subst P (sym judged.0) (line_fits old (Exhausted area charged wanted quota) text judged.1)
