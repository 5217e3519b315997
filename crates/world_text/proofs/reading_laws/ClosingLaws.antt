-- The lines after the objects, and what they mean.
use Rattle.std.proofs.Common.{◌≡◌, ℕ, ◌+◌, ◌<◌, ◌≤◌, ◌⊎◌, List, [], ◌∷◌, length, Bool, true, false, Option, Some, None, Ok, inl, inr, refl, ap, ◌∙◌, arith, decimal}
use Rattle.std.specs.Prelude.{◌==◌, if◌then◌else◌, slice_set}
use Rattle.lisp_graph.specs.declared.object.Value.{Value}
use Rattle.world_text.specs.declared.fault.WorldStep.{WorldStep}
use Rattle.world_text.specs.declared.fault.WorldStep.TheVariants.{Next}
use Rattle.world_text.specs.declared.fault.WorldFault.TheVariants.{Bad}
use Rattle.world_text.specs.declared.reading.reason.Reason.TheVariants.{RegisterTwice, WrongCount}
use Rattle.world_text.specs.declared.reading.reader.Section.{Section}
use Rattle.world_text.specs.declared.reading.reader.Section.TheVariants.{Opening, Sizing, FirstArea, Areas, Objects, Roots, Closed}
use Rattle.world_text.specs.declared.reading.reader.WorldReader.{WorldReader}
use Rattle.world_text.specs.reading.Next.{a_register, a_value}
use Rattle.world_text.specs.reading.Reader.{Said}
use Rattle.world_text.specs.reading.Closing.{are_roots, has_root, missing, missing_at, missing_value, root_line, unless_missing}
use Rattle.world_text.specs.writing.Spelling.{IsWritten, value_text}
use Rattle.world_text.specs.reading.Limits.{AllRefer}
use Rattle.world_text.specs.reading.Accepts.{IsNewRoot}
use Rattle.world_text.proofs.reading_laws.ValueLaws.{registers_spell, values_spell}
use Rattle.world_text.proofs.reading_laws.ObjectLaws.{no_words}
use Rattle.world_text.proofs.reading_laws.MissingLaws.{missing_none, none_missing, value_keeps, value_none}
use Rattle.world_text.proofs.reading_laws.ReadLaws.{also, bad_back, eq_number, guard_not, guard_ok, take_bad}

-- a line that may be refused for a missing object
pub unless_ok : (found : Option ℕ) (said : Said) (y : WorldStep × WorldReader) → unless_missing found said ≡ Ok y → (found ≡ None) × (said ≡ Ok y)
unless_ok None said y is = (refl, is)
unless_ok (Some number) said y is = absurd (cc (is))

-- what a root line means
pub record SaysRoot (place : WorldReader) (words : List (List ℕ)) (y : WorldStep × WorldReader) : Type 0 where
  pub register : ℕ
  pub value : Value
  pub is : words ≡ decimal register ∷ value_text value ∷ []
  pub new : IsNewRoot place register value
  pub brings : (Next, record place { part = Roots; world = record place.world { roots = slice_set place.world.roots register value }; rooted = slice_set place.rooted register true }) ≡ y

pub root_only : (place : WorldReader) (count : ℕ) (words : List (List ℕ)) (y : WorldStep × WorldReader) → place.world.space.registers ≤ 256 → count ≡ length words + 1 → root_line place count words ≡ Ok y → SaysRoot place words y
unfolding root_line
root_only place count words y few counted is =
    let registers : ℕ = place.world.space.registers in
    let g = guard_ok (count == 3) _ (Bad WrongCount) y is in
    let a = take_bad (a_register registers) (λ n. n < registers) decimal words _ y (registers_spell registers (omega arith)) g.1 in
    let twice = guard_not (has_root place a.what) _ (Bad RegisterTwice) y a.goes in
    let b = take_bad a_value IsWritten value_text a.rest _ y values_spell twice.1 in
    let last = unless_ok (missing_value (length place.world.objects) None b.what) _ y b.goes in
    let none : b.rest ≡ [] = no_words b.rest (omega (arith, eq_number count 3 g.0, ap length a.is, ap length b.is)) in
    record {
      register = a.what;
      value = b.what;
      is = also a.is (also b.is none);
      new = record { within = a.fits; fresh = twice.0; written = b.fits; refers = (value_none (length place.world.objects) None b.what last.0).1 };
      brings = let f = last.1 in cc;
    }

pub root_all : (place : WorldReader) (register : ℕ) (value : Value) → place.world.space.registers ≤ 256 → IsNewRoot place register value
    → root_line place 3 (decimal register ∷ value_text value ∷ []) ≡ Ok (Next, record place { part = Roots; world = record place.world { roots = slice_set place.world.roots register value }; rooted = slice_set place.rooted register true })
unfolding root_line
root_all place register value few new =
    let registers : ℕ = place.world.space.registers in
    bad_back (a_register registers) (λ n. n < registers) decimal register (value_text value ∷ []) _ (registers_spell registers (omega arith)) new.within
    ∙ rw new.fresh (bad_back a_value IsWritten value_text value [] _ values_spell new.written ∙ rw (value_keeps (length place.world.objects) value new.refers) refl)

-- The objects are tested once.

pub missing_ok : (place : WorldReader) (part : Section) → (if are_roots part then None else missing place.world.objects) ≡ None → (part ≡ Roots) ⊎ AllRefer place.world.objects
missing_ok place Opening is = inr (missing_none place.world.objects is)
missing_ok place Sizing is = inr (missing_none place.world.objects is)
missing_ok place FirstArea is = inr (missing_none place.world.objects is)
missing_ok place Areas is = inr (missing_none place.world.objects is)
missing_ok place Objects is = inr (missing_none place.world.objects is)
missing_ok place Roots is = inl refl
missing_ok place Closed is = inr (missing_none place.world.objects is)

if_same : (b : Bool) (found : Option ℕ) → found ≡ None → (if b then None else found) ≡ None
if_same true found is = refl
if_same false found is = is

pub none_at : (place : WorldReader) → (place.part ≡ Roots) ⊎ AllRefer place.world.objects → missing_at place ≡ None
none_at place (inl roots) = rw roots refl
none_at place (inr refer) = if_same (are_roots place.part) (missing place.world.objects) (none_missing place.world.objects refer)
