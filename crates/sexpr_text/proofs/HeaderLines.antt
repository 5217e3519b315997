-- The lines of a header, one after another.
use Rattle.std.proofs.Common.{◌≡◌, ℕ, zero, suc, ◌+◌, ◌-◌, ◌<◌, ◌≤◌, List, length, true, false, Result, Ok, Err, refl, ap, sym, subst, ◌∙◌, arith}
use Rattle.std.specs.Prelude.{if◌then◌else◌, ◌==◌}
use Rattle.std.proofs.lemmas.Bool.Decides.{nat_tests}
use Rattle.world_text.specs.declared.reading.reader.WorldReader.{WorldReader}
use Rattle.world_text.specs.Next.{◌>>=◌}
use Rattle.world_text.specs.Limits.{has_objects}
use Rattle.sexpr_text.specs.declared.fault.SexprReason.TheVariants.{NoEnd}
use Rattle.sexpr_text.specs.declared.fault.SexprFault.{SexprFault}
use Rattle.sexpr_text.specs.declared.fault.SexprFault.TheVariants.{Bad, TooSmall, NoMemory}
use Rattle.sexpr_text.specs.Reading.{IsFault}
use Rattle.sexpr_text.specs.Meaning.{Head, behind_line, first_line, header, header_line}

-- the header from here on is what remains of the whole
pub record LinesGo (whole : Result Head SexprFault) (place : WorldReader) (line : ℕ) (text : List ℕ) : Type 0 where
  pub more : ℕ
  pub few : length text ≤ more
  pub is : header more place line text ≡ whole

pub lines_first : (place : WorldReader) (line : ℕ) (text : List ℕ) → LinesGo (header (length text) place line text) place line text
lines_first place line text = record { more = length text; few = omega arith; is = refl }

-- the place after a line, and the header from there on
abbrev pub behind_place : ℕ → ℕ → List ℕ → WorldReader → Result Head SexprFault
behind_place more line text next =
    if has_objects next.part then Ok (record { world = next.world; line = line + 1; rest = behind_line text })
    else header more next (line + 1) (behind_line text)

header_is : (more line : ℕ) (place : WorldReader) (text : List ℕ) → 0 < length text → length text ≤ more → header more place line text ≡ header_line place line (first_line text) >>= behind_place (more - 1) line text
unfolding header
header_is zero line place text some few = absurd (omega arith)
header_is (suc more) line place text some few =
    let e : suc more - 1 ≡ more = omega arith in
    let t : (length text == 0) ≡ false = grind (arith, nat_tests) in
    rw (t, e) refl

header_none : (more line : ℕ) (place : WorldReader) (text : List ℕ) → length text ≤ 0 → header more place line text ≡ Err (Bad line NoEnd)
unfolding header
header_none zero line place text none = refl
header_none (suc more) line place text none = let t : (length text == 0) ≡ true = grind (arith, nat_tests) in rw t refl

pub lines_end : (whole : Result Head SexprFault) (place : WorldReader) (line : ℕ) (text : List ℕ) → LinesGo whole place line text → length text ≤ 0 → whole ≡ Err (Bad line NoEnd)
lines_end whole place line text goes none = sym goes.is ∙ header_none goes.more line place text none

behind_is : (whole : Result Head SexprFault) (place next : WorldReader) (line : ℕ) (text : List ℕ) → (goes : LinesGo whole place line text) → 0 < length text → header_line place line (first_line text) ≡ Ok next
    → behind_place (goes.more - 1) line text next ≡ whole
behind_is whole place next line text goes some is =
    sym (ap (λ (r : Result WorldReader SexprFault). r >>= behind_place (goes.more - 1) line text) is) ∙ sym (header_is goes.more line place text some goes.few) ∙ goes.is

-- after a line that isn't the last one
pub lines_more : (whole : Result Head SexprFault) (place next : WorldReader) (line : ℕ) (text : List ℕ) → LinesGo whole place line text → 0 < length text → header_line place line (first_line text) ≡ Ok next
    → has_objects next.part ≡ false → length (behind_line text) < length text → LinesGo whole next (line + 1) (behind_line text)
lines_more whole place next line text goes some is part less = record {
  more = goes.more - 1;
  few = omega (arith, goes.few);
  is = sym (ap (λ b. if b then Ok (record { world = next.world; line = line + 1; rest = behind_line text }) else header (goes.more - 1) next (line + 1) (behind_line text)) part) ∙ behind_is whole place next line text goes some is;
}

-- after the last one
pub lines_last : (whole : Result Head SexprFault) (place next : WorldReader) (line : ℕ) (text : List ℕ) → LinesGo whole place line text → 0 < length text → header_line place line (first_line text) ≡ Ok next
    → has_objects next.part ≡ true → whole ≡ Ok (record { world = next.world; line = line + 1; rest = behind_line text })
lines_last whole place next line text goes some is part =
    sym (behind_is whole place next line text goes some is) ∙ ap (λ b. if b then Ok (record { world = next.world; line = line + 1; rest = behind_line text }) else header (goes.more - 1) next (line + 1) (behind_line text)) part

fault_behind : {A B : Type 0} (fault : SexprFault) (first : Result A SexprFault) (next : A → Result B SexprFault) → IsFault fault first → IsFault fault (first >>= next)
fault_behind (Bad line reason) first next is = ap (λ f. f >>= next) is
fault_behind (TooSmall line) first next is = ap (λ f. f >>= next) is
fault_behind NoMemory first next is = tt

-- at a line that is refused
pub lines_fail : (fault : SexprFault) (whole : Result Head SexprFault) (place : WorldReader) (line : ℕ) (text : List ℕ) → LinesGo whole place line text → 0 < length text → IsFault fault (header_line place line (first_line text)) → IsFault fault whole
lines_fail fault whole place line text goes some is =
    let e : header_line place line (first_line text) >>= behind_place (goes.more - 1) line text ≡ whole = sym (header_is goes.more line place text some goes.few) ∙ goes.is in
    let P : Result Head SexprFault → Type 0 = λ r. IsFault fault r in
    subst P e (fault_behind fault (header_line place line (first_line text)) (behind_place (goes.more - 1) line text) is)
