-- A line of a world: it has no line feed, and none is accepted after the one that closes the world.
use Rattle.std.proofs.Common.{◌≡◌, ℕ, suc, ◌≤◌, List, [], ◌∷◌, true, false, Ok, refl, arith}
use Rattle.std.specs.Prelude.{◌==◌}
use Rattle.std.specs.List.{All}
use Rattle.std.proofs.lemmas.Bool.{ne_eqb}
use Rattle.world_text.specs.declared.fault.WorldFault.TheVariants.{Bad}
use Rattle.world_text.specs.declared.fault.WorldStep.{WorldStep}
use Rattle.world_text.specs.declared.reading.reason.Reason.TheVariants.{BadLine}
use Rattle.world_text.specs.declared.reading.reader.Section.{Section}
use Rattle.world_text.specs.declared.reading.reader.Section.TheVariants.{Opening, Sizing, FirstArea, Areas, Objects, Roots, Closed}
use Rattle.world_text.specs.declared.reading.reader.WorldReader.{WorldReader}
use Rattle.world_text.specs.Line.{line_at, line_in as world_line_in}
use Rattle.world_text.specs.Reader.{is_closed}
use Rattle.world_text.specs.Words.{is_well_formed}
use Rattle.world_text.proofs.reading_laws.ReadLaws.{guard_ok}
use Rattle.line_input.specs.Reader.{no_feed}

-- a line of printable characters has no line feed
pub printable_has_no_feed : (line : List ℕ) → All (λ byte. (32 ≤ byte) × (byte ≤ 126)) line → no_feed line ≡ true
printable_has_no_feed [] all = refl
printable_has_no_feed (x ∷ xs) all =
    let low : 32 ≤ x = (all 0 x (omega arith)).0 in
    let other : x == 10 ≡ false = ne_eqb x 10 (λ e. omega arith) in
    let rest = printable_has_no_feed xs (λ index default within. all (suc index) default (omega arith)) in
    rw (other, rest) refl

-- no line is accepted after the one that closes the world
pub accepts_open : (place : WorldReader) (text : List ℕ) (said : WorldStep × WorldReader) → line_at place text ≡ Ok said → is_closed place.part ≡ false
unfolding world_line_in
accepts_open place text said is = go place.part refl
  where
    go : (part : Section) → place.part ≡ part → is_closed part ≡ false
    go Opening e = refl
    go Sizing e = refl
    go FirstArea e = refl
    go Areas e = refl
    go Objects e = refl
    go Roots e = refl
    go Closed e =
        let closed = rw e at is in
        let g = guard_ok (is_well_formed text) _ (Bad BadLine) said closed in
        absurd (cc (g.1))
