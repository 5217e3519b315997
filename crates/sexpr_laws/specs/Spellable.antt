-- Tokens that can be spelled.
use Rattle.std.specs.Prelude.{◌<◌, ◌^◌, ⊤, List, length, Some, None}
use Rattle.std.specs.List.{All}
use Rattle.file_modes.specs.lisp_graph.declared.object.Value.TheVariants.{Fix, Nil, Ref}
use Rattle.file_modes.specs.lisp_graph.declared.world.AreaRule.{AreaRule}
use Rattle.file_modes.specs.world_text.Spelling.{IsWritten}
use Rattle.file_modes.specs.sexpr_text.declared.token.Token.{Token}
use Rattle.file_modes.specs.sexpr_text.declared.token.Token.TheVariants.{Root, EndSexpr, Dot, Atom, Label, Again, Open, Close, Unknown, End}

-- A token that can be spelled in a world with these areas: an integer of 32 bits, a label below 2^32, a form of one of the areas.
abbrev pub CanSpell : List AreaRule → Token → Type 0
CanSpell areas Root = ⊤
CanSpell areas EndSexpr = ⊤
CanSpell areas Dot = ⊤
CanSpell areas (Atom (Fix number)) = IsWritten (Fix number)
CanSpell areas (Atom Nil) = ⊤
CanSpell areas (Atom (Ref number)) = ⊥
CanSpell areas (Label label) = label < 2 ^ 32
CanSpell areas (Again label) = label < 2 ^ 32
CanSpell areas (Open (Some area) bracket) = area < length areas
CanSpell areas (Open None bracket) = ⊥
CanSpell areas (Close bracket) = ⊤
CanSpell areas Unknown = ⊥
CanSpell areas End = ⊥

abbrev pub AreSpellable : List AreaRule → List Token → Type 0
AreSpellable areas tokens = All (CanSpell areas) tokens
