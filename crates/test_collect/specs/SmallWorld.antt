-- A small world that is loaded.
use Rattle.std.specs.Prelude.{◌≡◌, ℕ, List, [], ◌∷◌, pos, negsuc, replicate}
use Rattle.store_word.specs.declared.space.Space.{Space}
use Rattle.lisp_graph.specs.declared.object.Value.{Value}
use Rattle.lisp_graph.specs.declared.object.Value.TheVariants.{Fix, Nil, Ref}
use Rattle.lisp_graph.specs.declared.object.Body.TheVariants.{Cons, Block}
use Rattle.lisp_graph.specs.declared.object.Object.{Object}
use Rattle.lisp_graph.specs.declared.world.AreaKind.TheVariants.{Dynamic}
use Rattle.lisp_graph.specs.declared.world.AreaRule.{AreaRule}
use Rattle.lisp_graph.specs.declared.world.World.{World}

abbrev pub small_space : Space
small_space = record { regions = 16; frames = 32; registers = 3; levels = 1; rate = 0; capacity = replicate 6 0 }

abbrev pub small_areas : List ℕ → List AreaRule
small_areas name = record { name = name; kind = Dynamic; quota = 8000 } ∷ []

abbrev pub small_cons : ℕ → Value → Value → Object
small_cons charge car cdr = record { area = 0; charge = charge; body = Cons car cdr }

-- a group of three conses, a block and two conses
abbrev pub small_objects : List Object
small_objects =
    small_cons 3 (Ref 3) (Ref 1)
    ∷ small_cons 3 (Fix (pos 7)) (Ref 2)
    ∷ small_cons 3 Nil Nil
    ∷ record { area = 0; charge = 4; body = Block 9 (Ref 0 ∷ Fix (negsuc 0) ∷ Ref 4 ∷ []) }
    ∷ small_cons 2 (Ref 3) (Ref 1)
    ∷ small_cons 3 (Fix (pos 5)) (Ref 0)
    ∷ []

abbrev pub small_roots : List Value
small_roots = Ref 4 ∷ Ref 5 ∷ Fix (pos 12) ∷ []

-- the world of one area, of any name
abbrev pub small_world : List ℕ → World
small_world name = record { space = small_space; areas = small_areas name; objects = small_objects; roots = small_roots }

pub record IsSmall (world : World) : Type 0 where
  pub name : List ℕ
  pub is : world ≡ small_world name
