-- The lines of roots.
use Rattle.std.specs.Prelude.{◌≡◌, ℕ, ◌+◌, List, [], ◌∷◌, ◌++◌, true}
use Rattle.lisp_graph.specs.declared.object.Value.{Value}
use Rattle.lisp_graph.specs.declared.world.World.{World}
use Rattle.sexpr_text.specs.declared.token.Token.{Token}
use Rattle.sexpr_print.specs.declared.printer.Printer.{Printer}
use Rattle.sexpr_print.specs.Printing.{PrintsRoots}
use Rattle.sexpr_print.specs.Spelling.{lines_text}
use Rattle.sexpr_print.specs.Marks.{shared_in}

-- The lines of these values were printed: they are the values of the registers from this one on.
pub record PrintsLines (world : World) (register : ℕ) (values : List Value) (old new : Printer) : Type 0 where
  pub lines : List (List Token)
  pub prints : PrintsRoots world.objects (shared_in old.printed.counts) register old.printed.names values lines
  pub text : new.text.text ≡ old.text.text ++ lines_text world.areas lines
  pub joined : new.text.joined ≡ true

-- The line of one register was printed, if it has one; the lines of the others follow.
pub record PrintsRegister (world : World) (register : ℕ) (value : Value) (old new : Printer) : Type 0 where
  pub lines : List (List Token)
  pub prints : (values : List Value) (others : List (List Token)) → PrintsRoots world.objects (shared_in old.printed.counts) (register + 1) new.printed.names values others
      → PrintsRoots world.objects (shared_in old.printed.counts) register old.printed.names (value ∷ values) (lines ++ others)
  pub counts : new.printed.counts ≡ old.printed.counts
  pub text : new.text.text ≡ old.text.text ++ lines_text world.areas lines
  pub joined : new.text.joined ≡ true
  pub idle : new.tasks.items ≡ []
