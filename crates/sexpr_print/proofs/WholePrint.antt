-- A whole print.
use Rattle.std.proofs.Common.{◌≡◌, ℕ, Bool, sym, ◌∙◌, ap, subst, List, [], ◌∷◌, ◌++◌, append_assoc}
use Rattle.lisp_graph.specs.World.{opening}
use Rattle.lisp_graph.specs.KeyedGraph.{keyed}
use Rattle.lisp_graph.specs.declared.world.World.{World}
use Rattle.world_text.specs.Numbering.{IsNumbering}
use Rattle.sexpr_text.specs.declared.token.Token.TheVariants.{EndSexpr}
use Rattle.sexpr_print.specs.declared.printer.Printer.{Printer}
use Rattle.sexpr_print.specs.Places.{held, is_shared}
use Rattle.sexpr_print.specs.Printing.{PrintsRoots}
use Rattle.sexpr_print.specs.Marks.{shared_in}
use Rattle.sexpr_print.specs.Lines.{PrintsLines}
use Rattle.sexpr_print.specs.Spelling.{IsPrint, header_text, lines_text}
use Rattle.sexpr_print.proofs.RootLines.{lines_append}

pub printed_whole : (world : World) (names : List ℕ) (old new : Printer) (text : List ℕ) → IsNumbering (keyed (opening world)) names → shared_in old.printed.counts ≡ is_shared (held (opening world) names) → old.printed.names ≡ []
    → old.text.text ≡ header_text world.space world.areas → PrintsLines world 0 world.roots old new → text ≡ new.text.text ++ lines_text world.areas ((EndSexpr ∷ []) ∷ []) → IsPrint world text
printed_whole world names old new text reached shared none head lines ended =
    let P : (ℕ → Bool) → List ℕ → Type 0 = λ s ns. PrintsRoots world.objects s 0 ns world.roots lines.lines in
    let end = (EndSexpr ∷ []) ∷ [] in
    record {
      names = names;
      reached = reached;
      lines = lines.lines;
      prints = subst (λ ns. P (is_shared (held (opening world) names)) ns) none (subst (λ s. P s old.printed.names) shared lines.prints);
      is = ended ∙ ap (λ l. l ++ lines_text world.areas end) (lines.text ∙ ap (λ l. l ++ lines_text world.areas lines.lines) head)
          ∙ append_assoc (header_text world.space world.areas) (lines_text world.areas lines.lines) (lines_text world.areas end)
          ∙ ap (λ l. header_text world.space world.areas ++ l) (sym (lines_append world.areas lines.lines end));
    }
