-- A whole text of printed roots is read back.
use Rattle.std.proofs.Common.{◌≡◌, ℕ, zero, suc, List, [], ◌∷◌, ◌++◌, length, map, drop, Bool, false, Result, Ok, refl, ap, sym, ◌∙◌, subst, append-nil, append_assoc}
use Rattle.std.specs.Prelude.{if◌then◌else◌, replicate}
use Rattle.file_modes.specs.lisp_graph.declared.object.Value.{Value}
use Rattle.file_modes.specs.lisp_graph.declared.object.Object.{Object}
use Rattle.file_modes.specs.lisp_graph.declared.world.AreaRule.{AreaRule}
use Rattle.file_modes.specs.world_text.Next.{◌>>=◌}
use Rattle.file_modes.specs.sexpr_text.declared.token.Piece.{Piece}
use Rattle.file_modes.specs.sexpr_text.declared.token.Token.{Token}
use Rattle.file_modes.specs.sexpr_text.declared.token.Token.TheVariants.{EndSexpr, End}
use Rattle.file_modes.specs.sexpr_text.declared.fault.SexprReason.TheVariants.{TextAfterEnd}
use Rattle.file_modes.specs.sexpr_text.declared.fault.SexprFault.{SexprFault}
use Rattle.file_modes.specs.sexpr_text.Meaning.{graph_behind}
use Rattle.file_modes.specs.sexpr_text.Pieces.{is_end, pieces_of, token_at}
use Rattle.file_modes.specs.sexpr_text.Reading.{refused}
use Rattle.file_modes.specs.sexpr_text.Roots.{Rooted, ended, has_root, roots_from, unrooted}
use Rattle.file_modes.proofs.sexpr_text.RootLaws.{goes_first, goes_last}
use Rattle.sexpr_laws.specs.ReadBack.{in_order, tokens_of}
use Rattle.sexpr_laws.proofs.TokenPrefixes.{begins_of, left_of}
use Rattle.sexpr_laws.proofs.Copies.{copies, value_in}
use Rattle.sexpr_laws.proofs.Expressions.{Context, Left}
use Rattle.sexpr_laws.proofs.PrintedRoots.{PrintsAll, RootsRead, Stands, roots_read}
use Rattle.file_modes.proofs.dump_laws.NumberingGrowth.{Grows, grows_none}

none_given : (count other : ℕ) → has_root (replicate count false) other ≡ false
none_given zero other = refl
none_given (suc count) zero = refl
none_given (suc count) (suc other) = none_given count other

pub in_order_append : (lines : List (List Token)) (last : List Token) → in_order (lines ++ last ∷ []) ≡ in_order lines ++ last
in_order_append [] last = append-nil last
in_order_append (line ∷ lines) last = ap (λ (l : List Token). line ++ l) (in_order_append lines last) ∙ sym (append_assoc line (in_order lines) last)

two_tokens : (pieces : List Piece) → tokens_of pieces ≡ EndSexpr ∷ End ∷ [] → (token_at pieces ≡ EndSexpr) × (token_at (drop 1 pieces) ≡ End)
two_tokens [] is = absurd (cc (is))
two_tokens (one ∷ []) is = absurd (cc (is))
two_tokens (one ∷ two ∷ pieces) is = (cc (is), cc (is))

stands_first : (objects : List Object) (shared : ℕ → Bool) (all : List ℕ) (registers : List Value) → Stands (unrooted (length registers)) objects shared all [] 0 [] (length registers)
stands_first objects shared all registers = record {
  roots = refl;
  count = refl;
  given = λ other past. none_given 256 other;
  objects_are = refl;
  labels = refl;
}

-- the objects and the roots that were read
abbrev pub graph_said : Rooted → Result (List Object × List Value) SexprFault
graph_said rooted = Ok (rooted.objects, rooted.roots)

pub pieces_read : (objects : List Object) (shared : ℕ → Bool) (registers : List Value) (lines : List (List Token)) (after : List ℕ) (context : Context objects shared) → PrintsAll objects shared 0 [] registers lines after → after ≡ context.all
    → Left objects shared context [] registers → (pieces : List Piece) → tokens_of pieces ≡ in_order (lines ++ (EndSexpr ∷ []) ∷ []) ++ End ∷ []
    → (roots_from (length pieces) (unrooted (length registers)) pieces >>= graph_said) ≡ Ok (copies objects after after, map (value_in after) registers)
pieces_read objects shared registers lines after context prints same going pieces is =
    let tokens : tokens_of pieces ≡ in_order lines ++ (EndSexpr ∷ End ∷ []) = is ∙ ap (λ (l : List Token). l ++ End ∷ []) (in_order_append lines (EndSexpr ∷ [])) ∙ append_assoc (in_order lines) (EndSexpr ∷ []) (End ∷ []) in
    let rest : List Piece = drop (length (in_order lines)) pieces in
    let ends = two_tokens rest (left_of (in_order lines) (EndSexpr ∷ End ∷ []) pieces tokens) in
    let whole : Result Rooted SexprFault = roots_from (length pieces) (unrooted (length registers)) pieces in
    let read : RootsRead whole objects context.all [] registers after rest =
    roots_read prints context going (subst (λ (l : List ℕ). Grows after l) same (grows_none after)) whole (unrooted (length registers)) [] pieces rest (goes_first (unrooted (length registers)) pieces)
    (stands_first objects shared context.all registers) (begins_of (in_order lines) (EndSexpr ∷ End ∷ []) pieces tokens) in
    let now : ended read.now (drop 1 rest) ≡ Ok read.now = ap (λ (token : Token). if is_end token then Ok read.now else refused (drop 1 rest) TextAfterEnd) ends.1 in
    ap (λ (r : Result Rooted SexprFault). r >>= graph_said) (sym (goes_last whole read.now rest read.goes ends.0) ∙ now)
    ∙ ap (λ (os : List Object). graph_said (record read.now { objects = os })) (read.objects_are ∙ ap (λ (l : List ℕ). copies objects l after) (sym same))
    ∙ ap (λ (vs : List Value). graph_said (record read.now { objects = copies objects after after; roots = vs })) (read.roots ∙ ap (λ (l : List ℕ). map (value_in l) registers) (sym same))

pub graph_read : (objects : List Object) (shared : ℕ → Bool) (registers : List Value) (lines : List (List Token)) (after : List ℕ) (context : Context objects shared) → PrintsAll objects shared 0 [] registers lines after → after ≡ context.all
    → Left objects shared context [] registers → (areas : List AreaRule) (line : ℕ) (text : List ℕ) → tokens_of (pieces_of areas line text) ≡ in_order (lines ++ (EndSexpr ∷ []) ∷ []) ++ End ∷ []
    → graph_behind areas (length registers) line text ≡ Ok (copies objects after after, map (value_in after) registers)
unfolding graph_behind
graph_read objects shared registers lines after context prints same going areas line text is = pieces_read objects shared registers lines after context prints same going (pieces_of areas line text) is
