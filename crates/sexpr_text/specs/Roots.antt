-- What the lines of a text after its header mean: the roots, up to `end-sexpr`.
use Rattle.std.specs.Prelude.{ℕ, zero, suc, List, [], ◌++◌, length, drop, replicate, slice_set, slice_get, Bool, true, false, if◌then◌else◌, unwrap_or, Result, Ok}
use Rattle.lisp_graph.specs.declared.object.Value.{Value}
use Rattle.lisp_graph.specs.declared.object.Value.TheVariants.{Nil}
use Rattle.lisp_graph.specs.declared.object.Object.{Object}
use Rattle.world_text.specs.Next.{◌>>=◌}
use Rattle.sexpr_text.specs.declared.token.Piece.{Piece}
use Rattle.sexpr_text.specs.declared.token.Token.{Token}
use Rattle.sexpr_text.specs.declared.token.Token.TheVariants.{Root, EndSexpr}
use Rattle.sexpr_text.specs.declared.fault.SexprReason.TheVariants.{NoRegister, RegisterTwice, NoEnd, TextAfterEnd}
use Rattle.sexpr_text.specs.declared.fault.SexprFault.{SexprFault}
use Rattle.sexpr_text.specs.Pieces.{is_end, token_at}
use Rattle.sexpr_text.specs.Reading.{expression, found_at, integer_at, misplaced, natural_below, refused}

-- the values of the registers, which of them have a root, and the objects and labels so far
pub record Rooted : Type 0 where
  pub roots : List Value
  pub given : List Bool
  pub objects : List Object
  pub labels : List (ℕ × ℕ)

-- nothing was read
abbrev pub unrooted : ℕ → Rooted
unrooted registers = record { roots = replicate registers Nil; given = replicate 256 false; objects = []; labels = [] }

abbrev pub is_root : Token → Bool
is_root Root = true
is_root _ = false

abbrev pub is_last_token : Token → Bool
is_last_token EndSexpr = true
is_last_token _ = false

abbrev pub has_root : List Bool → ℕ → Bool
has_root given register = unwrap_or (slice_get given register) false

-- the register of a root, which has none yet
unfoldable pub register_at : ℕ → List Bool → List Piece → Result ℕ SexprFault
register_at registers given pieces = do
  number ← integer_at pieces
  register ← found_at pieces NoRegister (natural_below registers number)
  if has_root given register then refused pieces RegisterTwice else Ok register

-- with one more root
abbrev pub with_root : Rooted → ℕ → Value → List Object → List (ℕ × ℕ) → Rooted
with_root rooted register value objects labels =
    record { roots = slice_set rooted.roots register value; given = slice_set rooted.given register true; objects = rooted.objects ++ objects; labels = labels }

-- the register and the expression after `root`, and the pieces after them
unfoldable pub root_at : Rooted → List Piece → Result (Rooted × List Piece) SexprFault
root_at rooted pieces = do
  register ← register_at (length rooted.roots) rooted.given pieces
  read ← expression (length (drop 1 pieces)) (length rooted.objects) rooted.labels (drop 1 pieces)
  Ok (with_root rooted register read.value read.objects read.labels, read.rest)

-- after `end-sexpr` the text ends
abbrev pub ended : Rooted → List Piece → Result Rooted SexprFault
ended rooted pieces = if is_end (token_at pieces) then Ok rooted else refused pieces TextAfterEnd

-- The roots from here on up to the end of the text, at most this many.
unfoldable pub roots_from : ℕ → Rooted → List Piece → Result Rooted SexprFault
roots_from zero rooted pieces = refused pieces NoEnd
roots_from (suc more) rooted pieces =
    if is_last_token (token_at pieces) then ended rooted (drop 1 pieces)
    else if is_root (token_at pieces) then (do
      (next, rest) ← root_at rooted (drop 1 pieces)
      roots_from more next rest)
    else refused pieces (misplaced (token_at pieces))
