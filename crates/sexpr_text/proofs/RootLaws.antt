-- The roots of a text, one after another.
use Rattle.std.proofs.Common.{◌≡◌, ℕ, zero, suc, ◌-◌, ◌<◌, ◌≤◌, List, [], ◌∷◌, ◌++◌, length, drop, false, Result, Ok, Err, refl, ap, sym, subst, ◌∙◌, arith}
use Rattle.std.specs.Prelude.{IfOk, if◌then◌else◌}
use Rattle.lisp_graph.specs.declared.object.Value.{Value}
use Rattle.lisp_graph.specs.declared.object.Object.{Object}
use Rattle.world_text.specs.Next.{◌>>=◌}
use Rattle.sexpr_text.specs.declared.token.Piece.{Piece}
use Rattle.sexpr_text.specs.declared.token.Token.{Token}
use Rattle.sexpr_text.specs.declared.token.Token.TheVariants.{Root, EndSexpr, Dot, Atom, Label, Again, Open, Close, Unknown, End}
use Rattle.sexpr_text.specs.declared.fault.SexprFault.{SexprFault}
use Rattle.sexpr_text.specs.declared.fault.SexprFault.TheVariants.{Bad, TooSmall, NoMemory}
use Rattle.sexpr_text.specs.Pieces.{line_at, token_at}
use Rattle.sexpr_text.specs.Reading.{IsFault, Read, expression, misplaced, refused}
use Rattle.sexpr_text.specs.Tasks.{TaskState, grown_value}
use Rattle.sexpr_text.specs.Roots.{Rooted, ended, is_last_token, is_root, root_at, roots_from}
use Rattle.sexpr_text.proofs.RemainingPieces.{expression_takes}

-- the roots from here on
abbrev pub roots_here : ℕ → Rooted → List Piece → Result Rooted SexprFault
roots_here more rooted pieces =
    if is_last_token (token_at pieces) then ended rooted (drop 1 pieces)
    else if is_root (token_at pieces) then (root_at rooted (drop 1 pieces) >>= λ x. roots_from more x.0 x.1)
    else refused pieces (misplaced (token_at pieces))

roots_is : (more : ℕ) (rooted : Rooted) (pieces : List Piece) → length pieces ≤ more → roots_from more rooted pieces ≡ roots_here (more - 1) rooted pieces
unfolding roots_from
roots_is zero rooted [] few = refl
roots_is zero rooted (piece ∷ pieces) few = absurd (omega arith)
roots_is (suc more) rooted pieces few = let e : suc more - 1 ≡ more = omega arith in rw e refl

-- the roots from here on are what remains of the whole
pub record Goes (whole : Result Rooted SexprFault) (now : Rooted) (pieces : List Piece) : Type 0 where
  pub more : ℕ
  pub few : length pieces ≤ more
  pub is : roots_from more now pieces ≡ whole

pub goes_first : (rooted : Rooted) (pieces : List Piece) → Goes (roots_from (length pieces) rooted pieces) rooted pieces
goes_first rooted pieces = record { more = length pieces; few = omega arith; is = refl }

here_root : (more : ℕ) (rooted : Rooted) (pieces : List Piece) → token_at pieces ≡ Root → roots_here more rooted pieces ≡ root_at rooted (drop 1 pieces) >>= λ x. roots_from more x.0 x.1
here_root more rooted pieces is = rw is refl

-- after one more root
pub goes_root : (whole : Result Rooted SexprFault) (now next : Rooted) (pieces rest : List Piece) → Goes whole now pieces → token_at pieces ≡ Root → root_at now (drop 1 pieces) ≡ Ok (next, rest) → length rest < length pieces → Goes whole next rest
goes_root whole now next pieces rest goes token is less = record {
  more = goes.more - 1;
  few = omega (arith, goes.few);
  is = sym (ap (λ (r : Result (Rooted × List Piece) SexprFault). r >>= λ x. roots_from (goes.more - 1) x.0 x.1) is) ∙ sym (here_root (goes.more - 1) now pieces token) ∙ sym (roots_is goes.more now pieces goes.few) ∙ goes.is;
}

fault_behind : {A B : Type 0} (fault : SexprFault) (first : Result A SexprFault) (next : A → Result B SexprFault) → IsFault fault first → IsFault fault (first >>= next)
fault_behind (Bad line reason) first next is = ap (λ f. f >>= next) is
fault_behind (TooSmall line) first next is = ap (λ f. f >>= next) is
fault_behind NoMemory first next is = tt

pub goes_fails : (fault : SexprFault) (whole : Result Rooted SexprFault) (now : Rooted) (pieces : List Piece) → Goes whole now pieces → token_at pieces ≡ Root → IsFault fault (root_at now (drop 1 pieces)) → IsFault fault whole
goes_fails fault whole now pieces goes token is =
    let e : root_at now (drop 1 pieces) >>= (λ x. roots_from (goes.more - 1) x.0 x.1) ≡ whole = sym (here_root (goes.more - 1) now pieces token) ∙ sym (roots_is goes.more now pieces goes.few) ∙ goes.is in
    let P : Result Rooted SexprFault → Type 0 = λ r. IsFault fault r in
    subst P e (fault_behind fault (root_at now (drop 1 pieces)) (λ x. roots_from (goes.more - 1) x.0 x.1) is)

here_last : (more : ℕ) (rooted : Rooted) (pieces : List Piece) → token_at pieces ≡ EndSexpr → roots_here more rooted pieces ≡ ended rooted (drop 1 pieces)
here_last more rooted pieces is = rw is refl

-- at `end-sexpr`
pub goes_last : (whole : Result Rooted SexprFault) (now : Rooted) (pieces : List Piece) → Goes whole now pieces → token_at pieces ≡ EndSexpr → ended now (drop 1 pieces) ≡ whole
goes_last whole now pieces goes token = sym (here_last (goes.more - 1) now pieces token) ∙ sym (roots_is goes.more now pieces goes.few) ∙ goes.is

here_wrong : (more : ℕ) (rooted : Rooted) (pieces : List Piece) → is_last_token (token_at pieces) ≡ false → is_root (token_at pieces) ≡ false → roots_here more rooted pieces ≡ refused pieces (misplaced (token_at pieces))
here_wrong more rooted pieces no_last no_root = rw (no_last, no_root) refl

-- at another token
pub goes_wrong : (whole : Result Rooted SexprFault) (now : Rooted) (pieces : List Piece) → Goes whole now pieces → is_last_token (token_at pieces) ≡ false → is_root (token_at pieces) ≡ false
    → whole ≡ Err (Bad (line_at pieces) (misplaced (token_at pieces)))
goes_wrong whole now pieces goes no_last no_root = sym goes.is ∙ roots_is goes.more now pieces goes.few ∙ here_wrong (goes.more - 1) now pieces no_last no_root

-- an expression that was read leaves fewer pieces
left : (objects : List Object) (count : ℕ) (value : Value) (new : TaskState) (read : Result (Read Value) SexprFault) → IfOk read (λ r. length r.rest < count) → grown_value objects read ≡ Ok (value, new) → length new.pieces < count
left objects count value new (Err fault) takes is = absurd (cc)
left objects count value new (Ok r) takes is =
    let e : ◌≡◌ {A = Value × TaskState} (r.value, record { objects = objects ++ r.objects; labels = r.labels; pieces = r.rest }) (value, new) = cc in
    let f : r.rest ≡ new.pieces = ap (λ (p : Value × TaskState). p.1.pieces) e in
    omega (arith, ap length f)

pub expression_left : (objects : List Object) (labels : List (ℕ × ℕ)) (pieces : List Piece) (value : Value) (new : TaskState) → grown_value objects (expression (length pieces) (length objects) labels pieces) ≡ Ok (value, new) → length new.pieces < length pieces
expression_left objects labels pieces value new is =
    left objects (length pieces) value new (expression (length pieces) (length objects) labels pieces) ((expression_takes (length pieces)).takes (length objects) labels pieces) is

-- a token that neither ends the roots nor begins one
neither : (token : Token) → (token ≡ EndSexpr → ⊥) → (token ≡ Root → ⊥) → (is_last_token token ≡ false) × (is_root token ≡ false)
neither EndSexpr last root = absurd (last refl)
neither Root last root = absurd (root refl)
neither Dot last root = (refl, refl)
neither (Atom value) last root = (refl, refl)
neither (Label label) last root = (refl, refl)
neither (Again label) last root = (refl, refl)
neither (Open area bracket) last root = (refl, refl)
neither (Close bracket) last root = (refl, refl)
neither Unknown last root = (refl, refl)
neither End last root = (refl, refl)

-- at any other token
pub goes_other : (fault : SexprFault) (whole : Result Rooted SexprFault) (now : Rooted) (pieces : List Piece) (token : Token) → Goes whole now pieces → token ≡ token_at pieces → (token ≡ EndSexpr → ⊥) → (token ≡ Root → ⊥)
    → fault ≡ Bad (line_at pieces) (misplaced token) → IsFault fault whole
goes_other fault whole now pieces token goes is last root refuses =
    let e : token_at pieces ≡ token = sym is in
    let first : is_last_token (token_at pieces) ≡ false = ap is_last_token e ∙ (neither token last root).0 in
    let second : is_root (token_at pieces) ≡ false = ap is_root e ∙ (neither token last root).1 in
    let f : Bad (line_at pieces) (misplaced (token_at pieces)) ≡ fault = ap (λ t. Bad (line_at pieces) (misplaced t)) e ∙ sym refuses in
    let P : SexprFault → Type 0 = λ f. IsFault f whole in
    subst P f (goes_wrong whole now pieces goes first second)
