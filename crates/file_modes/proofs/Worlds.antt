-- A mode can be applied to each world that a text means: its references are to its objects, and each register has a root.
use Rattle.std.proofs.Common.{◌≡◌, ℕ, zero, suc, ◌+◌, ◌-◌, ◌<◌, ◌≤◌, List, [], ◌∷◌, length, drop, take, Bool, true, false, Option, Some, None, Result, Ok, Err, refl, ap, ◌∙◌, subst, arith}
use Rattle.std.specs.Prelude.{if◌then◌else◌, ◌==◌, ◌^◌, nat_lt, replicate, slice_index, bytes_eq, codes}
use Rattle.std.specs.List.{All}
use Rattle.std.proofs.lemmas.List.{length-append, length-replicate, length-set}
use Rattle.std.proofs.lemmas.List.Elements.{All-append, All-cons, All-nil, All-set}
use Rattle.lisp_graph.specs.Name.{is_name}
use Rattle.lisp_graph.specs.Graph.{IsGraph, IsObject, RefersBelow}
use Rattle.lisp_graph.specs.declared.object.Value.{Value}
use Rattle.lisp_graph.specs.declared.object.Value.TheVariants.{Fix, Nil, Ref}
use Rattle.lisp_graph.specs.declared.object.Object.{Object}
use Rattle.lisp_graph.specs.declared.world.AreaRule.{AreaRule}
use Rattle.lisp_graph.specs.declared.world.World.{World}
use Rattle.world_text.specs.Next.{◌>>=◌}
use Rattle.world_text.specs.Numbers.{value_of}
use Rattle.world_text.specs.declared.fault.WorldStep.TheVariants.{Next}
use Rattle.world_text.specs.declared.reading.reader.WorldReader.{WorldReader}
use Rattle.world_text.specs.Reader.{Said, opening_place}
use Rattle.world_text.specs.Line.{line_at}
use Rattle.world_text.specs.Limits.{IsReached, has_objects}
use Rattle.world_text.proofs.reading_laws.PlaceInvariant.{judged_reached, opening_reached}
use Rattle.sexpr_text.specs.declared.bracket.Bracket.{Bracket}
use Rattle.sexpr_text.specs.declared.token.Piece.{Piece}
use Rattle.sexpr_text.specs.declared.token.Token.{Token}
use Rattle.sexpr_text.specs.declared.token.Token.TheVariants.{Label, Again, Close, Dot, Root, EndSexpr, Unknown, End}
use Rattle.sexpr_text.specs.declared.fault.SexprFault.{SexprFault}
use Rattle.sexpr_text.specs.declared.fault.SexprFault.TheVariants.{Bad}
use Rattle.sexpr_text.specs.declared.fault.SexprReason.TheVariants.{Header, NoEnd}
use Rattle.world_text.specs.declared.reading.reason.Reason.TheVariants.{NotAWorld}
use Rattle.sexpr_text.specs.Brackets.{closed_by, opened_by}
use Rattle.sexpr_text.specs.Tokens.{atom_of, label_in, label_token, plain_token, token_by_bracket, token_of}
use Rattle.sexpr_text.specs.Pieces.{is_end, is_feed, line_past, piece_length, pieces_from, pieces_of, token_at}
use Rattle.sexpr_text.specs.Reading.{expression, misplaced, refused}
use Rattle.sexpr_text.specs.Roots.{Rooted, ended, is_last_token, is_root, register_at, root_at, roots_from, unrooted, with_root}
use Rattle.sexpr_text.specs.Meaning.{Head, behind_line, first_line, graph_behind, header, header_line, meaning, place_behind, said_behind, second_place}
use Rattle.file_modes.specs.Modes.{IsDumpable}
use Rattle.file_modes.proofs.WorldReferences.{ArePlain, AreBelow, IsPlain, behind, bind_parts, expression_sound, ok_is}

-- Tokens

plain_if : (b : Bool) (x y : Token) → IsPlain x → IsPlain y → IsPlain (if b then x else y)
plain_if true x y first second = first
plain_if false x y first second = second

atom_plain : (value : Option Value) → IsPlain (atom_of value)
atom_plain (Some (Fix number)) = tt
atom_plain (Some Nil) = tt
atom_plain (Some (Ref number)) = tt
atom_plain None = tt

word_plain : (piece : List ℕ) → IsPlain (plain_token piece)
word_plain piece =
    plain_if (bytes_eq piece (codes "root")) Root _ tt
    (plain_if (bytes_eq piece (codes "end-sexpr")) EndSexpr _ tt (plain_if (bytes_eq piece (codes ".")) Dot _ tt (atom_plain (value_of piece))))

label_plain : (label : Option ℕ) → IsPlain (label_token Label label)
label_plain None = tt
label_plain (Some number) = tt

again_plain : (label : Option ℕ) → IsPlain (label_token Again label)
again_plain None = tt
again_plain (Some number) = tt

bracket_plain : (areas : List AreaRule) (piece front : List ℕ) (last : ℕ) (opened shut : Option Bracket) → IsPlain (token_by_bracket areas piece front last opened shut)
bracket_plain areas piece front last (Some bracket) shut = plain_if (is_name front) _ Unknown tt tt
bracket_plain areas piece front last None (Some bracket) = plain_if (length front == 0) (Close bracket) Unknown tt tt
bracket_plain areas piece front last None None =
    plain_if (last == 61) (label_token Label (label_in front)) _ (label_plain (label_in front)) (plain_if (last == 35) (label_token Again (label_in front)) _ (again_plain (label_in front)) (word_plain piece))

token_is_plain : (areas : List AreaRule) (piece : List ℕ) → IsPlain (token_of areas piece)
token_is_plain areas piece =
    let last : ℕ = slice_index piece (length piece - 1) in
    bracket_plain areas piece (take (length piece - 1) piece) last (opened_by last) (closed_by last)

-- Pieces

all_if : (b : Bool) (x y : List Piece) → ArePlain x → ArePlain y → ArePlain (if b then x else y)
all_if true x y first second = first
all_if false x y first second = second

one_more : (piece : Piece) (pieces : List Piece) → IsPlain piece.token → ArePlain pieces → ArePlain (piece ∷ pieces)
one_more piece pieces first others = All-cons (λ (p : Piece). IsPlain p.token) piece pieces first others

pieces_plain : (areas : List AreaRule) (past skip line : ℕ) (bytes : List ℕ) → ArePlain (pieces_from areas past skip line bytes)
unfolding pieces_from
pieces_plain areas past skip line [] = one_more (record { line = past; token = End }) [] tt (All-nil (λ (p : Piece). IsPlain p.token))
pieces_plain areas past (suc skip) line (byte ∷ bytes) = pieces_plain areas past skip line bytes
pieces_plain areas past zero line (byte ∷ bytes) =
    all_if (is_feed byte) _ _ (pieces_plain areas past 0 (line + 1) bytes) (all_if (byte == 32) _ _ (pieces_plain areas past 0 line bytes)
    (one_more (record { line = line; token = token_of areas (take (piece_length (byte ∷ bytes)) (byte ∷ bytes)) }) (pieces_from areas past (piece_length (byte ∷ bytes) - 1) line bytes)
    (token_is_plain areas (take (piece_length (byte ∷ bytes)) (byte ∷ bytes))) (pieces_plain areas past (piece_length (byte ∷ bytes) - 1) line bytes)))

-- Roots

record IsRooted (bound : ℕ) (rooted : Rooted) : Type 0 where
  roots : All (RefersBelow bound) rooted.roots
  objects : All (IsObject bound) rooted.objects
  labels : AreBelow bound rooted.labels

-- one more root
record IsRooting (rooted : Rooted) (pieces : List Piece) (next : Rooted) (rest : List Piece) : Type 0 where
  size : length next.roots ≡ length rooted.roots
  grows : length rooted.objects ≤ length next.objects
  sound : (bound : ℕ) → length next.objects ≤ bound → ArePlain pieces → IsRooted bound rooted → IsRooted bound next × ArePlain rest

root_more : (rooted : Rooted) (pieces : List Piece) (next : Rooted × List Piece) → root_at rooted pieces ≡ Ok next → IsRooting rooted pieces next.0 next.1
unfolding root_at
root_more rooted pieces next is =
    let p = bind_parts (register_at (length rooted.roots) rooted.given pieces) _ next is in
    let q = bind_parts (expression (length (drop 1 pieces)) (length rooted.objects) rooted.labels (drop 1 pieces)) _ next p.2 in
    let made : Rooted × List Piece = (with_root rooted p.0 q.0.value q.0.objects q.0.labels, q.0.rest) in
    let e : made ≡ next = ok_is made next q.2 in
    subst (λ (r : Rooted × List Piece). IsRooting rooted pieces r.0 r.1) e (record {
      size = length-set rooted.roots p.0 q.0.value;
      grows = omega (arith, length-append rooted.objects q.0.objects);
      sound = λ bound within plain so.
          let read = expression_sound (length (drop 1 pieces)) bound (length rooted.objects) rooted.labels (drop 1 pieces) q.0 q.1 so.labels (behind 1 pieces plain) (omega (arith, within, length-append rooted.objects q.0.objects)) in (
            record {
              roots = All-set (RefersBelow bound) rooted.roots p.0 q.0.value read.value so.roots;
              objects = All-append (IsObject bound) rooted.objects q.0.objects so.objects read.objects;
              labels = read.labels;
            },
            read.rest,
          );
    })

-- the last root was read
record IsEnding (rooted : Rooted) (pieces : List Piece) (last : Rooted) : Type 0 where
  size : length last.roots ≡ length rooted.roots
  grows : length rooted.objects ≤ length last.objects
  sound : (bound : ℕ) → length last.objects ≤ bound → ArePlain pieces → IsRooted bound rooted → IsRooted bound last

same_end : (rooted : Rooted) (pieces : List Piece) (last : Rooted) → rooted ≡ last → IsEnding rooted pieces last
same_end rooted pieces last is = subst (IsEnding rooted pieces) is (record { size = refl; grows = omega arith; sound = λ bound within plain so. so })

if_end : (b : Bool) (rooted : Rooted) (pieces : List Piece) (fault : SexprFault) (last : Rooted) → (if b then Ok rooted else Err fault) ≡ Ok last → IsEnding rooted pieces last
if_end true rooted pieces fault last is = same_end rooted pieces last (ok_is rooted last is)
if_end false rooted pieces fault last is = absurd (cc (is))

more_end : (rooted : Rooted) (pieces : List Piece) (next : Rooted) (rest : List Piece) (last : Rooted) → IsRooting rooted (drop 1 pieces) next rest → IsEnding next rest last → IsEnding rooted pieces last
more_end rooted pieces next rest last first others = record {
  size = others.size ∙ first.size;
  grows = omega (arith, first.grows, others.grows);
  sound = λ bound within plain so. (let f = first.sound bound (omega (arith, within, others.grows)) (behind 1 pieces plain) so in others.sound bound within f.1 f.0);
}

roots_end : (count : ℕ) (rooted : Rooted) (pieces : List Piece) (last : Rooted) → roots_from count rooted pieces ≡ Ok last → IsEnding rooted pieces last
unfolding roots_from
roots_end zero rooted pieces last is = absurd (cc (is))
roots_end (suc count) rooted pieces last is = by_last (is_last_token (token_at pieces)) (roots_end count) is
  where
    Others : Type 0
    Others = (rooted : Rooted) (pieces : List Piece) (last : Rooted) → roots_from count rooted pieces ≡ Ok last → IsEnding rooted pieces last

    by_root : (b : Bool) → Others → (if b then (root_at rooted (drop 1 pieces) >>= λ p. roots_from count p.0 p.1) else refused pieces (misplaced (token_at pieces))) ≡ Ok last → IsEnding rooted pieces last
    by_root true others so =
        let p = bind_parts (root_at rooted (drop 1 pieces)) _ last so in
        more_end rooted pieces p.0.0 p.0.1 last (root_more rooted (drop 1 pieces) p.0 p.1) (others p.0.0 p.0.1 last p.2)
    by_root false others so = absurd (cc (so))

    by_last : (b : Bool) → Others → (if b then ended rooted (drop 1 pieces)
        else if is_root (token_at pieces) then (root_at rooted (drop 1 pieces) >>= λ p. roots_from count p.0 p.1) else refused pieces (misplaced (token_at pieces))) ≡ Ok last → IsEnding rooted pieces last
    by_last true others so = if_end (is_end (token_at (drop 1 pieces))) rooted pieces _ last so
    by_last false others so = by_root (is_root (token_at pieces)) others so

-- Graphs

nils : (count bound : ℕ) → All (RefersBelow bound) (replicate count Nil)
nils zero bound = All-nil (RefersBelow bound)
nils (suc count) bound = All-cons (RefersBelow bound) Nil (replicate count Nil) tt (nils count bound)

record IsBehind (registers : ℕ) (graph : List Object × List Value) : Type 0 where
  size : length graph.1 ≡ registers
  sound : IsGraph (record { registers = graph.1; objects = graph.0 })

graph_sound : (areas : List AreaRule) (registers line : ℕ) (text : List ℕ) (graph : List Object × List Value) → graph_behind areas registers line text ≡ Ok graph → IsBehind registers graph
unfolding graph_behind
graph_sound areas registers line text graph is =
    let pieces = pieces_of areas line text in
    let p = bind_parts (roots_from (length pieces) (unrooted registers) pieces) _ graph is in
    let end = roots_end (length pieces) (unrooted registers) pieces p.0 p.1 in
    let bound = length p.0.objects in
    let so = end.sound bound (omega arith) (pieces_plain areas (line_past line text) 0 line text)
    (record { roots = nils registers bound; objects = All-nil (IsObject bound); labels = All-nil (λ (l : ℕ × ℕ). l.1 < bound) }) in
    subst (IsBehind registers) (ok_is (p.0.objects, p.0.roots) graph p.2) (record { size = end.size ∙ length-replicate registers Nil; sound = record { registers = so.roots; objects = so.objects } })

-- Headers

second_reached : IsReached second_place
second_reached = judged_reached (opening_place true) second_place (codes "lispm-world 2") (Ok Next) (opening_reached true) refl

said_reached : (place next : WorldReader) (line : ℕ) (text : List ℕ) (said : Said) → IsReached place → line_at place text ≡ said → place_behind line said ≡ Ok next → IsReached next
said_reached place next line text (Ok (step, other)) reached so is =
    subst IsReached (ok_is other next is) (judged_reached place other text (Ok step) reached so)
said_reached place next line text (Err fault) reached so is = absurd (cc (is))

if_reached : (b : Bool) (place next : WorldReader) (line : ℕ) (text : List ℕ) (fault : SexprFault) → IsReached place → (if b then Err fault else place_behind line (line_at place text)) ≡ Ok next → IsReached next
if_reached true place next line text fault reached is = absurd (cc (is))
if_reached false place next line text fault reached is = said_reached place next line text (line_at place text) reached refl is

record IsHeader (world : World) : Type 0 where
  place : WorldReader
  reached : IsReached place
  is : place.world ≡ world

header_sound : (count : ℕ) (place : WorldReader) (line : ℕ) (text : List ℕ) (head : Head) → IsReached place → header count place line text ≡ Ok head → IsHeader head.world
unfolding header
header_sound zero place line text head reached is = absurd (cc (is))
header_sound (suc count) place line text head reached is = by_empty (length text == 0) (header_sound count) is
  where
    Others : Type 0
    Others = (place : WorldReader) (line : ℕ) (text : List ℕ) (head : Head) → IsReached place → header count place line text ≡ Ok head → IsHeader head.world

    by_last : (b : Bool) (next : WorldReader) → Others → IsReached next → (if b then Ok (record { world = next.world; line = line + 1; rest = behind_line text }) else header count next (line + 1) (behind_line text)) ≡ Ok head → IsHeader head.world
    by_last true next others there so =
        let e : record { world = next.world; line = line + 1; rest = behind_line text } ≡ head = ok_is _ head so in
        record { place = next; reached = there; is = ap (λ (h : Head). h.world) e }
    by_last false next others there so = others next (line + 1) (behind_line text) head there so

    by_empty : (b : Bool) → Others → (if b then Err (Bad line NoEnd) else (header_line place line (first_line text) >>= λ next.
        if has_objects next.part then Ok (record { world = next.world; line = line + 1; rest = behind_line text }) else header count next (line + 1) (behind_line text))) ≡ Ok head → IsHeader head.world
    by_empty true others so = absurd (cc (so))
    by_empty false others so =
        let p = bind_parts (header_line place line (first_line text)) _ head so in
        by_last (has_objects p.0.part) p.0 others (if_reached (nat_lt 32768 (length (first_line text))) place p.0 line (first_line text) _ reached p.1) p.2

-- Worlds

said_dumpable : (text : List ℕ) (world : World) → said_behind text ≡ Ok world → IsDumpable world
unfolding said_behind
said_dumpable text world is =
    let p = bind_parts (header (length text) second_place 2 text) _ world is in
    let head = header_sound (length text) second_place 2 text p.0 second_reached p.1 in
    let q = bind_parts (graph_behind p.0.world.areas p.0.world.space.registers p.0.line p.0.rest) _ world p.2 in
    let graph = graph_sound p.0.world.areas p.0.world.space.registers p.0.line p.0.rest q.0 q.1 in
    let made : World = record p.0.world { objects = q.0.0; roots = q.0.1 } in
    subst IsDumpable (ok_is made world q.2) (record { graph = graph.sound; roots = graph.size; levels = subst (λ (w : World). w.space.levels ≤ 6) head.is head.reached.limits.levels })

if_dumpable : (b : Bool) (fault : SexprFault) (said : Result World SexprFault) (world : World) → (said ≡ Ok world → IsDumpable world) → (if b then Err fault else said) ≡ Ok world → IsDumpable world
if_dumpable true fault said world others is = absurd (cc (is))
if_dumpable false fault said world others is = others is

-- the world that a text means
pub meaning_dumpable : (text : List ℕ) (world : World) → meaning text ≡ Ok world → IsDumpable world
meaning_dumpable text world is =
    if_dumpable (nat_lt (2 ^ 40) (length text)) _ _ world (if_dumpable (nat_lt 32768 (length (first_line text))) _ _ world
    (λ so. by_first (bytes_eq (first_line text) (codes "sexpr-world 1")) so)) is
  where
    by_first : (b : Bool) → (if b then said_behind (behind_line text) else Err (Bad 1 (Header NotAWorld))) ≡ Ok world → IsDumpable world
    by_first true so = said_dumpable (behind_line text) world so
    by_first false so = absurd (cc (so))
