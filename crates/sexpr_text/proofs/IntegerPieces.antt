-- Integers as pieces of a text.
use Rattle.std.proofs.Common.{◌≡◌, ℕ, ◌+◌, ◌-◌, ◌<◌, ℤ, pos, negsuc, List, [], ◌∷◌, ◌++◌, length, get_or, take, drop, Bool, true, false, Option, Some, None, refl, ap, sym, subst, ◌∙◌, arith, decimal, codes, length-append}
use Rattle.std.specs.Prelude.{◌==◌, ◌||◌, ◌&&◌, not, if◌then◌else◌, is_some, bytes_eq, slice_index}
use Rattle.std.specs.Fmt.{signed_decimal}
use Rattle.std.specs.List.{list_all}
use Rattle.std.proofs.lemmas.Bool.Decides.{nat_tests}
use Rattle.std.proofs.lemmas.Fmt.{decimal_nonempty}
use Rattle.std.proofs.lemmas.List.{drop_at, take_at}
use Rattle.lisp_graph.specs.Name.{is_name_byte}
use Rattle.lisp_graph.specs.declared.object.Value.{Value}
use Rattle.lisp_graph.specs.declared.object.Value.TheVariants.{Fix}
use Rattle.lisp_graph.specs.declared.world.AreaRule.{AreaRule}
use Rattle.world_text.specs.declared.reading.reason.Reason.TheVariants.{BadValue}
use Rattle.world_text.specs.Numbers.{value_of}
use Rattle.world_text.specs.Spelling.{IsWritten}
use Rattle.world_text.proofs.reading_laws.NumberLaws.{decimal_first, found_is}
use Rattle.world_text.proofs.reading_laws.Rows.{both}
use Rattle.world_text.proofs.reading_laws.ValueLaws.{other_bytes, values_spell}
use Rattle.sexpr_text.specs.declared.bracket.Bracket.{Bracket}
use Rattle.sexpr_text.specs.declared.token.Token.{Token}
use Rattle.sexpr_text.specs.declared.token.Token.TheVariants.{Root, EndSexpr, Dot, Atom, Label, Again}
use Rattle.sexpr_text.specs.Brackets.{closed_by}
use Rattle.sexpr_text.specs.Pieces.{is_edge, is_last, is_white, piece_end, piece_length, pieces_from}
use Rattle.sexpr_text.specs.Tokens.{atom_of, label_in, label_token, plain_token, token_by_bracket, token_of}
use Rattle.sexpr_text.proofs.Cuts.{NonePass, byte_at, first_byte, first_found, last_passes, none_from}
use Rattle.sexpr_text.proofs.Bytes.{IsStop, name_edge, name_plain, signed_name}
use Rattle.sexpr_text.proofs.Scans.{pieces_first}

-- Pieces

-- followed by this rest, the text is one piece
pub record IsPiece (text rest : List ℕ) : Type 0 where
  pub some : 0 < length text
  pub black : is_white (slice_index text 0) ≡ false
  pub size : length text ≡ piece_length (text ++ rest)

pub white_first : (text : List ℕ) → 0 < length text → NonePass is_edge text → is_white (slice_index text 0) ≡ false
white_first [] some none = absurd (omega arith)
white_first (byte ∷ bytes) some none = of_parts (is_white byte) (is_some (closed_by byte)) (is_last byte) (both (not (is_edge byte)) (list_all (λ byte. not (is_edge byte)) bytes) none).0
  where
    of_parts : (white closes ends : Bool) → not (white || closes || ends) ≡ true → white ≡ false
    of_parts true closes ends none = absurd (cc (none))
    of_parts false closes ends none = refl

-- the piece ends before its first edge
end_before : (place : ℕ) (last : Bool) → 0 < place → last ≡ false → (if place == 0 || last then place + 1 else place) ≡ place
end_before place last some is = let first : (place == 0) ≡ false = grind (arith, nat_tests) in rw (first, is) refl

-- a text that ends as a piece because of the byte after it
stopped : (text : List ℕ) (byte : ℕ) (rest : List ℕ) → 0 < length text → NonePass is_edge text → IsStop byte → IsPiece text (byte ∷ rest)
stopped text byte rest some none stop =
    let whole : List ℕ = text ++ byte ∷ rest in
    record {
      some = some;
      black = white_first text some none;
      size = sym (ap (piece_end whole) (first_found is_edge text byte rest none stop.edge)
          ∙ end_before (length text) (is_last (slice_index whole (length text))) some (ap is_last (byte_at text byte rest) ∙ stop.behind));
    }

-- a text whose first byte ends the piece before it
pub record Stops (text : List ℕ) : Type 0 where
  pub byte : ℕ
  pub others : List ℕ
  pub is : text ≡ byte ∷ others
  pub stop : IsStop byte

pub stopped_by : (text rest : List ℕ) → 0 < length text → NonePass is_edge text → Stops rest → IsPiece text rest
stopped_by text rest some none stops = subst (IsPiece text) (sym stops.is) (stopped text stops.byte stops.others some none stops.stop)

not_true : (b : Bool) → not b ≡ true → b ≡ false
not_true true e = absurd (cc (e))
not_true false e = refl

pub stops_at : (rest : List ℕ) (byte : ℕ) → 0 < length rest → byte ≡ slice_index rest 0 → (is_edge byte && not (is_last byte)) ≡ true → Stops rest
stops_at [] byte some is stop = absurd (omega arith)
stops_at (first ∷ others) byte some is stop =
    let b = both (is_edge byte) (not (is_last byte)) stop in
    record {
      byte = first;
      others = others;
      is = refl;
      stop = record { edge = ap is_edge (sym is) ∙ b.0; behind = ap is_last (sym is) ∙ not_true (is_last byte) b.1 };
    }

-- Tokens

-- a text of bytes of names
pub token_plain : (areas : List AreaRule) (text : List ℕ) → 0 < length text → list_all is_name_byte text ≡ true → token_of areas text ≡ plain_token text
token_plain areas text some good =
    let front : List ℕ = take (length text - 1) text in
    let last : ℕ = slice_index text (length text - 1) in
    let plain = name_plain last (last_passes is_name_byte text some good) in
    ap (λ (opened : Option Bracket). token_by_bracket areas text front last opened (closed_by last)) plain.opens
    ∙ ap (λ (closed : Option Bracket). token_by_bracket areas text front last None closed) plain.closes
    ∙ by_mark (last == 61) (last == 35) (label_token Label (label_in front)) (label_token Again (label_in front)) (plain_token text) plain.equals plain.hash
  where
    by_mark : (equals hash : Bool) (one two three : Token) → equals ≡ false → hash ≡ false → (if equals then one else if hash then two else three) ≡ three
    by_mark equals hash one two three a b = rw (a, b) refl

-- Integers

other_first : (text : List ℕ) (byte : ℕ) (bytes : List ℕ) → (get_or text 0 0 ≡ byte → ⊥) → bytes_eq text (byte ∷ bytes) ≡ false
other_first text byte bytes other = other_bytes text (byte ∷ bytes) (λ same. other (ap (λ (b : List ℕ). get_or b 0 0) same))

atom_plain : (text : List ℕ) (value : Value) → bytes_eq text (codes "root") ≡ false → bytes_eq text (codes "end-sexpr") ≡ false → bytes_eq text (codes ".") ≡ false → value_of text ≡ Some value → plain_token text ≡ atom_of (Some value)
atom_plain text value a b c is = of_tests (bytes_eq text (codes "root")) (bytes_eq text (codes "end-sexpr")) (bytes_eq text (codes ".")) (value_of text) a b c is
  where
    of_tests : (root end dot : Bool) (read : Option Value) → root ≡ false → end ≡ false → dot ≡ false → read ≡ Some value → (if root then Root else if end then EndSexpr else if dot then Dot else atom_of read) ≡ atom_of (Some value)
    of_tests root end dot read a b c is = rw (a, b, c, is) refl

value_read : (number : ℤ) → IsWritten (Fix number) → value_of (signed_decimal number) ≡ Some (Fix number)
value_read number small = found_is BadValue (value_of (signed_decimal number)) (Fix number) (values_spell.accepts (Fix number) small)

pub plain_integer : (number : ℤ) → IsWritten (Fix number) → plain_token (signed_decimal number) ≡ Atom (Fix number)
plain_integer (pos number) small =
    let first = decimal_first number (omega arith) in
    atom_plain (decimal number) (Fix (pos number))
    (other_first (decimal number) 114 _ (λ is. omega (arith, first, is)))
    (other_first (decimal number) 101 _ (λ is. omega (arith, first, is)))
    (other_first (decimal number) 46 _ (λ is. omega (arith, first, is)))
    (value_read (pos number) small)
plain_integer (negsuc number) small = atom_plain (signed_decimal (negsuc number)) (Fix (negsuc number)) refl refl refl (value_read (negsuc number) small)

pub signed_some : (number : ℤ) → IsWritten (Fix number) → 0 < length (signed_decimal number)
signed_some (pos number) small = decimal_nonempty number (omega arith)
signed_some (negsuc number) small = omega arith

-- The first piece of a text that begins with an integer

pub integer_first : (areas : List AreaRule) (past line : ℕ) (value : Value) (number : ℤ) (text front rest : List ℕ) → value ≡ Fix number → front ≡ signed_decimal number → text ≡ front ++ rest → IsWritten (Fix number) → Stops rest
    → record { line = line; token = Atom value } ∷ pieces_from areas past 0 line rest ≡ pieces_from areas past 0 line text
integer_first areas past line value number text front rest of spelled is written stops =
    let digits = signed_decimal number in
    let some = signed_some number written in
    let good = signed_name number written in
    let piece : IsPiece digits rest = stopped_by digits rest some (none_from is_name_byte is_edge name_edge digits good) stops in
    let token : token_of areas digits ≡ Atom (Fix number) = token_plain areas digits some good ∙ plain_integer number written in
    let whole : text ≡ digits ++ rest = is ∙ ap (λ (l : List ℕ). l ++ rest) spelled in
    let long : 0 < length (digits ++ rest) = omega (arith, length-append digits rest, some) in
    let black : is_white (slice_index (digits ++ rest) 0) ≡ false = ap is_white (first_byte digits rest some) ∙ piece.black in
    ap (λ (v : Value). record { line = line; token = Atom v } ∷ pieces_from areas past 0 line rest) of
    ∙ ap (λ (t : Token). record { line = line; token = t } ∷ pieces_from areas past 0 line rest) (sym token)
    ∙ ap (λ (left : List ℕ). record { line = line; token = token_of areas digits } ∷ pieces_from areas past 0 line left) (sym (drop_at digits rest (length digits) refl))
    ∙ ap (λ (f : List ℕ). record { line = line; token = token_of areas f } ∷ pieces_from areas past 0 line (drop (length digits) (digits ++ rest))) (sym (take_at digits rest (length digits) refl))
    ∙ sym (pieces_first areas past line (length digits) (digits ++ rest) long black piece.size piece.some)
    ∙ ap (pieces_from areas past 0 line) (sym whole)
