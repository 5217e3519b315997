-- The text of a token is one piece.
use Rattle.std.proofs.Common.{◌≡◌, ℕ, ◌+◌, ◌<◌, ◌≤◌, ◌^◌, List, [], ◌∷◌, ◌++◌, length, Bool, true, false, Some, None, refl, ap, sym, ◌∙◌, arith, decimal, codes, append_assoc, length-append}
use Rattle.std.specs.Prelude.{◌==◌, ◌||◌, not, nat_lt, if◌then◌else◌, is_some, slice_index}
use Rattle.std.specs.Fmt.{signed_decimal}
use Rattle.std.specs.List.{list_all}
use Rattle.std.proofs.lemmas.Bool.Decides.{nat_tests}
use Rattle.file_modes.specs.lisp_graph.Name.{is_letter, is_name, is_name_byte}
use Rattle.file_modes.specs.lisp_graph.declared.object.Value.TheVariants.{Fix, Nil, Ref}
use Rattle.file_modes.specs.lisp_graph.declared.world.AreaRule.{AreaRule}
use Rattle.file_modes.specs.world_text.Limits.{AreNamed}
use Rattle.file_modes.specs.world_text.Spelling.{name_of}
use Rattle.file_modes.proofs.world_text.reading_laws.Rows.{both}
use Rattle.file_modes.specs.sexpr_text.declared.bracket.Bracket.{Bracket}
use Rattle.file_modes.specs.sexpr_text.declared.bracket.Bracket.TheVariants.{Round, Square, Curly}
use Rattle.file_modes.specs.sexpr_text.declared.token.Token.{Token}
use Rattle.file_modes.specs.sexpr_text.declared.token.Token.TheVariants.{Root, EndSexpr, Dot, Atom, Label, Again, Open, Close, Unknown, End}
use Rattle.file_modes.specs.sexpr_text.Brackets.{closed_by, closing, opening}
use Rattle.file_modes.specs.sexpr_text.Pieces.{is_edge, is_last, is_white, piece_end, piece_length}
use Rattle.file_modes.specs.sexpr_print.Spelling.{binds, token_text}
use Rattle.sexpr_laws.specs.Spellable.{CanSpell}
use Rattle.file_modes.proofs.sexpr_text.Cuts.{NonePass, byte_at, first_byte, first_found, none_from}
use Rattle.file_modes.proofs.sexpr_text.Bytes.{closing_stops, decimal_name, name_edge, opening_last, signed_name}
use Rattle.file_modes.proofs.sexpr_text.IntegerPieces.{IsPiece, Stops, signed_some, stopped_by, white_first}

end_behind : (place : ℕ) (last : Bool) → last ≡ true → (if place == 0 || last then place + 1 else place) ≡ place + 1
end_behind place last is = of_test (place == 0) last is
  where
    of_test : (first last : Bool) → last ≡ true → (if first || last then place + 1 else place) ≡ place + 1
    of_test true last is = refl
    of_test false last is = rw is refl

last_edge : (byte : ℕ) → is_last byte ≡ true → is_edge byte ≡ true
last_edge byte is = of_parts (is_white byte) (is_some (closed_by byte)) (is_last byte) is
  where
    of_parts : (white closes ends : Bool) → ends ≡ true → (white || closes || ends) ≡ true
    of_parts true closes ends is = refl
    of_parts false true ends is = refl
    of_parts false false ends is = is

-- a text that ends with its last byte
ended : (front : List ℕ) (last : ℕ) (rest : List ℕ) → 0 < length front → NonePass is_edge front → is_last last ≡ true → IsPiece (front ++ last ∷ []) rest
ended front last rest some none is =
    let whole : List ℕ = front ++ last ∷ rest in
    let long : length (front ++ last ∷ []) ≡ length front + 1 = length-append front (last ∷ []) in
    record {
      some = omega (arith, long);
      black = ap is_white (first_byte front (last ∷ []) some) ∙ white_first front some none;
      size = long ∙ sym (ap piece_length (append_assoc front (last ∷ []) rest) ∙ ap (piece_end whole) (first_found is_edge front last rest none (last_edge last is))
          ∙ end_behind (length front) (is_last (slice_index whole (length front))) (ap is_last (byte_at front last rest) ∙ is));
    }

closed : (bracket : Bracket) (rest : List ℕ) → IsPiece (closing bracket ∷ []) rest
closed bracket rest = record {
  some = omega arith;
  black = black_closing bracket;
  size = sym (ap (piece_end (closing bracket ∷ rest)) (first_found is_edge [] (closing bracket) rest refl (closing_stops bracket).edge));
}
  where
    black_closing : (bracket : Bracket) → is_white (closing bracket) ≡ false
    black_closing Round = refl
    black_closing Square = refl
    black_closing Curly = refl

-- Names

pub record IsGood (name : List ℕ) : Type 0 where
  pub some : 0 < length name
  pub short : length name ≤ 16
  pub bytes : list_all is_name_byte name ≡ true

pub name_good : (name : List ℕ) → is_name name ≡ true → IsGood name
name_good name is = of_tests (length name == 0) (nat_lt 16 (length name)) (is_letter (slice_index name 0)) (list_all is_name_byte name) refl refl refl is
  where
    of_tests : (none long letter all : Bool) → (length name == 0) ≡ none → nat_lt 16 (length name) ≡ long → list_all is_name_byte name ≡ all
        → (if none || long then false else if letter then all else false) ≡ true → IsGood name
    of_tests true long letter all a b c is = absurd (cc (is))
    of_tests false true letter all a b c is = absurd (cc (is))
    of_tests false false true all a b c is = record { some = grind (arith, nat_tests, a); short = grind (arith, nat_tests, b); bytes = c ∙ is }
    of_tests false false false all a b c is = absurd (cc (is))

-- Labels

none_push : (test : ℕ → Bool) (front : List ℕ) (byte : ℕ) → NonePass test front → test byte ≡ false → NonePass test (front ++ byte ∷ [])
none_push test [] byte none fails = rw fails refl
none_push test (one ∷ front) byte none fails =
    let b = both (not (test one)) (list_all (λ byte. not (test byte)) front) none in
    rw (b.0, none_push test front byte b.1 fails) refl

label_none : (label : ℕ) → label < 2 ^ 32 → NonePass is_edge (decimal label)
label_none label small = none_from is_name_byte is_edge name_edge (decimal label) (decimal_name label (omega arith))

-- Every token

pub token_piece : (areas : List AreaRule) (token : Token) (rest : List ℕ) → AreNamed areas → CanSpell areas token → (binds token ≡ false → Stops rest) → IsPiece (token_text areas token) rest
token_piece areas Root rest named can stops = stopped_by (codes "root") rest (omega arith) refl (stops refl)
token_piece areas EndSexpr rest named can stops = stopped_by (codes "end-sexpr") rest (omega arith) refl (stops refl)
token_piece areas Dot rest named can stops = stopped_by (codes ".") rest (omega arith) refl (stops refl)
token_piece areas (Atom (Fix number)) rest named can stops =
    stopped_by (signed_decimal number) rest (signed_some number can) (none_from is_name_byte is_edge name_edge (signed_decimal number) (signed_name number can)) (stops refl)
token_piece areas (Atom Nil) rest named can stops = stopped_by (codes "nil") rest (omega arith) refl (stops refl)
token_piece areas (Atom (Ref number)) rest named can stops = absurd can
token_piece areas (Label label) rest named can stops = ended (35 ∷ decimal label) 61 rest (omega arith) (label_none label can) refl
token_piece areas (Again label) rest named can stops =
    stopped_by (35 ∷ (decimal label ++ 35 ∷ [])) rest (omega arith) (none_push is_edge (decimal label) 35 (label_none label can) refl) (stops refl)
token_piece areas (Open (Some area) bracket) rest named can stops =
    let name = name_good (name_of areas area) (named.names area can) in
    ended (name_of areas area) (opening bracket) rest name.some (none_from is_name_byte is_edge name_edge (name_of areas area) name.bytes) (opening_last bracket)
token_piece areas (Open None bracket) rest named can stops = absurd can
token_piece areas (Close bracket) rest named can stops = closed bracket rest
token_piece areas Unknown rest named can stops = absurd can
token_piece areas End rest named can stops = absurd can
