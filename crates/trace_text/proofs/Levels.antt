-- The levels of a flip, from the front of their word.
use Rattle.std.proofs.Common.{◌≡◌, ℕ, suc, ◌+◌, ◌-◌, ◌^◌, ◌<◌, List, [], ◌∷◌, length, take, drop, Bool, true, false, Option, Some, None, bit_or, refl, ap, sym, ◌∙◌, arith}
use Rattle.std.specs.Prelude.{if◌then◌else◌, nat_lt, position}
use Rattle.std.specs.List.{onto_first, position_or_len, slice_split}
use Rattle.std.proofs.lemmas.Bool.Decides.{nat_tests}
use Rattle.std.proofs.lemmas.List.Splits.{slice_split_first}
use Rattle.world_text.specs.Numbers.{number_in}
use Rattle.world_text.proofs.reading_laws.WordLemmas.{some_is}
use Rattle.trace_text.specs.Commands.{is_comma, levels_from}

-- a word that is cut at its first comma
pub pieces_at : (word : List ℕ) (end : ℕ) → position is_comma word ≡ Some end
    → (end < length word) × (slice_split is_comma word ≡ take end word ∷ slice_split is_comma (drop (end + 1) word))
pieces_at word end is =
    let found = some_is (nat_lt (position_or_len is_comma word) (length word)) (position_or_len is_comma word) end is in
    let within : position_or_len is_comma word < length word = grind (arith, nat_tests, found.0) in (
      omega (arith, found.1),
      slice_split_first is_comma word 0 within ∙ ap (λ n. take n word ∷ slice_split is_comma (drop (n + 1) word)) found.1,
    )

-- a word without a comma
piece_last : (byte : ℕ) (bytes : List ℕ) (b : Bool) → is_comma byte ≡ b → (nat_lt (position_or_len is_comma bytes) (length bytes) ≡ false → slice_split is_comma bytes ≡ bytes ∷ [])
    → nat_lt (position_or_len is_comma (byte ∷ bytes)) (length (byte ∷ bytes)) ≡ false → slice_split is_comma (byte ∷ bytes) ≡ (byte ∷ bytes) ∷ []
piece_last byte bytes true is later none = let first : nat_lt 0 (length (byte ∷ bytes)) ≡ false = rw is at none in absurd (grind (arith, nat_tests, first))
piece_last byte bytes false is later none =
    let rest : nat_lt (1 + position_or_len is_comma bytes) (suc (length bytes)) ≡ false = rw is at none in
    rw is (ap (onto_first byte) (later (grind (arith, nat_tests, rest))))

one_piece : (word : List ℕ) → nat_lt (position_or_len is_comma word) (length word) ≡ false → slice_split is_comma word ≡ word ∷ []
one_piece [] none = refl
one_piece (byte ∷ bytes) none = piece_last byte bytes (is_comma byte) refl (one_piece bytes) none

none_is : (b : Bool) (place : ℕ) → (if b then Some place else None) ≡ None → b ≡ false
none_is true place is = absurd (cc)
none_is false place is = refl

pub pieces_last : (word : List ℕ) → position is_comma word ≡ None → slice_split is_comma word ≡ word ∷ []
pieces_last word is = one_piece word (none_is (nat_lt (position_or_len is_comma word) (length word)) (position_or_len is_comma word) is)

-- the first and the last step of the loop over the levels

levels_more : (top last set level : ℕ) (piece : List ℕ) (pieces : List (List ℕ)) → Some level ≡ number_in (last + 1) top piece
    → levels_from top last set (piece ∷ pieces) ≡ levels_from top level (bit_or set (2 ^ (level - 1))) pieces
unfolding levels_from
levels_more top last set level piece pieces is = rw (← is) refl

levels_refused : (top last set : ℕ) (piece : List ℕ) (pieces : List (List ℕ)) → None ≡ number_in (last + 1) top piece → levels_from top last set (piece ∷ pieces) ≡ None
unfolding levels_from
levels_refused top last set piece pieces is = rw (← is) refl

levels_done : (top last set : ℕ) → levels_from top last set [] ≡ Some set
unfolding levels_from
levels_done top last set = refl

pub levels_go : (top last set level end new : ℕ) (rest : List ℕ) (all : Option ℕ)
    → position is_comma rest ≡ Some end → Some level ≡ number_in (last + 1) top (take end rest) → new ≡ bit_or set (2 ^ (level - 1))
    → levels_from top last set (slice_split is_comma rest) ≡ all → levels_from top level new (slice_split is_comma (drop (end + 1) rest)) ≡ all
levels_go top last set level end new rest all at is joined whole =
    let pieces : List (List ℕ) = slice_split is_comma (drop (end + 1) rest) in
    ap (λ n. levels_from top level n pieces) joined ∙ sym (levels_more top last set level (take end rest) pieces is) ∙ ap (levels_from top last set) (sym (pieces_at rest end at).1) ∙ whole

pub levels_fail : (top last set end : ℕ) (rest : List ℕ) (all : Option ℕ) → position is_comma rest ≡ Some end → None ≡ number_in (last + 1) top (take end rest)
    → levels_from top last set (slice_split is_comma rest) ≡ all → None ≡ all
levels_fail top last set end rest all at is whole =
    sym (levels_refused top last set (take end rest) (slice_split is_comma (drop (end + 1) rest)) is) ∙ ap (levels_from top last set) (sym (pieces_at rest end at).1) ∙ whole

pub levels_end : (top last set level new : ℕ) (rest : List ℕ) (all : Option ℕ)
    → position is_comma rest ≡ None → Some level ≡ number_in (last + 1) top rest → new ≡ bit_or set (2 ^ (level - 1))
    → levels_from top last set (slice_split is_comma rest) ≡ all → Some new ≡ all
levels_end top last set level new rest all at is joined whole =
    ap Some joined ∙ sym (levels_more top last set level rest [] is ∙ levels_done top level (bit_or set (2 ^ (level - 1)))) ∙ ap (levels_from top last set) (sym (pieces_last rest at)) ∙ whole

pub levels_end_refused : (top last set : ℕ) (rest : List ℕ) (all : Option ℕ) → position is_comma rest ≡ None → None ≡ number_in (last + 1) top rest
    → levels_from top last set (slice_split is_comma rest) ≡ all → None ≡ all
levels_end_refused top last set rest all at is whole =
    sym (levels_refused top last set rest [] is) ∙ ap (levels_from top last set) (sym (pieces_last rest at)) ∙ whole
