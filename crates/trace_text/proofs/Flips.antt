-- The word of what a flip condemns.
use Rattle.std.proofs.Common.{◌≡◌, ℕ, ◌+◌, ◌-◌, ◌<◌, ◌≤◌, ◌^◌, List, [], ◌∷◌, ◌++◌, length, get_or, map, Bool, true, false, Option, Some, None, Ok, bit_or, decimal, codes, refl, ap, sym, ◌∙◌, subst, arith}
use Rattle.std.specs.Prelude.{if◌then◌else◌, bytes_eq, nat_le}
use Rattle.std.specs.List.{All, join_with_byte, list_all, slice_split}
use Rattle.std.specs.Option.{option_and_then}
use Rattle.std.proofs.lemmas.Bool.Decides.{nat_tests}
use Rattle.std.proofs.lemmas.List.Splits.{join_with_byte-slice_split, length-slice_split, slice_split_at, slice_split_none}
use Rattle.std.proofs.lemmas.Fmt.{decimal_digit, decimal_nonempty}
use Rattle.std.proofs.lemmas.List.{append-nil, length-append, length-map}
use Rattle.std.proofs.lemmas.List.Elements.{All-cons, All-nil}
use Rattle.lisp_graph.specs.declared.command.Condemn.{Condemn}
use Rattle.lisp_graph.specs.declared.command.Condemn.TheVariants.{Full, Chosen}
use Rattle.world_text.specs.Numbers.{number_in}
use Rattle.world_text.specs.Words.{is_graphic, is_word}
use Rattle.world_text.proofs.reading_laws.NumberLaws.{number_only, number_reads}
use Rattle.world_text.proofs.reading_laws.Rows.{both}
use Rattle.world_text.proofs.reading_laws.ValueLaws.{other_bytes, same_bytes}
use Rattle.trace_text.specs.Commands.{a_condemn, chosen, is_comma, levels_from}
use Rattle.trace_text.specs.Spelled.{AreAscending, SpellsCondemn, set_with}

-- levels that are read are spelled
pub record ReadsLevels (top last set : ℕ) (pieces : List (List ℕ)) (all : ℕ) : Type 0 where
  pub levels : List ℕ
  pub is : pieces ≡ map decimal levels
  pub ascend : AreAscending top last levels
  pub set_is : all ≡ set_with set levels

-- a word has at least one piece
split_some : (word : List ℕ) → 1 ≤ length (slice_split is_comma word)
split_some word = omega (arith, length-slice_split is_comma word)

levels_only : (top last set : ℕ) (pieces : List (List ℕ)) (all : ℕ) → top ≤ 6 → levels_from top last set pieces ≡ Some all → ReadsLevels top last set pieces all
unfolding levels_from
levels_only top last set [] all small is = record { levels = []; is = refl; ascend = tt; set_is = let f = is in cc (f) }
levels_only top last set (piece ∷ pieces) all small is = of_level (number_in (last + 1) top piece) refl is (λ level. levels_only top level (bit_or set (2 ^ (level - 1))) pieces all small)
  where
    of_level : (found : Option ℕ) → number_in (last + 1) top piece ≡ found → option_and_then (λ level. levels_from top level (bit_or set (2 ^ (level - 1))) pieces) found ≡ Some all
        → ((level : ℕ) → levels_from top level (bit_or set (2 ^ (level - 1))) pieces ≡ Some all → ReadsLevels top level (bit_or set (2 ^ (level - 1))) pieces all) → ReadsLevels top last set (piece ∷ pieces) all
    of_level None at rest more = absurd (cc (rest))
    of_level (Some level) at rest more =
        let number = number_only (last + 1) top level piece (omega arith) at in
        let others = more level rest in
        record {
          levels = level ∷ others.levels;
          is = ap (λ word. word ∷ pieces) number.0 ∙ ap (λ words. decimal level ∷ words) others.is;
          ascend = (omega (arith, number.1), number.2, others.ascend);
          set_is = others.set_is;
        }

levels_all : (top last set : ℕ) (levels : List ℕ) → top ≤ 6 → AreAscending top last levels → levels_from top last set (map decimal levels) ≡ Some (set_with set levels)
unfolding levels_from
levels_all top last set [] small ascend = refl
levels_all top last set (level ∷ levels) small ascend =
    rw (number_reads (last + 1) top level (omega (arith, ascend.0)) ascend.1 (omega arith)) (levels_all top level (bit_or set (2 ^ (level - 1))) levels small ascend.2)

-- A level is a digit

-- a level's word has graphic bytes, and no comma
pub record IsPlainWord (word : List ℕ) : Type 0 where
  pub graphic : list_all is_graphic word ≡ true
  pub whole : All (λ byte. is_comma byte ≡ false) word

level_plain : (level : ℕ) → level ≤ 6 → IsPlainWord (decimal level)
level_plain level up =
    let graphic : is_graphic (48 + level) ≡ true = byte_graphic level up in
    let other : is_comma (48 + level) ≡ false = grind (arith, nat_tests) in
    rw (decimal_digit level (omega arith)) (record {
      graphic = rw graphic refl;
      whole = All-cons (λ b. is_comma b ≡ false) (48 + level) [] other (All-nil (λ b. is_comma b ≡ false));
    })
  where
    byte_graphic : (level : ℕ) → level ≤ 6 → is_graphic (48 + level) ≡ true
    byte_graphic level up =
        let low : nat_le 33 (48 + level) ≡ true = grind (arith, nat_tests) in
        let high : nat_le (48 + level) 126 ≡ true = grind (arith, nat_tests) in
        rw (low, high) refl

-- Levels with commas between them

-- they are cut into the same levels
levels_cut : (top last level : ℕ) (levels : List ℕ) → top ≤ 6 → AreAscending top last (level ∷ levels) → slice_split is_comma (join_with_byte 44 (map decimal (level ∷ levels))) ≡ map decimal (level ∷ levels)
levels_cut top last level [] small ascend = slice_split_none is_comma (decimal level) (level_plain level (omega (arith, ascend.1))).whole
levels_cut top last level (next ∷ levels) small ascend =
    slice_split_at is_comma (decimal level) 44 (join_with_byte 44 (map decimal (next ∷ levels))) (level_plain level (omega (arith, ascend.1))).whole refl
    ∙ ap (λ words. decimal level ∷ words) (levels_cut top level next levels small ascend.2)

graphic_append : (first others : List ℕ) → list_all is_graphic first ≡ true → list_all is_graphic others ≡ true → list_all is_graphic (first ++ others) ≡ true
graphic_append [] others one two = two
graphic_append (byte ∷ first) others one two = let b = both (is_graphic byte) (list_all is_graphic first) one in rw (b.0, graphic_append first others b.1 two) refl

levels_graphic : (top last level : ℕ) (levels : List ℕ) → top ≤ 6 → AreAscending top last (level ∷ levels) → list_all is_graphic (join_with_byte 44 (map decimal (level ∷ levels))) ≡ true
levels_graphic top last level [] small ascend = (level_plain level (omega (arith, ascend.1))).graphic
levels_graphic top last level (next ∷ levels) small ascend =
    graphic_append (decimal level) (44 ∷ join_with_byte 44 (map decimal (next ∷ levels))) (level_plain level (omega (arith, ascend.1))).graphic (levels_graphic top level next levels small ascend.2)

-- What a flip condemns

pub condemn_only : (top : ℕ) (word : List ℕ) (what : Condemn) → top ≤ 6 → a_condemn top word ≡ Ok what → SpellsCondemn top what word
unfolding a_condemn
condemn_only top word what small is = of_test (bytes_eq word (codes "full")) refl is
  where
    of_levels : (found : Option ℕ) → levels_from top 0 0 (slice_split is_comma word) ≡ found → chosen found ≡ Ok what → SpellsCondemn top what word
    of_levels None at rest = absurd (cc (rest))
    of_levels (Some set) at rest =
        let read = levels_only top 0 0 (slice_split is_comma word) set small at in
        let e : Chosen (record { 0 = set }) ≡ what = let f = rest in cc (f) in
        let word_is : word ≡ join_with_byte 44 (map decimal read.levels) = sym (join_with_byte-slice_split 44 word) ∙ ap (join_with_byte 44) read.is in
        let some : 1 ≤ length read.levels = omega (arith, split_some word, ap length read.is, length-map read.levels decimal) in
        subst (λ (w : Condemn). SpellsCondemn top w word) e (read.levels, some, read.ascend, read.set_is, word_is)

    of_test : (b : Bool) → bytes_eq word (codes "full") ≡ b → (if b then Ok Full else chosen (levels_from top 0 0 (slice_split is_comma word))) ≡ Ok what → SpellsCondemn top what word
    of_test true same rest = let e : Full ≡ what = let f = rest in cc (f) in subst (λ (w : Condemn). SpellsCondemn top w word) e (same_bytes word (codes "full") same)
    of_test false other rest = of_levels (levels_from top 0 0 (slice_split is_comma word)) refl rest

-- a word of levels isn't `full`
level_first : (level : ℕ) → level ≤ 6 → (bytes : List ℕ) → bytes_eq (decimal level ++ bytes) (codes "full") ≡ false
level_first level up bytes =
    other_bytes (decimal level ++ bytes) (codes "full")
    (λ same. let e : 48 + level ≡ 102 = ap (λ word. get_or word 0 0) (ap (λ word. word ++ bytes) (sym (decimal_digit level (omega arith))) ∙ same) in omega (arith, e))

levels_no_full : (top last level : ℕ) (levels : List ℕ) → top ≤ 6 → AreAscending top last (level ∷ levels) → bytes_eq (join_with_byte 44 (map decimal (level ∷ levels))) (codes "full") ≡ false
levels_no_full top last level [] small ascend = ap (λ word. bytes_eq word (codes "full")) (sym (append-nil (decimal level))) ∙ level_first level (omega (arith, ascend.1)) []
levels_no_full top last level (next ∷ levels) small ascend = level_first level (omega (arith, ascend.1)) (44 ∷ join_with_byte 44 (map decimal (next ∷ levels)))

-- the word of what a flip condemns is read, and it is a word
pub record ReadsCondemn (top : ℕ) (what : Condemn) (word : List ℕ) : Type 0 where
  pub read : a_condemn top word ≡ Ok what
  pub good : is_word word ≡ true

graphic_word : (word : List ℕ) → 0 < length word → list_all is_graphic word ≡ true → is_word word ≡ true
graphic_word [] some graphic = absurd (omega arith)
graphic_word (byte ∷ word) some graphic = graphic

level_some : (level : ℕ) → level ≤ 6 → (bytes : List ℕ) → 0 < length (decimal level ++ bytes)
level_some level up bytes = omega (arith, decimal_nonempty level (omega arith), length-append (decimal level) bytes)

levels_some : (top last level : ℕ) (levels : List ℕ) → top ≤ 6 → AreAscending top last (level ∷ levels) → 0 < length (join_with_byte 44 (map decimal (level ∷ levels)))
levels_some top last level [] small ascend = decimal_nonempty level (omega (arith, ascend.1))
levels_some top last level (next ∷ levels) small ascend = level_some level (omega (arith, ascend.1)) (44 ∷ join_with_byte 44 (map decimal (next ∷ levels)))

chosen_all : (top : ℕ) (set : ℕ) (word : List ℕ) (levels : List ℕ) → top ≤ 6 → 1 ≤ length levels → AreAscending top 0 levels → set ≡ set_with 0 levels → word ≡ join_with_byte 44 (map decimal levels)
    → ReadsCondemn top (Chosen (record { 0 = set })) word
unfolding a_condemn
chosen_all top set word [] small some ascend is spelled = absurd (omega arith)
chosen_all top set word (level ∷ levels) small some ascend is spelled =
    let all : List ℕ = join_with_byte 44 (map decimal (level ∷ levels)) in
    let read : a_condemn top all ≡ Ok (Chosen (record { 0 = set })) =
    rw (levels_no_full top 0 level levels small ascend, levels_cut top 0 level levels small ascend, levels_all top 0 0 (level ∷ levels) small ascend) (ap (λ n. Ok (Chosen (record { 0 = n }))) (sym is)) in
    record {
      read = ap (a_condemn top) spelled ∙ read;
      good = ap is_word spelled ∙ graphic_word all (levels_some top 0 level levels small ascend) (levels_graphic top 0 level levels small ascend);
    }

pub condemn_all : (top : ℕ) (word : List ℕ) (what : Condemn) → top ≤ 6 → SpellsCondemn top what word → ReadsCondemn top what word
unfolding a_condemn
condemn_all top word Full small is = record { read = ap (a_condemn top) is; good = ap is_word is }
condemn_all top word (Chosen set) small is = chosen_all top set.0 word is.0 small is.1 is.2 is.3 is.4
