-- A spelling of a line is accepted.
use Rattle.std.proofs.Common.{◌≡◌, ℕ, suc, ◌+◌, ◌-◌, ◌<◌, ◌≤◌, ◌^◌, List, [], ◌∷◌, length, map, true, false, Result, Ok, decimal, codes, refl, ap, ◌∙◌, arith}
use Rattle.std.specs.Prelude.{nat_lt}
use Rattle.std.specs.List.{All, list_all}
use Rattle.std.proofs.lemmas.Bool.Decides.{nat_tests}
use Rattle.std.proofs.lemmas.List.{length-map}
use Rattle.store_word.specs.declared.space.Space.{Space}
use Rattle.lisp_graph.specs.Commands.{IsPlain}
use Rattle.lisp_graph.specs.declared.object.Value.{Value}
use Rattle.lisp_graph.specs.declared.world.AreaRule.{AreaRule}
use Rattle.lisp_graph.specs.declared.command.Command.{Command}
use Rattle.lisp_graph.specs.declared.command.Command.TheVariants as commands
use Rattle.lisp_graph.specs.declared.command.Condemn.{Condemn}
use Rattle.world_text.specs.declared.reading.reason.Reason.{Reason}
use Rattle.world_text.specs.Words.{is_well_formed, is_word, words_of}
use Rattle.world_text.specs.Limits.{AreNamed}
use Rattle.world_text.specs.Next.{◌>>=◌, a_number, a_register, an_area, each, next}
use Rattle.world_text.specs.Spelling.{IsWritten, line_of, name_of, value_text}
use Rattle.world_text.proofs.reading_laws.NumberLaws.{decimal_word, numbers}
use Rattle.world_text.proofs.reading_laws.ReadLaws.{all_words, each_reads, next_reads, step_goes, take_back}
use Rattle.world_text.proofs.reading_laws.Rows.{line_formed}
use Rattle.world_text.proofs.reading_laws.ValueLaws.{areas_spell, registers_spell, values_spell}
use Rattle.trace_text.specs.declared.pair.PairKind.{PairKind}
use Rattle.trace_text.specs.declared.pair.PairKind.TheVariants as kinds
use Rattle.trace_text.specs.Pairs.{pair_name, pair_with}
use Rattle.trace_text.specs.Commands.{TraceLine, Run, End, InLimits, a_condemn, a_plain_value, command_in, cons_in, flip_in, get_in, grow_in, line_in, list_in, make_in, page_out_in, pair_command, pair_in, put_in, scavenge_in, set_in, size_in, store_command, trace_line}
use Rattle.trace_text.specs.Spelled.{SayCommand, SaysLine}
use Rattle.trace_text.proofs.Flips.{condemn_all}
use Rattle.trace_text.proofs.LineMeanings.{plain_spell}

-- A line of words that are read

-- a first word other than `end`
command_read : (space : Space) (areas : List AreaRule) (head : List ℕ) (words : List (List ℕ)) (command : Command) → is_word head ≡ true → line_in space areas head (length words + 1) words ≡ Ok (Run command) → list_all is_word words ≡ true
    → trace_line space areas (line_of (head ∷ words)) ≡ Ok (Run command)
command_read space areas head words command first read good =
    let both_good : list_all is_word (head ∷ words) ≡ true = rw (first, good) refl in
    let f = line_formed head words both_good in
    let e : suc (length words) ≡ length words + 1 = omega arith in
    rw (f.0, f.1, e) read

-- Words

register_good : (space : Space) (register : ℕ) → space.registers ≤ 256 → register < space.registers → is_word (decimal register) ≡ true
register_good space register small within = decimal_word register (omega arith)

register_back : {B : Type 0} (space : Space) (register : ℕ) (rest : List (List ℕ)) (goal : ℕ × List (List ℕ) → Result B Reason) → space.registers ≤ 256 → register < space.registers
    → (next (a_register space.registers) (decimal register ∷ rest) >>= goal) ≡ goal (register, rest)
register_back space register rest goal small within = take_back (a_register space.registers) (λ n. n < space.registers) decimal register rest goal (registers_spell space.registers (omega arith)) within

-- a word is the name of an area
pub record NamesArea (areas : List AreaRule) (name : List ℕ) (area : ℕ) : Type 0 where
  pub word : is_word name ≡ true
  pub read : an_area areas name ≡ Ok area

area_back : {B : Type 0} (areas : List AreaRule) (name : List ℕ) (area : ℕ) (rest : List (List ℕ)) (goal : ℕ × List (List ℕ) → Result B Reason) → NamesArea areas name area
    → (next (an_area areas) (name ∷ rest) >>= goal) ≡ goal (area, rest)
area_back areas name area rest goal names = step_goes (next (an_area areas) (name ∷ rest)) goal (area, rest) (next_reads (an_area areas) name rest area names.read)

area_name : (areas : List AreaRule) (area : ℕ) → AreNamed areas → area < length areas → NamesArea areas (name_of areas area) area
area_name areas area named within = record { word = (areas_spell areas named).words area within; read = (areas_spell areas named).accepts area within }

number_back : {B : Type 0} (high number : ℕ) (rest : List (List ℕ)) (goal : ℕ × List (List ℕ) → Result B Reason) → high < 2 ^ 64 → number ≤ high
    → (next (a_number 0 high) (decimal number ∷ rest) >>= goal) ≡ goal (number, rest)
number_back high number rest goal small up = take_back (a_number 0 high) (λ n. (0 ≤ n) × (n ≤ high)) decimal number rest goal (numbers 0 high small) (omega arith, up)

-- two registers
pair_back : (space : Space) (first second : ℕ) → space.registers ≤ 256 → first < space.registers → second < space.registers → pair_in space.registers 3 (decimal first ∷ decimal second ∷ []) ≡ Ok (first, second)
unfolding pair_in
pair_back space first second small one two = register_back space first (decimal second ∷ []) _ small one ∙ register_back space second [] _ small two

pair_good : (space : Space) (first second : ℕ) → space.registers ≤ 256 → first < space.registers → second < space.registers → list_all is_word (decimal first ∷ decimal second ∷ []) ≡ true
pair_good space first second small one two = rw (register_good space first small one, register_good space second small two) refl

-- Commands

-- a line of these words means the command
abbrev pub Accepts : Space → List AreaRule → List (List ℕ) → Command → Type 0
Accepts space areas words command = trace_line space areas (line_of words) ≡ Ok (Run command)

-- a command of two registers
pair_accepts : (space : Space) (areas : List AreaRule) (name : List ℕ) (make : ℕ → ℕ → Command) (first second : ℕ) → space.registers ≤ 256 → first < space.registers → second < space.registers → is_word name ≡ true
    → line_in space areas name 3 (decimal first ∷ decimal second ∷ []) ≡ ((pair_in space.registers 3 (decimal first ∷ decimal second ∷ []) >>= (λ p. Ok (make p.0 p.1))) >>= (λ c. Ok (Run c)))
    → Accepts space areas (name ∷ decimal first ∷ decimal second ∷ []) (make first second)
pair_accepts space areas name make first second small one two good line =
    command_read space areas name (decimal first ∷ decimal second ∷ []) (make first second) good
    (line ∙ ap (λ (pair : Result (ℕ × ℕ) Reason). (pair >>= (λ p. Ok (make p.0 p.1))) >>= (λ c. Ok (Run c))) (pair_back space first second small one two))
    (pair_good space first second small one two)

-- a command of two registers, by its kind
pub kind_back : (space : Space) (areas : List AreaRule) (kind : PairKind) (one two : ℕ) → space.registers ≤ 256 → one < space.registers → two < space.registers
    → Accepts space areas (pair_name kind ∷ decimal one ∷ decimal two ∷ []) (pair_with kind one two)
unfolding line_in command_in store_command pair_command
kind_back space areas kinds.Move one two small one_in two_in = pair_accepts space areas (codes "move") commands.Move one two small one_in two_in refl refl
kind_back space areas kinds.Car one two small one_in two_in = pair_accepts space areas (codes "car") commands.Car one two small one_in two_in refl refl
kind_back space areas kinds.Cdr one two small one_in two_in = pair_accepts space areas (codes "cdr") commands.Cdr one two small one_in two_in refl refl
kind_back space areas kinds.Rplaca one two small one_in two_in = pair_accepts space areas (codes "rplaca") commands.Rplaca one two small one_in two_in refl refl
kind_back space areas kinds.Rplacd one two small one_in two_in = pair_accepts space areas (codes "rplacd") commands.Rplacd one two small one_in two_in refl refl
kind_back space areas kinds.Eq one two small one_in two_in = pair_accepts space areas (codes "eq") commands.Eq one two small one_in two_in refl refl

pub set_back : (space : Space) (areas : List AreaRule) (to : ℕ) (value : Value) → space.registers ≤ 256 → to < space.registers → IsPlain value → IsWritten value → Accepts space areas (codes "set" ∷ decimal to ∷ value_text value ∷ []) (commands.Set to value)
unfolding line_in command_in set_in
set_back space areas to value small one plain written =
    command_read space areas (codes "set") (decimal to ∷ value_text value ∷ []) (commands.Set to value) refl
    (ap (λ (said : Result Command Reason). said >>= (λ c. Ok (Run c)))
    (register_back space to (value_text value ∷ []) _ small one ∙ take_back a_plain_value (λ v. IsPlain v × IsWritten v) value_text value [] _ plain_spell (plain, written)))
    (rw (register_good space to small one, values_spell.words value written) refl)

pub cons_back : (space : Space) (areas : List AreaRule) (name : List ℕ) (to area car cdr : ℕ) → space.registers ≤ 256 → NamesArea areas name area → to < space.registers → car < space.registers → cdr < space.registers
    → Accepts space areas (codes "cons" ∷ decimal to ∷ name ∷ decimal car ∷ decimal cdr ∷ []) (commands.Cons to area car cdr)
unfolding line_in command_in cons_in
cons_back space areas name to area car cdr small names one two three =
    command_read space areas (codes "cons") (decimal to ∷ name ∷ decimal car ∷ decimal cdr ∷ []) (commands.Cons to area car cdr) refl
    (ap (λ (said : Result Command Reason). said >>= (λ c. Ok (Run c)))
    (register_back space to (name ∷ decimal car ∷ decimal cdr ∷ []) _ small one ∙ area_back areas name area (decimal car ∷ decimal cdr ∷ []) _ names
    ∙ register_back space car (decimal cdr ∷ []) _ small two ∙ register_back space cdr [] _ small three))
    (rw (register_good space to small one, names.word, register_good space car small two, register_good space cdr small three) refl)

pub list_back : (space : Space) (areas : List AreaRule) (name : List ℕ) (to area : ℕ) (items : List ℕ) → space.registers ≤ 256 → NamesArea areas name area → to < space.registers → All (λ item. item < space.registers) items → 1 ≤ length items → length items ≤ 1024
    → Accepts space areas (codes "list" ∷ decimal to ∷ name ∷ map decimal items) (commands.List to area items)
unfolding line_in command_in list_in
list_back space areas name to area items small names one all some few =
    let words : List (List ℕ) = decimal to ∷ name ∷ map decimal items in
    let count : length words + 1 ≡ length items + 3 = omega (arith, length-map items decimal) in
    let many : nat_lt 1027 (length items + 3) ≡ false = grind (arith, nat_tests) in
    let short : nat_lt (length items + 3) 4 ≡ false = grind (arith, nat_tests) in
    let spells = registers_spell space.registers (omega arith) in
    let read : list_in space.registers areas (length words + 1) words ≡ Ok (commands.List to area items) =
    rw (count, many, short) (register_back space to (name ∷ map decimal items) _ small one ∙ area_back areas name area (map decimal items) _ names
    ∙ step_goes (each (a_register space.registers) (map decimal items)) _ items (each_reads (a_register space.registers) (λ n. n < space.registers) decimal items spells all)) in
    let item_words : list_all is_word (map decimal items) ≡ true = all_words (λ n. n < space.registers) decimal items (λ n under. decimal_word n (omega arith)) all in
    command_read space areas (codes "list") words (commands.List to area items) refl (ap (λ (said : Result Command Reason). said >>= (λ c. Ok (Run c))) read)
    (rw (register_good space to small one, names.word, item_words) refl)

pub make_back : (space : Space) (areas : List AreaRule) (name : List ℕ) (to area code size : ℕ) → space.registers ≤ 256 → NamesArea areas name area → to < space.registers → code ≤ 65535 → size ≤ 2047
    → Accepts space areas (codes "make" ∷ decimal to ∷ name ∷ decimal code ∷ decimal size ∷ []) (commands.Make to area code size)
unfolding line_in command_in make_in
make_back space areas name to area code size small names one low short =
    command_read space areas (codes "make") (decimal to ∷ name ∷ decimal code ∷ decimal size ∷ []) (commands.Make to area code size) refl
    (ap (λ (said : Result Command Reason). said >>= (λ c. Ok (Run c)))
    (register_back space to (name ∷ decimal code ∷ decimal size ∷ []) _ small one ∙ area_back areas name area (decimal code ∷ decimal size ∷ []) _ names
    ∙ number_back 65535 code (decimal size ∷ []) _ (omega arith) low ∙ number_back 2047 size [] _ (omega arith) short))
    (rw (register_good space to small one, names.word, decimal_word code (omega arith), decimal_word size (omega arith)) refl)

pub grow_back : (space : Space) (areas : List AreaRule) (target size : ℕ) → space.registers ≤ 256 → target < space.registers → size ≤ 2047 → Accepts space areas (codes "grow" ∷ decimal target ∷ decimal size ∷ []) (commands.Grow target size)
unfolding line_in command_in grow_in
grow_back space areas target size small one short =
    command_read space areas (codes "grow") (decimal target ∷ decimal size ∷ []) (commands.Grow target size) refl
    (ap (λ (said : Result Command Reason). said >>= (λ c. Ok (Run c))) (register_back space target (decimal size ∷ []) _ small one ∙ number_back 2047 size [] _ (omega arith) short))
    (rw (register_good space target small one, decimal_word size (omega arith)) refl)

pub get_back : (space : Space) (areas : List AreaRule) (to from index : ℕ) → space.registers ≤ 256 → to < space.registers → from < space.registers → index < 2 ^ 32
    → Accepts space areas (codes "get" ∷ decimal to ∷ decimal from ∷ decimal index ∷ []) (commands.Get to from index)
unfolding line_in command_in get_in
get_back space areas to from index small one two low =
    command_read space areas (codes "get") (decimal to ∷ decimal from ∷ decimal index ∷ []) (commands.Get to from index) refl
    (ap (λ (said : Result Command Reason). said >>= (λ c. Ok (Run c)))
    (register_back space to (decimal from ∷ decimal index ∷ []) _ small one ∙ register_back space from (decimal index ∷ []) _ small two ∙ number_back (2 ^ 32 - 1) index [] _ (omega arith) (omega arith)))
    (rw (register_good space to small one, register_good space from small two, decimal_word index (omega arith)) refl)

pub put_back : (space : Space) (areas : List AreaRule) (target index from : ℕ) → space.registers ≤ 256 → target < space.registers → from < space.registers → index < 2 ^ 32
    → Accepts space areas (codes "put" ∷ decimal target ∷ decimal index ∷ decimal from ∷ []) (commands.Put target index from)
unfolding line_in command_in put_in
put_back space areas target index from small one two low =
    command_read space areas (codes "put") (decimal target ∷ decimal index ∷ decimal from ∷ []) (commands.Put target index from) refl
    (ap (λ (said : Result Command Reason). said >>= (λ c. Ok (Run c)))
    (register_back space target (decimal index ∷ decimal from ∷ []) _ small one ∙ number_back (2 ^ 32 - 1) index (decimal from ∷ []) _ (omega arith) (omega arith) ∙ register_back space from [] _ small two))
    (rw (register_good space target small one, decimal_word index (omega arith), register_good space from small two) refl)

pub size_back : (space : Space) (areas : List AreaRule) (of : ℕ) → space.registers ≤ 256 → of < space.registers → Accepts space areas (codes "size" ∷ decimal of ∷ []) (commands.Size of)
unfolding line_in command_in size_in
size_back space areas of small one =
    command_read space areas (codes "size") (decimal of ∷ []) (commands.Size of) refl
    (ap (λ (said : Result Command Reason). said >>= (λ c. Ok (Run c))) (register_back space of [] _ small one))
    (rw (register_good space of small one) refl)

scavenge_back : (space : Space) (areas : List AreaRule) (count : ℕ) → count < 2 ^ 32 → Accepts space areas (codes "scavenge" ∷ decimal count ∷ []) (commands.Scavenge count)
unfolding line_in command_in store_command scavenge_in
scavenge_back space areas count low =
    command_read space areas (codes "scavenge") (decimal count ∷ []) (commands.Scavenge count) refl
    (ap (λ (said : Result Command Reason). said >>= (λ c. Ok (Run c))) (number_back (2 ^ 32 - 1) count [] _ (omega arith) (omega arith)))
    (rw (decimal_word count (omega arith)) refl)

page_out_back : (space : Space) (areas : List AreaRule) (count : ℕ) → count < 2 ^ 32 → Accepts space areas (codes "page-out" ∷ decimal count ∷ []) (commands.PageOut count)
unfolding line_in command_in store_command page_out_in
page_out_back space areas count low =
    command_read space areas (codes "page-out") (decimal count ∷ []) (commands.PageOut count) refl
    (ap (λ (said : Result Command Reason). said >>= (λ c. Ok (Run c))) (number_back (2 ^ 32 - 1) count [] _ (omega arith) (omega arith)))
    (rw (decimal_word count (omega arith)) refl)

flip_back : (space : Space) (areas : List AreaRule) (what : Condemn) (word : List ℕ) → space.levels ≤ 6 → a_condemn space.levels word ≡ Ok what → is_word word ≡ true → Accepts space areas (codes "flip" ∷ word ∷ []) (commands.Flip what)
unfolding line_in command_in store_command flip_in
flip_back space areas what word small read good =
    command_read space areas (codes "flip") (word ∷ []) (commands.Flip what) refl
    (ap (λ (said : Result Command Reason). said >>= (λ c. Ok (Run c))) (step_goes (next (a_condemn space.levels) (word ∷ [])) _ (what, []) (next_reads (a_condemn space.levels) word [] what read)))
    (rw good refl)

-- All commands

pub command_back : (space : Space) (areas : List AreaRule) (words : List (List ℕ)) (command : Command) → InLimits space areas → AreNamed areas → SayCommand space areas words command → Accepts space areas words command
unfolding line_in command_in store_command
command_back space areas words (commands.Set to value) limits named says = ap (λ ws. trace_line space areas (line_of ws)) says.is ∙ set_back space areas to value limits.registers says.registers says.limits says.numbers
command_back space areas words (commands.Cons to area car cdr) limits named says =
    ap (λ ws. trace_line space areas (line_of ws)) says.is ∙ cons_back space areas (name_of areas area) to area car cdr limits.registers (area_name areas area named says.areas_in) says.registers.0 says.registers.1 says.registers.2
command_back space areas words (commands.List to area items) limits named says =
    ap (λ ws. trace_line space areas (line_of ws)) says.is ∙ list_back space areas (name_of areas area) to area items limits.registers (area_name areas area named says.areas_in) says.registers.0 says.registers.1 says.limits.0 says.limits.1
command_back space areas words (commands.Make to area code size) limits named says =
    ap (λ ws. trace_line space areas (line_of ws)) says.is ∙ make_back space areas (name_of areas area) to area code size limits.registers (area_name areas area named says.areas_in) says.registers says.numbers says.limits
command_back space areas words (commands.Grow target size) limits named says = ap (λ ws. trace_line space areas (line_of ws)) says.is ∙ grow_back space areas target size limits.registers says.registers says.limits
command_back space areas words (commands.Get to from index) limits named says = ap (λ ws. trace_line space areas (line_of ws)) says.is ∙ get_back space areas to from index limits.registers says.registers.0 says.registers.1 says.numbers
command_back space areas words (commands.Put target index from) limits named says = ap (λ ws. trace_line space areas (line_of ws)) says.is ∙ put_back space areas target index from limits.registers says.registers.0 says.registers.1 says.numbers
command_back space areas words (commands.Size of) limits named says = ap (λ ws. trace_line space areas (line_of ws)) says.is ∙ size_back space areas of limits.registers says.registers
command_back space areas words (commands.Flip what) limits named says =
    let read = condemn_all space.levels says.is.0 what limits.levels says.is.2 in
    ap (λ ws. trace_line space areas (line_of ws)) says.is.1 ∙ flip_back space areas what says.is.0 limits.levels read.read read.good
command_back space areas words (commands.Scavenge count) limits named says = ap (λ ws. trace_line space areas (line_of ws)) says.is ∙ scavenge_back space areas count says.numbers
command_back space areas words (commands.PageOut count) limits named says = ap (λ ws. trace_line space areas (line_of ws)) says.is ∙ page_out_back space areas count says.numbers
command_back space areas words commands.Reclaim limits named says = ap (λ ws. trace_line space areas (line_of ws)) says.is ∙ command_read space areas (codes "reclaim") [] commands.Reclaim refl refl refl
command_back space areas words commands.Stats limits named says = ap (λ ws. trace_line space areas (line_of ws)) says.is ∙ command_read space areas (codes "stats") [] commands.Stats refl refl refl
command_back space areas words commands.Dump limits named says = ap (λ ws. trace_line space areas (line_of ws)) says.is ∙ command_read space areas (codes "dump") [] commands.Dump refl refl refl
command_back space areas words (commands.Move to from) limits named says = ap (λ ws. trace_line space areas (line_of ws)) says.is ∙ kind_back space areas kinds.Move to from limits.registers says.registers.0 says.registers.1
command_back space areas words (commands.Car to from) limits named says = ap (λ ws. trace_line space areas (line_of ws)) says.is ∙ kind_back space areas kinds.Car to from limits.registers says.registers.0 says.registers.1
command_back space areas words (commands.Cdr to from) limits named says = ap (λ ws. trace_line space areas (line_of ws)) says.is ∙ kind_back space areas kinds.Cdr to from limits.registers says.registers.0 says.registers.1
command_back space areas words (commands.Rplaca target from) limits named says = ap (λ ws. trace_line space areas (line_of ws)) says.is ∙ kind_back space areas kinds.Rplaca target from limits.registers says.registers.0 says.registers.1
command_back space areas words (commands.Rplacd target from) limits named says = ap (λ ws. trace_line space areas (line_of ws)) says.is ∙ kind_back space areas kinds.Rplacd target from limits.registers says.registers.0 says.registers.1
command_back space areas words (commands.Eq left right) limits named says = ap (λ ws. trace_line space areas (line_of ws)) says.is ∙ kind_back space areas kinds.Eq left right limits.registers says.registers.0 says.registers.1

-- Lines

end_back : (space : Space) (areas : List AreaRule) → trace_line space areas (codes "end") ≡ Ok End
unfolding is_well_formed words_of line_in
end_back space areas = refl

pub line_all : (space : Space) (areas : List AreaRule) (text : List ℕ) (said : TraceLine) → InLimits space areas → AreNamed areas → SaysLine space areas text said → trace_line space areas text ≡ Ok said
line_all space areas text End limits named says = ap (trace_line space areas) says ∙ end_back space areas
line_all space areas text (Run command) limits named says = ap (trace_line space areas) says.1 ∙ command_back space areas says.0 command limits named says.2
