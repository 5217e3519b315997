-- What the parser found so far, an argument for the mode and the values of options, and what they request together with the arguments that follow.
use Rattle.std.proofs.Common.{◌≡◌, ℕ, List, [], ◌∷◌, ◌++◌, Option, Some, None, refl, ap}
use Rattle.std.specs.Option.{option_and_then}
use Rattle.clap.specs.Walk.{Text}
use Rattle.command_words.specs.declared.mode.Mode.{Mode}
use Rattle.command_words.specs.declared.mode.ModeName.{ModeName}
use Rattle.command_words.specs.Words.{Parts, mode_in, mode_with, name_in, name_of, with_mode, with_option}
use Rattle.command_words.specs.Given.{with_word}
use Rattle.command_words.proofs.Options.{IsUseless, Name, Values, new, options_of, put, text, twice, useless_in, value_of}

-- the position of the next argument for the mode
abbrev pub position : Option Text → ℕ
position None = 1
position (Some word) = 2

-- what was found, followed by these parts
abbrev pub onto : Option Text → Values → Parts → Parts
onto word g parts = record { options = options_of g ++ parts.options; modes = with_word word parts.modes }

-- the mode that all of them request
abbrev pub all : Option Text → Values → Option Parts → Option Mode
all word g parts = option_and_then (λ p. mode_in (onto word g p)) parts

-- An argument for the mode

pub word_first : (word : Text) (g : Values) (parts : Option Parts) → all None g (with_mode word parts) ≡ all (Some word) g parts
word_first word g None = refl
word_first word g (Some parts) = refl

pub word_twice : (word other : Text) (g : Values) (parts : Option Parts) → all (Some word) g (with_mode other parts) ≡ None
word_twice word other g None = refl
word_twice word other g (Some parts) = refl

pub words_twice : (word other : Text) (g : Values) (options : List (Text × Text)) (modes : List Text)
    → all (Some word) g (Some (record { options = options; modes = other ∷ modes })) ≡ None
words_twice word other g options modes = refl

one_wrong : (word : Text) (options : List (Text × Text)) (modes : List Text) → name_of word ≡ None → mode_in (record { options = options; modes = word ∷ modes }) ≡ None
one_wrong word options [] wrong = ap (option_and_then (mode_with options)) wrong
one_wrong word options (other ∷ modes) wrong = refl

-- an argument that is no mode's name
pub word_wrong : (given : Option Text) (word : Text) (g : Values) (parts : Option Parts) → name_of word ≡ None → all given g (with_mode word parts) ≡ None
word_wrong given word g None wrong = refl
word_wrong None word g (Some parts) wrong = one_wrong word (options_of g ++ parts.options) parts.modes wrong
word_wrong (Some first) word g (Some parts) wrong = refl

-- An option

for_none : (options : List (Text × Text)) (name : Option ModeName) → ((mode : ModeName) → mode_with options mode ≡ None) → option_and_then (mode_with options) name ≡ None
for_none options None none = refl
for_none options (Some mode) none = none mode

for_same : (options others : List (Text × Text)) (name : Option ModeName) → ((mode : ModeName) → mode_with options mode ≡ mode_with others mode)
    → option_and_then (mode_with options) name ≡ option_and_then (mode_with others) name
for_same options others None same = refl
for_same options others (Some mode) same = same mode

pub option_useless : (word : Option Text) (g : Values) (name value : Text) (parts : Option Parts) → IsUseless (name, value) → all word g (with_option name value parts) ≡ None
option_useless word g name value None useless = refl
option_useless word g name value (Some parts) useless =
    for_none (options_of g ++ (name, value) ∷ parts.options) (name_in (with_word word parts.modes)) (λ mode. useless_in mode (options_of g) (name, value) parts.options useless)

pub option_twice : (word : Option Text) (g : Values) (name : Name) (u v : Text) (parts : Option Parts) → value_of name g ≡ Some u → all word g (with_option (text name) v parts) ≡ None
option_twice word g name u v None given = refl
option_twice word g name u v (Some parts) given =
    for_none (options_of g ++ (text name, v) ∷ parts.options) (name_in (with_word word parts.modes)) (λ mode. twice name g u v parts.options mode given)

pub option_new : (word : Option Text) (g : Values) (name : Name) (v : Text) (parts : Option Parts) → value_of name g ≡ None
    → all word (put name v g) parts ≡ all word g (with_option (text name) v parts)
option_new word g name v None missing = refl
option_new word g name v (Some parts) missing =
    for_same (options_of (put name v g) ++ parts.options) (options_of g ++ (text name, v) ∷ parts.options) (name_in (with_word word parts.modes)) (λ mode. new name g v parts.options mode missing)
