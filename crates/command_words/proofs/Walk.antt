-- The parser's walk over the arguments, and what they request.
use Rattle.std.proofs.Common.{◌≡◌, ℕ, List, [], ◌∷◌, length, take, Bool, true, false, Option, Some, None, refl, sym, ap, ap₂, ◌∙◌}
use Rattle.std.specs.Prelude.{◌&&◌, ◌||◌, bytes_eq, codes, fold, drop, ◌+◌, if◌then◌else◌, is_some, not, slice_get}
use Rattle.std.specs.Option.{option_map_or}
use Rattle.std.specs.Str.{chars}
use Rattle.std.proofs.lemmas.List.{append-nil}
use Rattle.clap.specs.Lexer.{has_byte}
use Rattle.clap.specs.Kinds.{Kinds, check_kinds, or_else}
use Rattle.clap.specs.Walk.{Held, Row, Rule, Step, Text, Waiting, Walk, after_flag, after_step, arg_by_index, arg_by_long, bundle_met, bundle_step, finished, first_of, has_row, idle, long_met, long_or_other, option, plain, pushed, settled, settled_rows, short_or_plain, to_positional, trailing, used, value, walked, with_default}
use Rattle.clap.specs.Simple.{App, Shape, new_shape}
use Rattle.clap.specs.Faults.{bundle_fault, bundle_step_fault, check_fault, default_fault, defaults_fault, flag_word_fault, flags_fault, given_default_fault, long_fault, settle_fault, step_fault, turn_fault, walk_fault}
use Rattle.clap.specs.Takes.{is_given}
use Rattle.clap.specs.Words.{new_rule}
use Rattle.clap.specs.declared.builder.action.ArgAction.TheVariants.{Set}
use Rattle.clap.specs.declared.builder.value_parser.ValueParser.TheVariants as vp
use Rattle.command_words.specs.declared.mode.Mode.{Mode}
use Rattle.command_words.specs.Given.{asked}
use Rattle.command_words.specs.Words.{equals_at, mode_in}
use Rattle.command_words.proofs.ArgumentKinds.{IsPlain, IsShort}
use Rattle.command_words.proofs.Options.{Name, Object, Number, Count, Values, options_of, text}
use Rattle.command_words.proofs.Rows.{Shows}
use Rattle.command_words.proofs.ParserState.{all, position}

-- The command as built

abbrev pub one_rule : Rule → Rule
one_rule rule = record rule { action = Some Set; range = Some (record { start_inclusive = 1; end_inclusive = 1 }); parser = Some vp.String }

abbrev pub mode_rule : Rule
mode_rule = one_rule (record (new_rule (codes "mode")) { required = true; index = Some 1 })

abbrev pub rule : Name → Rule
rule name = one_rule (record (new_rule (text name)) { long = Some (text name) })

abbrev pub rules : List Rule
rules = mode_rule ∷ rule Object ∷ rule Number ∷ rule Count ∷ []

abbrev pub shape : Shape
shape = record (new_shape (codes "lispm")) { rules = rules; no_binary_name = true; disable_help_flag = true; disable_version_flag = true; disable_help_subcommand = true; is_built = true }

abbrev pub app : App
app = record { top = shape; subs = [] }

-- States of the walk

abbrev pub hold : List Row → Option (Text × List Text) → Held
hold r p = record { rows = r; pending = p; skip = 0 }

abbrev pub at : Held → Waiting → ℕ → Bool → Walk
at h waiting position is_trailing = record { held = h; waiting = waiting; position = position; is_trailing = is_trailing; stopped = None }

abbrev pub waiting_for : Name → Option (Text × List Text)
waiting_for name = Some (text name, [])

-- what results from the kinds of a failure: none if there are any, otherwise this mode
abbrev pub outcome : Kinds → Option Mode → Option Mode
outcome [] mode = mode
outcome (k ∷ ks) mode = None

abbrev pub answer : List Row → Option Mode
answer found = asked (first_of (codes "mode") found) (first_of (codes "object") found) (first_of (codes "number") found) (first_of (codes "count") found)

-- what results from the end of the walk, once what is pending was used
abbrev pub closing : Kinds → List Row → Option Mode
closing settle used =
    outcome (or_else settle (or_else (defaults_fault used rules) (check_fault shape (fold with_default used rules) false))) (answer (fold with_default used rules))

abbrev pub ending : Held → Option Mode
ending h = closing (settle_fault rules false h) (settled rules h).rows

-- what results from the arguments from here on
abbrev pub reach : Walk → List Text → Option Mode
reach w [] = ending w.held
reach w (word ∷ words) = outcome (turn_fault shape [] w word) (reach (walked rules [] w word) words)

pub outcome_both : (a b : Kinds) (mode : Option Mode) → outcome (or_else a b) mode ≡ outcome a (outcome b mode)
outcome_both [] b mode = refl
outcome_both (k ∷ ks) b mode = refl

pub reach_is : (words : List Text) (w : Walk)
    → outcome (or_else (walk_fault shape [] w words) (or_else (settle_fault rules false (fold (walked rules []) w words).held)
    (or_else (defaults_fault (settled rules (fold (walked rules []) w words).held).rows rules) (check_fault shape (finished rules (fold (walked rules []) w words).held) false))))
    (answer (finished rules (fold (walked rules []) w words).held)) ≡ reach w words
unfolding walk_fault
reach_is [] w = refl
reach_is (word ∷ words) w =
    let end = (fold (walked rules []) (walked rules [] w word) words).held in
    let last : Kinds = or_else (settle_fault rules false end) (or_else (defaults_fault (settled rules end).rows rules) (check_fault shape (finished rules end) false)) in
    outcome_both (or_else (turn_fault shape [] w word) (walk_fault shape [] (walked rules [] w word) words)) last (answer (finished rules end))
    ∙ outcome_both (turn_fault shape [] w word) (walk_fault shape [] (walked rules [] w word) words) (outcome last (answer (finished rules end)))
    ∙ ap (outcome (turn_fault shape [] w word)) (sym (outcome_both (walk_fault shape [] (walked rules [] w word) words) last (answer (finished rules end))) ∙ reach_is words (walked rules [] w word))

-- The end

same_if : (b : Bool) (r : List Row) → (if b then r else r) ≡ r
same_if true r = refl
same_if false r = refl

no_kinds : (b : Bool) (k : Kinds) → (if b || true then [] else k) ≡ []
no_kinds true k = refl
no_kinds false k = refl

-- an argument without a default changes nothing
no_default : (r : List Row) (a : Rule) → a.defaults ≡ [] → with_default r a ≡ r
no_default r a none = rw none (same_if (has_row a.id r) r)

no_fault : (r : List Row) (a : Rule) → a.defaults ≡ [] → default_fault r a ≡ []
no_fault r a none = rw none (no_kinds (has_row a.id r) (given_default_fault a []))

defaulted : (r : List Row) → fold with_default r rules ≡ r
defaulted r =
    ap (λ (x : List Row). fold with_default x (rule Object ∷ rule Number ∷ rule Count ∷ [])) (no_default r mode_rule refl)
    ∙ ap (λ (x : List Row). fold with_default x (rule Number ∷ rule Count ∷ [])) (no_default r (rule Object) refl)
    ∙ ap (λ (x : List Row). fold with_default x (rule Count ∷ [])) (no_default r (rule Number) refl)
    ∙ no_default r (rule Count) refl

next_fault : (r : List Row) (a : Rule) (rest : List Rule) → a.defaults ≡ [] → defaults_fault r (a ∷ rest) ≡ defaults_fault r rest
unfolding defaults_fault
next_fault r a rest none = ap₂ (λ (k : Kinds) (x : List Row). or_else k (defaults_fault x rest)) (no_fault r a none) (no_default r a none)

no_faults : (r : List Row) → defaults_fault r rules ≡ []
unfolding defaults_fault
no_faults r =
    next_fault r mode_rule (rule Object ∷ rule Number ∷ rule Count ∷ []) refl ∙ next_fault r (rule Object) (rule Number ∷ rule Count ∷ []) refl
    ∙ next_fault r (rule Number) (rule Count ∷ []) refl ∙ next_fault r (rule Count) [] refl

answer_shown : (r : List Row) (word : Option Text) (g : Values) → Shows r word g → answer r ≡ asked word g.object g.number g.count
answer_shown r word g s =
    let w = s.mode.first in
    let o = (s.option Object).first in
    let n = (s.option Number).first in
    let c = (s.option Count).first in
    rw (w, o, n, c) refl

asked_all : (word : Option Text) (g : Values)
    → outcome (check_kinds false false (not (option_map_or (λ w. true) word false) || false)) (asked word g.object g.number g.count) ≡ all word g (Some (record { options = []; modes = [] }))
asked_all None g = refl
asked_all (Some word) g = ap (λ (os : List (Text × Text)). mode_in (record { options = os; modes = word ∷ [] })) (sym (append-nil (options_of g)))

given_some : (word : Option Text) (b : Bool) → b ≡ is_some word → b ≡ option_map_or (λ w. true) word false
given_some None b is = is
given_some (Some word) b is = is

pub end_seen : (r : List Row) (word : Option Text) (g : Values) → Shows r word g → closing [] r ≡ all word g (Some (record { options = []; modes = [] }))
end_seen r word g s =
    ap₂ (λ (k : Kinds) (x : List Row). outcome (or_else k (check_fault shape x false)) (answer x)) (no_faults r) (defaulted r)
    ∙ ap₂ (λ (b : Bool) (m : Option Mode). outcome (check_kinds false false (not b || false)) m) (given_some word (is_given (codes "mode") r) s.mode.given) (answer_shown r word g s)
    ∙ asked_all word g

-- an option waits for its value
pub end_waiting : (name : Name) (r : List Row) → ending (hold r (waiting_for name)) ≡ None
end_waiting Object r = refl
end_waiting Number r = refl
end_waiting Count r = refl

-- Arguments that name the mode

-- the argument goes to the next position for the mode
abbrev pub as_mode : Walk → Text → List Text → Held → Option Mode
as_mode w word words h = outcome (step_fault shape w.position h value) (reach (to_positional rules (arg_by_index rules w.position) word w h) words)

-- if no argument for the mode was given before
abbrev pub first_mode : Kinds → List Row → Bool → Text → List Text → Option Mode
first_mode settle used is_trailing word words =
    outcome settle (reach (at (hold used (Some (codes "mode", word ∷ []))) idle 2 is_trailing) words)

pub mode_by : (b : Bool) (settle : Kinds) (used : List Row) (h : Held) (is_trailing : Bool) (word : Text) (words : List Text)
    → outcome (if b && false then [] else settle) (reach (at (pushed (codes "mode") word (if b && false then h else hold used None)) idle 2 is_trailing) words)
    ≡ first_mode settle used is_trailing word words
mode_by true settle used h is_trailing word words = refl
mode_by false settle used h is_trailing word words = refl

pub mode_first : (r : List Row) (p : Option (Text × List Text)) (waiting : Waiting) (is_trailing : Bool) (word : Text) (words : List Text)
    → as_mode (at (hold r p) waiting 1 is_trailing) word words (hold r p) ≡ first_mode (settle_fault rules false (hold r p)) (settled_rows rules p r) is_trailing word words
mode_first r None waiting false word words = refl
mode_first r None waiting true word words = refl
mode_first r (Some (id, values)) waiting false word words =
    mode_by (bytes_eq id (codes "mode")) (settle_fault rules false (hold r (Some (id, values)))) (settled_rows rules (Some (id, values)) r) (hold r (Some (id, values))) false word words
mode_first r (Some (id, values)) waiting true word words =
    mode_by (bytes_eq id (codes "mode")) (settle_fault rules false (hold r (Some (id, values)))) (settled_rows rules (Some (id, values)) r) (hold r (Some (id, values))) true word words

-- Arguments by their shapes

-- an option
abbrev pub long_turn : Option Rule → Option Text → Held → Waiting → ℕ → Text → List Text → Option Mode
long_turn rule v h waiting q word words =
    let met = after_flag rules waiting word (long_met rules rule v h).0 (long_met rules rule v h).1 in
    outcome (or_else (long_fault rules false rule v h) (step_fault shape q met.0 met.1)) (reach (after_step rules word (at h waiting q false) met.0 met.1) words)

abbrev pub value_if : Bool → Text → Option Text
value_if there v = if there then Some v else None

abbrev pub name_in_word : Text → Text
name_in_word body = take (equals_at body) body

abbrev pub value_in_word : Text → Text
value_in_word body = drop (equals_at body + 1) body

pub option_idle : (h : Held) (q b : ℕ) (body : Text) (words : List Text)
    → reach (at h idle q false) ((45 ∷ 45 ∷ b ∷ body) ∷ words)
    ≡ long_turn (arg_by_long rules (name_in_word (b ∷ body))) (value_if (has_byte 61 (b ∷ body)) (value_in_word (b ∷ body))) h idle q (45 ∷ 45 ∷ b ∷ body) words
unfolding walked
option_idle h q b body words = refl

pub option_waits : (name : Text) (h : Held) (q b : ℕ) (body : Text) (words : List Text)
    → reach (at h (option name) q false) ((45 ∷ 45 ∷ b ∷ body) ∷ words)
    ≡ long_turn (arg_by_long rules (name_in_word (b ∷ body))) (value_if (has_byte 61 (b ∷ body)) (value_in_word (b ∷ body))) h (option name) q (45 ∷ 45 ∷ b ∷ body) words
unfolding walked
option_waits name h q b body words = refl

-- an argument that isn't a flag
abbrev pub step_turn : Held → Waiting → ℕ → Text → List Text → Held × Step → Kinds → Option Mode
step_turn h waiting q word words met fault =
    outcome (or_else fault (step_fault shape q met.0 met.1)) (reach (after_step rules word (at h waiting q false) met.0 met.1) words)

abbrev pub long_seen : Held → Waiting → ℕ → Text → List Text → Bool → Option (Text × Option Text) → Option Mode
long_seen h waiting q word words d l =
    step_turn h waiting q word words (if d then (h, trailing q) else long_or_other rules waiting word l h) (if d then [] else flag_word_fault rules false l word h)

abbrev pub short_seen : Held → Waiting → ℕ → Text → List Text → Option Text → Option Mode
short_seen h waiting q word words s =
    step_turn h waiting q word words (short_or_plain rules waiting word s h) (option_map_or (λ flags. bundle_fault rules false flags h) s [])

-- the first letter after a dash
abbrev pub letter_seen : Held → Waiting → ℕ → Text → Text → List Text → Option ℕ → Option Mode
letter_seen h waiting q word flags words x =
    let met = bundle_step rules x flags 0 plain h (bundle_met rules (length (drop 1 flags))) in
    step_turn h waiting q word words (after_flag rules waiting word met.0 met.1) (bundle_step_fault rules false x flags 0 h (flags_fault rules false (length (drop 1 flags))))

pub plain_idle : (h : Held) (q : ℕ) (word : Text) (words : List Text) → IsPlain word → reach (at h idle q false) (word ∷ words) ≡ as_mode (at h idle q false) word words h
unfolding walked
plain_idle h q word words is = ap₂ (long_seen h idle q word words) is.dashes is.long ∙ ap (short_seen h idle q word words) is.short

pub plain_waits : (name : Name) (r : List Row) (q : ℕ) (word : Text) (words : List Text) → IsPlain word
    → reach (at (hold r (waiting_for name)) (option (text name)) q false) (word ∷ words) ≡ reach (at (hold r (Some (text name, word ∷ []))) idle q false) words
unfolding walked
plain_waits Object r q word words is =
    ap₂ (long_seen (hold r (waiting_for Object)) (option (text Object)) q word words) is.dashes is.long ∙ ap (short_seen (hold r (waiting_for Object)) (option (text Object)) q word words) is.short
plain_waits Number r q word words is =
    ap₂ (long_seen (hold r (waiting_for Number)) (option (text Number)) q word words) is.dashes is.long ∙ ap (short_seen (hold r (waiting_for Number)) (option (text Number)) q word words) is.short
plain_waits Count r q word words is =
    ap₂ (long_seen (hold r (waiting_for Count)) (option (text Count)) q word words) is.dashes is.long ∙ ap (short_seen (hold r (waiting_for Count)) (option (text Count)) q word words) is.short

pub letter_idle : (r : List Row) (p : Option (Text × List Text)) (q y : ℕ) (ys : Text) (words : List Text) (x : Option ℕ)
    → as_mode (at (hold r p) idle q false) (45 ∷ y ∷ ys) words (hold r p) ≡ None → letter_seen (hold r p) idle q (45 ∷ y ∷ ys) (y ∷ ys) words x ≡ None
letter_idle r p q y ys words None refused = refused
letter_idle r p q y ys words (Some x) refused = refl

pub letter_waits : (name : Name) (r : List Row) (q y : ℕ) (ys : Text) (words : List Text) (x : Option ℕ)
    → reach (at (hold r (Some (text name, (45 ∷ y ∷ ys) ∷ []))) idle q false) words ≡ None → letter_seen (hold r (waiting_for name)) (option (text name)) q (45 ∷ y ∷ ys) (y ∷ ys) words x ≡ None
letter_waits Object r q y ys words None refused = refused
letter_waits Number r q y ys words None refused = refused
letter_waits Count r q y ys words None refused = refused
letter_waits name r q y ys words (Some x) refused = refl

pub short_idle : (r : List Row) (p : Option (Text × List Text)) (q y : ℕ) (ys : Text) (words : List Text) → IsShort y ys
    → as_mode (at (hold r p) idle q false) (45 ∷ y ∷ ys) words (hold r p) ≡ None → reach (at (hold r p) idle q false) ((45 ∷ y ∷ ys) ∷ words) ≡ None
unfolding walked bundle_met flags_fault
short_idle r p q y ys words is refused =
    ap₂ (long_seen (hold r p) idle q (45 ∷ y ∷ ys) words) is.dashes is.long ∙ ap (short_seen (hold r p) idle q (45 ∷ y ∷ ys) words) is.short
    ∙ letter_idle r p q y ys words (slice_get (chars (y ∷ ys)) 0) refused

pub short_waits : (name : Name) (r : List Row) (q y : ℕ) (ys : Text) (words : List Text) → IsShort y ys
    → reach (at (hold r (Some (text name, (45 ∷ y ∷ ys) ∷ []))) idle q false) words ≡ None → reach (at (hold r (waiting_for name)) (option (text name)) q false) ((45 ∷ y ∷ ys) ∷ words) ≡ None
unfolding walked bundle_met flags_fault
short_waits name r q y ys words is refused =
    ap₂ (long_seen (hold r (waiting_for name)) (option (text name)) q (45 ∷ y ∷ ys) words) is.dashes is.long ∙ ap (short_seen (hold r (waiting_for name)) (option (text name)) q (45 ∷ y ∷ ys) words) is.short
    ∙ letter_waits name r q y ys words (slice_get (chars (y ∷ ys)) 0) refused
