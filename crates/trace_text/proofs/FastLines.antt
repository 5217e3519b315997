-- What the fast reader takes is the line of a command, and then the rest of the text.
use Rattle.std.proofs.Common.{◌≡◌, ℕ, ◌<◌, ◌≤◌, ◌^◌, List, [], ◌∷◌, ◌++◌, length, map, true, Ok, decimal, codes, refl, ap, sym, ◌∙◌, append_assoc, arith}
use Rattle.std.specs.Prelude.{◌==◌}
use Rattle.std.proofs.lemmas.Bool.Decides.{nat_tests}
use Rattle.std.proofs.lemmas.List.{append-nil}
use Rattle.store_word.specs.declared.space.Space.{Space}
use Rattle.lisp_graph.specs.declared.object.Value.{Value}
use Rattle.lisp_graph.specs.declared.world.AreaRule.{AreaRule}
use Rattle.lisp_graph.specs.declared.command.Command.{Command}
use Rattle.lisp_graph.specs.declared.command.Command.TheVariants as commands
use Rattle.world_text.specs.declared.reading.reason.Reason.TheVariants.{NoArea}
use Rattle.world_text.specs.Next.{found}
use Rattle.world_text.specs.Leading.{LeadsArea}
use Rattle.world_text.specs.Spelling.{line_of, spaced, value_text}
use Rattle.trace_text.specs.declared.pair.PairKind.{PairKind}
use Rattle.trace_text.specs.Commands.{Run, trace_line}
use Rattle.trace_text.specs.Pairs.{pair_name, pair_with}
use Rattle.trace_text.specs.Items.{items_of}
use Rattle.trace_text.specs.Fast.{LeadsCommand, LeadsCons, LeadsItems, LeadsList, LeadsMake, LeadsSet}
use Rattle.trace_text.proofs.AcceptedSpellings.{NamesArea, cons_back, get_back, grow_back, kind_back, list_back, make_back, put_back, set_back, size_back}

-- Words with a space between them make a line

after_space : (a b rest : List ℕ) → a ++ 32 ∷ (b ++ rest) ≡ (a ++ 32 ∷ b) ++ rest
after_space a b rest = sym (append_assoc a (32 ∷ b) rest)

after_spaces : (a b c rest : List ℕ) → a ++ 32 ∷ (b ++ 32 ∷ (c ++ rest)) ≡ (a ++ 32 ∷ (b ++ 32 ∷ c)) ++ rest
after_spaces a b c rest = ap (λ more. a ++ 32 ∷ more) (after_space b c rest) ∙ after_space a (b ++ 32 ∷ c) rest

two_words : (name a b rest : List ℕ) → (name ++ 32 ∷ []) ++ a ++ 32 ∷ b ++ rest ≡ line_of (name ∷ a ∷ b ∷ []) ++ rest
two_words name a b rest = simp (append_assoc, append-nil) (ap (λ more. name ++ 32 ∷ more) (after_space a b rest))

three_words : (name a b c rest : List ℕ) → (name ++ 32 ∷ []) ++ a ++ 32 ∷ b ++ 32 ∷ c ++ rest ≡ line_of (name ∷ a ∷ b ∷ c ∷ []) ++ rest
three_words name a b c rest = simp (append_assoc, append-nil) (ap (λ more. name ++ 32 ∷ more) (after_spaces a b c rest))

-- Commands of two registers

pair_words : (name a b words rest text : List ℕ) → text ≡ name ++ 32 ∷ words → words ≡ a ++ 32 ∷ b ++ rest → text ≡ line_of (name ∷ a ∷ b ∷ []) ++ rest
pair_words name a b words rest text head is = head ∙ ap (λ more. name ++ 32 ∷ more) is ∙ simp (append_assoc, append-nil) (ap (λ more. name ++ 32 ∷ more) (after_space a b rest))

pub pair_line : (space : Space) (areas : List AreaRule) (text words rest : List ℕ) (kind : PairKind) (one two : ℕ) → space.registers ≤ 256 → one < space.registers → two < space.registers → text ≡ pair_name kind ++ 32 ∷ words → words ≡ decimal one ++ 32 ∷ decimal two ++ rest
    → LeadsCommand space areas text (pair_with kind one two) rest
pair_line space areas text words rest kind one two small one_in two_in head is = record {
  line = line_of (pair_name kind ∷ decimal one ∷ decimal two ∷ []);
  means = kind_back space areas kind one two small one_in two_in;
  is = pair_words (pair_name kind) (decimal one) (decimal two) words rest text head is;
}

-- Commands that name an area

-- what a text begins with names its area
names : (areas : List AreaRule) (text : List ℕ) (area : ℕ) (rest : List ℕ) (lead : LeadsArea areas text area rest) → NamesArea areas lead.name area
names areas text area rest lead = record { word = lead.word; read = ap (found NoArea) lead.found }

area_row : (command to name first second : List ℕ) → (command ++ 32 ∷ []) ++ (to ++ 32 ∷ (name ++ 32 ∷ (first ++ 32 ∷ second))) ≡ line_of (command ∷ to ∷ name ∷ first ∷ second ∷ [])
area_row command to name first second = simp (append_assoc, append-nil)

area_text : (command to name first second rest : List ℕ) → (command ++ 32 ∷ []) ++ (to ++ 32 ∷ (name ++ (32 ∷ first ++ 32 ∷ second ++ rest))) ≡ line_of (command ∷ to ∷ name ∷ first ∷ second ∷ []) ++ rest
area_text command to name first second rest =
    ap (λ more. (command ++ 32 ∷ []) ++ (to ++ 32 ∷ more)) (after_space name (first ++ 32 ∷ second) rest)
    ∙ ap (λ more. (command ++ 32 ∷ []) ++ more) (after_space to (name ++ 32 ∷ (first ++ 32 ∷ second)) rest)
    ∙ sym (append_assoc (command ++ 32 ∷ []) (to ++ 32 ∷ (name ++ 32 ∷ (first ++ 32 ∷ second))) rest) ∙ ap (λ line. line ++ rest) (area_row command to name first second)

-- the name of an area, and two numbers after it
area_words : (command to name first second named last rest text : List ℕ) → text ≡ (command ++ 32 ∷ []) ++ (to ++ 32 ∷ named) → named ≡ name ++ last → last ≡ 32 ∷ first ++ 32 ∷ second ++ rest
    → text ≡ line_of (command ∷ to ∷ name ∷ first ∷ second ∷ []) ++ rest
area_words command to name first second named last rest text head lead is =
    head ∙ ap (λ more. (command ++ 32 ∷ []) ++ (to ++ 32 ∷ more)) (lead ∙ ap (λ more. name ++ more) is) ∙ area_text command to name first second rest

pub cons_line : (space : Space) (areas : List AreaRule) (text rest : List ℕ) (to area car cdr : ℕ) → space.registers ≤ 256 → LeadsCons space areas text to area car cdr rest → LeadsCommand space areas text (commands.Cons to area car cdr) rest
cons_line space areas text rest to area car cdr small s = record {
  line = line_of (codes "cons" ∷ decimal to ∷ s.name.name ∷ decimal car ∷ decimal cdr ∷ []);
  means = cons_back space areas s.name.name to area car cdr small (names areas s.named area s.last s.name) s.to_in s.car_in s.cdr_in;
  is = area_words (codes "cons") (decimal to) s.name.name (decimal car) (decimal cdr) s.named s.last rest text s.head s.name.is s.is;
}

pub make_line : (space : Space) (areas : List AreaRule) (text rest : List ℕ) (to area code size : ℕ) → space.registers ≤ 256 → LeadsMake space areas text to area code size rest → LeadsCommand space areas text (commands.Make to area code size) rest
make_line space areas text rest to area code size small s = record {
  line = line_of (codes "make" ∷ decimal to ∷ s.name.name ∷ decimal code ∷ decimal size ∷ []);
  means = make_back space areas s.name.name to area code size small (names areas s.named area s.last s.name) s.to_in s.numbers s.limit;
  is = area_words (codes "make") (decimal to) s.name.name (decimal code) (decimal size) s.named s.last rest text s.head s.name.is s.is;
}

list_text : (name to : List ℕ) (words : List (List ℕ)) (rest : List ℕ) → codes "list " ++ to ++ 32 ∷ (name ++ (spaced words ++ rest)) ≡ line_of (codes "list" ∷ to ∷ name ∷ words) ++ rest
list_text name to words rest = simp append_assoc

list_words : (name to named items rest text : List ℕ) (words : List (List ℕ)) → text ≡ codes "list " ++ to ++ 32 ∷ named → named ≡ name ++ items → items ≡ spaced words ++ rest → text ≡ line_of (codes "list" ∷ to ∷ name ∷ words) ++ rest
list_words name to named items rest text words head lead is =
    head ∙ ap (λ more. codes "list " ++ to ++ 32 ∷ more) (lead ∙ ap (λ more. name ++ more) is) ∙ list_text name to words rest

pub list_line : (space : Space) (areas : List AreaRule) (text items rest : List ℕ) (to area : ℕ) (command : Command) → space.registers ≤ 256 → LeadsList space areas text to area items → LeadsItems space.registers items to area command rest
    → LeadsCommand space areas text command rest
list_line space areas text items rest to area command small b s = record {
  line = line_of (codes "list" ∷ decimal to ∷ b.name.name ∷ map decimal (items_of command));
  means =
      list_back space areas b.name.name to area (items_of command) small (names areas b.named area items b.name) b.to_in s.within s.some s.few
      ∙ ap (λ (c : Command). Ok (Run c)) (sym s.list);
  is = list_words b.name.name (decimal to) b.named items rest text (map decimal (items_of command)) b.head b.name.is s.is;
}

-- The others

pub set_line : (space : Space) (areas : List AreaRule) (text rest : List ℕ) (to : ℕ) (value : Value) → space.registers ≤ 256 → LeadsSet space.registers text to value rest → LeadsCommand space areas text (commands.Set to value) rest
set_line space areas text rest to value small s = record {
  line = line_of (codes "set" ∷ decimal to ∷ value_text value ∷ []);
  means = set_back space areas to value small s.to_in s.plain s.written;
  is = s.is ∙ two_words (codes "set") (decimal to) (value_text value) rest;
}

pub get_line : (space : Space) (areas : List AreaRule) (text rest : List ℕ) (to from index : ℕ) → space.registers ≤ 256 → to < space.registers → from < space.registers → index < 2 ^ 32
    → text ≡ codes "get " ++ decimal to ++ 32 ∷ decimal from ++ 32 ∷ decimal index ++ rest → LeadsCommand space areas text (commands.Get to from index) rest
get_line space areas text rest to from index small to_in from_in fits is = record {
  line = line_of (codes "get" ∷ decimal to ∷ decimal from ∷ decimal index ∷ []);
  means = get_back space areas to from index small to_in from_in fits;
  is = is ∙ three_words (codes "get") (decimal to) (decimal from) (decimal index) rest;
}

pub put_line : (space : Space) (areas : List AreaRule) (text rest : List ℕ) (target index from : ℕ) → space.registers ≤ 256 → target < space.registers → from < space.registers → index < 2 ^ 32
    → text ≡ codes "put " ++ decimal target ++ 32 ∷ decimal index ++ 32 ∷ decimal from ++ rest → LeadsCommand space areas text (commands.Put target index from) rest
put_line space areas text rest target index from small target_in from_in fits is = record {
  line = line_of (codes "put" ∷ decimal target ∷ decimal index ∷ decimal from ∷ []);
  means = put_back space areas target index from small target_in from_in fits;
  is = is ∙ three_words (codes "put") (decimal target) (decimal index) (decimal from) rest;
}

pub grow_line : (space : Space) (areas : List AreaRule) (text rest : List ℕ) (target size : ℕ) → space.registers ≤ 256 → target < space.registers → size ≤ 2047
    → text ≡ codes "grow " ++ decimal target ++ 32 ∷ decimal size ++ rest → LeadsCommand space areas text (commands.Grow target size) rest
grow_line space areas text rest target size small target_in short is = record {
  line = line_of (codes "grow" ∷ decimal target ∷ decimal size ∷ []);
  means = grow_back space areas target size small target_in short;
  is = is ∙ two_words (codes "grow") (decimal target) (decimal size) rest;
}

one_word : (name a rest : List ℕ) → (name ++ 32 ∷ []) ++ a ++ rest ≡ line_of (name ∷ a ∷ []) ++ rest
one_word name a rest = simp (append_assoc, append-nil)

pub size_line : (space : Space) (areas : List AreaRule) (text rest : List ℕ) (of : ℕ) → space.registers ≤ 256 → of < space.registers → text ≡ codes "size " ++ decimal of ++ rest → LeadsCommand space areas text (commands.Size of) rest
size_line space areas text rest of small of_in is = record {
  line = line_of (codes "size" ∷ decimal of ∷ []);
  means = size_back space areas of small of_in;
  is = is ∙ one_word (codes "size") (decimal of) rest;
}

-- a command that is the whole text
none_left : (rest : List ℕ) → length rest == 0 ≡ true → rest ≡ []
none_left [] is = refl
none_left (byte ∷ rest) is = absurd (let none : length (byte ∷ rest) ≡ 0 = grind (arith, nat_tests, is) in omega (arith, none))

pub whole_line : (space : Space) (areas : List AreaRule) (text : List ℕ) (command : Command) (rest : List ℕ) → LeadsCommand space areas text command rest → length rest == 0 ≡ true → trace_line space areas text ≡ Ok (Run command)
whole_line space areas text command rest lead none =
    ap (trace_line space areas) (lead.is ∙ ap (λ more. lead.line ++ more) (none_left rest none) ∙ append-nil lead.line) ∙ lead.means
