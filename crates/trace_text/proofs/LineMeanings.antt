-- What accepted lines mean.
use Rattle.std.proofs.Common.{◌≡◌, ℕ, ◌+◌, ◌-◌, ◌<◌, ◌≤◌, ◌⊎◌, ◌^◌, List, [], ◌∷◌, length, Bool, true, false, Result, Ok, Err, decimal, codes, inl, inr, refl, ap, sym, ◌∙◌, subst, arith}
use Rattle.std.specs.Prelude.{◌==◌, if◌then◌else◌, bytes_eq, drop, nat_lt, IfOk}
use Rattle.std.proofs.lemmas.Bool.Decides.{nat_tests}
use Rattle.std.proofs.lemmas.List.{length-map}
use Rattle.store_word.specs.declared.space.Space.{Space}
use Rattle.lisp_graph.specs.Commands.{IsPlain}
use Rattle.lisp_graph.specs.declared.object.Value.{Value}
use Rattle.lisp_graph.specs.declared.object.Value.TheVariants.{Fix, Nil, Ref}
use Rattle.lisp_graph.specs.declared.world.AreaRule.{AreaRule}
use Rattle.lisp_graph.specs.declared.command.Command.{Command}
use Rattle.lisp_graph.specs.declared.command.Command.TheVariants as commands
use Rattle.lisp_graph.specs.declared.command.Condemn.{Condemn}
use Rattle.world_text.specs.declared.reading.reason.Reason.{Reason}
use Rattle.world_text.specs.declared.reading.reason.Reason.TheVariants.{BadLine, UnknownCommand, TooManyItems, WrongCount, BadValue}
use Rattle.world_text.specs.Words.{first_word, is_well_formed, words_of}
use Rattle.world_text.specs.Limits.{AreNamed}
use Rattle.world_text.specs.Next.{◌>>=◌, Gives, a_number, a_register, a_value, an_area, each, next}
use Rattle.world_text.specs.Spelling.{IsWritten, line_of, name_of, value_text}
use Rattle.world_text.proofs.reading_laws.WordReaders.{Spells}
use Rattle.world_text.proofs.reading_laws.NumberLaws.{numbers}
use Rattle.world_text.proofs.reading_laws.ObjectLaws.{no_words}
use Rattle.world_text.proofs.reading_laws.ReadLaws.{Took, also, each_only, eq_number, guard_ok, guard_not, step_parts, take_only}
use Rattle.world_text.proofs.reading_laws.Rows.{formed_row}
use Rattle.world_text.proofs.reading_laws.ValueLaws.{areas_spell, registers_spell, same_bytes, values_spell}
use Rattle.trace_text.specs.declared.read.LineKind.{LineKind}
use Rattle.trace_text.specs.Commands.{TraceLine, Run, End, said_by, InLimits, a_condemn, a_plain_value, alone, command_in, cons_in, flip_in, get_in, grow_in, is_reference, line_in, list_in, make_in, page_out_in, pair_command, pair_in, put_in, scavenge_in, set_in, size_in, store_command, trace_line}
use Rattle.trace_text.specs.Spelled.{SayCommand, SaysLine}
use Rattle.trace_text.proofs.Flips.{condemn_only}

-- a test that was passed or failed
either_ok : {A E : Type 0} (b : Bool) (one other : Result A E) (x : A) → (if b then one else other) ≡ Ok x → ((b ≡ true) × (one ≡ Ok x)) ⊎ ((b ≡ false) × (other ≡ Ok x))
either_ok true one other x is = inl (refl, is)
either_ok false one other x is = inr (refl, is)

-- a value that isn't a reference
not_reference : (value : Value) → is_reference value ≡ false → IsPlain value
not_reference (Fix number) is = tt
not_reference Nil is = tt
not_reference (Ref name) is = absurd (cc (is))

is_plain : (value : Value) → IsPlain value → is_reference value ≡ false
is_plain (Fix number) plain = refl
is_plain Nil plain = refl
is_plain (Ref name) plain = absurd plain

pub plain_spell : Spells a_plain_value (λ value. IsPlain value × IsWritten value) value_text
unfolding a_plain_value
plain_spell = record {
  accepts = λ value fits. let no = is_plain value fits.0 in rw (values_spell.accepts value fits.1) (rw no refl);
  only = λ word value is.
      let p = step_parts (a_value word) (λ one. if is_reference one then Err BadValue else Ok one) value is in
      let g = guard_not (is_reference p.0) (Ok p.0) BadValue value p.2 in
      let e : p.0 ≡ value = let f = g.1 in cc (f) in
      let o = values_spell.only word p.0 p.1 in
      subst (λ (v : Value). (word ≡ value_text v) × (IsPlain v × IsWritten v)) e (o.0, (not_reference p.0 g.0, o.1));
  words = λ value fits. values_spell.words value fits.1;
}

-- What the words after the first mean

abbrev Says : Space → List AreaRule → List ℕ → List (List ℕ) → Command → Type 0
Says space areas head words command = SayCommand space areas (head ∷ words) command

-- a register, and the words after it
abbrev takes_register : {B : Type 0} → Space → List (List ℕ) → (ℕ × List (List ℕ) → Result B Reason) → B → Type 0
takes_register space words goal y = Took (λ n. n < space.registers) decimal words goal y

register_of : {B : Type 0} (space : Space) (words : List (List ℕ)) (goal : ℕ × List (List ℕ) → Result B Reason) (y : B) → space.registers ≤ 256 → (next (a_register space.registers) words >>= goal) ≡ Ok y → takes_register space words goal y
register_of space words goal y small is = take_only (a_register space.registers) (λ n. n < space.registers) decimal words goal y (registers_spell space.registers (omega arith)) is

-- a number of 32 bits, and the words after it
abbrev takes_number : {B : Type 0} → List (List ℕ) → (ℕ × List (List ℕ) → Result B Reason) → B → Type 0
takes_number words goal y = Took (λ n. (0 ≤ n) × (n ≤ 2 ^ 32 - 1)) decimal words goal y

number_of : {B : Type 0} (words : List (List ℕ)) (goal : ℕ × List (List ℕ) → Result B Reason) (y : B) → (next (a_number 0 (2 ^ 32 - 1)) words >>= goal) ≡ Ok y → takes_number words goal y
number_of words goal y is = take_only (a_number 0 (2 ^ 32 - 1)) (λ n. (0 ≤ n) × (n ≤ 2 ^ 32 - 1)) decimal words goal y (numbers 0 (2 ^ 32 - 1) (omega arith)) is

set_only : (space : Space) (areas : List AreaRule) (count : ℕ) (words : List (List ℕ)) (command : Command) → space.registers ≤ 256 → count ≡ length words + 1 → set_in space.registers count words ≡ Ok command → Says space areas (codes "set") words command
unfolding set_in
set_only space areas count words command small counted is =
    let g = guard_ok (count == 3) _ WrongCount command is in
    let a = register_of space words _ command small g.1 in
    let b = take_only a_plain_value (λ value. IsPlain value × IsWritten value) value_text a.rest _ command plain_spell a.goes in
    let none : b.rest ≡ [] = no_words b.rest (omega (arith, eq_number count 3 g.0, ap length a.is, ap length b.is)) in
    let e : commands.Set a.what b.what ≡ command = let f = b.goes in cc (f) in
    subst (Says space areas (codes "set") words) e (record {
      registers = a.fits;
      areas_in = tt;
      limits = b.fits.0;
      numbers = b.fits.1;
      is = ap (λ ws. codes "set" ∷ ws) (also a.is (also b.is none));
    })

cons_only : (space : Space) (areas : List AreaRule) (count : ℕ) (words : List (List ℕ)) (command : Command) → AreNamed areas → space.registers ≤ 256 → count ≡ length words + 1 → cons_in space.registers areas count words ≡ Ok command
    → Says space areas (codes "cons") words command
unfolding cons_in
cons_only space areas count words command named small counted is =
    let g = guard_ok (count == 5) _ WrongCount command is in
    let a = register_of space words _ command small g.1 in
    let b = take_only (an_area areas) (λ area. area < length areas) (name_of areas) a.rest _ command (areas_spell areas named) a.goes in
    let c = register_of space b.rest _ command small b.goes in
    let d = register_of space c.rest _ command small c.goes in
    let none : d.rest ≡ [] = no_words d.rest (omega (arith, eq_number count 5 g.0, ap length a.is, ap length b.is, ap length c.is, ap length d.is)) in
    let e : commands.Cons a.what b.what c.what d.what ≡ command = let f = d.goes in cc (f) in
    subst (Says space areas (codes "cons") words) e (record {
      registers = (a.fits, c.fits, d.fits);
      areas_in = b.fits;
      limits = tt;
      numbers = tt;
      is = ap (λ ws. codes "cons" ∷ ws) (also a.is (also b.is (also c.is (also d.is none))));
    })

list_only : (space : Space) (areas : List AreaRule) (count : ℕ) (words : List (List ℕ)) (command : Command) → AreNamed areas → space.registers ≤ 256 → count ≡ length words + 1 → list_in space.registers areas count words ≡ Ok command
    → Says space areas (codes "list") words command
unfolding list_in
list_only space areas count words command named small counted is =
    let g = guard_not (nat_lt 1027 count) _ TooManyItems command is in
    let h = guard_not (nat_lt count 4) _ WrongCount command g.1 in
    let a = register_of space words _ command small h.1 in
    let b = take_only (an_area areas) (λ area. area < length areas) (name_of areas) a.rest _ command (areas_spell areas named) a.goes in
    let p = step_parts (each (a_register space.registers) b.rest) (λ items. Ok (commands.List a.what b.what items)) command b.goes in
    let items = each_only (a_register space.registers) (λ n. n < space.registers) decimal b.rest p.0 (registers_spell space.registers (omega arith)) p.1 in
    let many : count ≤ 1027 = let f = g.0 in grind (arith, nat_tests, f) in
    let few : 4 ≤ count = let f = h.0 in grind (arith, nat_tests, f) in
    let long : length b.rest ≡ length p.0 = ap length items.0 ∙ length-map p.0 decimal in
    let e : commands.List a.what b.what p.0 ≡ command = let f = p.2 in cc (f) in
    subst (Says space areas (codes "list") words) e (record {
      registers = (a.fits, items.1);
      areas_in = b.fits;
      limits = (omega (arith, ap length a.is, ap length b.is, long), omega (arith, ap length a.is, ap length b.is, long));
      numbers = tt;
      is = ap (λ ws. codes "list" ∷ ws) (also a.is (also b.is items.0));
    })

make_only : (space : Space) (areas : List AreaRule) (count : ℕ) (words : List (List ℕ)) (command : Command) → AreNamed areas → space.registers ≤ 256 → count ≡ length words + 1 → make_in space.registers areas count words ≡ Ok command
    → Says space areas (codes "make") words command
unfolding make_in
make_only space areas count words command named small counted is =
    let g = guard_ok (count == 5) _ WrongCount command is in
    let a = register_of space words _ command small g.1 in
    let b = take_only (an_area areas) (λ area. area < length areas) (name_of areas) a.rest _ command (areas_spell areas named) a.goes in
    let c = take_only (a_number 0 65535) (λ n. (0 ≤ n) × (n ≤ 65535)) decimal b.rest _ command (numbers 0 65535 (omega arith)) b.goes in
    let d = take_only (a_number 0 2047) (λ n. (0 ≤ n) × (n ≤ 2047)) decimal c.rest _ command (numbers 0 2047 (omega arith)) c.goes in
    let none : d.rest ≡ [] = no_words d.rest (omega (arith, eq_number count 5 g.0, ap length a.is, ap length b.is, ap length c.is, ap length d.is)) in
    let e : commands.Make a.what b.what c.what d.what ≡ command = let f = d.goes in cc (f) in
    subst (Says space areas (codes "make") words) e (record {
      registers = a.fits;
      areas_in = b.fits;
      limits = d.fits.1;
      numbers = c.fits.1;
      is = ap (λ ws. codes "make" ∷ ws) (also a.is (also b.is (also c.is (also d.is none))));
    })

grow_only : (space : Space) (areas : List AreaRule) (count : ℕ) (words : List (List ℕ)) (command : Command) → space.registers ≤ 256 → count ≡ length words + 1 → grow_in space.registers count words ≡ Ok command → Says space areas (codes "grow") words command
unfolding grow_in
grow_only space areas count words command small counted is =
    let g = guard_ok (count == 3) _ WrongCount command is in
    let a = register_of space words _ command small g.1 in
    let b = take_only (a_number 0 2047) (λ n. (0 ≤ n) × (n ≤ 2047)) decimal a.rest _ command (numbers 0 2047 (omega arith)) a.goes in
    let none : b.rest ≡ [] = no_words b.rest (omega (arith, eq_number count 3 g.0, ap length a.is, ap length b.is)) in
    let e : commands.Grow a.what b.what ≡ command = let f = b.goes in cc (f) in
    subst (Says space areas (codes "grow") words) e (record { registers = a.fits; areas_in = tt; limits = b.fits.1; numbers = tt; is = ap (λ ws. codes "grow" ∷ ws) (also a.is (also b.is none)) })

-- three words after the first, and no more
three_words : {words first second third : List (List ℕ)} {one two three : List ℕ} (count : ℕ) → count ≡ length words + 1 → (count == 4) ≡ true → words ≡ one ∷ first → first ≡ two ∷ second → second ≡ three ∷ third → words ≡ one ∷ two ∷ three ∷ []
three_words {third = third} count counted four a b c = also a (also b (also c (no_words third (omega (arith, eq_number count 4 four, ap length a, ap length b, ap length c)))))

get_only : (space : Space) (areas : List AreaRule) (count : ℕ) (words : List (List ℕ)) (command : Command) → space.registers ≤ 256 → count ≡ length words + 1 → get_in space.registers count words ≡ Ok command → Says space areas (codes "get") words command
unfolding get_in
get_only space areas count words command small counted is =
    let g = guard_ok (count == 4) _ WrongCount command is in
    let a = register_of space words _ command small g.1 in
    let b = register_of space a.rest _ command small a.goes in
    let c = number_of b.rest _ command b.goes in
    let e : commands.Get a.what b.what c.what ≡ command = let f = c.goes in cc (f) in
    subst (Says space areas (codes "get") words) e (record { registers = (a.fits, b.fits); areas_in = tt; limits = tt; numbers = omega (arith, c.fits.1); is = ap (λ ws. codes "get" ∷ ws) (three_words count counted g.0 a.is b.is c.is) })

put_only : (space : Space) (areas : List AreaRule) (count : ℕ) (words : List (List ℕ)) (command : Command) → space.registers ≤ 256 → count ≡ length words + 1 → put_in space.registers count words ≡ Ok command → Says space areas (codes "put") words command
unfolding put_in
put_only space areas count words command small counted is =
    let g = guard_ok (count == 4) _ WrongCount command is in
    let a = register_of space words _ command small g.1 in
    let b = number_of a.rest _ command a.goes in
    let c = register_of space b.rest _ command small b.goes in
    let e : commands.Put a.what b.what c.what ≡ command = let f = c.goes in cc (f) in
    subst (Says space areas (codes "put") words) e (record { registers = (a.fits, c.fits); areas_in = tt; limits = tt; numbers = omega (arith, b.fits.1); is = ap (λ ws. codes "put" ∷ ws) (three_words count counted g.0 a.is b.is c.is) })

size_only : (space : Space) (areas : List AreaRule) (count : ℕ) (words : List (List ℕ)) (command : Command) → space.registers ≤ 256 → count ≡ length words + 1 → size_in space.registers count words ≡ Ok command → Says space areas (codes "size") words command
unfolding size_in
size_only space areas count words command small counted is =
    let g = guard_ok (count == 2) _ WrongCount command is in
    let a = register_of space words _ command small g.1 in
    let none : a.rest ≡ [] = no_words a.rest (omega (arith, eq_number count 2 g.0, ap length a.is)) in
    let e : commands.Size a.what ≡ command = let f = a.goes in cc (f) in
    subst (Says space areas (codes "size") words) e (record { registers = a.fits; areas_in = tt; limits = tt; numbers = tt; is = ap (λ ws. codes "size" ∷ ws) (also a.is none) })

-- one word alone
one_word : (words : List (List ℕ)) → length words ≡ 1 → words ≡ first_word words ∷ []
one_word [] one = absurd (omega arith)
one_word (word ∷ []) one = refl
one_word (word ∷ other ∷ words) one = absurd (omega arith)

flip_only : (space : Space) (areas : List AreaRule) (count : ℕ) (words : List (List ℕ)) (command : Command) → space.levels ≤ 6 → count ≡ length words + 1 → flip_in space.levels count words ≡ Ok command → Says space areas (codes "flip") words command
unfolding flip_in next
flip_only space areas count words command small counted is =
    let g = guard_ok (count == 2) _ WrongCount command is in
    let p = step_parts (next (a_condemn space.levels) words) (λ one. Ok (commands.Flip one.0)) command g.1 in
    let q = step_parts (a_condemn space.levels (first_word words)) (λ one. Ok (one, drop 1 words)) p.0 p.1 in
    let what : q.0 ≡ p.0.0 = ap (λ (r : Condemn × List (List ℕ)). r.0) (let f = q.2 in pair_is (q.0, drop 1 words) p.0 f) in
    let spelled = condemn_only space.levels (first_word words) q.0 small q.1 in
    let e : commands.Flip q.0 ≡ command = let f = p.2 in ap commands.Flip what ∙ cc (f) in
    subst (Says space areas (codes "flip") words) e (record {
      registers = tt;
      areas_in = tt;
      limits = tt;
      numbers = tt;
      is = (first_word words, ap (λ ws. codes "flip" ∷ ws) (one_word words (omega (arith, eq_number count 2 g.0))), spelled);
    })
  where
    pair_is : (one other : Condemn × List (List ℕ)) → ◌≡◌ {A = Result (Condemn × List (List ℕ)) Reason} (Ok one) (Ok other) → one ≡ other
    pair_is one other is = cc (is)

scavenge_only : (space : Space) (areas : List AreaRule) (count : ℕ) (words : List (List ℕ)) (command : Command) → count ≡ length words + 1 → scavenge_in count words ≡ Ok command → Says space areas (codes "scavenge") words command
unfolding scavenge_in
scavenge_only space areas count words command counted is =
    let g = guard_ok (count == 2) _ WrongCount command is in
    let a = number_of words _ command g.1 in
    let none : a.rest ≡ [] = no_words a.rest (omega (arith, eq_number count 2 g.0, ap length a.is)) in
    let e : commands.Scavenge a.what ≡ command = let f = a.goes in cc (f) in
    subst (Says space areas (codes "scavenge") words) e (record { registers = tt; areas_in = tt; limits = tt; numbers = omega (arith, a.fits.1); is = ap (λ ws. codes "scavenge" ∷ ws) (also a.is none) })

page_out_only : (space : Space) (areas : List AreaRule) (count : ℕ) (words : List (List ℕ)) (command : Command) → count ≡ length words + 1 → page_out_in count words ≡ Ok command → Says space areas (codes "page-out") words command
unfolding page_out_in
page_out_only space areas count words command counted is =
    let g = guard_ok (count == 2) _ WrongCount command is in
    let a = number_of words _ command g.1 in
    let none : a.rest ≡ [] = no_words a.rest (omega (arith, eq_number count 2 g.0, ap length a.is)) in
    let e : commands.PageOut a.what ≡ command = let f = a.goes in cc (f) in
    subst (Says space areas (codes "page-out") words) e (record { registers = tt; areas_in = tt; limits = tt; numbers = omega (arith, a.fits.1); is = ap (λ ws. codes "page-out" ∷ ws) (also a.is none) })

-- a command of one word
alone_only : (count : ℕ) (words : List (List ℕ)) (said command : Command) → count ≡ length words + 1 → alone count said ≡ Ok command → (words ≡ []) × (said ≡ command)
alone_only count words said command counted is =
    let g = guard_ok (count == 1) (Ok said) WrongCount command is in
    (no_words words (omega (arith, eq_number count 1 g.0)), let f = g.1 in cc (f))

-- two registers
pub record SaysPair (space : Space) (words : List (List ℕ)) (pair : ℕ × ℕ) : Type 0 where
  pub first : pair.0 < space.registers
  pub second : pair.1 < space.registers
  pub is : words ≡ decimal pair.0 ∷ decimal pair.1 ∷ []

pair_only : (space : Space) (count : ℕ) (words : List (List ℕ)) (pair : ℕ × ℕ) → space.registers ≤ 256 → count ≡ length words + 1 → pair_in space.registers count words ≡ Ok pair → SaysPair space words pair
unfolding pair_in
pair_only space count words pair small counted is =
    let g = guard_ok (count == 3) _ WrongCount pair is in
    let a = register_of space words _ pair small g.1 in
    let b = register_of space a.rest _ pair small a.goes in
    let none : b.rest ≡ [] = no_words b.rest (omega (arith, eq_number count 3 g.0, ap length a.is, ap length b.is)) in
    let e = pair_is (a.what, b.what) pair b.goes in
    subst (SaysPair space words) e (record { first = a.fits; second = b.fits; is = also a.is (also b.is none) })
  where
    pair_is : (one other : ℕ × ℕ) → ◌≡◌ {A = Result (ℕ × ℕ) Reason} (Ok one) (Ok other) → one ≡ other
    pair_is one other is = cc (is)

-- Which command it is

-- the first word is this one
with_head : (space : Space) (areas : List AreaRule) (head name : List ℕ) (words : List (List ℕ)) (command : Command) → bytes_eq head name ≡ true → Says space areas name words command → Says space areas head words command
with_head space areas head name words command same says = subst (λ (word : List ℕ). SayCommand space areas (word ∷ words) command) (sym (same_bytes head name same)) says

-- a command of two registers means its kind and these registers
pair_says : (space : Space) (areas : List AreaRule) (head name : List ℕ) (count : ℕ) (words : List (List ℕ)) (make : ℕ → ℕ → Command) (command : Command) → space.registers ≤ 256 → count ≡ length words + 1
    → bytes_eq head name ≡ true → (pair_in space.registers count words >>= (λ pair. Ok (make pair.0 pair.1))) ≡ Ok command
    → ((pair : ℕ × ℕ) → SaysPair space words pair → Says space areas name words (make pair.0 pair.1)) → Says space areas head words command
pair_says space areas head name count words make command small counted same is says =
    let p = step_parts (pair_in space.registers count words) (λ pair. Ok (make pair.0 pair.1)) command is in
    let e : make p.0.0 p.0.1 ≡ command = let f = p.2 in cc (f) in
    with_head space areas head name words command same (subst (Says space areas name words) e (says p.0 (pair_only space count words p.0 small counted p.1)))

pair_command_only : (space : Space) (areas : List AreaRule) (head : List ℕ) (count : ℕ) (words : List (List ℕ)) (command : Command) → space.registers ≤ 256 → count ≡ length words + 1
    → pair_command space.registers head count words ≡ Ok command → Says space areas head words command
unfolding pair_command
pair_command_only space areas head count words command small counted is =
    elim (either_ok (bytes_eq head (codes "move")) _ _ command is) [
      | inl move ↦ pair_says space areas head (codes "move") count words commands.Move command small counted move.0 move.1
          (λ pair s. record { registers = (s.first, s.second); areas_in = tt; limits = tt; numbers = tt; is = ap (λ ws. codes "move" ∷ ws) s.is })
      | inr not_move ↦ elim (either_ok (bytes_eq head (codes "car")) _ _ command not_move.1) [
        | inl car ↦ pair_says space areas head (codes "car") count words commands.Car command small counted car.0 car.1
            (λ pair s. record { registers = (s.first, s.second); areas_in = tt; limits = tt; numbers = tt; is = ap (λ ws. codes "car" ∷ ws) s.is })
        | inr not_car ↦ elim (either_ok (bytes_eq head (codes "cdr")) _ _ command not_car.1) [
          | inl cdr ↦ pair_says space areas head (codes "cdr") count words commands.Cdr command small counted cdr.0 cdr.1
              (λ pair s. record { registers = (s.first, s.second); areas_in = tt; limits = tt; numbers = tt; is = ap (λ ws. codes "cdr" ∷ ws) s.is })
          | inr not_cdr ↦ elim (either_ok (bytes_eq head (codes "rplaca")) _ _ command not_cdr.1) [
            | inl rplaca ↦ pair_says space areas head (codes "rplaca") count words commands.Rplaca command small counted rplaca.0 rplaca.1
                (λ pair s. record { registers = (s.first, s.second); areas_in = tt; limits = tt; numbers = tt; is = ap (λ ws. codes "rplaca" ∷ ws) s.is })
            | inr not_rplaca ↦ elim (either_ok (bytes_eq head (codes "rplacd")) _ _ command not_rplaca.1) [
              | inl rplacd ↦ pair_says space areas head (codes "rplacd") count words commands.Rplacd command small counted rplacd.0 rplacd.1
                  (λ pair s. record { registers = (s.first, s.second); areas_in = tt; limits = tt; numbers = tt; is = ap (λ ws. codes "rplacd" ∷ ws) s.is })
              | inr not_rplacd ↦
                  let g = guard_ok (bytes_eq head (codes "eq")) _ UnknownCommand command not_rplacd.1 in
                  pair_says space areas head (codes "eq") count words commands.Eq command small counted g.0 g.1
                  (λ pair s. record { registers = (s.first, s.second); areas_in = tt; limits = tt; numbers = tt; is = ap (λ ws. codes "eq" ∷ ws) s.is })
            ]
          ]
        ]
      ]
    ]

-- a command of one word means the command of that name
word_says : (space : Space) (areas : List AreaRule) (head name : List ℕ) (words : List (List ℕ)) (count : ℕ) (said command : Command) → count ≡ length words + 1 → bytes_eq head name ≡ true → alone count said ≡ Ok command
    → SayCommand space areas (name ∷ []) said → Says space areas head words command
word_says space areas head name words count said command counted same is says =
    let a = alone_only count words said command counted is in
    with_head space areas head name words command same
    (subst (Says space areas name words) a.1 (subst (λ (ws : List (List ℕ)). SayCommand space areas (name ∷ ws) said) (sym a.0) says))

store_only : (space : Space) (areas : List AreaRule) (head : List ℕ) (count : ℕ) (words : List (List ℕ)) (command : Command) → InLimits space areas → count ≡ length words + 1
    → store_command space head count words ≡ Ok command → Says space areas head words command
unfolding store_command
store_only space areas head count words command limits counted is =
    elim (either_ok (bytes_eq head (codes "flip")) _ _ command is) [
      | inl flip ↦ with_head space areas head (codes "flip") words command flip.0 (flip_only space areas count words command limits.levels counted flip.1)
      | inr not_flip ↦ elim (either_ok (bytes_eq head (codes "scavenge")) _ _ command not_flip.1) [
        | inl scavenge ↦ with_head space areas head (codes "scavenge") words command scavenge.0 (scavenge_only space areas count words command counted scavenge.1)
        | inr not_scavenge ↦ elim (either_ok (bytes_eq head (codes "reclaim")) _ _ command not_scavenge.1) [
          | inl reclaim ↦ word_says space areas head (codes "reclaim") words count commands.Reclaim command counted reclaim.0 reclaim.1 (record { registers = tt; areas_in = tt; limits = tt; numbers = tt; is = refl })
          | inr not_reclaim ↦ elim (either_ok (bytes_eq head (codes "page-out")) _ _ command not_reclaim.1) [
            | inl page_out ↦ with_head space areas head (codes "page-out") words command page_out.0 (page_out_only space areas count words command counted page_out.1)
            | inr not_page_out ↦ elim (either_ok (bytes_eq head (codes "stats")) _ _ command not_page_out.1) [
              | inl stats ↦ word_says space areas head (codes "stats") words count commands.Stats command counted stats.0 stats.1 (record { registers = tt; areas_in = tt; limits = tt; numbers = tt; is = refl })
              | inr not_stats ↦ elim (either_ok (bytes_eq head (codes "dump")) _ _ command not_stats.1) [
                | inl dump ↦ word_says space areas head (codes "dump") words count commands.Dump command counted dump.0 dump.1 (record { registers = tt; areas_in = tt; limits = tt; numbers = tt; is = refl })
                | inr not_dump ↦ pair_command_only space areas head count words command limits.registers counted not_dump.1
              ]
            ]
          ]
        ]
      ]
    ]

command_only : (space : Space) (areas : List AreaRule) (head : List ℕ) (count : ℕ) (words : List (List ℕ)) (command : Command) → InLimits space areas → AreNamed areas → count ≡ length words + 1
    → command_in space areas head count words ≡ Ok command → Says space areas head words command
unfolding command_in
command_only space areas head count words command limits named counted is =
    elim (either_ok (bytes_eq head (codes "set")) _ _ command is) [
      | inl set ↦ with_head space areas head (codes "set") words command set.0 (set_only space areas count words command limits.registers counted set.1)
      | inr not_set ↦ elim (either_ok (bytes_eq head (codes "cons")) _ _ command not_set.1) [
        | inl cons ↦ with_head space areas head (codes "cons") words command cons.0 (cons_only space areas count words command named limits.registers counted cons.1)
        | inr not_cons ↦ elim (either_ok (bytes_eq head (codes "list")) _ _ command not_cons.1) [
          | inl list ↦ with_head space areas head (codes "list") words command list.0 (list_only space areas count words command named limits.registers counted list.1)
          | inr not_list ↦ elim (either_ok (bytes_eq head (codes "make")) _ _ command not_list.1) [
            | inl make ↦ with_head space areas head (codes "make") words command make.0 (make_only space areas count words command named limits.registers counted make.1)
            | inr not_make ↦ elim (either_ok (bytes_eq head (codes "grow")) _ _ command not_make.1) [
              | inl grow ↦ with_head space areas head (codes "grow") words command grow.0 (grow_only space areas count words command limits.registers counted grow.1)
              | inr not_grow ↦ elim (either_ok (bytes_eq head (codes "get")) _ _ command not_grow.1) [
                | inl get ↦ with_head space areas head (codes "get") words command get.0 (get_only space areas count words command limits.registers counted get.1)
                | inr not_get ↦ elim (either_ok (bytes_eq head (codes "put")) _ _ command not_get.1) [
                  | inl put ↦ with_head space areas head (codes "put") words command put.0 (put_only space areas count words command limits.registers counted put.1)
                  | inr not_put ↦ elim (either_ok (bytes_eq head (codes "size")) _ _ command not_put.1) [
                    | inl size ↦ with_head space areas head (codes "size") words command size.0 (size_only space areas count words command limits.registers counted size.1)
                    | inr not_size ↦ store_only space areas head count words command limits counted not_size.1
                  ]
                ]
              ]
            ]
          ]
        ]
      ]
    ]

-- Lines

-- words in a row that mean a line
row_only : (space : Space) (areas : List AreaRule) (text : List ℕ) (words : List (List ℕ)) (said : TraceLine) → InLimits space areas → AreNamed areas → text ≡ line_of words → words_of text ≡ words → is_well_formed text ≡ true
    → line_in space areas (first_word words) (length words) (drop 1 words) ≡ Ok said → SaysLine space areas text said
unfolding line_in is_well_formed words_of
row_only space areas text [] said limits named row cut formed is =
    let none : is_well_formed [] ≡ true = ap is_well_formed (sym row) ∙ formed in absurd (cc (none))
row_only space areas text (head ∷ words) said limits named row cut formed is =
    elim (either_ok (bytes_eq head (codes "end")) _ _ said is) [
      | inl ends ↦
          let g = guard_ok (length (head ∷ words) == 1) (Ok End) WrongCount said ends.1 in
          let none : words ≡ [] = no_words words (omega (arith, eq_number (length (head ∷ words)) 1 g.0)) in
          let e : End ≡ said = let f = g.1 in cc (f) in
          subst (SaysLine space areas text) e (row ∙ ap (λ ws. line_of (head ∷ ws)) none ∙ ap (λ word. line_of (word ∷ [])) (same_bytes head (codes "end") ends.0))
      | inr other ↦
          let p = step_parts (command_in space areas head (length (head ∷ words)) words) (λ command. Ok (Run command)) said other.1 in
          let e : Run p.0 ≡ said = let f = p.2 in cc (f) in
          subst (SaysLine space areas text) e (head ∷ words, row, command_only space areas head (length (head ∷ words)) words p.0 limits named (omega arith) p.1)
    ]

pub line_only : (space : Space) (areas : List AreaRule) (text : List ℕ) (said : TraceLine) → InLimits space areas → AreNamed areas → trace_line space areas text ≡ Ok said → SaysLine space areas text said
line_only space areas text said limits named is =
    let g = guard_ok (is_well_formed text) _ BadLine said is in
    row_only space areas text (words_of text) said limits named (formed_row text g.0).0 refl g.0 g.1

-- the meaning of the line that a call returns
pub given_line : (space : Space) (areas : List AreaRule) (text : List ℕ) (result : Result LineKind Reason) (command : Command) → InLimits space areas → Gives (λ kind. said_by kind command) result (trace_line space areas text) → AreNamed areas
    → IfOk result (λ kind. SaysLine space areas text (said_by kind command))
given_line space areas text (Ok kind) command limits gives named = line_only space areas text (said_by kind command) limits named gives
given_line space areas text (Err reason) command limits gives named = tt
