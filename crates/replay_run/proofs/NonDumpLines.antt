-- A line that doesn't begin with the letter d isn't a dump.
use Rattle.std.proofs.Common.{◌≡◌, ℕ, ◌-◌, ◌^◌, List, [], ◌∷◌, length, drop, Bool, true, false, Result, Ok, Err, codes, refl, sym, ap, ◌∙◌}
use Rattle.std.specs.Prelude.{◌==◌, if◌then◌else◌, bytes_eq, nat_lt}
use Rattle.lisp_graph.specs.store_word.declared.space.Space.{Space}
use Rattle.lisp_graph.specs.declared.world.AreaRule.{AreaRule}
use Rattle.lisp_graph.specs.declared.command.Command.{Command}
use Rattle.lisp_graph.specs.declared.command.Command.TheVariants as C
use Rattle.world_text.specs.declared.reading.reason.Reason.{Reason}
use Rattle.world_text.specs.declared.reading.reason.Reason.TheVariants.{UnknownCommand, WrongCount}
use Rattle.world_text.specs.Words.{first_word, is_well_formed, words_of}
use Rattle.world_text.specs.Next.{◌>>=◌, a_number, a_register, an_area, each, next}
use Rattle.world_text.specs.Spelling.{line_of}
use Rattle.world_text.proofs.reading_laws.ReadLaws.{guard_ok, guard_not, step_parts}
use Rattle.world_text.proofs.reading_laws.Rows.{formed_row}
use Rattle.trace_text.specs.Commands.{Run, End, a_condemn, a_plain_value, alone, command_in, cons_in, flip_in, get_in, grow_in, line_in, list_in, make_in, page_out_in, pair_command, pair_in, put_in, scavenge_in, set_in, size_in, store_command, trace_line}

-- the letter d is the first byte
abbrev pub begins_with_d : List ℕ → Bool
begins_with_d [] = false
begins_with_d (byte ∷ bytes) = byte == 100

-- Other commands

-- the result isn't that a dump was read
abbrev IsOther : Result Command Reason → Type 0
IsOther read = read ≡ Ok C.Dump → ⊥

-- one of two results
other_of : (b : Bool) (x y : Result Command Reason) → IsOther x → IsOther y → IsOther (if b then x else y)
other_of true x y one two = one
other_of false x y one two = two

-- the second of two results
other_behind : (b : Bool) (x y : Result Command Reason) → b ≡ false → IsOther y → IsOther (if b then x else y)
other_behind true x y differs two = absurd (cc (differs))
other_behind false x y differs two = two

-- a reason
no_reason : (reason : Reason) → IsOther (Err reason)
no_reason reason is = cc (is)

-- another command was read
given : (command : Command) → (command ≡ C.Dump → ⊥) → ◌≡◌ {A = Result Command Reason} (Ok command) (Ok C.Dump) → ⊥
given command other is = other (cc (is))

alone_other : (count : ℕ) (command : Command) → (command ≡ C.Dump → ⊥) → IsOther (alone count command)
alone_other count command other is = given command other (guard_ok (count == 1) (Ok command) WrongCount C.Dump is).1

pair_other : (registers count : ℕ) (words : List (List ℕ)) (make : ℕ → ℕ → Command) → ((m n : ℕ) → make m n ≡ C.Dump → ⊥) → IsOther (pair_in registers count words >>= (λ p. Ok (make p.0 p.1)))
pair_other registers count words make other is =
    let p = step_parts (pair_in registers count words) (λ p. Ok (make p.0 p.1)) C.Dump is in
    given (make p.0.0 p.0.1) (other p.0.0 p.0.1) p.2

-- the rest of a command, after a word that was read
took : {A : Type 0} (read : List ℕ → Result A Reason) (words : List (List ℕ)) (goal : A × List (List ℕ) → Result Command Reason) → (next read words >>= goal) ≡ Ok C.Dump → (what : A) × (goal (what, drop 1 words) ≡ Ok C.Dump)
unfolding next
took {A} read words goal is =
    let p = step_parts (read (first_word words) >>= (λ one. Ok (one, drop 1 words))) goal C.Dump is in
    let q = step_parts (read (first_word words)) (λ one. Ok (one, drop 1 words)) p.0 p.1 in
    let e : ◌≡◌ {A = A × List (List ℕ)} (q.0, drop 1 words) p.0 = let last = q.2 in cc (last) in
    (q.0, ap goal e ∙ p.2)

set_other : (registers count : ℕ) (words : List (List ℕ)) → IsOther (set_in registers count words)
unfolding set_in
set_other registers count words is =
    let a = took (a_register registers) words _ (guard_ok (count == 3) _ WrongCount C.Dump is).1 in
    let b = took a_plain_value (drop 1 words) _ a.1 in
    given (C.Set a.0 b.0) (λ e. cc (e)) b.1

cons_other : (registers : ℕ) (areas : List AreaRule) (count : ℕ) (words : List (List ℕ)) → IsOther (cons_in registers areas count words)
unfolding cons_in
cons_other registers areas count words is =
    let a = took (a_register registers) words _ (guard_ok (count == 5) _ WrongCount C.Dump is).1 in
    let b = took (an_area areas) (drop 1 words) _ a.1 in
    let d = took (a_register registers) (drop 1 (drop 1 words)) _ b.1 in
    let f = took (a_register registers) (drop 1 (drop 1 (drop 1 words))) _ d.1 in
    given (C.Cons a.0 b.0 d.0 f.0) (λ e. cc (e)) f.1

list_other : (registers : ℕ) (areas : List AreaRule) (count : ℕ) (words : List (List ℕ)) → IsOther (list_in registers areas count words)
unfolding list_in
list_other registers areas count words is =
    let many = guard_not (nat_lt 1027 count) _ _ C.Dump is in
    let few = guard_not (nat_lt count 4) _ _ C.Dump many.1 in
    let a = took (a_register registers) words _ few.1 in
    let b = took (an_area areas) (drop 1 words) _ a.1 in
    let d = step_parts (each (a_register registers) (drop 1 (drop 1 words))) (λ items. Ok (C.List a.0 b.0 items)) C.Dump b.1 in
    given (C.List a.0 b.0 d.0) (λ e. cc (e)) d.2

make_other : (registers : ℕ) (areas : List AreaRule) (count : ℕ) (words : List (List ℕ)) → IsOther (make_in registers areas count words)
unfolding make_in
make_other registers areas count words is =
    let a = took (a_register registers) words _ (guard_ok (count == 5) _ WrongCount C.Dump is).1 in
    let b = took (an_area areas) (drop 1 words) _ a.1 in
    let d = took (a_number 0 65535) (drop 1 (drop 1 words)) _ b.1 in
    let f = took (a_number 0 2047) (drop 1 (drop 1 (drop 1 words))) _ d.1 in
    given (C.Make a.0 b.0 d.0 f.0) (λ e. cc (e)) f.1

grow_other : (registers count : ℕ) (words : List (List ℕ)) → IsOther (grow_in registers count words)
unfolding grow_in
grow_other registers count words is =
    let a = took (a_register registers) words _ (guard_ok (count == 3) _ WrongCount C.Dump is).1 in
    let b = took (a_number 0 2047) (drop 1 words) _ a.1 in
    given (C.Grow a.0 b.0) (λ e. cc (e)) b.1

get_other : (registers count : ℕ) (words : List (List ℕ)) → IsOther (get_in registers count words)
unfolding get_in
get_other registers count words is =
    let a = took (a_register registers) words _ (guard_ok (count == 4) _ WrongCount C.Dump is).1 in
    let b = took (a_register registers) (drop 1 words) _ a.1 in
    let d = took (a_number 0 (2 ^ 32 - 1)) (drop 1 (drop 1 words)) _ b.1 in
    given (C.Get a.0 b.0 d.0) (λ e. cc (e)) d.1

put_other : (registers count : ℕ) (words : List (List ℕ)) → IsOther (put_in registers count words)
unfolding put_in
put_other registers count words is =
    let a = took (a_register registers) words _ (guard_ok (count == 4) _ WrongCount C.Dump is).1 in
    let b = took (a_number 0 (2 ^ 32 - 1)) (drop 1 words) _ a.1 in
    let d = took (a_register registers) (drop 1 (drop 1 words)) _ b.1 in
    given (C.Put a.0 b.0 d.0) (λ e. cc (e)) d.1

size_other : (registers count : ℕ) (words : List (List ℕ)) → IsOther (size_in registers count words)
unfolding size_in
size_other registers count words is =
    let a = took (a_register registers) words _ (guard_ok (count == 2) _ WrongCount C.Dump is).1 in
    given (C.Size a.0) (λ e. cc (e)) a.1

flip_other : (levels count : ℕ) (words : List (List ℕ)) → IsOther (flip_in levels count words)
unfolding flip_in
flip_other levels count words is =
    let a = took (a_condemn levels) words _ (guard_ok (count == 2) _ WrongCount C.Dump is).1 in
    given (C.Flip a.0) (λ e. cc (e)) a.1

scavenge_other : (count : ℕ) (words : List (List ℕ)) → IsOther (scavenge_in count words)
unfolding scavenge_in
scavenge_other count words is =
    let a = took (a_number 0 (2 ^ 32 - 1)) words _ (guard_ok (count == 2) _ WrongCount C.Dump is).1 in
    given (C.Scavenge a.0) (λ e. cc (e)) a.1

page_out_other : (count : ℕ) (words : List (List ℕ)) → IsOther (page_out_in count words)
unfolding page_out_in
page_out_other count words is =
    let a = took (a_number 0 (2 ^ 32 - 1)) words _ (guard_ok (count == 2) _ WrongCount C.Dump is).1 in
    given (C.PageOut a.0) (λ e. cc (e)) a.1

pairs_other : (registers : ℕ) (head : List ℕ) (count : ℕ) (words : List (List ℕ)) → IsOther (pair_command registers head count words)
unfolding pair_command
pairs_other registers head count words =
    other_of (bytes_eq head (codes "move")) _ _ (pair_other registers count words (λ m n. C.Move m n) (λ m n e. cc (e)))
    (other_of (bytes_eq head (codes "car")) _ _ (pair_other registers count words (λ m n. C.Car m n) (λ m n e. cc (e)))
    (other_of (bytes_eq head (codes "cdr")) _ _ (pair_other registers count words (λ m n. C.Cdr m n) (λ m n e. cc (e)))
    (other_of (bytes_eq head (codes "rplaca")) _ _ (pair_other registers count words (λ m n. C.Rplaca m n) (λ m n e. cc (e)))
    (other_of (bytes_eq head (codes "rplacd")) _ _ (pair_other registers count words (λ m n. C.Rplacd m n) (λ m n e. cc (e)))
    (other_of (bytes_eq head (codes "eq")) _ _ (pair_other registers count words (λ m n. C.Eq m n) (λ m n e. cc (e))) (no_reason UnknownCommand))))))

store_other : (space : Space) (head : List ℕ) (count : ℕ) (words : List (List ℕ)) → bytes_eq head (codes "dump") ≡ false → IsOther (store_command space head count words)
unfolding store_command
store_other space head count words differs =
    other_of (bytes_eq head (codes "flip")) _ _ (flip_other space.levels count words)
    (other_of (bytes_eq head (codes "scavenge")) _ _ (scavenge_other count words)
    (other_of (bytes_eq head (codes "reclaim")) _ _ (alone_other count C.Reclaim (λ e. cc (e)))
    (other_of (bytes_eq head (codes "page-out")) _ _ (page_out_other count words)
    (other_of (bytes_eq head (codes "stats")) _ _ (alone_other count C.Stats (λ e. cc (e)))
    (other_behind (bytes_eq head (codes "dump")) _ _ differs (pairs_other space.registers head count words))))))

command_other : (space : Space) (areas : List AreaRule) (head : List ℕ) (count : ℕ) (words : List (List ℕ)) → bytes_eq head (codes "dump") ≡ false → IsOther (command_in space areas head count words)
unfolding command_in
command_other space areas head count words differs =
    other_of (bytes_eq head (codes "set")) _ _ (set_other space.registers count words)
    (other_of (bytes_eq head (codes "cons")) _ _ (cons_other space.registers areas count words)
    (other_of (bytes_eq head (codes "list")) _ _ (list_other space.registers areas count words)
    (other_of (bytes_eq head (codes "make")) _ _ (make_other space.registers areas count words)
    (other_of (bytes_eq head (codes "grow")) _ _ (grow_other space.registers count words)
    (other_of (bytes_eq head (codes "get")) _ _ (get_other space.registers count words)
    (other_of (bytes_eq head (codes "put")) _ _ (put_other space.registers count words)
    (other_of (bytes_eq head (codes "size")) _ _ (size_other space.registers count words) (store_other space head count words differs))))))))

-- A line

line_other : (space : Space) (areas : List AreaRule) (head : List ℕ) (count : ℕ) (words : List (List ℕ)) → bytes_eq head (codes "dump") ≡ false → line_in space areas head count words ≡ Ok (Run C.Dump) → ⊥
unfolding line_in
line_other space areas head count words differs is = go (bytes_eq head (codes "end")) (count == 1) is
  where
    go : (b d : Bool) → (if b then (if d then Ok End else Err WrongCount) else (command_in space areas head count words >>= (λ command. Ok (Run command)))) ≡ Ok (Run C.Dump) → ⊥
    go true true e = absurd (cc (e))
    go true false e = absurd (cc (e))
    go false d e =
        let p = step_parts (command_in space areas head count words) (λ command. Ok (Run command)) (Run C.Dump) e in
        let f : p.0 ≡ C.Dump = let last = p.2 in cc (last) in
        command_other space areas head count words differs (p.1 ∙ ap Ok f)

head_other : (words : List (List ℕ)) → begins_with_d (line_of words) ≡ false → bytes_eq (first_word words) (codes "dump") ≡ false
head_other [] differs = refl
head_other ([] ∷ words) differs = refl
head_other ((byte ∷ bytes) ∷ words) differs = rw differs refl

pub says_no_dump : (space : Space) (areas : List AreaRule) (text : List ℕ) → begins_with_d text ≡ false → trace_line space areas text ≡ Ok (Run C.Dump) → ⊥
says_no_dump space areas text differs is =
    let g = guard_ok (is_well_formed text) _ _ (Run C.Dump) is in
    let row = formed_row text g.0 in
    line_other space areas (first_word (words_of text)) (length (words_of text)) (drop 1 (words_of text)) (head_other (words_of text) (ap begins_with_d (sym row.0) ∙ differs)) g.1
