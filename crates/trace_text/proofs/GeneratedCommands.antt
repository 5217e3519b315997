-- Each generated line means a command of the generated world.
use Rattle.std.proofs.Common.{◌≡◌, ℕ, zero, suc, ◌-◌, ◌/◌, ◌%◌, ◌^◌, ◌<◌, ◌≤◌, List, [], ◌∷◌, ◌++◌, length, Bool, true, false, Ok, Some, decimal, codes, refl, ap, ap₂, append_assoc, append-nil, length-append, arith, pos}
use Rattle.std.specs.Prelude.{◌==◌, nat_le, if◌then◌else◌}
use Rattle.std.proofs.lemmas.Fmt.{length-decimal-le}
use Rattle.std.proofs.lemmas.List.Elements.{All-cons, All-nil}
use Rattle.lisp_graph.specs.Commands.{InAreas, InLimits as CarriesLimits, InRegisters}
use Rattle.lisp_graph.specs.Name.{is_name}
use Rattle.lisp_graph.specs.declared.object.Value.TheVariants as V
use Rattle.lisp_graph.specs.declared.command.Command.{Command}
use Rattle.lisp_graph.specs.declared.command.Command.TheVariants as commands
use Rattle.lisp_graph.specs.declared.command.Condemn.TheVariants.{Full, Chosen}
use Rattle.world_text.specs.Limits.{AreNamed}
use Rattle.world_text.specs.Numbers.{area_of, number_in}
use Rattle.world_text.specs.Spelling.{line_of, name_of}
use Rattle.world_text.proofs.reading_laws.NumberLaws.{number_only}
use Rattle.trace_text.specs.Commands.{Run, End, InLimits, trace_line}
use Rattle.trace_text.specs.Spelled.{InNumbers, SpellsCommand}
use Rattle.trace_text.specs.Made.{area_words, command_line, drawn_line, draws, flip_line, is_drawn, list_words, set_line, three_words, two_words}
use Rattle.trace_text.specs.MadeWorld.{made_areas, made_space}
use Rattle.trace_text.proofs.AcceptedSpellings.{line_all}

made_limits : InLimits made_space made_areas
made_limits = record { registers = omega arith; levels = omega arith; few = omega arith }

made_named : AreNamed made_areas
made_named = record { names = names; found = found }
  where
    names : (area : ℕ) → area < length made_areas → is_name (name_of made_areas area) ≡ true
    names zero within = refl
    names (suc zero) within = refl
    names (suc (suc zero)) within = refl
    names (suc (suc (suc area))) within = absurd (omega arith)

    found : (area : ℕ) → area < length made_areas → area_of made_areas (name_of made_areas area) ≡ Some area
    found zero within = refl
    found (suc zero) within = refl
    found (suc (suc zero)) within = refl
    found (suc (suc (suc area))) within = absurd (omega arith)

-- a text means a command, and is short
pub record IsMadeLine (text : List ℕ) : Type 0 where
  pub command : Command
  pub said : trace_line made_space made_areas text ≡ Ok (Run command)
  pub short : length text ≤ 53

says : (text : List ℕ) (words : List (List ℕ)) (command : Command) → text ≡ line_of words → InRegisters 16 command → InAreas 3 command → CarriesLimits command → InNumbers command
    → SpellsCommand 3 made_areas command words → length text ≤ 53 → IsMadeLine text
says text words command is registers areas limits numbers spelled short = record {
  command = command;
  said = line_all made_space made_areas text (Run command) made_limits made_named (words, is, record { registers = registers; areas_in = areas; limits = limits; numbers = numbers; is = spelled });
  short = short;
}

choose : (b : Bool) (x y : List ℕ) → IsMadeLine x → IsMadeLine y → IsMadeLine (if b then x else y)
choose true x y one two = one
choose false x y one two = two

-- How long they are

dec : (n : ℕ) → n < 16 → length (decimal n) ≤ 2
dec n small = length-decimal-le 2 n (omega arith) (omega arith) (omega arith)

two_short : (head : List ℕ) (a b : ℕ) → a < 16 → b < 16 → length head ≤ 10 → length (two_words head a b) ≤ 53
two_short head a b one two few =
    omega (arith, length-append (head ++ decimal a ++ 32 ∷ []) (decimal b), length-append (head ++ decimal a) (32 ∷ []), length-append head (decimal a), dec a one, dec b two)

three_short : (head : List ℕ) (a b c : ℕ) → a < 16 → b < 16 → c < 16 → length head ≤ 10 → length (three_words head a b c) ≤ 53
three_short head a b c one two three few =
    let first : length (head ++ decimal a ++ 32 ∷ [] ++ decimal b) ≤ 16 =
    omega (arith, length-append (head ++ decimal a ++ 32 ∷ []) (decimal b), length-append (head ++ decimal a) (32 ∷ []), length-append head (decimal a), dec a one, dec b two) in
    omega (arith, length-append (head ++ decimal a ++ 32 ∷ [] ++ decimal b ++ 32 ∷ []) (decimal c), length-append (head ++ decimal a ++ 32 ∷ [] ++ decimal b) (32 ∷ []), first, dec c three)

area_short : (head area : List ℕ) (r a b : ℕ) → r < 16 → a < 16 → b < 16 → length head ≤ 10 → length area ≤ 10 → length (area_words head r area a b) ≤ 30
area_short head area r a b first second third few low =
    let begun : length (head ++ decimal r ++ area ++ decimal a) ≤ 25 =
    omega (arith, length-append (head ++ decimal r ++ area) (decimal a), length-append (head ++ decimal r) area, length-append head (decimal r), dec r first, dec a second) in
    omega (arith, length-append (head ++ decimal r ++ area ++ decimal a ++ 32 ∷ []) (decimal b), length-append (head ++ decimal r ++ area ++ decimal a) (32 ∷ []), begun, dec b third)

-- Lines that are drawn

module _ (r s t : ℕ) (first : r < 16) (second : s < 16) (third : t < 16) where
  set_says : IsMadeLine (two_words (codes "set ") r s)
  set_says = says _ (codes "set" ∷ decimal r ∷ decimal s ∷ []) (commands.Set r (V.Fix (pos s))) (simp (append_assoc, append-nil)) first tt tt (omega arith) refl (two_short (codes "set ") r s first second (omega arith))

  temp_says : IsMadeLine (area_words (codes "cons ") r (codes " temp ") s t)
  temp_says = says _ (codes "cons" ∷ decimal r ∷ codes "temp" ∷ decimal s ∷ decimal t ∷ []) (commands.Cons r 2 s t) (simp (append_assoc, append-nil)) (first, second, third) (omega arith) tt tt refl (omega (arith, area_short (codes "cons ") (codes " temp ") r s t first second third (omega arith) (omega arith)))

  work_says : IsMadeLine (area_words (codes "cons ") r (codes " work ") s t)
  work_says = says _ (codes "cons" ∷ decimal r ∷ codes "work" ∷ decimal s ∷ decimal t ∷ []) (commands.Cons r 1 s t) (simp (append_assoc, append-nil)) (first, second, third) (omega arith) tt tt refl (omega (arith, area_short (codes "cons ") (codes " work ") r s t first second third (omega arith) (omega arith)))

  perm_says : IsMadeLine (area_words (codes "cons ") r (codes " perm ") s t)
  perm_says = says _ (codes "cons" ∷ decimal r ∷ codes "perm" ∷ decimal s ∷ decimal t ∷ []) (commands.Cons r 0 s t) (simp (append_assoc, append-nil)) (first, second, third) (omega arith) tt tt refl (omega (arith, area_short (codes "cons ") (codes " perm ") r s t first second third (omega arith) (omega arith)))

  list_says : IsMadeLine (list_words r s t)
  list_says =
      says _ (codes "list" ∷ decimal r ∷ codes "temp" ∷ decimal s ∷ decimal t ∷ decimal s ∷ []) (commands.List r 2 (s ∷ t ∷ s ∷ [])) (simp (append_assoc, append-nil))
      (first, All-cons (λ item. item < 16) s (t ∷ s ∷ []) second (All-cons (λ item. item < 16) t (s ∷ []) third (All-cons (λ item. item < 16) s [] second (All-nil (λ item. item < 16)))))
      (omega arith) (omega arith, omega arith) tt refl
      (omega (arith, area_short (codes "list ") (codes " temp ") r s t first second third (omega arith) (omega arith), length-append (area_words (codes "list ") r (codes " temp ") s t ++ 32 ∷ []) (decimal s), length-append (area_words (codes "list ") r (codes " temp ") s t) (32 ∷ []), dec s second))

  make_says : IsMadeLine (area_words (codes "make ") r (codes " temp ") 7 4)
  make_says = says _ (codes "make" ∷ decimal r ∷ codes "temp" ∷ decimal 7 ∷ decimal 4 ∷ []) (commands.Make r 2 7 4) (simp (append_assoc, append-nil)) first (omega arith) (omega arith) (omega arith) refl (omega (arith, area_short (codes "make ") (codes " temp ") r 7 4 first (omega arith) (omega arith) (omega arith) (omega arith)))

  put_says : IsMadeLine (three_words (codes "put ") r (s % 5) t)
  put_says = says _ (codes "put" ∷ decimal r ∷ decimal (s % 5) ∷ decimal t ∷ []) (commands.Put r (s % 5) t) (simp (append_assoc, append-nil)) (first, third) tt tt (omega arith) refl (three_short (codes "put ") r (s % 5) t first (omega arith) third (omega arith))

  get_says : IsMadeLine (three_words (codes "get ") r s (t % 5))
  get_says = says _ (codes "get" ∷ decimal r ∷ decimal s ∷ decimal (t % 5) ∷ []) (commands.Get r s (t % 5)) (simp (append_assoc, append-nil)) (first, second) tt tt (omega arith) refl (three_short (codes "get ") r s (t % 5) first second (omega arith) (omega arith))

  car_says : IsMadeLine (two_words (codes "car ") r s)
  car_says = says _ (codes "car" ∷ decimal r ∷ decimal s ∷ []) (commands.Car r s) (simp (append_assoc, append-nil)) (first, second) tt tt tt refl (two_short (codes "car ") r s first second (omega arith))

  cdr_says : IsMadeLine (two_words (codes "cdr ") r s)
  cdr_says = says _ (codes "cdr" ∷ decimal r ∷ decimal s ∷ []) (commands.Cdr r s) (simp (append_assoc, append-nil)) (first, second) tt tt tt refl (two_short (codes "cdr ") r s first second (omega arith))

  rplaca_says : IsMadeLine (two_words (codes "rplaca ") r s)
  rplaca_says = says _ (codes "rplaca" ∷ decimal r ∷ decimal s ∷ []) (commands.Rplaca r s) (simp (append_assoc, append-nil)) (first, second) tt tt tt refl (two_short (codes "rplaca ") r s first second (omega arith))

  rplacd_says : IsMadeLine (two_words (codes "rplacd ") r s)
  rplacd_says = says _ (codes "rplacd" ∷ decimal r ∷ decimal s ∷ []) (commands.Rplacd r s) (simp (append_assoc, append-nil)) (first, second) tt tt tt refl (two_short (codes "rplacd ") r s first second (omega arith))

  eq_says : IsMadeLine (two_words (codes "eq ") r s)
  eq_says = says _ (codes "eq" ∷ decimal r ∷ decimal s ∷ []) (commands.Eq r s) (simp (append_assoc, append-nil)) (first, second) tt tt tt refl (two_short (codes "eq ") r s first second (omega arith))

  drawn_says : (k : ℕ) → IsMadeLine (drawn_line r s t k)
  drawn_says k =
      choose (k == 0) _ _ set_says (choose (nat_le k 4) _ _ temp_says (choose (k == 5) _ _ work_says (choose (k == 6) _ _ perm_says (choose (k == 7) _ _ list_says
      (choose (k == 8) _ _ make_says (choose (k == 9) _ _ put_says (choose (k == 10) _ _ get_says (choose (k == 11) _ _ car_says (choose (k == 12) _ _ cdr_says
      (choose (k == 13) _ _ rplaca_says (choose (k == 14) _ _ rplacd_says eq_says)))))))))))

-- Lines that are set

-- a word of digits is the spelling of its number
written : (word : List ℕ) (n : ℕ) → number_in 0 (2 ^ 32 - 1) word ≡ Some n → word ≡ decimal n
written word n is = (number_only 0 (2 ^ 32 - 1) n word (omega arith) is).0

flip_one : IsMadeLine (codes "flip 1")
flip_one =
    says (codes "flip 1") (codes "flip" ∷ codes "1" ∷ []) (commands.Flip (Chosen (record { 0 = 1 }))) refl tt tt tt tt
    (codes "1", refl, (1 ∷ [], omega arith, (omega arith, omega arith, tt), refl, written (codes "1") 1 refl)) (omega arith)

flip_two : IsMadeLine (codes "flip 1,2")
flip_two =
    says (codes "flip 1,2") (codes "flip" ∷ codes "1,2" ∷ []) (commands.Flip (Chosen (record { 0 = 3 }))) refl tt tt tt tt
    (codes "1,2", refl, (1 ∷ 2 ∷ [], omega arith, (omega arith, omega arith, (omega arith, omega arith, tt)), refl, ap₂ (λ (one two : List ℕ). one ++ 44 ∷ two) (written (codes "1") 1 refl) (written (codes "2") 2 refl))) (omega arith)

flip_full : IsMadeLine (codes "flip full")
flip_full = says (codes "flip full") (codes "flip" ∷ codes "full" ∷ []) (commands.Flip Full) refl tt tt tt tt (codes "full", refl, refl) (omega arith)

flip_says : (q : ℕ) → IsMadeLine (flip_line q)
flip_says q = choose (nat_le q 1) _ _ flip_one (choose (q == 2) _ _ flip_two flip_full)

scavenge_says : IsMadeLine (codes "scavenge 4294967295")
scavenge_says = says (codes "scavenge 4294967295") (codes "scavenge" ∷ codes "4294967295" ∷ []) (commands.Scavenge 4294967295) refl tt tt tt (omega arith)
    (ap (λ (word : List ℕ). codes "scavenge" ∷ word ∷ []) (written (codes "4294967295") 4294967295 refl)) (omega arith)

reclaim_says : IsMadeLine (codes "reclaim")
reclaim_says = says (codes "reclaim") (codes "reclaim" ∷ []) commands.Reclaim refl tt tt tt tt refl (omega arith)

page_out_says : IsMadeLine (codes "page-out 20")
page_out_says = says (codes "page-out 20") (codes "page-out" ∷ codes "20" ∷ []) (commands.PageOut 20) refl tt tt tt (omega arith)
    (ap (λ (word : List ℕ). codes "page-out" ∷ word ∷ []) (written (codes "20") 20 refl)) (omega arith)

set_says_at : (p q : ℕ) → IsMadeLine (set_line p q)
set_says_at p q = choose (p == 700) _ _ (flip_says q) (choose (p == 980) _ _ scavenge_says (choose (p == 990) _ _ reclaim_says page_out_says))

pub made_line : (state i : ℕ) → IsMadeLine (command_line state i)
made_line state i =
    choose (is_drawn (i % 1000)) _ _
    (drawn_says (draws state).r (draws state).s (draws state).t (omega arith) (omega arith) (omega arith) (draws state).k)
    (set_says_at (i % 1000) (i / 1000 % 4))

pub made_says : (state i : ℕ) → (command : Command) × (trace_line made_space made_areas (command_line state i) ≡ Ok (Run command))
made_says state i = let line = made_line state i in (line.command, line.said)

pub stats_said : trace_line made_space made_areas (codes "stats") ≡ Ok (Run commands.Stats)
stats_said =
    line_all made_space made_areas (codes "stats") (Run commands.Stats) made_limits made_named
    (codes "stats" ∷ [], refl, record { registers = tt; areas_in = tt; limits = tt; numbers = tt; is = refl })

pub end_said : trace_line made_space made_areas (codes "end") ≡ Ok End
end_said = line_all made_space made_areas (codes "end") End made_limits made_named refl
