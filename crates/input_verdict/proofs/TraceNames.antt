-- What a line of a trace can name: registers and areas of the world, and no more than the limits allow.
use Rattle.std.proofs.Common.{◌≡◌, ◌⊎◌, inl, inr, ℕ, suc, ◌-◌, ◌<◌, ◌≤◌, ◌^◌, List, [], ◌∷◌, length, drop, Bool, true, false, refl, sym, subst, ap, ◌∙◌, arith, Option, Some, None, Result, Ok, Err}
use Rattle.std.specs.Prelude.{◌==◌, nat_lt, if◌then◌else◌, bytes_eq, codes, ⊤}
use Rattle.std.specs.List.{All}
use Rattle.std.specs.Option.{option_and_then}
use Rattle.std.proofs.lemmas.Bool.Decides.{nat_tests}
use Rattle.std.proofs.lemmas.List.{length-drop}
use Rattle.std.proofs.lemmas.List.Elements.{All-cons, All-nil}
use Rattle.std.proofs.lemmas.List.Quantifiers.{position-Some}
use Rattle.lisp_graph.specs.store_word.declared.space.Space.{Space}
use Rattle.lisp_graph.specs.declared.object.Value.{Value}
use Rattle.lisp_graph.specs.declared.object.Value.TheVariants as V
use Rattle.lisp_graph.specs.declared.world.AreaRule.{AreaRule}
use Rattle.lisp_graph.specs.declared.command.Command.{Command}
use Rattle.lisp_graph.specs.declared.command.Command.TheVariants as C
use Rattle.lisp_graph.specs.Commands.{InAreas, InLimits, InRegisters, IsPlain}
use Rattle.world_text.specs.declared.reading.reason.Reason.{Reason}
use Rattle.world_text.specs.declared.reading.reason.Reason.TheVariants.{BadValue, NoArea, NoRegister, UnknownCommand, WrongCount}
use Rattle.world_text.specs.Words.{first_word, is_well_formed, words_of}
use Rattle.world_text.specs.Numbers.{area_of, number_in, register_of}
use Rattle.world_text.specs.Next.{◌>>=◌, a_number, a_register, a_value, an_area, each, next}
use Rattle.world_text.proofs.reading_laws.NumberLaws.{found_is, number_only}
use Rattle.world_text.proofs.reading_laws.ReadLaws.{guard_ok, guard_not, step_parts}
use Rattle.trace_text.specs.Commands.{Run, End, a_plain_value, alone, command_in, cons_in, flip_in, get_in, grow_in, is_reference, line_in, list_in, make_in, page_out_in, pair_command, pair_in, put_in, scavenge_in, set_in, size_in, store_command, trace_line}

-- the command names existing registers and areas, and keeps the limits
pub record IsNamed (registers areas : ℕ) (command : Command) : Type 0 where
  pub in_registers : InRegisters registers command
  pub in_areas : InAreas areas command
  pub in_limits : InLimits command

-- The meaning of one word

below : (registers m n : ℕ) → (if nat_lt m registers then Some m else None) ≡ Some n → n < registers
below registers m n is = at (nat_lt m registers) refl is
  where
    at : (b : Bool) → nat_lt m registers ≡ b → (if b then Some m else None) ≡ Some n → n < registers
    at true is so = let e : m ≡ n = cc (so) in subst (λ k. k < registers) e (grind (arith, nat_tests, is))
    at false is so = absurd (cc (so))

then_some : {A B : Type 0} (option : Option A) (f : A → Option B) (y : B) → option_and_then f option ≡ Some y → (x : A) × (f x ≡ Some y)
then_some None f y is = absurd (cc (is))
then_some (Some x) f y is = (x, is)

register_fits : (registers : ℕ) (word : List ℕ) (n : ℕ) → a_register registers word ≡ Ok n → n < registers
register_fits registers word n is =
    let p = then_some (number_in 0 (2 ^ 32 - 1) word) (λ number. if nat_lt number registers then Some number else None) n (found_is NoRegister (register_of registers word) n is) in
    below registers p.0 n p.1

area_fits : (areas : List AreaRule) (word : List ℕ) (n : ℕ) → an_area areas word ≡ Ok n → n < length areas
area_fits [] word n is = absurd (cc (is))
area_fits (rule ∷ rules) word n is = (position-Some (λ (one : AreaRule). bytes_eq one.name word) (rule ∷ rules) n rule (found_is NoArea (area_of (rule ∷ rules) word) n is)).0

number_fits : (high : ℕ) → high < 2 ^ 64 → (word : List ℕ) (n : ℕ) → a_number 0 high word ≡ Ok n → n ≤ high
number_fits high small word n is = (number_only 0 high n word small (found_is _ (number_in 0 high word) n is)).2

plain : (value v : Value) → ◌≡◌ {A = Result Value Reason} (if is_reference value then Err BadValue else Ok value) (Ok v) → IsPlain v
plain V.Nil v is = let e : V.Nil ≡ v = cc (is) in subst IsPlain e tt
plain (V.Fix n) v is = let e : V.Fix n ≡ v = cc (is) in subst IsPlain e tt
plain (V.Ref n) v is = absurd (cc (is))

value_fits : (word : List ℕ) (v : Value) → a_plain_value word ≡ Ok v → IsPlain v
unfolding a_plain_value
value_fits word v is = let p = step_parts (a_value word) (λ value. if is_reference value then Err BadValue else Ok value) v is in plain p.0 v p.2

anything : {A : Type 0} (read : List ℕ → Result A Reason) (word : List ℕ) (x : A) → read word ≡ Ok x → ⊤
anything read word x is = tt

-- The meaning of several words

-- one word that was read
pub record Took {A B : Type 0} (Fits : A → Type 0) (words : List (List ℕ)) (goal : A × List (List ℕ) → Result B Reason) (y : B) : Type 0 where
  pub what : A
  pub fits : Fits what
  pub goes : goal (what, drop 1 words) ≡ Ok y

took : {A B : Type 0} (read : List ℕ → Result A Reason) (Fits : A → Type 0) (words : List (List ℕ)) (goal : A × List (List ℕ) → Result B Reason) (y : B)
    → ((word : List ℕ) (x : A) → read word ≡ Ok x → Fits x) → (next read words >>= goal) ≡ Ok y → Took Fits words goal y
unfolding next
took {A} read Fits words goal y fits is =
    let p = step_parts (read (first_word words) >>= (λ one. Ok (one, drop 1 words))) goal y is in
    let q = step_parts (read (first_word words)) (λ one. Ok (one, drop 1 words)) p.0 p.1 in
    let e : ◌≡◌ {A = A × List (List ℕ)} (q.0, drop 1 words) p.0 = let last = q.2 in cc (last) in
    record { what = q.0; fits = fits (first_word words) q.0 q.1; goes = ap goal e ∙ p.2 }

each_fits : {A : Type 0} (read : List ℕ → Result A Reason) (Fits : A → Type 0) (words : List (List ℕ)) (xs : List A)
    → ((word : List ℕ) (x : A) → read word ≡ Ok x → Fits x) → each read words ≡ Ok xs → All Fits xs × (length xs ≡ length words)
unfolding each
each_fits {A} read Fits [] xs fits is = let e : ◌≡◌ {A = List A} [] xs = cc (is) in subst (λ (ys : List A). All Fits ys × (length ys ≡ 0)) e (All-nil Fits, refl)
each_fits {A} read Fits (word ∷ words) xs fits is =
    let p = step_parts (read word) (λ one. each read words >>= λ others. Ok (one ∷ others)) xs is in
    let q = step_parts (each read words) (λ others. Ok (p.0 ∷ others)) xs p.2 in
    let e : p.0 ∷ q.0 ≡ xs = let last = q.2 in cc (last) in
    let rest = each_fits read Fits words q.0 fits q.1 in
    subst (λ (ys : List A). All Fits ys × (length ys ≡ length (word ∷ words))) e (All-cons Fits p.0 q.0 (fits word p.0 p.1) rest.0, ap suc rest.1)

chosen : {A : Type 0} (b : Bool) (x y : Result A Reason) (z : A) → (if b then x else y) ≡ Ok z → (x ≡ Ok z) ⊎ (y ≡ Ok z)
chosen true x y z is = inl is
chosen false x y z is = inr is

given : (c d : Command) → ◌≡◌ {A = Result Command Reason} (Ok c) (Ok d) → c ≡ d
given c d is = cc (is)

-- Commands

module _ (registers areas : ℕ) where
  -- the command that was read last
  last : (c d : Command) → ◌≡◌ {A = Result Command Reason} (Ok c) (Ok d) → IsNamed registers areas c → IsNamed registers areas d
  last c d is named = subst (IsNamed registers areas) (given c d is) named

  alone_named : (count : ℕ) (command c : Command) → IsNamed registers areas command → alone count command ≡ Ok c → IsNamed registers areas c
  alone_named count command c named is = last command c (guard_ok (count == 1) (Ok command) WrongCount c is).1 named

  pair_fits : (count : ℕ) (words : List (List ℕ)) (p : ℕ × ℕ) → pair_in registers count words ≡ Ok p → (p.0 < registers) × (p.1 < registers)
  unfolding pair_in
  pair_fits count words p is =
      let a = took (a_register registers) (λ r. r < registers) words _ p (register_fits registers) (guard_ok (count == 3) _ WrongCount p is).1 in
      let b = took (a_register registers) (λ r. r < registers) (drop 1 words) _ p (register_fits registers) a.goes in
      let e : ◌≡◌ {A = ℕ × ℕ} (a.what, b.what) p = let last = b.goes in cc (last) in
      subst (λ (q : ℕ × ℕ). (q.0 < registers) × (q.1 < registers)) e (a.fits, b.fits)

  pair_named : (count : ℕ) (words : List (List ℕ)) (make : ℕ → ℕ → Command) (c : Command) → ((m n : ℕ) → m < registers → n < registers → IsNamed registers areas (make m n))
      → (pair_in registers count words >>= (λ p. Ok (make p.0 p.1))) ≡ Ok c → IsNamed registers areas c
  pair_named count words make c named is =
      let p = step_parts (pair_in registers count words) (λ p. Ok (make p.0 p.1)) c is in
      let f = pair_fits count words p.0 p.1 in
      last (make p.0.0 p.0.1) c p.2 (named p.0.0 p.0.1 f.0 f.1)

  set_named : (count : ℕ) (words : List (List ℕ)) (c : Command) → set_in registers count words ≡ Ok c → IsNamed registers areas c
  unfolding set_in
  set_named count words c is =
      let a = took (a_register registers) (λ r. r < registers) words _ c (register_fits registers) (guard_ok (count == 3) _ WrongCount c is).1 in
      let b = took a_plain_value IsPlain (drop 1 words) _ c value_fits a.goes in
      last (C.Set a.what b.what) c b.goes (record { in_registers = a.fits; in_areas = tt; in_limits = b.fits })

  grow_named : (count : ℕ) (words : List (List ℕ)) (c : Command) → grow_in registers count words ≡ Ok c → IsNamed registers areas c
  unfolding grow_in
  grow_named count words c is =
      let a = took (a_register registers) (λ r. r < registers) words _ c (register_fits registers) (guard_ok (count == 3) _ WrongCount c is).1 in
      let b = took (a_number 0 2047) (λ n. n ≤ 2047) (drop 1 words) _ c (number_fits 2047 (omega arith)) a.goes in
      last (C.Grow a.what b.what) c b.goes (record { in_registers = a.fits; in_areas = tt; in_limits = b.fits })

  get_named : (count : ℕ) (words : List (List ℕ)) (c : Command) → get_in registers count words ≡ Ok c → IsNamed registers areas c
  unfolding get_in
  get_named count words c is =
      let a = took (a_register registers) (λ r. r < registers) words _ c (register_fits registers) (guard_ok (count == 4) _ WrongCount c is).1 in
      let b = took (a_register registers) (λ r. r < registers) (drop 1 words) _ c (register_fits registers) a.goes in
      let d = took (a_number 0 (2 ^ 32 - 1)) (λ n. ⊤) (drop 1 (drop 1 words)) _ c (anything (a_number 0 (2 ^ 32 - 1))) b.goes in
      last (C.Get a.what b.what d.what) c d.goes (record { in_registers = (a.fits, b.fits); in_areas = tt; in_limits = tt })

  put_named : (count : ℕ) (words : List (List ℕ)) (c : Command) → put_in registers count words ≡ Ok c → IsNamed registers areas c
  unfolding put_in
  put_named count words c is =
      let a = took (a_register registers) (λ r. r < registers) words _ c (register_fits registers) (guard_ok (count == 4) _ WrongCount c is).1 in
      let b = took (a_number 0 (2 ^ 32 - 1)) (λ n. ⊤) (drop 1 words) _ c (anything (a_number 0 (2 ^ 32 - 1))) a.goes in
      let d = took (a_register registers) (λ r. r < registers) (drop 1 (drop 1 words)) _ c (register_fits registers) b.goes in
      last (C.Put a.what b.what d.what) c d.goes (record { in_registers = (a.fits, d.fits); in_areas = tt; in_limits = tt })

  size_named : (count : ℕ) (words : List (List ℕ)) (c : Command) → size_in registers count words ≡ Ok c → IsNamed registers areas c
  unfolding size_in
  size_named count words c is =
      let a = took (a_register registers) (λ r. r < registers) words _ c (register_fits registers) (guard_ok (count == 2) _ WrongCount c is).1 in
      last (C.Size a.what) c a.goes (record { in_registers = a.fits; in_areas = tt; in_limits = tt })

  flip_named : (levels count : ℕ) (words : List (List ℕ)) (c : Command) → flip_in levels count words ≡ Ok c → IsNamed registers areas c
  unfolding flip_in
  flip_named levels count words c is =
      let a = took _ (λ what. ⊤) words _ c (anything _) (guard_ok (count == 2) _ WrongCount c is).1 in
      last (C.Flip a.what) c a.goes (record { in_registers = tt; in_areas = tt; in_limits = tt })

  scavenge_named : (count : ℕ) (words : List (List ℕ)) (c : Command) → scavenge_in count words ≡ Ok c → IsNamed registers areas c
  unfolding scavenge_in
  scavenge_named count words c is =
      let a = took (a_number 0 (2 ^ 32 - 1)) (λ n. ⊤) words _ c (anything (a_number 0 (2 ^ 32 - 1))) (guard_ok (count == 2) _ WrongCount c is).1 in
      last (C.Scavenge a.what) c a.goes (record { in_registers = tt; in_areas = tt; in_limits = tt })

  page_out_named : (count : ℕ) (words : List (List ℕ)) (c : Command) → page_out_in count words ≡ Ok c → IsNamed registers areas c
  unfolding page_out_in
  page_out_named count words c is =
      let a = took (a_number 0 (2 ^ 32 - 1)) (λ n. ⊤) words _ c (anything (a_number 0 (2 ^ 32 - 1))) (guard_ok (count == 2) _ WrongCount c is).1 in
      last (C.PageOut a.what) c a.goes (record { in_registers = tt; in_areas = tt; in_limits = tt })

  pairs_named : (head : List ℕ) (count : ℕ) (words : List (List ℕ)) (c : Command) → pair_command registers head count words ≡ Ok c → IsNamed registers areas c
  unfolding pair_command
  pairs_named head count words c is = elim (chosen (bytes_eq head (codes "move")) _ _ c is) [
    | inl e ↦ pair_named count words (λ m n. C.Move m n) c (λ m n l k. record { in_registers = (l, k); in_areas = tt; in_limits = tt }) e
    | inr e ↦ elim (chosen (bytes_eq head (codes "car")) _ _ c e) [
      | inl e ↦ pair_named count words (λ m n. C.Car m n) c (λ m n l k. record { in_registers = (l, k); in_areas = tt; in_limits = tt }) e
      | inr e ↦ elim (chosen (bytes_eq head (codes "cdr")) _ _ c e) [
        | inl e ↦ pair_named count words (λ m n. C.Cdr m n) c (λ m n l k. record { in_registers = (l, k); in_areas = tt; in_limits = tt }) e
        | inr e ↦ elim (chosen (bytes_eq head (codes "rplaca")) _ _ c e) [
          | inl e ↦ pair_named count words (λ m n. C.Rplaca m n) c (λ m n l k. record { in_registers = (l, k); in_areas = tt; in_limits = tt }) e
          | inr e ↦ elim (chosen (bytes_eq head (codes "rplacd")) _ _ c e) [
            | inl e ↦ pair_named count words (λ m n. C.Rplacd m n) c (λ m n l k. record { in_registers = (l, k); in_areas = tt; in_limits = tt }) e
            | inr e ↦ pair_named count words (λ m n. C.Eq m n) c (λ m n l k. record { in_registers = (l, k); in_areas = tt; in_limits = tt }) (guard_ok (bytes_eq head (codes "eq")) _ UnknownCommand c e).1
          ]
        ]
      ]
    ]
  ]

  store_named : (space : Space) → space.registers ≡ registers → (head : List ℕ) (count : ℕ) (words : List (List ℕ)) (c : Command) → store_command space head count words ≡ Ok c → IsNamed registers areas c
  unfolding store_command
  store_named space same head count words c is = elim (chosen (bytes_eq head (codes "flip")) _ _ c is) [
    | inl e ↦ flip_named space.levels count words c e
    | inr e ↦ elim (chosen (bytes_eq head (codes "scavenge")) _ _ c e) [
      | inl e ↦ scavenge_named count words c e
      | inr e ↦ elim (chosen (bytes_eq head (codes "reclaim")) _ _ c e) [
        | inl e ↦ alone_named count C.Reclaim c (record { in_registers = tt; in_areas = tt; in_limits = tt }) e
        | inr e ↦ elim (chosen (bytes_eq head (codes "page-out")) _ _ c e) [
          | inl e ↦ page_out_named count words c e
          | inr e ↦ elim (chosen (bytes_eq head (codes "stats")) _ _ c e) [
            | inl e ↦ alone_named count C.Stats c (record { in_registers = tt; in_areas = tt; in_limits = tt }) e
            | inr e ↦ elim (chosen (bytes_eq head (codes "dump")) _ _ c e) [
              | inl e ↦ alone_named count C.Dump c (record { in_registers = tt; in_areas = tt; in_limits = tt }) e
              | inr e ↦ pairs_named head count words c (ap (λ r. pair_command r head count words) (sym same) ∙ e)
            ]
          ]
        ]
      ]
    ]
  ]

-- Commands with an area

module _ (registers : ℕ) (areas : List AreaRule) where
  cons_named : (count : ℕ) (words : List (List ℕ)) (c : Command) → cons_in registers areas count words ≡ Ok c → IsNamed registers (length areas) c
  unfolding cons_in
  cons_named count words c is =
      let a = took (a_register registers) (λ r. r < registers) words _ c (register_fits registers) (guard_ok (count == 5) _ WrongCount c is).1 in
      let b = took (an_area areas) (λ n. n < length areas) (drop 1 words) _ c (area_fits areas) a.goes in
      let d = took (a_register registers) (λ r. r < registers) (drop 1 (drop 1 words)) _ c (register_fits registers) b.goes in
      let e = took (a_register registers) (λ r. r < registers) (drop 1 (drop 1 (drop 1 words))) _ c (register_fits registers) d.goes in
      last registers (length areas) (C.Cons a.what b.what d.what e.what) c e.goes (record { in_registers = (a.fits, d.fits, e.fits); in_areas = b.fits; in_limits = tt })

  make_named : (count : ℕ) (words : List (List ℕ)) (c : Command) → make_in registers areas count words ≡ Ok c → IsNamed registers (length areas) c
  unfolding make_in
  make_named count words c is =
      let a = took (a_register registers) (λ r. r < registers) words _ c (register_fits registers) (guard_ok (count == 5) _ WrongCount c is).1 in
      let b = took (an_area areas) (λ n. n < length areas) (drop 1 words) _ c (area_fits areas) a.goes in
      let d = took (a_number 0 65535) (λ n. ⊤) (drop 1 (drop 1 words)) _ c (anything (a_number 0 65535)) b.goes in
      let e = took (a_number 0 2047) (λ n. n ≤ 2047) (drop 1 (drop 1 (drop 1 words))) _ c (number_fits 2047 (omega arith)) d.goes in
      last registers (length areas) (C.Make a.what b.what d.what e.what) c e.goes (record { in_registers = a.fits; in_areas = b.fits; in_limits = e.fits })

  list_named : (count : ℕ) (words : List (List ℕ)) (c : Command) → length words ≡ count - 1 → list_in registers areas count words ≡ Ok c → IsNamed registers (length areas) c
  unfolding list_in
  list_named count words c counted is =
      let many = guard_not (nat_lt 1027 count) _ _ c is in
      let few = guard_not (nat_lt count 4) _ _ c many.1 in
      let top : count ≤ 1027 = let t = many.0 in grind (arith, nat_tests, t) in
      let low : 4 ≤ count = let t = few.0 in grind (arith, nat_tests, t) in
      let a = took (a_register registers) (λ r. r < registers) words _ c (register_fits registers) few.1 in
      let b = took (an_area areas) (λ n. n < length areas) (drop 1 words) _ c (area_fits areas) a.goes in
      let d = step_parts (each (a_register registers) (drop 1 (drop 1 words))) (λ items. Ok (C.List a.what b.what items)) c b.goes in
      let f = each_fits (a_register registers) (λ r. r < registers) (drop 1 (drop 1 words)) d.0 (register_fits registers) d.1 in
      let l : length d.0 ≡ count - 3 = omega (arith, f.1, length-drop 1 (drop 1 words), length-drop 1 words, counted, low) in
      last registers (length areas) (C.List a.what b.what d.0) c d.2 (record { in_registers = (a.fits, f.0); in_areas = b.fits; in_limits = (omega (arith, l, low), omega (arith, l, top)) })

module _ (space : Space) (areas : List AreaRule) where
  command_named : (head : List ℕ) (count : ℕ) (words : List (List ℕ)) (c : Command) → length words ≡ count - 1 → command_in space areas head count words ≡ Ok c → IsNamed space.registers (length areas) c
  unfolding command_in
  command_named head count words c counted is = elim (chosen (bytes_eq head (codes "set")) _ _ c is) [
    | inl e ↦ set_named space.registers (length areas) count words c e
    | inr e ↦ elim (chosen (bytes_eq head (codes "cons")) _ _ c e) [
      | inl e ↦ cons_named space.registers areas count words c e
      | inr e ↦ elim (chosen (bytes_eq head (codes "list")) _ _ c e) [
        | inl e ↦ list_named space.registers areas count words c counted e
        | inr e ↦ elim (chosen (bytes_eq head (codes "make")) _ _ c e) [
          | inl e ↦ make_named space.registers areas count words c e
          | inr e ↦ elim (chosen (bytes_eq head (codes "grow")) _ _ c e) [
            | inl e ↦ grow_named space.registers (length areas) count words c e
            | inr e ↦ elim (chosen (bytes_eq head (codes "get")) _ _ c e) [
              | inl e ↦ get_named space.registers (length areas) count words c e
              | inr e ↦ elim (chosen (bytes_eq head (codes "put")) _ _ c e) [
                | inl e ↦ put_named space.registers (length areas) count words c e
                | inr e ↦ elim (chosen (bytes_eq head (codes "size")) _ _ c e) [
                  | inl e ↦ size_named space.registers (length areas) count words c e
                  | inr e ↦ store_named space.registers (length areas) space refl head count words c e
                ]
              ]
            ]
          ]
        ]
      ]
    ]
  ]

  line_named : (head : List ℕ) (count : ℕ) (words : List (List ℕ)) (c : Command) → length words ≡ count - 1 → line_in space areas head count words ≡ Ok (Run c) → IsNamed space.registers (length areas) c
  unfolding line_in
  line_named head count words c counted is = go (bytes_eq head (codes "end")) (count == 1) is
    where
      go : (b d : Bool) → (if b then (if d then Ok End else Err WrongCount) else (command_in space areas head count words >>= (λ command. Ok (Run command)))) ≡ Ok (Run c) → IsNamed space.registers (length areas) c
      go true true e = absurd (cc (e))
      go true false e = absurd (cc (e))
      go false d e =
          let p = step_parts (command_in space areas head count words) (λ command. Ok (Run command)) (Run c) e in
          let f : p.0 ≡ c = let last = p.2 in cc (last) in
          subst (IsNamed space.registers (length areas)) f (command_named head count words p.0 counted p.1)

  -- A command that is a line of the trace.
  pub trace_named : (text : List ℕ) (c : Command) → trace_line space areas text ≡ Ok (Run c) → IsNamed space.registers (length areas) c
  trace_named text c is =
      line_named (first_word (words_of text)) (length (words_of text)) (drop 1 (words_of text)) c (length-drop 1 (words_of text)) (guard_ok (is_well_formed text) _ _ (Run c) is).1
