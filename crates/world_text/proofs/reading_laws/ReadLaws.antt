-- Reading words one after another.
use Rattle.std.proofs.Common.{◌≡◌, ℕ, List, [], ◌∷◌, Bool, true, false, Result, Ok, Err, refl, ap, ◌∙◌, arith, subst}
use Rattle.std.specs.Prelude.{◌==◌, if◌then◌else◌, map}
use Rattle.std.proofs.lemmas.Bool.Decides.{nat_tests}
use Rattle.std.specs.List.{All, list_all}
use Rattle.std.proofs.lemmas.List.Elements.{All-cons, All-head, All-nil, All-tail}
use Rattle.world_text.specs.declared.reading.reason.Reason.{Reason}
use Rattle.world_text.specs.declared.fault.WorldFault.{WorldFault}
use Rattle.world_text.specs.reading.Reader.{bad}
use Rattle.world_text.specs.reading.Words.{is_word}
use Rattle.world_text.specs.reading.Next.{◌>>=◌, each, next}
use Rattle.world_text.proofs.reading_laws.WordReaders.{Spells}

-- what a step returned
pub step_parts : {A B E : Type 0} (read : Result A E) (f : A → Result B E) (y : B) → (read >>= f) ≡ Ok y → (x : A) × (read ≡ Ok x) × (f x ≡ Ok y)
step_parts (Ok x) f y is = (x, refl, is)
step_parts (Err e) f y is = absurd (cc (is))

pub step_goes : {A B E : Type 0} (read : Result A E) (f : A → Result B E) (x : A) → read ≡ Ok x → (read >>= f) ≡ f x
step_goes read f x is = rw is refl

-- the first word is read
pub next_reads : {A : Type 0} (read : List ℕ → Result A Reason) (word : List ℕ) (words : List (List ℕ)) (x : A) → read word ≡ Ok x → next read (word ∷ words) ≡ Ok (x, words)
unfolding next
next_reads read word words x is = rw is refl

no_word : (word : List ℕ) → [] ≡ word → is_word word ≡ true → ⊥
no_word [] is good = cc (good)
no_word (byte ∷ bytes) is good = cc (is)

-- what is read from the first word
pub next_only : {A : Type 0} (read : List ℕ → Result A Reason) (Fits : A → Type 0) (spell : A → List ℕ) (words : List (List ℕ)) (x : A) (rest : List (List ℕ))
    → Spells read Fits spell → next read words ≡ Ok (x, rest) → (words ≡ spell x ∷ rest) × Fits x
unfolding next
next_only {A} read Fits spell [] x rest spells is =
    let p = step_parts (read []) (λ one. Ok (one, [])) (x, rest) is in
    let pair : ◌≡◌ {A = A × List (List ℕ)} (p.0, []) (x, rest) = let q = p.2 in cc in
    let e : p.0 ≡ x = ap (λ (q : A × List (List ℕ)). q.0) pair in
    let o = spells.only [] p.0 p.1 in
    absurd (no_word (spell p.0) o.0 (spells.words p.0 o.1))
next_only {A} read Fits spell (word ∷ words) x rest spells is =
    let p = step_parts (read word) (λ one. Ok (one, words)) (x, rest) is in
    let pair : ◌≡◌ {A = A × List (List ℕ)} (p.0, words) (x, rest) = let q = p.2 in cc in
    let e : p.0 ≡ x = ap (λ (q : A × List (List ℕ)). q.0) pair in
    let f : words ≡ rest = ap (λ (q : A × List (List ℕ)). q.1) pair in
    let o = spells.only word p.0 p.1 in
    let fits : Fits x = subst Fits e o.1 in
    (ap (λ w. w ∷ words) (o.0 ∙ ap spell e) ∙ ap (λ ws. spell x ∷ ws) f, fits)

-- all words are read
pub each_reads : {A : Type 0} (read : List ℕ → Result A Reason) (Fits : A → Type 0) (spell : A → List ℕ) (xs : List A)
    → Spells read Fits spell → All Fits xs → each read (map spell xs) ≡ Ok xs
unfolding each
each_reads read Fits spell [] spells fit = refl
each_reads read Fits spell (x ∷ xs) spells fit =
    rw (spells.accepts x (All-head Fits x xs fit), each_reads read Fits spell xs spells (All-tail Fits x xs fit)) refl

none_read : {A : Type 0} (Fits : A → Type 0) (spell : A → List ℕ) (xs : List A) → [] ≡ xs → ([] ≡ map spell xs) × All Fits xs
none_read {A} Fits spell xs is = let P : List A → Type 0 = λ ys. ([] ≡ map spell ys) × All Fits ys in subst P is (refl, All-nil Fits)

pub each_only : {A : Type 0} (read : List ℕ → Result A Reason) (Fits : A → Type 0) (spell : A → List ℕ) (words : List (List ℕ)) (xs : List A)
    → Spells read Fits spell → each read words ≡ Ok xs → (words ≡ map spell xs) × All Fits xs
unfolding each
each_only read Fits spell [] xs spells is = none_read Fits spell xs (let e = is in cc)
each_only {A} read Fits spell (word ∷ words) xs spells is =
    let p = step_parts (read word) (λ one. each read words >>= λ others. Ok (one ∷ others)) xs is in
    let q = step_parts (each read words) (λ others. Ok (p.0 ∷ others)) xs p.2 in
    let e : p.0 ∷ q.0 ≡ xs = let last = q.2 in cc in
    let o = spells.only word p.0 p.1 in
    let rest = each_only read Fits spell words q.0 spells q.1 in
    let P : List A → Type 0 = λ ys. (word ∷ words ≡ map spell ys) × All Fits ys in
    subst P e (ap (λ w. w ∷ words) o.0 ∙ ap (λ ws. spell p.0 ∷ ws) rest.0, All-cons Fits p.0 q.0 o.1 rest.1)

-- spellings are words
pub all_words : {A : Type 0} (Fits : A → Type 0) (spell : A → List ℕ) (xs : List A) → ((x : A) → Fits x → is_word (spell x) ≡ true) → All Fits xs
    → list_all is_word (map spell xs) ≡ true
all_words Fits spell [] good fit = refl
all_words Fits spell (x ∷ xs) good fit = rw (good x (All-head Fits x xs fit), all_words Fits spell xs good (All-tail Fits x xs fit)) refl

-- Steps of a line

pub bad_ok : {A : Type 0} (read : Result A Reason) (x : A) → bad read ≡ Ok x → read ≡ Ok x
bad_ok (Ok y) x is = let e = is in cc
bad_ok (Err reason) x is = absurd (cc (is))

-- a test that is passed, and one that is failed
pub guard_ok : {A E : Type 0} (b : Bool) (next : Result A E) (e : E) (x : A) → (if b then next else Err e) ≡ Ok x → (b ≡ true) × (next ≡ Ok x)
guard_ok true next e x is = (refl, is)
guard_ok false next e x is = absurd (cc (is))

pub guard_not : {A E : Type 0} (b : Bool) (next : Result A E) (e : E) (x : A) → (if b then Err e else next) ≡ Ok x → (b ≡ false) × (next ≡ Ok x)
guard_not true next e x is = absurd (cc (is))
guard_not false next e x is = (refl, is)

pub eq_number : (m n : ℕ) → (m == n) ≡ true → m ≡ n
eq_number m n is = grind (arith, nat_tests)

-- words after a first one
pub also : {words : List (List ℕ)} {word : List ℕ} {rest more : List (List ℕ)} → words ≡ word ∷ rest → rest ≡ more → words ≡ word ∷ more
also {words} {word} {rest} {more} is behind = let P : List (List ℕ) → Type 0 = λ ws. words ≡ word ∷ ws in subst P behind is

-- one word that a step took
pub record Took {A B E : Type 0} (Fits : A → Type 0) (spell : A → List ℕ) (words : List (List ℕ)) (goal : A × List (List ℕ) → Result B E) (y : B) : Type 0 where
  pub what : A
  pub rest : List (List ℕ)
  pub is : words ≡ spell what ∷ rest
  pub fits : Fits what
  pub goes : goal (what, rest) ≡ Ok y

pub take_only : {A B : Type 0} (read : List ℕ → Result A Reason) (Fits : A → Type 0) (spell : A → List ℕ) (words : List (List ℕ)) (goal : A × List (List ℕ) → Result B Reason) (y : B)
    → Spells read Fits spell → (next read words >>= goal) ≡ Ok y → Took Fits spell words goal y
take_only read Fits spell words goal y spells is =
    let p = step_parts (next read words) goal y is in
    let o = next_only read Fits spell words p.0.0 p.0.1 spells p.1 in
    record { what = p.0.0; rest = p.0.1; is = o.0; fits = o.1; goes = p.2 }

pub take_bad : {A B : Type 0} (read : List ℕ → Result A Reason) (Fits : A → Type 0) (spell : A → List ℕ) (words : List (List ℕ)) (goal : A × List (List ℕ) → Result B WorldFault) (y : B)
    → Spells read Fits spell → (bad (next read words) >>= goal) ≡ Ok y → Took Fits spell words goal y
take_bad read Fits spell words goal y spells is =
    let p = step_parts (bad (next read words)) goal y is in
    let o = next_only read Fits spell words p.0.0 p.0.1 spells (bad_ok (next read words) p.0 p.1) in
    record { what = p.0.0; rest = p.0.1; is = o.0; fits = o.1; goes = p.2 }

-- one word that is spelled

pub take_back : {A B : Type 0} (read : List ℕ → Result A Reason) (Fits : A → Type 0) (spell : A → List ℕ) (what : A) (rest : List (List ℕ)) (goal : A × List (List ℕ) → Result B Reason)
    → Spells read Fits spell → Fits what → (next read (spell what ∷ rest) >>= goal) ≡ goal (what, rest)
take_back read Fits spell what rest goal spells fits =
    step_goes (next read (spell what ∷ rest)) goal (what, rest) (next_reads read (spell what) rest what (spells.accepts what fits))

pub bad_back : {A B : Type 0} (read : List ℕ → Result A Reason) (Fits : A → Type 0) (spell : A → List ℕ) (what : A) (rest : List (List ℕ)) (goal : A × List (List ℕ) → Result B WorldFault)
    → Spells read Fits spell → Fits what → (bad (next read (spell what ∷ rest)) >>= goal) ≡ goal (what, rest)
bad_back {A} read Fits spell what rest goal spells fits =
    step_goes (bad (next read (spell what ∷ rest))) goal (what, rest) (ap {A = Result (A × List (List ℕ)) Reason} bad (next_reads read (spell what) rest what (spells.accepts what fits)))

-- all words that a step took, and that are spelled

pub each_bad : {A B : Type 0} (read : List ℕ → Result A Reason) (Fits : A → Type 0) (spell : A → List ℕ) (words : List (List ℕ)) (goal : List A → Result B WorldFault) (y : B)
    → Spells read Fits spell → (bad (each read words) >>= goal) ≡ Ok y → (xs : List A) × (words ≡ map spell xs) × All Fits xs × (goal xs ≡ Ok y)
each_bad read Fits spell words goal y spells is =
    let p = step_parts (bad (each read words)) goal y is in
    let o = each_only read Fits spell words p.0 spells (bad_ok (each read words) p.0 p.1) in
    (p.0, o.0, o.1, p.2)

pub each_back : {A B : Type 0} (read : List ℕ → Result A Reason) (Fits : A → Type 0) (spell : A → List ℕ) (xs : List A) (goal : List A → Result B WorldFault)
    → Spells read Fits spell → All Fits xs → (bad (each read (map spell xs)) >>= goal) ≡ goal xs
each_back {A} read Fits spell xs goal spells fit =
    step_goes (bad (each read (map spell xs))) goal xs (ap {A = Result (List A) Reason} bad (each_reads read Fits spell xs spells fit))
