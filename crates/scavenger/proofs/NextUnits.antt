-- Which unit is next.
use Rattle.std.proofs.Common.{◌≡◌, ℕ, zero, suc, ◌+◌, ◌*◌, ◌/◌, ◌%◌, ◌<◌, ◌≤◌, ◌⊎◌, inl, inr, Bool, true, false, not, ◌&&◌, nat_le, nat_lt, slice_index, refl, sym, ◌∙◌, ap, arith, Option, Some, None}
use Rattle.std.proofs.lemmas.Bool.{cases_Bool, cases_lt, and_parts, ltb-true, leb-true, le-leb, lt-leb}
use Rattle.area_space.specs.Table.{Table, used_of}
use Rattle.transporter.specs.lisp_meaning.Units.{lowest, lowest_or}
use Rattle.transporter.proofs.lisp_meaning.reading.NextUnits.{none-lowest, lowest-none, lowest-passes}
use Rattle.scavenger.specs.declared.scan_set.Unit.{Unit as ScanUnit}
use Rattle.scavenger.specs.declared.scan_set.Unit.TheVariants.{Register, Word}
use Rattle.scavenger.specs.Scan.{Scan}
use Rattle.scavenger.specs.Left.{is_open, register_left, word_left, is_page, unit_of, near_of, next_of, is_none}
use Rattle.scavenger.proofs.LowestNumbers.{lowest-some, open-first}

-- the same set, not finished
abbrev pub opened : Scan → Scan
opened s = record s { over = false }

-- a register that isn't scanned is next if no word remains on the page of the latest transport
pub register-next : (s : Scan) (t : Table) (r : ℕ) → r ≡ s.scanned → s.scanned < s.registers → near_of (opened s) t ≡ None → next_of (opened s) t ≡ Some (Register r)
register-next s t r is low near =
    ap (λ (o : Option ℕ). unit_of o (lowest (register_left (opened s)) s.registers) (lowest (word_left (opened s) t) (4096 * t.regions))) near
    ∙ ap (λ (o : Option ℕ). unit_of None o (lowest (word_left (opened s) t) (4096 * t.regions)))
    (lowest-some (register_left (opened s)) s.registers r (omega arith) (le-leb s.scanned r (omega arith)) (λ k l. lt-leb s.scanned k (omega arith)))

some-next : (near : Option ℕ) (r : ℕ) (far : Option ℕ) → is_none (unit_of near (Some r) far) ≡ false
some-next (Some a) r far = refl
some-next None r far = refl

-- if a register isn't scanned, some unit is next
pub register-some : (s : Scan) (t : Table) → s.scanned < s.registers → is_none (next_of (opened s) t) ≡ false
register-some s t low =
    ap (λ (o : Option ℕ). is_none (unit_of (near_of (opened s) t) o (lowest (word_left (opened s) t) (4096 * t.regions))))
    (lowest-some (register_left (opened s)) s.registers s.scanned (omega arith) (le-leb s.scanned s.scanned (omega arith)) (λ k l. lt-leb s.scanned k (omega arith)))
    ∙ some-next (near_of (opened s) t) s.scanned (lowest (word_left (opened s) t) (4096 * t.regions))

pub word-next : (s : Scan) (t : Table) → s.registers ≤ s.scanned → near_of (opened s) t ≡ None → next_of (opened s) t ≡ unit_of None None (lowest (is_open s t) (4096 * t.regions))
word-next s t done near =
    ap (λ (o : Option ℕ). unit_of o (lowest (register_left (opened s)) s.registers) (lowest (word_left (opened s) t) (4096 * t.regions))) near
    ∙ ap (λ (o : Option ℕ). unit_of None o (lowest (word_left (opened s) t) (4096 * t.regions)))
    (none-lowest (register_left (opened s)) s.registers (λ k l. lt-leb s.scanned k (omega arith)))

-- if no unit remains, none is next
pub nothing-next : (s : Scan) (t : Table) → ((r : ℕ) → r < s.registers → register_left s r ≡ false) → ((a : ℕ) → a < 4096 * t.regions → word_left s t a ≡ false) → next_of s t ≡ None
nothing-next s t registers words =
    ap (λ (o : Option ℕ). unit_of o (lowest (register_left s) s.registers) (lowest (word_left s t) (4096 * t.regions)))
    (none-lowest (λ a. word_left s t a && is_page t.last (a / 256)) (4096 * t.regions) (λ a l. ap (λ (b : Bool). b && is_page t.last (a / 256)) (words a l)))
    ∙ ap (λ (o : Option ℕ). unit_of None o (lowest (word_left s t) (4096 * t.regions))) (none-lowest (register_left s) s.registers registers)
    ∙ ap (λ (o : Option ℕ). unit_of None None o) (none-lowest (word_left s t) (4096 * t.regions) words)

pub none-over : (s : Scan) (t : Table) → s.over ≡ true → next_of s t ≡ None
none-over s t over = nothing-next s t (λ k l. ap (λ (b : Bool). not b && nat_le s.scanned k) over) (λ a l. ap (λ (b : Bool). not b && is_open s t a) over)

pub same-next : (s : Scan) (t : Table) → s.over ≡ false → next_of (opened s) t ≡ next_of s t
same-next s t e = ap (λ (b : Bool). (let x : Scan = record s { over = b } in next_of x t)) (sym e)

-- What is known of the next unit

over-or : (s : Scan) (t : Table) (u : ScanUnit) → next_of s t ≡ Some u → s.over ≡ false
over-or s t u e = go (cases_Bool s.over)
  where
    go : (s.over ≡ true) ⊎ (s.over ≡ false) → s.over ≡ false
    go (inl over) = let none = none-over s t over in absurd cc
    go (inr going) = going

the-register : (near register far : Option ℕ) (r : ℕ) → unit_of near register far ≡ Some (Register r) → register ≡ Some r
the-register (Some a) register far r e = cc
the-register None (Some x) far r e = cc
the-register None None (Some a) r e = cc
the-register None None None r e = cc

the-word : (near register far : Option ℕ) (a : ℕ) → unit_of near register far ≡ Some (Word a) → (near ≡ Some a) ⊎ (far ≡ Some a)
the-word (Some x) register far a e = inl (cc)
the-word None (Some r) far a e = cc
the-word None None (Some x) a e = inr (cc)
the-word None None None a e = cc

-- no lower number passes than the lowest that does
pub lowest-least : (p : ℕ → Bool) (n m : ℕ) → lowest p n ≡ Some m → (k : ℕ) → k < m → p k ≡ false
unfolding lowest
lowest-least p zero m e k l = cc
lowest-least p (suc n) m e k l = go (λ is. lowest-least p n m is k l) (lowest p n) refl (p n) refl e
  where
    go : (lowest p n ≡ Some m → p k ≡ false) → (o : Option ℕ) → lowest p n ≡ o → (b : Bool) → p n ≡ b → lowest_or o n b ≡ Some m → p k ≡ false
    go before (Some x) is b here e = before (is ∙ e)
    go before None is true here e = let z : n ≡ m = cc in lowest-none p n is k (omega arith)
    go before None is false here e = cc

-- while a unit is next the scan hasn't finished
pub next-goes : {A : Type 0} (s : Scan) (t : Table) (u : ScanUnit) → next_of s t ≡ Some u → s.over ≡ true → A
next-goes {A} s t u e over = let going = over-or s t u e in absurd cc

-- a register that is next is the lowest that isn't scanned
pub record NextRegister (s : Scan) (r : ℕ) : Type 0 where
  pub going : s.over ≡ false
  pub is : r ≡ s.scanned
  pub low : r < s.registers

pub next-register : (s : Scan) (t : Table) (r : ℕ) → next_of s t ≡ Some (Register r) → NextRegister s r
next-register s t r e = record { going = going; is = go (cases_lt s.scanned r); low = found.0 }
  where
    going : s.over ≡ false
    going = over-or s t (Register r) e

    is : lowest (register_left s) s.registers ≡ Some r
    is = the-register (near_of s t) (lowest (register_left s) s.registers) (lowest (word_left s t) (4096 * t.regions)) r e

    found : (r < s.registers) × (register_left s r ≡ true)
    found = lowest-passes (register_left s) s.registers r is

    behind : s.scanned ≤ r
    behind = leb-true s.scanned r (and_parts (not s.over) (nat_le s.scanned r) found.1).1

    go : (s.scanned < r) ⊎ (r ≤ s.scanned) → r ≡ s.scanned
    go (inr h) = let b = behind in omega arith
    go (inl l) =
        let before = lowest-least (register_left s) s.registers r is s.scanned l in
        let yes : register_left s s.scanned ≡ true = ap (λ (b : Bool). not b && nat_le s.scanned s.scanned) going ∙ le-leb s.scanned s.scanned (omega arith) in
        absurd cc

-- a word that is next is the lowest open one of its page
pub record NextWord (s : Scan) (t : Table) (a : ℕ) : Type 0 where
  pub going : s.over ≡ false
  pub low : a < 4096 * t.regions
  pub here : is_open s t a ≡ true
  pub least : (b : ℕ) → b < a → b / 256 ≡ a / 256 → is_open s t b ≡ false

both-left : (b c : Bool) → (b && c) ≡ false → c ≡ true → b ≡ false
both-left true c e y = cc
both-left false c e y = refl

pub next-word : (s : Scan) (t : Table) (a : ℕ) → next_of s t ≡ Some (Word a) → NextWord s t a
next-word s t a e = go (the-word (near_of s t) (lowest (register_left s) s.registers) (lowest (word_left s t) (4096 * t.regions)) a e)
  where
    going : s.over ≡ false
    going = over-or s t (Word a) e

    open-left : (b : ℕ) → word_left s t b ≡ false → is_open s t b ≡ false
    open-left b closed = sym (ap (λ (o : Bool). not o && is_open s t b) going) ∙ closed

    go : (near_of s t ≡ Some a) ⊎ (lowest (word_left s t) (4096 * t.regions) ≡ Some a) → NextWord s t a
    go (inr is) =
        let found = lowest-passes (word_left s t) (4096 * t.regions) a is in
        record {
          going = going;
          low = found.0;
          here = (and_parts (not s.over) (is_open s t a) found.1).1;
          least = λ b l on. open-left b (lowest-least (word_left s t) (4096 * t.regions) a is b l);
        }
    go (inl is) =
        let near : ℕ → Bool = λ b. word_left s t b && is_page t.last (b / 256) in
        let found = lowest-passes (λ b. word_left s t b && is_page t.last (b / 256)) (4096 * t.regions) a is in
        let parts = and_parts (word_left s t a) (is_page t.last (a / 256)) found.1 in
        record {
          going = going;
          low = found.0;
          here = (and_parts (not s.over) (is_open s t a) parts.0).1;
          least = λ b l on. open-left b (both-left (word_left s t b) (is_page t.last (b / 256))
              (lowest-least (λ c. word_left s t c && is_page t.last (c / 256)) (4096 * t.regions) a is b l)
              (ap (is_page t.last) on ∙ parts.1));
        }

-- the next word is the first of its page that isn't scanned
pub next-first : (s : Scan) (t : Table) (a : ℕ) → NextWord s t a → (slice_index s.pages (a / 256) ≡ a % 256) × (a % 4096 < used_of t (a / 4096))
next-first s t a x = (go (cases_lt (slice_index s.pages (a / 256)) (a % 256)), used)
  where
    parts : (nat_le (slice_index s.pages (a / 256)) (a % 256) ≡ true) × (nat_lt (a % 4096) (used_of t (a / 4096)) ≡ true)
    parts = and_parts (nat_le (slice_index s.pages (a / 256)) (a % 256)) (nat_lt (a % 4096) (used_of t (a / 4096))) x.here

    used : a % 4096 < used_of t (a / 4096)
    used = ltb-true (a % 4096) (used_of t (a / 4096)) parts.1

    go : (slice_index s.pages (a / 256) < a % 256) ⊎ (a % 256 ≤ slice_index s.pages (a / 256)) → slice_index s.pages (a / 256) ≡ a % 256
    go (inr h) = let y = leb-true (slice_index s.pages (a / 256)) (a % 256) parts.0 in omega arith
    go (inl l) =
        let first = slice_index s.pages (a / 256) in
        let u = used in
        let page : a / 256 / 16 ≡ a / 4096 = omega arith in
        let same : used_of t (a / 256 / 16) ≡ used_of t (a / 4096) = ap (used_of t) page in
        let yes = open-first s t (a / 256) first refl (omega arith) (omega arith) in
        let no = x.least (256 * (a / 256) + first) (omega arith) (omega arith) in
        absurd cc
