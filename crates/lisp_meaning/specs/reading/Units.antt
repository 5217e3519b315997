-- The units of a collection: the registers and the words that remain to be scanned.
use Rattle.std.specs.Prelude.{◌≡◌, ℕ, zero, suc, ◌+◌, ◌/◌, ◌<◌, Bool, false, ◌&&◌, ◌==◌, if◌then◌else◌, length, Option, Some, None}
use Rattle.lisp_graph.specs.store_word.declared.sizes.TheConstants.{PAGE_WORDS}
use Rattle.lisp_graph.specs.Totals.{total, if_true}
use Rattle.lisp_meaning.specs.reading.Image.{Image}

-- how many units remain
abbrev pub units_left : Image → ℕ
units_left g = total (λ r. if_true (g.register_left r) 1) (length g.registers) + total (λ a. if_true (g.word_left a) 1) (length g.words)

abbrev pub NothingLeft : Image → Type 0
NothingLeft g = ((r : ℕ) → r < length g.registers → g.register_left r ≡ false) × ((a : ℕ) → a < length g.words → g.word_left a ≡ false)

pub data ScanUnit : Type 0 where
  InRegister InWord : ℕ → ScanUnit

abbrev pub lowest_or : Option ℕ → ℕ → Bool → Option ℕ
lowest_or (Some m) n passes = Some m
lowest_or None n passes = if passes then Some n else None

-- the lowest number below n that passes
unfoldable pub lowest : (ℕ → Bool) → ℕ → Option ℕ
lowest passes zero = None
lowest passes (suc n) = lowest_or (lowest passes n) n (passes n)

-- the address is on the page of another, if there is one
abbrev pub on_page_of : Option ℕ → ℕ → Bool
on_page_of None a = false
on_page_of (Some last) a = a / PAGE_WORDS == last / PAGE_WORDS

abbrev pub first_of : Option ℕ → Option ℕ → Option ℕ → Option ScanUnit
first_of (Some near) register far = Some (InWord near)
first_of None (Some register) far = Some (InRegister register)
first_of None None (Some far) = Some (InWord far)
first_of None None None = None

-- the next unit: of those that remain, the lowest word on the page on which the latest transport ended, otherwise the lowest register, otherwise the lowest word
abbrev pub next_unit : Image → Option ScanUnit
next_unit g = first_of
    (lowest (λ a. g.word_left a && on_page_of g.last_moved a) (length g.words))
    (lowest g.register_left (length g.registers))
    (lowest g.word_left (length g.words))
