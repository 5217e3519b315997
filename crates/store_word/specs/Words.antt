-- The parts of a word, and the number that it is kept as.
use Rattle.std.specs.Prelude.{ℕ, ℤ, Bool, ◌==◌, ◌+◌, ◌*◌, ◌/◌, ◌%◌, ◌^◌, ◌<◌, ◌≤◌, ◌≡◌, ◌⊎◌, Option, Some, None, if◌then◌else◌, nat_lt, ◌&&◌, ◌||◌, FitsSigned}
use Rattle.std.specs.Int.{cast_signed, cast_unsigned, w32}
use Rattle.store_word.specs.declared.word.CdrCode.{CdrCode}
use Rattle.store_word.specs.declared.word.CdrCode.TheVariants.{Next, Nil as CodedNil, Normal, Second}
use Rattle.store_word.specs.declared.word.Tag.{Tag}
use Rattle.store_word.specs.declared.word.Tag.TheVariants.{Null as NullTag, Nil as NilTag, List as ListTag, Struct as StructTag, Header as HeaderTag, HeaderForward as HeaderForwardTag, GcForward as GcForwardTag, Fixnum as FixnumTag}
use Rattle.store_word.specs.declared.word.Content.{Content}
use Rattle.store_word.specs.declared.word.Content.TheVariants.{Null, Nil, List as ListAt, Struct as StructAt, Header, HeaderForward, GcForward, Fixnum}

-- a word: its cdr code and its content
pub record Parts : Type 0 where
  pub cdr : CdrCode
  pub content : Content

-- the kind of a word
abbrev pub tag_of : Content → Tag
tag_of Null = NullTag
tag_of Nil = NilTag
tag_of (ListAt at) = ListTag
tag_of (StructAt at) = StructTag
tag_of (Header code length) = HeaderTag
tag_of (HeaderForward at) = HeaderForwardTag
tag_of (GcForward at) = GcForwardTag
tag_of (Fixnum number) = FixnumTag

-- the address in a word; only LIST, STRUCT and the two forwards have one
abbrev pub address_of : Content → Option ℕ
address_of Null = None
address_of Nil = None
address_of (ListAt at) = Some at
address_of (StructAt at) = Some at
address_of (Header code length) = None
address_of (HeaderForward at) = Some at
address_of (GcForward at) = Some at
address_of (Fixnum number) = None

-- the number in a word; only a fixnum has one
abbrev pub number_of : Content → Option ℤ
number_of Null = None
number_of Nil = None
number_of (ListAt at) = None
number_of (StructAt at) = None
number_of (Header code length) = None
number_of (HeaderForward at) = None
number_of (GcForward at) = None
number_of (Fixnum number) = Some number

-- the code and the length in a header
abbrev pub header_of : Content → Option (ℕ × ℕ)
header_of Null = None
header_of Nil = None
header_of (ListAt at) = None
header_of (StructAt at) = None
header_of (Header code length) = Some (code, length)
header_of (HeaderForward at) = None
header_of (GcForward at) = None
header_of (Fixnum number) = None

-- a cdr code as two bits
abbrev pub cdr_bits : CdrCode → ℕ
cdr_bits Next = 0
cdr_bits CodedNil = 1
cdr_bits Normal = 2
cdr_bits Second = 3

-- the 34 bits below the cdr code
abbrev pub content_bits : Content → ℕ
content_bits Null = 0
content_bits Nil = 1 * 2 ^ 28
content_bits (ListAt at) = 2 * 2 ^ 28 + at
content_bits (StructAt at) = 3 * 2 ^ 28 + at
content_bits (Header code length) = 4 * 2 ^ 28 + (code * 2048 + length)
content_bits (HeaderForward at) = 5 * 2 ^ 28 + at
content_bits (GcForward at) = 6 * 2 ^ 28 + at
content_bits (Fixnum number) = 2 ^ 32 + cast_unsigned w32 number

-- the number that a word is kept as
abbrev pub bits_of : Parts → ℕ
bits_of p = cdr_bits p.cdr * 2 ^ 34 + content_bits p.content

-- the cdr code of two bits
abbrev pub cdr_from : ℕ → CdrCode
cdr_from n = if n == 0 then Next else if n == 1 then CodedNil else if n == 2 then Normal else Second

-- the content that the bits below the cdr code represent, by the major tag, the minor tag and the low 32 bits
abbrev pub content_from : ℕ → ℕ → ℕ → Content
content_from major minor low =
    if major == 1 then Fixnum (cast_signed w32 low)
    else if minor == 0 then Null
    else if minor == 1 then Nil
    else if minor == 2 then ListAt (low % 2 ^ 28)
    else if minor == 3 then StructAt (low % 2 ^ 28)
    else if minor == 4 then Header (low % 2 ^ 28 / 2048) (low % 2048)
    else if minor == 5 then HeaderForward (low % 2 ^ 28)
    else GcForward (low % 2 ^ 28)

-- the word that a number represents
abbrev pub parts_from : ℕ → Parts
parts_from n = record { cdr = cdr_from (n / 2 ^ 34); content = content_from (n / 2 ^ 32 % 4) (n / 2 ^ 28 % 16) (n % 2 ^ 32) }

-- a number is a word of the format
pub record IsWord (n : ℕ) : Type 0 where
  pub short : n < 2 ^ 36
  pub major : n / 2 ^ 32 % 4 < 2
  pub minor : n / 2 ^ 32 % 4 ≡ 0 → n / 2 ^ 28 % 16 < 7
  pub blank : n / 2 ^ 32 % 4 ≡ 0 → n / 2 ^ 28 % 16 < 2 → n % 2 ^ 28 ≡ 0
  pub header : n / 2 ^ 32 % 4 ≡ 0 → n / 2 ^ 28 % 16 ≡ 4 → n % 2 ^ 28 < 2 ^ 27

-- a number is no word, for one of the five reasons
abbrev pub NoWord : ℕ → Type 0
NoWord n =
    (2 ^ 36 ≤ n)
    ⊎ (2 ≤ n / 2 ^ 32 % 4)
    ⊎ ((n / 2 ^ 32 % 4 ≡ 0) × (7 ≤ n / 2 ^ 28 % 16))
    ⊎ ((n / 2 ^ 32 % 4 ≡ 0) × (n / 2 ^ 28 % 16 < 2) × (0 < n % 2 ^ 28))
    ⊎ ((n / 2 ^ 32 % 4 ≡ 0) × (n / 2 ^ 28 % 16 ≡ 4) × (2 ^ 27 ≤ n % 2 ^ 28))

-- whether a number is a word of the format
abbrev pub is_word : ℕ → Bool
is_word n =
    let major = n / 2 ^ 32 % 4 in
    let minor = n / 2 ^ 28 % 16 in
    let low = n % 2 ^ 28 in
    nat_lt n (2 ^ 36) && (major == 1 || (major == 0 && (if nat_lt minor 2 then low == 0 else if minor == 4 then nat_lt low (2 ^ 27) else nat_lt minor 7)))

-- the word that is kept as a number, if there is one
abbrev pub word_from : ℕ → Option Parts
word_from n = if is_word n then Some (parts_from n) else None

-- addresses, headers and numbers within the ranges of a word
abbrev pub IsContent : Content → Type 0
IsContent Null = Unit {0}
IsContent Nil = Unit {0}
IsContent (ListAt at) = at < 2 ^ 28
IsContent (StructAt at) = at < 2 ^ 28
IsContent (Header code length) = (code < 2 ^ 16) × (length < 2048)
IsContent (HeaderForward at) = at < 2 ^ 28
IsContent (GcForward at) = at < 2 ^ 28
IsContent (Fixnum number) = FitsSigned w32 number

-- the word of an empty place
abbrev pub null_word : Parts
null_word = record { cdr = Next; content = Null }
