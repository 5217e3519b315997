-- Objects in memory.
use Rattle.std.specs.Prelude.{◌≡◌, ℕ, suc, ◌+◌, ◌<◌, ◌≤◌, Bool, false, ◌&&◌, nat_le, nat_lt, List, length, get_or, IsTrue}
use Rattle.lisp_graph.specs.store_word.Words.{Parts}
use Rattle.lisp_graph.specs.store_word.declared.word.CdrCode.{CdrCode}
use Rattle.lisp_graph.specs.store_word.declared.word.CdrCode.TheVariants.{Next as CdrNext, Nil as CdrNil, Normal as CdrNormal, Second as CdrSecond}
use Rattle.lisp_graph.specs.store_word.declared.word.Content.{Content}
use Rattle.lisp_graph.specs.store_word.declared.word.Content.TheVariants.{List as ListAt, Header}
use Rattle.lisp_graph.specs.declared.object.Value.{Value}
use Rattle.lisp_graph.specs.declared.object.Value.TheVariants as V
use Rattle.lisp_graph.specs.declared.object.Body.TheVariants.{Cons, Block}
use Rattle.lisp_graph.specs.declared.object.Object.{Object}
use Rattle.lisp_meaning.specs.machine.State.{Store, object, in_use}
use Rattle.lisp_meaning.specs.reading.Image.{Image, word, region, is_free, is_used}
use Rattle.lisp_meaning.specs.reading.Forwards.{Final}
use Rattle.lisp_meaning.specs.reading.Value.{Means}

-- an object is stored at an address: as a pair of charge 2 or 3, the last cell of a list, a cell followed by the rest of its list, or a block
pub data StandsAt (g : Image) (s : Store) (at : ℕ → ℕ) : ℕ → Object → Type 0 where
  pair_2 : (a : ℕ) {o : Object} {car cdr : Value} → o.body ≡ Cons car cdr → o.charge ≡ 2
      → (word g a).cdr ≡ CdrNormal → Means g s at (word g a).content car
      → (word g (suc a)).cdr ≡ CdrSecond → Means g s at (word g (suc a)).content cdr → StandsAt g s at a o
  pair_3 : (a : ℕ) {o : Object} {car cdr : Value} → o.body ≡ Cons car cdr → o.charge ≡ 3
      → (word g a).cdr ≡ CdrNormal → Means g s at (word g a).content car
      → (word g (suc a)).cdr ≡ CdrNext → Means g s at (word g (suc a)).content cdr → StandsAt g s at a o
  last_cell : (a : ℕ) {o : Object} {car : Value} → o.body ≡ Cons car V.Nil → o.charge ≡ 3
      → (word g a).cdr ≡ CdrNil → Means g s at (word g a).content car → StandsAt g s at a o
  -- the cdr is what a reference to the next word would be
  cell : (a : ℕ) {o : Object} {car cdr : Value} → o.body ≡ Cons car cdr → o.charge ≡ 3
      → (word g a).cdr ≡ CdrNext → Means g s at (word g a).content car
      → Means g s at (ListAt (suc a)) cdr → StandsAt g s at a o
  whole_block : (a : ℕ) {o : Object} {code : ℕ} {fields : List Value} → o.body ≡ Block code fields → o.charge ≡ suc (length fields)
      → (word g a).cdr ≡ CdrNext → (word g a).content ≡ Header code (length fields)
      → ((i : ℕ) → i < length fields → Means g s at (word g (suc a + i)).content (get_or fields i V.Nil)) → StandsAt g s at a o

abbrev pub words_of : Content → CdrCode → ℕ
words_of (Header code n) c = suc n
words_of _ CdrNormal = 2
words_of _ _ = 1

-- how many words the object has that begins with this word
abbrev pub words_at : Parts → ℕ
words_at w = words_of w.content w.cdr

-- b is a word of the object that begins at a
abbrev pub Within : Image → ℕ → ℕ → Type 0
Within g a b = (a ≤ b) × (b < a + words_at (word g a))

-- the same, as a test
abbrev pub is_within : Image → ℕ → ℕ → Bool
is_within g a b = nat_le a b && nat_lt b (a + words_at (word g a))

-- each held name's object is stored at its address, which is final and below a used end, and no word is part of two objects
pub record Objects (g : Image) (s : Store) (at : ℕ → ℕ) : Type 0 where
  pub names : (n : ℕ) → in_use s n → n < length s.objects
  pub final : (n : ℕ) → in_use s n → Final g (at n) (at n)
  pub used : (n : ℕ) → in_use s n → IsTrue (is_used g (at n)) × (is_free (region g (at n)).standing ≡ false)
  pub stands : (n : ℕ) → in_use s n → StandsAt g s at (at n) (object s n)
  pub apart : (m n a : ℕ) → in_use s m → in_use s n → Within g (at m) a → Within g (at n) a → m ≡ n
