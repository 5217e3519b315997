-- The value of a word under a naming. A naming gives an address for each name; only those of held names count.
use Rattle.std.specs.Prelude.{◌≡◌, ℕ, ℤ, List}
use Rattle.lisp_graph.specs.store_word.declared.word.Content.{Content}
use Rattle.lisp_graph.specs.store_word.declared.word.Content.TheVariants.{Nil as NilWord, Fixnum, List as ListAt, Struct as StructAt}
use Rattle.lisp_graph.specs.declared.object.Value.{Value}
use Rattle.lisp_graph.specs.declared.object.Value.TheVariants as V
use Rattle.lisp_graph.specs.declared.object.Body.TheVariants.{Cons, Block}
use Rattle.lisp_meaning.specs.machine.State.{Store, object, in_use}
use Rattle.lisp_meaning.specs.reading.Image.{Image}
use Rattle.lisp_meaning.specs.reading.Forwards.{Final}

-- no two held names have one address
abbrev pub Distinct : Store → (ℕ → ℕ) → Type 0
Distinct s at = (m n : ℕ) → in_use s m → in_use s n → at m ≡ at n → m ≡ n

-- the value of a word: a number, nil, or the held name at the final address of a reference, which is a cons or a block according to the tag. All else has no value
pub data Means (g : Image) (s : Store) (at : ℕ → ℕ) : Content → Value → Type 0 where
  fixnum : (i : ℤ) → Means g s at (Fixnum i) (V.Fix i)
  nil : Means g s at NilWord V.Nil
  cons : (a n : ℕ) {car cdr : Value} → Final g a (at n) → in_use s n → (object s n).body ≡ Cons car cdr → Means g s at (ListAt a) (V.Ref n)
  block : (a n : ℕ) {code : ℕ} {fields : List Value} → Final g a (at n) → in_use s n → (object s n).body ≡ Block code fields → Means g s at (StructAt a) (V.Ref n)
