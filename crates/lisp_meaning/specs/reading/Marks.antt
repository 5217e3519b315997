-- The law of marks.
use Rattle.std.specs.Prelude.{◌≡◌, ℕ, ◌/◌, ◌≤◌, false, Some, IsTrue}
use Rattle.lisp_graph.specs.store_word.declared.sizes.TheConstants.{PAGE_WORDS}
use Rattle.lisp_graph.specs.store_word.Words.{address_of}
use Rattle.lisp_meaning.specs.reading.Image.{Image, word, region, is_free}

-- a page is marked with the level, if it is 1 or more, of each address on the page; and no word has an address in a free region
pub record Marks (g : Image) : Type 0 where
  pub marked : (a b : ℕ) → address_of (word g a).content ≡ Some b → 1 ≤ (region g b).level → IsTrue (g.marks (a / PAGE_WORDS) (region g b).level)
  pub not_free : (a b : ℕ) → address_of (word g a).content ≡ Some b → is_free (region g b).standing ≡ false
