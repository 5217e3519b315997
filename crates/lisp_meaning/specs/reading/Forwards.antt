-- Forwards, and the addresses to which they lead.
use Rattle.std.specs.Prelude.{◌≡◌, ℕ, suc, ◌≤◌, Option, Some, None}
use Rattle.lisp_graph.specs.store_word.declared.word.Content.{Content}
use Rattle.lisp_graph.specs.store_word.declared.word.Content.TheVariants.{HeaderForward, GcForward}
use Rattle.lisp_meaning.specs.reading.Image.{Image, word}

-- the address to which a forward leads
abbrev pub forward_of : Content → Option ℕ
forward_of (HeaderForward a) = Some a
forward_of (GcForward a) = Some a
forward_of _ = None

-- a leads to b over `moves` GC-FORWARDs and `relays` HEADER-FORWARDs, whose numbers are the first two arguments, and the word at b is no forward
pub data Leads (g : Image) : ℕ → ℕ → ℕ → ℕ → Type 0 where
  here : {a : ℕ} → forward_of (word g a).content ≡ None → Leads g 0 0 a a
  gc_forward : {moves relays a b c : ℕ} → (word g a).content ≡ GcForward b → Leads g moves relays b c → Leads g (suc moves) relays a c
  header_forward : {moves relays a b c : ℕ} → (word g a).content ≡ HeaderForward b → Leads g moves relays b c → Leads g moves (suc relays) a c

-- b is the final address of a: it is reached over at most one GC-FORWARD and eleven HEADER-FORWARDs
abbrev pub Final : Image → ℕ → ℕ → Type 0
Final g a b = (moves relays : ℕ) × (moves ≤ 1) × (relays ≤ 11) × Leads g moves relays a b
