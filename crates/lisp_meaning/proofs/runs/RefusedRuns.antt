-- The runs and the words that are refused.
use Rattle.std.proofs.Common.{None, subst, ◌≡◌, ◌==◌, ℕ, zero, suc, ◌+◌, ◌<◌, Bool, true, false, if◌then◌else◌, refl, ap, arith}
use Rattle.lisp_meaning.specs.machine.Opening.{opening, IsWhole}
use Rattle.lisp_meaning.specs.examples.Worked.{image, nothing}
use Rattle.lisp_meaning.specs.reading.Image.{Image, is_live, word}
use Rattle.lisp_meaning.specs.reading.Stands.{Owned, by_object, by_forward, by_husk}
use Rattle.lisp_graph.specs.store_word.Words.{Parts}
use Rattle.lisp_graph.specs.store_word.declared.word.Content.TheVariants.{HeaderForward}
use Rattle.lisp_meaning.specs.reading.Objects.{Within}
use Rattle.lisp_meaning.specs.examples.Refused as E
use Rattle.lisp_meaning.specs.examples.Refused.{Trial, Refuses, stale_words, stale_store}
use Rattle.lisp_meaning.proofs.closure.Transitions.{opening_sound}
use Rattle.lisp_meaning.proofs.runs.Refutations.{cannot, no_run}

-- by computation
pub refuses : (t : Trial) → IsWhole t.start → cannot (opening t.start) t.commands t.answers ≡ true → Refuses t
refuses t whole never shown = no_run (opening t.start) t.commands t.answers shown.0 (opening_sound t.start whole) never shown.1

-- Words

pub left_is_used : E.LeftIsUsed
left_is_used = record {
  above = λ x. (let y = (x.left 5 (omega arith) refl).0 in absurd (cc));
  old = λ x. (let y = (x.left 5 (omega arith) refl).1 in let z = ap is_live y in absurd (cc));
}

abbrev g : Image
g = image stale_words nothing nothing None

abbrev at : ℕ → ℕ
at n = if n == 0 then 1 else 3

not_within : (n : ℕ) → (b : Bool) → (n == 0) ≡ b → Within g (at n) 5 → ⊥
not_within n true e w =
    let P : Bool → Type 0 = λ x. Within g (if x then 1 else 3) 5 in
    let low : 5 < 1 + 2 = (subst P e w).1 in
    absurd (omega arith)
not_within n false e w =
    let P : Bool → Type 0 = λ x. Within g (if x then 1 else 3) 5 in
    let low : 5 < 3 + 2 = (subst P e w).1 in
    absurd (omega arith)

-- the first word alone is a forward
only_first : (first to : ℕ) → first < 5 → (word g first).content ≡ HeaderForward to → first ≡ 0
only_first zero to l e = refl
only_first (suc zero) to l e = cc
only_first (suc (suc zero)) to l e = cc
only_first (suc (suc (suc zero))) to l e = cc
only_first (suc (suc (suc (suc zero)))) to l e = cc
only_first (suc (suc (suc (suc (suc first))))) to l e = absurd (omega arith)

not_owned : Owned g stale_store at 5 → ⊥
not_owned (by_object n u w) = not_within n (n == 0) refl w
not_owned (by_forward n f) = let x = f.content in absurd (cc)
not_owned (by_husk n first f after blank near code length head) =
    let e = only_first first f.to after f.content in
    let header = ap (λ (w : Parts). w.content) (blank 1 (omega arith) (omega arith)) in
    absurd (cc)

pub husk_is_short : E.HuskIsShort
husk_is_short none = not_owned (none 5 refl refl)
