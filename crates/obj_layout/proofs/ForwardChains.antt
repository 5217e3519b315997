-- Forwards are followed one by one.
use Rattle.std.proofs.Common.{ℕ, suc, ◌≡◌, ◌+◌, ◌<◌, ◌≤◌, List, Option, Some, None, length, slice_get, refl, sym, ◌∙◌, ap, subst, inl, inr, arith}
use Rattle.std.proofs.lemmas.Bool.{cases_lt}
use Rattle.std.proofs.lemmas.List.{get_or_past}
use Rattle.std.proofs.lemmas.Option.{get_or_from_slice_get}
use Rattle.mem_port.specs.Store.{Store, StoresNothing}
use Rattle.store_word.specs.Words.{Parts, null_word}
use Rattle.obj_layout.specs.declared.forwards.TheConstants.{FORWARD_LIMIT}
use Rattle.obj_layout.specs.Forwards.{word_at, forward_of, Leads, here, on, Final, IsFinal}

-- two calls, one after the other, that store nothing
pub stores_nothing-twice : {a b c : Store} → StoresNothing a b → StoresNothing b c → StoresNothing a c
stores_nothing-twice first second = record {
  words = second.words ∙ first.words;
  levels = second.levels ∙ first.levels;
  top = second.top ∙ first.top;
  unmarked = λ page none. second.unmarked page (first.unmarked page none);
}

-- a read returns the word at the address, also in a memory that has the same words
pub word_at-read : (old new : List Parts) (at : ℕ) (word : Parts) → new ≡ old → slice_get new at ≡ Some word → word_at old at ≡ word
word_at-read old new at word same found = get_or_from_slice_get old at word null_word (rw (← same) found)

-- the address to which it leads
pub forward-read : (old new : List Parts) (at : ℕ) (word : Parts) (to : Option ℕ) → new ≡ old → slice_get new at ≡ Some word → to ≡ forward_of word.content → forward_of (word_at old at).content ≡ to
forward-read old new at word to same found is = ap (λ (w : Parts). forward_of w.content) (word_at-read old new at word same found) ∙ sym is

-- there is no forward past the last word
pub forward-inside : (words : List Parts) (at to : ℕ) → forward_of (word_at words at).content ≡ Some to → at < length words
forward-inside words at to leads =
    elim (cases_lt at (length words)) [
      | inl inside ↦ inside
      | inr past ↦
          let null : word_at words at ≡ null_word = get_or_past words at null_word past in
          let none : None ≡ Some to = sym (ap (λ (w : Parts). forward_of w.content) null) ∙ leads in
          absurd (cc)
    ]

-- a way from a word that isn't a forward ends there
pub leads-none : {words : List Parts} {count at to : ℕ} → Leads words count at to → forward_of (word_at words at).content ≡ None → to ≡ at
leads-none (here none) is = refl
leads-none (on some rest) is = absurd (cc)

-- a way that ends in the memory begins there
pub leads-inside : {words : List Parts} {count at to : ℕ} → Leads words count at to → to < length words → at < length words
leads-inside (here none) inside = inside
leads-inside {words} {count} {at} (on {next = next} some rest) inside = forward-inside words at next some

-- a way from a forward goes on from the address to which that leads
pub leads-next : {words : List Parts} {count at to : ℕ} (next : ℕ) → Leads words count at to → forward_of (word_at words at).content ≡ Some next
    → (left : ℕ) × (count ≡ suc left) × Leads words left next to
leads-next next (here none) is = absurd (cc)
leads-next {words} {count} {at} {to} next (on {count = left} {next = there} some rest) is =
    let same : there ≡ next = cc in
    (left, refl, subst (λ (a : ℕ). Leads words left a to) same rest)

-- two ways from an address end at one address
pub leads-same : {words : List Parts} {m n at a b : ℕ} → Leads words m at a → Leads words n at b → a ≡ b
leads-same (here none) other = sym (leads-none other none)
leads-same (on {next = next} some rest) other = leads-same rest (leads-next next other some).2

-- the way to the final address of `at`, from a place that it has reached in `turns` turns
pub record Way (words : List Parts) (at turns place : ℕ) : Type 0 where
  pub to : ℕ
  pub inside : to < length words
  pub final : Final words at to
  pub count : ℕ
  pub few : turns + count ≤ FORWARD_LIMIT
  pub leads : Leads words count place to

-- it stays within the memory
pub way-inside : (words : List Parts) (at turns place : ℕ) → Way words at turns place → place < length words
way-inside words at turns place way = leads-inside way.leads way.inside

-- it goes on to the address to which a forward leads
pub way-goes_on : (words : List Parts) (at turns place next : ℕ) → Way words at turns place → forward_of (word_at words place).content ≡ Some next → Way words at (turns + 1) next
way-goes_on words at turns place next way some =
    let rest = leads-next next way.leads some in
    record { to = way.to; inside = way.inside; final = way.final; count = rest.0; few = (let a = rest.1 in let b = way.few in omega arith); leads = rest.2 }

-- it ends at a word that isn't a forward
pub way-ends : (words : List Parts) (at turns place : ℕ) → Way words at turns place → forward_of (word_at words place).content ≡ None → Final words at place × IsFinal words place
way-ends words at turns place way none =
    let same : way.to ≡ place = leads-none way.leads none in
    (subst (λ (a : ℕ). Final words at a) same way.final, record { inside = subst (λ (a : ℕ). a < length words) same way.inside; no_forward = none })
