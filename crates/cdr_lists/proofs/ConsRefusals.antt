-- A word that refers to a cons isn't refused.
use Rattle.std.proofs.Common.{◌≡◌, ◌≢◌, ℕ, true, false, Result, Err, sym, ap, ◌∙◌}
use Rattle.store_word.specs.Words.{Parts, tag_of}
use Rattle.store_word.specs.declared.word.Tag.TheVariants.{List as ListTag}
use Rattle.area_space.specs.View.{GroundView}
use Rattle.cdr_lists.specs.Faults.{is_fault}
use Rattle.cdr_lists.specs.Refusing.{RefusesOthers}
use Rattle.cdr_lists.specs.declared.fault.ListFault.{ListFault}
use Rattle.cdr_lists.specs.declared.fault.ListFault.TheVariants.{NotACons}

pub refuses_none : {T : Type 0} (v v' : GroundView) (of : Parts) (result : Result T ListFault) (steps steps' : ℕ) → (result ≡ Err NotACons → ⊥) → ((tag_of of.content ≢ ListTag) → ⊥) → RefusesOthers v v' of result steps steps'
refuses_none v v' of result steps steps' answers cons =
    record { not_a_cons = ((λ e. absurd (answers e)), (λ other. absurd (cons other))); unread = λ e. absurd (answers e); unstored = λ e. absurd (answers e) }

-- a swap error isn't a refusal of the word
pub fault-refuses_none : {T : Type 0} (result : Result T ListFault) → is_fault result ≡ true → result ≡ Err NotACons → ⊥
fault-refuses_none {T} result is e = (let both : false ≡ true = sym (ap (λ (r : Result T ListFault). is_fault r) e) ∙ is in cc)
