use Rattle.std.proofs.lemmas.Bool.{OnTrue_from, OnFalse_from, eqb-true, eqb-false}
use Rattle.store_word.proofs.Addresses.{tag_told}
use Rattle.store_word.proofs.word.has_address.Goals as goal

pub returns-clause-on_true : goal.returns-clause-on_true
returns-clause-on_true c = OnTrue_from _ _ (λ h. (tag_told c.args.bits c.requires).0 (eqb-true _ _ h))

pub returns-clause-on_false : goal.returns-clause-on_false
returns-clause-on_false c = OnFalse_from _ _ (λ h. (tag_told c.args.bits c.requires).1 (eqb-false _ _ h))
