use Rattle.store_word.proofs.SetLaws.{has_none, has_one, has_low, has_either, has_without, has_all, meets_at, apart_at}
use Rattle.store_word.proofs.levels.calls_are_of_sets.Goals as goal

pub returns : goal.returns
returns c = record { empty = has_none; one = has_one; up_to = has_low; union = has_either; remove = has_without; contains = has_all; intersects = meets_at; apart = apart_at }
