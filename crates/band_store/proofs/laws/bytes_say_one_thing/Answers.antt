use Rattle.band_store.proofs.UniqueAnswers.{damaged_is_store, damaged_once, held_is_store, holds_once, not_both}
use Rattle.band_store.proofs.laws.bytes_say_one_thing.Goals as goal

pub returns : goal.returns
returns c = record { saves = holds_once; place = damaged_once; whole = not_both; held = held_is_store; damaged = damaged_is_store }
