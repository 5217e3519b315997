use Rattle.std.proofs.Common.{◌∙◌, ap, map}
use Rattle.band_store.specs.Directory.{directory, index, sizes}
use Rattle.band_store.specs.Format.{Save}
use Rattle.band_store.proofs.LastSaves.{directory_last}
use Rattle.band_store.proofs.Records.{ordered_last}
use Rattle.band_store.proofs.Texts.{same_listing, texts_stand}
use Rattle.band_store.proofs.laws.directories_have_last_texts.Goals as goal

pub returns-clause-last : goal.returns-clause-last
returns-clause-last c = directory_last

pub returns-clause-order : goal.returns-clause-order
returns-clause-order c saves = ordered_last (map (λ (save : Save). (save.name, save.text)) saves)

pub returns-clause-listed : goal.returns-clause-listed
returns-clause-listed c store bytes saves is = ap sizes is.names ∙ same_listing bytes (index saves) (directory saves) (texts_stand saves bytes is.holds)
