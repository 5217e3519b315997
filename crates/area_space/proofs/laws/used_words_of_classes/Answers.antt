use Rattle.area_space.proofs.UsedWords.{opened_words, committed_words, committed_words_other, condemned_live_words, condemned_old_words, freed_live_words, freed_old_words}
use Rattle.area_space.proofs.laws.used_words_of_classes.Goals as goal

pub returns : goal.returns
returns c = record {
  opening = opened_words;
  commit = committed_words;
  others = committed_words_other;
  flipped_live = condemned_live_words;
  flipped_old = condemned_old_words;
  freed_live = freed_live_words;
  freed_old = freed_old_words;
}
