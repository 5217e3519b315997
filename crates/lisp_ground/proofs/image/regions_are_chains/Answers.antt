use Rattle.std.proofs.Common.{◌∙◌}
use Rattle.lisp_ground.proofs.regions.Regions.{region_is, region_free, region_live, region_old}
use Rattle.lisp_ground.proofs.regions.OldAndLive.{live_region, old_region}
use Rattle.lisp_ground.proofs.words.UsedByRegion.{live_words_are}
use Rattle.lisp_ground.proofs.image.regions_are_chains.Goals as goal

pub returns-clause-regions : goal.returns-clause-regions
returns-clause-regions c = record {
  live_is = λ m t rest r slot v has. region_is m t rest r v ∙ region_live t r slot v has;
  old_is = λ m t rest r slot v has. region_is m t rest r v ∙ region_old t r slot v has;
  free_is = λ m t rest r v free. region_is m t rest r v ∙ region_free t r free;
  live_only = λ m t rest v a e. live_region m t rest v a e;
  old_only = λ m t rest v a e. old_region m t rest v a e;
}

pub returns-clause-used : goal.returns-clause-used
returns-clause-used c = live_words_are
