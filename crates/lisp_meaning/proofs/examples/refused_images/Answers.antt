use Rattle.lisp_meaning.proofs.examples.refused_images.Goals as goal
use Rattle.lisp_meaning.proofs.runs.MisreadImages as misread

pub returns : goal.returns
returns c = record {
  words_apart = misread.words_apart;
  chain_is_full = misread.chain_is_full;
  null_above = misread.null_above;
  husks_are_few = misread.husks_are_few;
  page_is_marked = misread.page_is_marked;
  none_is_free = misread.none_is_free;
  old_is_left = misread.old_is_left;
  account_is_true = misread.account_is_true;
  spared_stays_live = misread.spared_stays_live;
  doomed_moves_bound = misread.doomed_moves_bound;
  phase_is_told = misread.phase_is_told;
  work_is_owed = misread.work_is_owed;
}
