use Rattle.std.proofs.Common.{◌++◌, List, ℕ, sym, ap, ◌∙◌, arith}
use Rattle.band_store.specs.Directory.{sizes}
use Rattle.band_run.specs.Replies.{band_line}
use Rattle.band_run.proofs.NameLines.{length-sizes, lines_all, lines_more, some_there}
use Rattle.band_run.proofs.answers.lines_of.Goals as goal
use Rattle.band_run.proofs.answers.lines_of.Goals.{in-Some+in_ok-push_band, in_default}

pub loop-index-preserved : goal.loop-index-preserved
loop-index-preserved c =
    elim c.match-band.branch [
      | in-Some+in_ok-push_band w ↦ w.lines-is ∙ w.in_ok-push_band.ensures ∙ ap (λ (l : List ℕ). l ++ band_line (w.in-Some.name, w.in-Some.size)) c.loop-index.invariant ∙ sym (lines_more (sizes c.args.store.now.bands) c.loop-index.index (w.in-Some.name, w.in-Some.size) w.in-Some.ensures)
      | in_default w ↦ absurd (some_there (sizes c.args.store.now.bands) c.loop-index.index (omega (arith, c.loop-index-test.true, c.count-index-end.ensures, length-sizes c.args.store.now.bands)) w.in_default.ensures)
    ]

pub returns : goal.returns
returns c = c.loop-index.invariant ∙ lines_all c.args.store.now.bands c.loop-index.index (omega (arith, c.loop-index-test.false, c.count-index-end.ensures))
