use Rattle.std.proofs.Common.{◌≡◌, ◌*◌, ap, sym, ◌∙◌, arith}
use Rattle.std.specs.Prelude.{replicate}
use Rattle.store_word.specs.Words.{null_word}
use Rattle.paged_memory.specs.Moves.{paging_of}
use Rattle.paged_memory.proofs.NewMemory.{IsNew, new_paged, new_frames, new_fresh}
use Rattle.paged_memory.proofs.paged.PagedMemory.open.Given.{Over}
use Rattle.paged_memory.proofs.paged.PagedMemory.open.Goals.{In-Ok-prepare}
use Rattle.paged_memory.proofs.paged.PagedMemory.open.Goals as goal

made : (g : Over) (c : In-Ok-prepare g) → IsNew (paging_of c.in-Ok.pager) (g.D.Swap.stored c.prepare.new.self) c.args.space.now.frames c.args.space.now.regions c.args.space.now.levels
made g c = record {
  few = c.requires.regions;
  enough = c.requires.at_least;
  deep = c.requires.levels;
  sound = c.in-Ok.ensures.sound;
  pool = c.in-Ok.ensures.frames;
  places = c.in-Ok.ensures.places;
  rows = c.in-Ok.ensures.sets;
  levels = c.in-Ok.ensures.levels;
  top = c.in-Ok.ensures.level;
  stored_is = c.in-Ok-prepare.ensures.ok;
}

pub invariant_of-result : goal.invariant_of-result
invariant_of-result g c =
    let new = made g (goal.at.invariant_of-result g c).In-Ok-prepare in
    (new_paged _ _ _ _ _ new, sym (new_frames _ _ _ _ _ new), omega (arith, c.in-Ok-vec.ensures.len, c.in-Ok-vec.buffer.ok.0))

pub returns-in-Ok-prepare-clause-fresh : goal.returns-in-Ok-prepare-clause-fresh
returns-in-Ok-prepare-clause-fresh g c = new_fresh _ _ c.args.space.now.frames _ _ (made g (goal.at.returns-in-Ok-prepare-clause-fresh g c).In-Ok-prepare)

pub returns-in-Ok-prepare-clause-ok : goal.returns-in-Ok-prepare-clause-ok
returns-in-Ok-prepare-clause-ok g c =
    let size : 256 * (c.args.space.now.regions * 16) ≡ 4096 * c.args.space.now.regions = omega arith in
    c.in-Ok-prepare.ensures.ok ∙ ap (λ n. replicate n null_word) size
