use Rattle.std.proofs.Common.{ℕ, ap, ◌∙◌}
use Rattle.std.proofs.lemmas.List.{length-replicate}
use Rattle.frame_pool.specs.Pool.{Pool, frames_of}
use Rattle.bench_parts.proofs.frames.run.Goals as goal

pub loop-init : goal.loop-init
loop-init g c = ap (λ (p : Pool). frames_of p) c.in-Ok.ensures.fresh ∙ length-replicate {A = ℕ} c.args.frames 0
