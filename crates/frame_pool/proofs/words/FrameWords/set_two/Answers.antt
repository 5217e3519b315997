use Rattle.std.proofs.Common.{◌+◌, ◌*◌, ◌≤◌, arith}
use Rattle.frame_pool.proofs.PaddedWords.{length-padded, stored_two}
use Rattle.frame_pool.proofs.words.FrameWords.set_two.Goals as goal

pub returns : goal.returns
returns c =
    let s = c.self.invariant.0 in
    let xs = c.self.inside.stored.items in
    let n = 256 * c.self.inside.frames in
    let inside = rw (← c.self.view_is) at c.requires.frame in
    let end : c.args.frame * 256 + 256 ≤ n = omega (arith, inside, length-padded n xs s.within) in
    rw (← c.self.view_is)
    (stored_two n (c.args.frame * 256 + 256) (c.args.frame * 256 + c.args.offset) (256 * c.args.frame + c.args.offset) (256 * c.args.frame + (c.args.offset + 1)) xs c.reach.new.stored.items c.args.first c.args.second c.reach.ensures.items s.within end (omega arith) (omega arith) (omega arith))
