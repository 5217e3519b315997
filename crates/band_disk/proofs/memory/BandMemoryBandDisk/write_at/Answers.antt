use Rattle.std.proofs.Common.{subst}
use Rattle.band_disk.specs.Logs.{Wrote, accepts}
use Rattle.band_disk.proofs.DiskCalls.{Went, call_went, elapses, on_ok, write_follows, write_written}
use Rattle.band_disk.proofs.memory.BandMemoryBandDisk.write_at.Goals as goal

pub returns-clause-written : goal.returns-clause-written
returns-clause-written c =
    let call = Wrote c.args.at c.args.from.now in
    let went = call_went c.args.self.now c.write.new.self call c.write.ensures.after in
    on_ok c.write.result (accepts c.args.self.now call) _ c.write.ensures.ok (λ made. write_written c.args.self.now c.write.new.self c.args.at c.args.from.now (subst (Went c.args.self.now c.write.new.self call) made went))

pub returns-clause-images : goal.returns-clause-images
returns-clause-images c =
    let call = Wrote c.args.at c.args.from.now in
    write_follows c.args.self.now c.write.new.self c.args.at c.args.from.now (accepts c.args.self.now call) (call_went _ _ call c.write.ensures.after)

pub returns-clause-time : goal.returns-clause-time
returns-clause-time c =
    let call = Wrote c.args.at c.args.from.now in
    elapses c.args.self.now c.write.new.self call (accepts c.args.self.now call) (call_went _ _ call c.write.ensures.after)
