use Rattle.std.proofs.Common.{arith}
use Rattle.transporter.proofs.RunCuts.{copies-cut}
use Rattle.transporter.proofs.copying.copy_parcel.Goals as goal

pub returns-in_ok-make_last_pair-in-Some-clause-written : goal.returns-in_ok-make_last_pair-in-Some-clause-written
returns-in_ok-make_last_pair-in-Some-clause-written g c =
    let fits = c.requires.fits in
    let a = fits.some in
    let b = fits.each in
    copies-cut _ _ _ c.args.parcel.now c.args.to _ c.in-Some.is (omega arith) c.requires.apart c.in_ok-copy_words-in-Some.ensures.written c.in_ok-make_last_pair-in-Some.ensures.pair
