use Rattle.std.proofs.Common.{refl}
use Rattle.lisp_graph.specs.declared.command.Command.TheVariants as C
use Rattle.heap_state.specs.Reads.{reply_of}
use Rattle.test_collect.proofs.acting.act.Goals as goal

pub returns-in-Move-clause-some : goal.returns-in-Move-clause-some
returns-in-Move-clause-some g c = record { command = C.Move c.in-Move.to c.in-Move.from; reply = reply_of c.copy_register.result; allowed = tt; acts = λ s. (_, refl); performs = c.copy_register.ensures.performs }

pub returns-in-Car-clause-some : goal.returns-in-Car-clause-some
returns-in-Car-clause-some g c = record { command = C.Car c.in-Car.to c.in-Car.from; reply = reply_of c.car.result; allowed = tt; acts = λ s. (_, refl); performs = c.car.ensures.performs }

pub returns-in-Cdr-clause-some : goal.returns-in-Cdr-clause-some
returns-in-Cdr-clause-some g c = record { command = C.Cdr c.in-Cdr.to c.in-Cdr.from; reply = reply_of c.cdr.result; allowed = tt; acts = λ s. (_, refl); performs = c.cdr.ensures.performs }

pub returns-in-Rplaca-clause-some : goal.returns-in-Rplaca-clause-some
returns-in-Rplaca-clause-some g c = record { command = C.Rplaca c.in-Rplaca.target c.in-Rplaca.from; reply = reply_of c.rplaca.result; allowed = tt; acts = λ s. (_, refl); performs = c.rplaca.ensures.performs }

pub returns-in-Rplacd-clause-some : goal.returns-in-Rplacd-clause-some
returns-in-Rplacd-clause-some g c = record { command = C.Rplacd c.in-Rplacd.target c.in-Rplacd.from; reply = reply_of c.rplacd.result; allowed = tt; acts = λ s. (_, refl); performs = c.rplacd.ensures.performs }

pub returns-in-Get-clause-some : goal.returns-in-Get-clause-some
returns-in-Get-clause-some g c = record { command = C.Get c.in-Get.to c.in-Get.from c.in-Get.index; reply = reply_of c.get.result; allowed = tt; acts = λ s. (_, refl); performs = c.get.ensures.performs }

pub returns-in-Put-clause-some : goal.returns-in-Put-clause-some
returns-in-Put-clause-some g c = record { command = C.Put c.in-Put.target c.in-Put.index c.in-Put.from; reply = reply_of c.put.result; allowed = tt; acts = λ s. (_, refl); performs = c.put.ensures.performs }

pub returns-in-Size-clause-some : goal.returns-in-Size-clause-some
returns-in-Size-clause-some g c = record { command = C.Size c.in-Size.of; reply = reply_of c.size.result; allowed = tt; acts = λ s. (_, refl); performs = c.size.ensures.performs }

pub returns-in-Eq-clause-some : goal.returns-in-Eq-clause-some
returns-in-Eq-clause-some g c = record { command = C.Eq c.in-Eq.left c.in-Eq.right; reply = reply_of c.eq.result; allowed = tt; acts = λ s. (_, refl); performs = c.eq.ensures.performs }
