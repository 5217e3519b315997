use Rattle.paged_machine.proofs.commands.run_request.Goals as goal

pub returns-in-Set : goal.returns-in-Set
returns-in-Set g c = (0, rw (c.parts.ensures, c.in-Set.is) c.set.ensures.runs)

pub returns-in-Flip : goal.returns-in-Flip
returns-in-Flip g c = (0, rw (c.parts.ensures, c.in-Flip.is) c.flip.ensures.runs)

pub returns-in-Reclaim : goal.returns-in-Reclaim
returns-in-Reclaim g c = (0, rw (c.parts.ensures, c.in-Reclaim.is) c.reclaim.ensures.runs)

pub returns-in-PageOut : goal.returns-in-PageOut
returns-in-PageOut g c = (0, rw (c.parts.ensures, c.in-PageOut.is) c.page_out.ensures.runs)

pub returns-in-Move : goal.returns-in-Move
returns-in-Move g c = (c.copy_register.new.steps, rw (c.parts.ensures, c.in-Move.is) (rw (← c.new-steps.ensures) c.copy_register.ensures.runs))

pub returns-in-Cons : goal.returns-in-Cons
returns-in-Cons g c = (c.cons.new.steps, rw (c.parts.ensures, c.in-Cons.is) (rw (← c.new-steps.ensures) c.cons.ensures.runs))

pub returns-in-List : goal.returns-in-List
returns-in-List g c = (c.list.new.steps, rw (c.parts.ensures, c.in-List.is) (rw (← c.new-steps.ensures) c.list.ensures.runs))

pub returns-in-Make : goal.returns-in-Make
returns-in-Make g c = (c.make.new.steps, rw (c.parts.ensures, c.in-Make.is) (rw (← c.new-steps.ensures) c.make.ensures.runs))

pub returns-in-Grow : goal.returns-in-Grow
returns-in-Grow g c = (c.grow.new.steps, rw (c.parts.ensures, c.in-Grow.is) (rw (← c.new-steps.ensures) c.grow.ensures.runs))

pub returns-in-Car : goal.returns-in-Car
returns-in-Car g c = (c.car.new.steps, rw (c.parts.ensures, c.in-Car.is) (rw (← c.new-steps.ensures) c.car.ensures.runs))

pub returns-in-Cdr : goal.returns-in-Cdr
returns-in-Cdr g c = (c.cdr.new.steps, rw (c.parts.ensures, c.in-Cdr.is) (rw (← c.new-steps.ensures) c.cdr.ensures.runs))

pub returns-in-Rplaca : goal.returns-in-Rplaca
returns-in-Rplaca g c = (c.rplaca.new.steps, rw (c.parts.ensures, c.in-Rplaca.is) (rw (← c.new-steps.ensures) c.rplaca.ensures.runs))

pub returns-in-Rplacd : goal.returns-in-Rplacd
returns-in-Rplacd g c = (c.rplacd.new.steps, rw (c.parts.ensures, c.in-Rplacd.is) (rw (← c.new-steps.ensures) c.rplacd.ensures.runs))

pub returns-in-Get : goal.returns-in-Get
returns-in-Get g c = (c.get.new.steps, rw (c.parts.ensures, c.in-Get.is) (rw (← c.new-steps.ensures) c.get.ensures.runs))

pub returns-in-Put : goal.returns-in-Put
returns-in-Put g c = (c.put.new.steps, rw (c.parts.ensures, c.in-Put.is) (rw (← c.new-steps.ensures) c.put.ensures.runs))

pub returns-in-Size : goal.returns-in-Size
returns-in-Size g c = (c.size.new.steps, rw (c.parts.ensures, c.in-Size.is) (rw (← c.new-steps.ensures) c.size.ensures.runs))

pub returns-in-Eq : goal.returns-in-Eq
returns-in-Eq g c = (c.eq.new.steps, rw (c.parts.ensures, c.in-Eq.is) (rw (← c.new-steps.ensures) c.eq.ensures.runs))

pub returns-in-Scavenge : goal.returns-in-Scavenge
returns-in-Scavenge g c = (c.scavenge.new.steps, rw (c.parts.ensures, c.in-Scavenge.is) (rw (← c.new-steps.ensures) c.scavenge.ensures.runs))
