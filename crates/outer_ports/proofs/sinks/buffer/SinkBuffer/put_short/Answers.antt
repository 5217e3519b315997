use Rattle.std.proofs.Common.{◌≡◌, ◌+◌, ◌-◌, List, ℕ, ◌++◌, length, take, ap, ◌∙◌, arith, vec_len}
use Rattle.std.proofs.lemmas.List.{with_items_is}
use Rattle.outer_ports.proofs.Copies.{copied-shorter}
use Rattle.outer_ports.proofs.sinks.buffer.SinkBuffer.put_short.Goals as goal

pub returns : goal.returns
returns g c =
    let s = c.self.inside in
    let text = take c.args.len c.args.text.now in
    let size : length c.copy_at.new.room ≡ vec_len s.room = omega (arith, c.copy_at.auto.room, c.deref_mut.ensures.len) in
    let pending =
    ap (take (s.len + c.args.len)) (with_items_is s.room c.copy_at.new.room size)
    ∙ copied-shorter s.len c.args.len c.deref_mut.result.now c.copy_at.new.room c.args.text.now (omega arith) (omega arith) c.copy_at.ensures
    ∙ ap (λ (l : List ℕ). take s.len l ++ text) c.deref_mut.ensures.value in
    rw (← c.self.view_is) (λ i. record { pending = pending i; room = vec_len s.room - 64 })
