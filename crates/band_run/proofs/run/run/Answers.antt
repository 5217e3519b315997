use Rattle.std.proofs.Common.{◌≡◌, ◌<◌, ◌+◌, length, get_or, [], ◌∷◌, ◌++◌, List, ℕ, take, drop, ap, refl, sym, subst, ◌∙◌, rules, take-append-drop}
use Rattle.std.proofs.lemmas.List.{drop_more, take_more}
use Rattle.std.proofs.lemmas.Result.{err_from_is_err_and}
use Rattle.outer_ports.specs.Buffers.{Gathered}
use Rattle.outer_ports.proofs.BufferGains.{gathered_more, gathered_nothing}
use Rattle.band_run.specs.declared.reading.command.BandCommand.{BandCommand}
use Rattle.band_run.specs.Replies.{reply_text}
use Rattle.band_run.specs.Steps.{GoesOnAnyway}
use Rattle.band_run.proofs.CommandSteps.{going_more, going_start, ran_stopped}
use Rattle.band_run.proofs.run.run.Goals as goal

-- the commands before one, those up to and including it, and those from it on
next_done : (commands : List BandCommand) (i : ℕ) (command : BandCommand) → i < length commands → command ≡ get_or commands i command → take (i + 1) commands ≡ take i commands ++ command ∷ []
next_done commands i command below is = take_more commands i command below ∙ ap (λ (x : BandCommand). take i commands ++ x ∷ []) (sym is)

next_later : (commands : List BandCommand) (i : ℕ) (command : BandCommand) → i < length commands → command ≡ get_or commands i command → commands ≡ take i commands ++ command ∷ drop (i + 1) commands
next_later commands i command below is =
    sym (take-append-drop i commands) ∙ ap (λ (l : List BandCommand). take i commands ++ l) (drop_more commands i command below)
    ∙ ap (λ (x : BandCommand). take i commands ++ x ∷ drop (i + 1) commands) (sym is)

pub loop-command-init : goal.loop-command-init
loop-command-init g c =
    let D = g.D.BandDisk in
    record {
      text = [];
      gathered = subst (λ (p : List ℕ). Gathered (g.K.Sink.stands c.args.sink.now) (g.K.Sink.stands c.args.sink.now) p []) (sym c.requires.empty) (gathered_nothing []);
      going = going_start D.bytes D.space D.images D.clock D.images_since D.faults D.changes g.met.D.BandDisk.only_now c.args.disk.now c.args.store.now c.requires.fresh;
      usable = λ is. absurd (let off = ap (λ s. s.opened) c.requires.fresh in cc);
      sink = refl;
    }

pub loop-command-preserved : goal.loop-command-preserved
loop-command-preserved g c =
    let D = g.D.BandDisk in
    let inv = c.loop-command.invariant in
    let e = c.in_ok-act.ensures in
    record {
      text = inv.text ++ reply_text e.did.0;
      gathered = gathered_more (reply_text e.did.0) inv.gathered e.did.3;
      going = subst (λ (done : List BandCommand). GoesOnAnyway D.bytes D.space D.images D.clock D.images_since D.faults D.changes c.args.disk.now c.act.new.disk c.act.new.store done (inv.text ++ reply_text e.did.0)) (sym (next_done c.args.commands.now c.loop-command.command-index c.command-item.result (search rules) c.command-item.is))
          (going_more D.bytes D.space D.images D.clock D.images_since D.faults D.changes g.met.D.BandDisk.only_now c.args.disk.now c.loop-command.disk c.act.new.disk c.loop-command.store (take c.loop-command.command-index c.args.commands.now) inv.text inv.going c.command-item.result c.act.new.store e.did.0 e.did.1 e.device_never_falls e.did.2 e.did.4 e.did.5);
      usable = e.sound;
      sink = e.no_fault (λ is. cc (is)) ∙ inv.sink;
    }

pub returns-in_err-act-clause-ran : goal.returns-in_err-act-clause-ran
returns-in_err-act-clause-ran g c =
    let D = g.D.BandDisk in
    let inv = c.loop-command.invariant in
    let e = c.in_err-act.ensures in
    let q = err_from_is_err_and c.from_residual.result c.from_residual.ensures.1 in
    let split = next_later c.args.commands.now c.loop-command.command-index c.command-item.result (search rules) c.command-item.is in
    rw (q.1, q.2) (ran_stopped D.bytes D.space D.images D.clock D.images_since D.faults D.changes g.met.D.BandDisk.only_now (g.K.Sink.stands c.args.sink.now) (g.K.Sink.stands c.loop-command.sink) (g.K.Sink.stands c.act.new.sink) c.loop-command.buffer.pending c.act.new.buffer.pending c.args.disk.now c.loop-command.disk c.act.new.disk
    c.loop-command.store c.act.new.store c.args.commands.now (take c.loop-command.command-index c.args.commands.now) (drop (c.loop-command.command-index + 1) c.args.commands.now) c.command-item.result inv.text c.in_err-act.field-0.0 split inv.going inv.gathered e.device_never_falls e.did)
