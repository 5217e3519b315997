use Rattle.std.proofs.Common.{sym, subst}
use Rattle.store_word.specs.Words.{Parts}
use Rattle.transporter.specs.Moving.{moves as moves_for}
use Rattle.transporter.specs.Settling.{SettlesOn, Settles}
use Rattle.transporter.proofs.SettledWords.{names-of, settle-transport, settle-transportable, live-small, settles-moved, settles-word}
use Rattle.transporter.proofs.settling.settle_old.Goals as goal

pub transport-requires : goal.transport-requires
transport-requires g c = settle-transportable c.args.at c.requires.can c.requires.agrees c.requires.in_range

pub with_address-requires : goal.with_address-requires
with_address-requires g c =
    let x = settle-transportable c.args.at c.requires.can c.requires.agrees c.requires.in_range in
    let r = c.in_ok-to.ensures.settles x.it x.registers x.kind x.name x.can in
    live-small r.later.kept.table r.live

pub returns-clause-settles : goal.returns-clause-settles
returns-clause-settles g c = λ it registers v can.
    let m = g.M.Memory.seen c.args.ground.now.mem in
    let m' = g.M.Memory.seen c.transport.new.ground.mem in
    let t = c.args.ground.now.table in
    let t' = c.transport.new.ground.table in
    let value = can.value c.args.at c.requires.agrees in
    let names = names-of it.map.role c.args.word.content c.args.at v c.requires.agrees value in
    let r = c.in_ok-to.ensures.settles it registers names.kind names.name (settle-transport m t it registers c.args.word v c.args.at can c.requires.agrees c.requires.in_range names) in
    let P : Parts → Type 0 = λ w. SettlesOn (g.M.Memory.seen c.args.ground.now.mem) c.args.ground.now.table (g.M.Memory.seen c.transport.new.ground.mem) c.transport.new.ground.table it c.args.word w in
    subst P (sym c.with_address.ensures) (settles-moved m m' t t' it c.args.word v c.args.at c.in_ok-to.to c.requires.agrees value names r)

pub returns-clause-word : goal.returns-clause-word
returns-clause-word g c =
    let x = settle-transportable c.args.at c.requires.can c.requires.agrees c.requires.in_range in
    let r = c.in_ok-to.ensures.settles x.it x.registers x.kind x.name x.can in
    let names = names-of c.requires.can.it.map.role c.args.word.content c.args.at c.requires.can.value c.requires.agrees (c.requires.can.can.value c.args.at c.requires.agrees) in
    let P : Parts → Type 0 = λ w. Settles c.args.ground.now.table c.transport.new.ground.table c.args.word w in
    subst P (sym c.with_address.ensures) (settles-word c.in_ok-to.to names.other c.requires.agrees c.requires.in_range r.later.kept.table r.live)

pub returns-clause-words : goal.returns-clause-words
returns-clause-words g c = moves_for c.args.at c.in_ok-to.to c.requires.agrees c.requires.in_range c.in_ok-to.ensures.words c.with_address.ensures

pub returns-in_err-to-clause-stays_ground : goal.returns-in_err-to-clause-stays_ground
returns-in_err-to-clause-stays_ground g c =
    let to = c.in_err-to.ensures in
    record { moves = to.moves; table = to.table; live = to.live; preserves = to.preserves; marks = to.marks }

pub returns-clause-stays_ground : goal.returns-clause-stays_ground
returns-clause-stays_ground g c =
    let to = c.in_ok-to.ensures in
    record { moves = to.moves; table = to.table; live = to.live; preserves = to.preserves; marks = to.marks }
