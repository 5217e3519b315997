use Rattle.std.proofs.Common.{◌≢◌, ◌+◌, ◌-◌, ◌/◌, ℕ, [], subst, sym, ap, ◌∙◌}
use Rattle.area_space.proofs.UsedEnds.{end_in_chain}
use Rattle.area_space.proofs.WordCommits.{not_empty, end_charged, pages_charged, commit_equation}
use Rattle.area_space.proofs.GroundLaws.{ground_committed, named_committed}
use Rattle.area_space.proofs.ground.Ground.commit.Goals as goal
use Rattle.area_space.specs.Charges.{AllowsOrigin}
use Rattle.area_space.specs.PageList.{PageList, Adds}
use Rattle.area_space.specs.Places.{IsEnd}
use Rattle.area_space.specs.Table.{Table, chain, live, page_list}

pub slot_at-slot-requires : goal.slot_at-slot-requires
slot_at-slot-requires g c = let e = c.requires.end in (e.0, end_in_chain c.args.self.now.table e.0 c.args.placed.now.at c.args.words e.1)

pub charge_by-requires-clause-placed : goal.charge_by-requires-clause-placed
charge_by-requires-clause-placed g c =
    let e = c.requires.end in
    let t = c.args.self.now.table in
    let held = end_in_chain t e.0 c.args.placed.now.at c.args.words e.1 in
    subst (λ (s : ℕ). chain t (live s) ≢ []) (sym (c.slot_at-slot.ensures.value e.0 held)) (not_empty (chain t (live e.0)) (c.args.placed.now.at / 4096) held)

pub charge_by-requires-clause-allowed : goal.charge_by-requires-clause-allowed
charge_by-requires-clause-allowed g c =
    let e = c.requires.end in
    let t = c.args.self.now.table in
    let held = end_in_chain t e.0 c.args.placed.now.at c.args.words e.1 in
    subst (λ (s : ℕ). AllowsOrigin t s c.args.charge c.args.origin) (sym (c.slot_at-slot.ensures.value e.0 held)) (c.requires.allowed e.0 e.1)

pub extend-requires-clause-end : goal.extend-requires-clause-end
extend-requires-clause-end g c =
    let e = c.requires.end in
    let t = c.args.self.now.table in
    (e.0, subst (λ (u : Table). IsEnd u e.0 c.args.placed.now.at c.args.words) (sym c.charge_by.ensures) (end_charged t e.0 c.args.placed.now.at c.args.words c.slot_at-slot.result c.args.charge c.args.origin e.1))

pub returns-clause-table : goal.returns-clause-table
returns-clause-table g c = λ slot e.
    let t = c.args.self.now.table in
    commit_equation t c.charge_by.new.self c.extend.new.self c.slot_at-slot.result slot c.args.placed.now.at c.args.words c.args.charge c.args.origin
    (c.slot_at-slot.ensures.value slot (end_in_chain t slot c.args.placed.now.at c.args.words e)) c.charge_by.ensures c.extend.ensures.after

pub returns-clause-pages : goal.returns-clause-pages
returns-clause-pages g c = subst (λ (p : PageList). Adds p (page_list c.extend.new.self) (c.args.placed.now.at / 256) ((c.args.placed.now.at + c.args.words - 1) / 256)) (ap page_list c.charge_by.ensures ∙ pages_charged c.args.self.now.table c.slot_at-slot.result c.args.charge c.args.origin) c.extend.ensures.pages

pub returns-clause-stays_ground : goal.returns-clause-stays_ground
returns-clause-stays_ground g c =
    let e = c.requires.end in
    let t = c.args.self.now.table in
    ground_committed (g.M.Memory.seen c.args.self.now.mem) t c.extend.new.self e.0 c.args.placed.now.at c.args.words c.args.charge c.args.origin c.slot_at-slot.ensures.sound e.1
    (commit_equation t c.charge_by.new.self c.extend.new.self c.slot_at-slot.result e.0 c.args.placed.now.at c.args.words c.args.charge c.args.origin
    (c.slot_at-slot.ensures.value e.0 (end_in_chain t e.0 c.args.placed.now.at c.args.words e.1)) c.charge_by.ensures c.extend.ensures.after)

pub returns-clause-stays_named : goal.returns-clause-stays_named
returns-clause-stays_named g c =
    let e = c.requires.end in
    let t = c.args.self.now.table in
    named_committed (g.M.Memory.seen c.args.self.now.mem) t c.extend.new.self e.0 c.args.placed.now.at c.args.words c.args.charge c.args.origin
    (commit_equation t c.charge_by.new.self c.extend.new.self c.slot_at-slot.result e.0 c.args.placed.now.at c.args.words c.args.charge c.args.origin
    (c.slot_at-slot.ensures.value e.0 (end_in_chain t e.0 c.args.placed.now.at c.args.words e.1)) c.charge_by.ensures c.extend.ensures.after)
