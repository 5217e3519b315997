use Rattle.std.proofs.Common.{sym, subst, ◌∙◌, rules}
use Rattle.paged_memory.specs.Order.{Stops}
use Rattle.paged_memory.specs.Moves.{paging_of}
use Rattle.paged_memory.proofs.Places.{swapped_framed, empty_framed}
use Rattle.paged_memory.proofs.FrameChanges.{resident_place}
use Rattle.paged_memory.proofs.Uses.{room_stops, room_uses, room_place}
use Rattle.paged_memory.proofs.pager.Pager.use_absent.Goals as goal

pub returns-in_err-free-in-Empty-clause-succeeds : goal.returns-in_err-free-in-Empty-clause-succeeds
returns-in_err-free-in-Empty-clause-succeeds g c = λ m.
    let at = resident_place _ _ c.args.page c.requires.paged m in absurd (empty_framed c.args.self.now.places c.args.page at.0 (sym c.in-Empty.ensures.place) at.1)

pub bring_new-requires-clause-page : goal.bring_new-requires-clause-page
bring_new-requires-clause-page g c =
    room_place _ _ c.args.page c.in_ok-free-in-Empty.ensures.room
    (λ m. let at = resident_place _ _ c.args.page c.requires.paged m in empty_framed c.args.self.now.places c.args.page at.0 (sym c.in-Empty.ensures.place) at.1) ∙ sym c.in-Empty.ensures.place

pub returns-in_err-room-in-Swapped-clause-succeeds : goal.returns-in_err-room-in-Swapped-clause-succeeds
returns-in_err-room-in-Swapped-clause-succeeds g c = λ m.
    let at = resident_place _ _ c.args.page c.requires.paged m in absurd (swapped_framed c.args.self.now.places c.args.page at.0 (sym c.in-Swapped.ensures.place) at.1)

pub returns-in_err-bring_back-in-Swapped-clause-stops : goal.returns-in_err-bring_back-in-Swapped-clause-stops
returns-in_err-bring_back-in-Swapped-clause-stops g c =
    let room = room_stops _ _ _ _ c.in_ok-room-in-Swapped.ensures.preserves c.in_ok-room-in-Swapped.ensures.room in
    let stops : Stops (paging_of c.args.self.now) (paging_of c.bring_back.new.self) = subst (Stops (paging_of c.args.self.now)) (sym c.in_err-bring_back-in-Swapped.ensures.unchanged) room in
    search rules

pub returns-in_err-bring_back-in-Swapped-clause-succeeds : goal.returns-in_err-bring_back-in-Swapped-clause-succeeds
returns-in_err-bring_back-in-Swapped-clause-succeeds g c = λ m.
    let at = resident_place _ _ c.args.page c.requires.paged m in absurd (swapped_framed c.args.self.now.places c.args.page at.0 (sym c.in-Swapped.ensures.place) at.1)

pub returns-in_ok-free-in-Empty-clause-uses : goal.returns-in_ok-free-in-Empty-clause-uses
returns-in_ok-free-in-Empty-clause-uses g c =
    let k = c.in_ok-free-in-Empty.ensures.preserves in
    room_uses _ _ _ _ _ c.args.page c.in_ok-free-in-Empty.free k c.in_ok-free-in-Empty.ensures.room (c.bring_new.ensures.stays_held _ k.paged).frames
    (λ m. let at = resident_place _ _ c.args.page c.requires.paged m in empty_framed c.args.self.now.places c.args.page at.0 (sym c.in-Empty.ensures.place) at.1) (c.bring_new.ensures.placed _ k.paged)

pub returns-in_ok-bring_back-in-Swapped-clause-uses : goal.returns-in_ok-bring_back-in-Swapped-clause-uses
returns-in_ok-bring_back-in-Swapped-clause-uses g c =
    let k = c.in_ok-room-in-Swapped.ensures.preserves in
    room_uses _ _ _ _ _ c.args.page c.in_ok-room-in-Swapped.room k c.in_ok-room-in-Swapped.ensures.room c.in_ok-bring_back-in-Swapped.ensures.preserves.frames
    (λ m. let at = resident_place _ _ c.args.page c.requires.paged m in swapped_framed c.args.self.now.places c.args.page at.0 (sym c.in-Swapped.ensures.place) at.1) c.in_ok-bring_back-in-Swapped.ensures.placed
