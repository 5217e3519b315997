-- The room rule outlasts every call, and if it holds there is a place.
use Rattle.std.proofs.Common.{◌≡◌, ℕ, ◌+◌, ◌*◌, ◌/◌, ◌<◌, ◌≤◌, Option, Some, None, List, [], ◌∷◌, refl, sym, ◌∙◌, ap, subst, arith, inl, inr}
use Rattle.std.proofs.lemmas.Bool.{cases_lt}
use Rattle.index_lists.specs.Chains.{last_of}
use Rattle.area_space.specs.declared.classes.Origin.{Origin}
use Rattle.area_space.specs.declared.classes.Origin.TheVariants.{New, Moved, Reserve}
use Rattle.area_space.specs.Table.{Table, areas_of, levels_of, slots_of, slot_of, live, chain, used_of, quota_of}
use Rattle.area_space.specs.Sound.{IsTable}
use Rattle.area_space.specs.Room.{RoomRule, words_of_area}
use Rattle.area_space.specs.Places.{IsEnd}
use Rattle.area_space.specs.Charges.{committed}
use Rattle.area_space.specs.History.{Call, Open, Commit, Husk, Flip, Reclaim, Note, Allows, Leads, LeadsThrough, HasPlace}
use Rattle.area_space.proofs.ChargeChanges.{husked_is}
use Rattle.area_space.proofs.TableFields.{noted_is}
use Rattle.area_space.proofs.CommitInvariant.{opening_lasts, commit_lasts}
use Rattle.area_space.proofs.FlipInvariant.{flip_lasts}
use Rattle.area_space.proofs.ReclaimInvariant.{reclaim_lasts}
use Rattle.area_space.proofs.NewRegions.{slot_below}
use Rattle.area_space.proofs.Room.{fits_share, free_region}

committed_room : (t : Table) (slot at words charge : ℕ) (o : Origin) (pages : List ℕ) → RoomRule t → RoomRule (record (committed t slot at words charge o) { pages = pages })
committed_room t slot at words charge New pages h = h
committed_room t slot at words charge (Moved from) pages h = h
committed_room t slot at words charge Reserve pages h = h

room_stays : (call : Call) (old new : Table) → Leads call old new → RoomRule old → RoomRule new
room_stays (Open area level words region) old new e h = subst RoomRule (sym e) h
room_stays (Commit slot at words charge origin) old new e h = subst RoomRule (sym e) (committed_room old slot at words charge origin new.pages h)
room_stays (Husk slot words) old new e h = subst RoomRule (sym e) h
room_stays (Flip what) old new f h = subst RoomRule (sym f.same) h
room_stays Reclaim old new f h = subst RoomRule (sym f.same) h
room_stays Note old new e h = subst RoomRule (sym e) h

room_lasts : (calls : List Call) (first last : Table) → LeadsThrough calls first last → RoomRule first → RoomRule last
room_lasts [] first last e h = subst RoomRule (sym e) h
room_lasts (call ∷ calls) first last (next, may, one, rest) h = room_lasts calls next last rest (room_stays call first next one h)

sound_stays : (call : Call) (old new : Table) → Allows old call → Leads call old new → IsTable old → IsTable new
sound_stays (Open area level words region) old new may e v = subst IsTable (sym e) (opening_lasts old area level words region may v)
sound_stays (Commit slot at words charge origin) old new may e v = subst IsTable (sym e) (commit_lasts old slot at words charge origin new.pages may.0 may.1 v)
sound_stays (Husk slot words) old new may e v = subst IsTable (sym e) (husked_is old (live slot) words v (let low = may.0 in omega arith) may.1)
sound_stays (Flip what) old new may f v = flip_lasts old new what v may f
sound_stays Reclaim old new may f v = reclaim_lasts old new v f
sound_stays Note old new may e v = subst IsTable (sym e) (noted_is old old.aim new.last new.pages v)

pub sound_after : (first last : Table) (calls : List Call) → IsTable first → LeadsThrough calls first last → IsTable last
sound_after first last [] v e = subst IsTable (sym e) v
sound_after first last (call ∷ calls) v (next, may, one, rest) = sound_after next last calls (sound_stays call first next may one v) rest

-- the used end of the last region, if the words fit after it
end_behind : (t : Table) (slot r words : ℕ) → slot < slots_of t → last_of (chain t (live slot)) ≡ Some r → 0 < words → used_of t r + words ≤ 4096 → IsEnd t slot (4096 * r + used_of t r) words
end_behind t slot r words low last some fits =
    let e : (4096 * r + used_of t r) / 4096 ≡ r = omega arith in
    let used : used_of t ((4096 * r + used_of t r) / 4096) ≡ used_of t r = ap (used_of t) e in
    record { inside = low; last = last ∙ ap Some (sym e); end = omega arith; fits = omega arith }

-- by the last region of the chain, if it has one
place_by : (t : Table) (area level words : ℕ) (last : Option ℕ) → last ≡ last_of (chain t (live (slot_of t area level))) → IsTable t → RoomRule t → area < areas_of t → level < levels_of t
    → 0 < words → words ≤ 2048 → words_of_area t area + words ≤ 2 * quota_of t area → HasPlace t (slot_of t area level) words
place_by t area level words None is v room a l some few within =
    inr (free_region t area v room a (fits_share t area level v l (λ r e. absurd (cc)) (omega arith)))
place_by t area level words (Some r) is v room a l some few within =
    elim (cases_lt 4096 (used_of t r + words)) [
      | inr fits ↦ inl (4096 * r + used_of t r, end_behind t (slot_of t area level) r words (slot_below t area level a l) (sym is) some (omega arith))
      | inl more ↦ inr (free_region t area v room a (fits_share t area level v l (λ q e. (let same : q ≡ r = cc in let u = ap (used_of t) same in omega arith)) (omega arith)))
    ]

pub place_after : (first last : Table) (calls : List Call) → IsTable first → RoomRule first → LeadsThrough calls first last
    → (area level words : ℕ) → area < areas_of last → level < levels_of last → 0 < words → words ≤ 2048
    → words_of_area last area + words ≤ 2 * quota_of last area → HasPlace last (slot_of last area level) words
place_after first last calls v room run area level words a l some few within =
    place_by last area level words (last_of (chain last (live (slot_of last area level)))) refl (sound_after first last calls v run) (room_lasts calls first last run room) a l some few within
