-- What always holds of a ground, from the invariant of its image.
use Rattle.std.proofs.Common.{ℕ, ◌∙◌, sym, subst, List}
use Rattle.area_space.specs.lisp_graph.declared.world.AreaRule.{AreaRule}
use Rattle.area_space.specs.mem_port.Store.{Store, MarksHold}
use Rattle.area_space.specs.Table.{Table}
use Rattle.area_space.specs.Sound.{IsTable}
use Rattle.area_space.specs.Room.{RoomRule}
use Rattle.area_space.specs.Ground.{IsGround, NamesNoFree}
use Rattle.lisp_meaning.specs.State.{Condemned}
use Rattle.lisp_meaning.specs.State as M
use Rattle.lisp_meaning.specs.Image.{Image}
use Rattle.lisp_meaning.specs.Roles.{Kind, RoleMap}
use Rattle.lisp_meaning.specs.After.{After}
use Rattle.lisp_meaning.specs.Marks.{Marks}
use Rattle.lisp_meaning.specs.Invariant.{MemoryInvariant}
use Rattle.lisp_ground.specs.Image.{Rest, image_of, ground_image}
use Rattle.lisp_ground.specs.GroundInvariant.{Agrees, SameForm, GroundInvariant}
use Rattle.lisp_meaning.specs.Interpretation.{Interpretation}
use Rattle.lisp_ground.specs.After.{AfterOn}
use Rattle.lisp_ground.proofs.invariant.Marks.{ground_marks, image_marks}

-- registers, units and marks are no part of the invariant, except for the law of marks
pub kept_beside : (g h : Image) (it : Interpretation)
    → (let same : Image = record g { registers = h.registers; collection = h.collection; register_left = h.register_left; word_left = h.word_left; last_moved = h.last_moved; marks = h.marks } in
    MemoryInvariant g it → Marks same → MemoryInvariant same it)
kept_beside g h it kept marks = record {
  roled = kept.roled;
  covered = record { used = kept.covered.used; unused = kept.covered.unused; free = kept.covered.free; done = kept.covered.done };
  names = kept.names;
  condemned = kept.condemned;
  bound = kept.bound;
  classes_of = record { area = kept.classes_of.area; spared = kept.classes_of.spared; doomed = kept.classes_of.doomed };
  levels = kept.levels;
  live_charges = kept.live_charges;
  old_charges = kept.old_charges;
  live_husks = kept.live_husks;
  old_husks = kept.old_husks;
  quota = kept.quota;
  room_live = kept.room_live;
  room_husks = kept.room_husks;
  room_old = kept.room_old;
  chains = kept.chains;
  marks = marks;
}

-- the invariant of a machine with this ground
pub kept_image : (m : Store) (t : Table) (rest : Rest) (it : Interpretation)
    → GroundInvariant m t it → MarksHold m → MemoryInvariant (image_of m t rest) it
kept_image m t rest it on marks =
    kept_beside (ground_image m t) (image_of m t rest) it on.kept (image_marks m t rest on.table on.ground on.named marks)

-- and from it
pub kept_ground : (m : Store) (t : Table) (rest : Rest) (it : Interpretation)
    → MemoryInvariant (image_of m t rest) it → IsTable t → NamesNoFree m t → MemoryInvariant (ground_image m t) it
kept_ground m t rest it kept v named = kept_beside (image_of m t rest) (ground_image m t) it kept (ground_marks m t v named)

-- Another table of the same form

pub same_room : (t u : Table) → SameForm t u → RoomRule t → RoomRule u
same_room t u f h =
    let quotas = subst (λ (q : List ℕ). RoomRule (record t { quotas = q })) (sym f.quotas) h in
    let top = subst (λ (n : ℕ). RoomRule (record t { quotas = u.quotas; top = n })) (sym f.top) quotas in
    subst (λ (n : ℕ). RoomRule (record t { quotas = u.quotas; top = u.top; regions = n })) (sym f.regions) top

pub same_agrees : (t u : Table) (top : ℕ) (areas : List AreaRule) → SameForm t u → Agrees t top areas → Agrees u top areas
same_agrees t u top areas f a = record { levels = f.top ∙ a.levels; quotas = f.quotas ∙ a.quotas; kinds = f.kinds ∙ a.kinds }

-- what is kept of the image after a change is kept on the ground
pub kept_on_after : (m m' : Store) (t u : Table) (it : Interpretation) (map : RoleMap) (s' : M.Store) (aim' : Condemned)
    → GroundInvariant m t it → SameForm t u → IsTable u → IsGround m' u → NamesNoFree m' u → MemoryInvariant (ground_image m' u) (record it { map = map; store = s'; aim = aim' })
    → GroundInvariant m' u (record it { map = map; store = s'; aim = aim' })
kept_on_after m m' t u it map s' aim' on f w ground named kept = record {
  kept = kept;
  ground = ground;
  named = named;
  table = w;
  room = same_room t u f on.room;
  agrees = same_agrees t u it.top it.areas f on.agrees;
}

-- so is what a later map keeps
pub after_on : (m m' : Store) (t u : Table) (it : Interpretation) (s' : M.Store) (moved : ℕ) (kind : Kind) (b count : ℕ) (name : ℕ → ℕ)
    → GroundInvariant m t it → SameForm t u → IsTable u → IsGround m' u → NamesNoFree m' u
    → After (ground_image m t) (ground_image m' u) it s' moved kind b count name → AfterOn m t m' u it s' moved kind b count name
after_on m m' t u it s' moved kind b count name on f w ground named after = record {
  map = after.map;
  kept = kept_on_after m m' t u it after.map s' it.aim on f w ground named after.kept;
  refines = after.refines;
  there = after.there;
  old = after.old;
}
