-- The state of a world before its first command.
use Rattle.std.specs.Prelude.{ℕ, if◌then◌else◌, nat_lt, length, Some, None, ◌<◌, IsTrue}
use Rattle.lisp_graph.specs.declared.world.World.{World}
use Rattle.lisp_graph.specs.Graph.{object_at, refers_in, body_refers}
use Rattle.lisp_meaning.specs.machine.State.{Idle, State}

-- the world's objects, all held at level 0, and its roots as registers; no husk, and no collection
abbrev pub opening : World → State
opening world = record {
  space = world.space;
  areas = world.areas;
  registers = world.roots;
  store = record {
    objects = world.objects;
    held = λ n. if nat_lt n (length world.objects) then Some 0 else None;
    husks = λ area level. 0;
  };
  phase = Idle;
}

-- a world has a register, and each reference in it, from a root or from an object, is to one of its objects
pub record IsWhole (world : World) : Type 0 where
  pub registers : 0 < world.space.registers
  pub roots : (n : ℕ) → IsTrue (refers_in n world.roots) → n < length world.objects
  pub objects : (m n : ℕ) → m < length world.objects → IsTrue (body_refers n (object_at world.objects m).body) → n < length world.objects
