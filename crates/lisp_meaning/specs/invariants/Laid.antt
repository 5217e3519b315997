-- An object that is laid out at a new place, and the roles of its old words.
use Rattle.std.specs.Prelude.{ℕ, zero, suc, ◌+◌, ◌-◌, Bool, ◌&&◌, if◌then◌else◌, ◌==◌, nat_le, nat_lt}
use Rattle.lisp_meaning.specs.machine.Maps.{put_at}
use Rattle.lisp_meaning.specs.invariants.Roles.{Kind, AsCons, AsBlock, Role, Scratch, Waste, HuskWord, PairHead, PairTail, Cell, Head, Field, Moved, Relaid, RoleMap}

-- how an object is laid out: a cell at this place of its list, a pair, or a block with this number of fields
pub data Shape : Type 0 where
  ACell : ℕ → Shape
  APair : Shape
  ABlock : ℕ → Shape

-- its number of words
abbrev pub size : Shape → ℕ
size (ACell i) = 1
size APair = 2
size (ABlock count) = suc count

-- the kind of a reference to it
abbrev pub kind_in : Shape → Kind
kind_in (ACell i) = AsCons
kind_in APair = AsCons
kind_in (ABlock count) = AsBlock

-- the role of its word number j
abbrev pub role_in : Shape → ℕ → ℕ → Role
role_in (ACell i) n j = Cell n i
role_in APair n zero = PairHead n
role_in APair n (suc j) = PairTail n
role_in (ABlock count) n zero = Head n
role_in (ABlock count) n (suc j) = Field n j

-- `count` addresses from `low` on
abbrev pub between : ℕ → ℕ → ℕ → Bool
between low count a = nat_le low a && nat_lt a (low + count)

-- n is laid out at b; of its `gone` old words, from a on, the first gets one role and the rest another
abbrev pub laid : RoleMap → ℕ → ℕ → ℕ → ℕ → Shape → Role → Role → ℕ → RoleMap
laid k n a gone b shape first rest age = record {
  role = λ c. if between b (size shape) c then role_in shape n (c - b) else (if between a gone c then (if c == a then first else rest) else k.role c);
  age = put_at k.age b age;
  at = put_at k.at n b;
}

-- `count` words from b on, which were blank, are written and have no role yet
abbrev pub scratched : RoleMap → ℕ → ℕ → RoleMap
scratched k b count = record k { role = λ a. if between b count a then Scratch else k.role a }

-- `count` new names, from `from` on, are laid out as the cells of one list from b on
abbrev pub run_laid : RoleMap → ℕ → ℕ → ℕ → RoleMap
run_laid k from b count = record {
  role = λ c. if between b count c then Cell (from + (c - b)) (c - b) else k.role c;
  age = λ c. if between b count c then 0 else k.age c;
  at = λ m. if between from count m then b + (m - from) else k.at m;
}

-- Whole changes: words are written at b, and an object is laid there

-- a new object
abbrev pub newly_laid : RoleMap → ℕ → ℕ → Shape → RoleMap
newly_laid k n b shape = laid (scratched k b (size shape)) n 0 0 b shape Waste Waste 0

-- an object at a moves to b, in another shape: its first word becomes a GC-FORWARD
abbrev pub moved_to : RoleMap → ℕ → ℕ → Shape → ℕ → Shape → RoleMap
moved_to k n a old b new = laid (scratched k b (size new)) n a (size old) b new (Moved (kind_in old) n) Waste (k.age a)

-- an object at a is relocated to b: its first word becomes a HEADER-FORWARD, the others its husk
abbrev pub relaid_to : RoleMap → ℕ → ℕ → Shape → ℕ → Shape → RoleMap
relaid_to k n a old b new = laid (scratched k b (size new)) n a (size old) b new (Relaid (kind_in old) n) (HuskWord a) (suc (k.age a))

-- `count` new conses, as cells
abbrev pub cells_laid : RoleMap → ℕ → ℕ → ℕ → RoleMap
cells_laid k from b count = run_laid (scratched k b count) from b count
