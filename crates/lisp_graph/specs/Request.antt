-- A command as it is read: its short form, and the registers of a list.
use Rattle.std.specs.Prelude.{ℕ, ◌<◌, List, [], ◌∷◌, ◌++◌, length, Bool, true, false}
use Rattle.lisp_graph.specs.declared.command.Command.{Command}
use Rattle.lisp_graph.specs.declared.command.Command.TheVariants as C
use Rattle.lisp_graph.specs.declared.short.CommandHead.{CommandHead}
use Rattle.lisp_graph.specs.declared.short.CommandHead.TheVariants as S

-- the command of this short form, which has these registers if it is a list
abbrev pub command_with : CommandHead → List ℕ → Command
command_with (S.Set to value) items = C.Set to value
command_with (S.Move to from) items = C.Move to from
command_with (S.Cons to area car cdr) items = C.Cons to area car cdr
command_with (S.List to area) items = C.List to area items
command_with (S.Make to area code length) items = C.Make to area code length
command_with (S.Grow target length) items = C.Grow target length
command_with (S.Car to from) items = C.Car to from
command_with (S.Cdr to from) items = C.Cdr to from
command_with (S.Rplaca target from) items = C.Rplaca target from
command_with (S.Rplacd target from) items = C.Rplacd target from
command_with (S.Get to from index) items = C.Get to from index
command_with (S.Put target index from) items = C.Put target index from
command_with (S.Size of) items = C.Size of
command_with (S.Eq left right) items = C.Eq left right
command_with (S.Flip what) items = C.Flip what
command_with (S.Scavenge count) items = C.Scavenge count
command_with S.Reclaim items = C.Reclaim
command_with (S.PageOut count) items = C.PageOut count
command_with S.Stats items = C.Stats
command_with S.Dump items = C.Dump

abbrev pub is_list : CommandHead → Bool
is_list (S.List to area) = true
is_list _ = false

-- a list with fewer registers than it may have
abbrev pub HasRoom : Command → Type 0
HasRoom (C.List to area items) = length items < 1024
HasRoom _ = ⊥

-- a list with a further register
abbrev pub with_item : Command → ℕ → Command
with_item (C.List to area items) register = C.List to area (items ++ register ∷ [])
with_item command register = command
