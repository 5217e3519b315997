-- Changes of the store that a memory represents.
use Rattle.std.specs.Prelude.{ℕ, ◌+◌, ◌&&◌, if◌then◌else◌, nat_lt, nat_le, List, ◌++◌, length, slice_set, Option, Some}
use Rattle.lisp_graph.specs.declared.object.Body.{Body}
use Rattle.lisp_graph.specs.declared.object.Object.{Object}
use Rattle.lisp_meaning.specs.machine.Maps.{put_at}
use Rattle.lisp_meaning.specs.machine.State.{Store, object}

-- the names from `from` on and below `to` are held, at one level
abbrev pub holding : (ℕ → Option ℕ) → ℕ → ℕ → ℕ → (ℕ → Option ℕ)
holding held from to level = λ n. if nat_le from n && nat_lt n to then Some level else held n

-- the husks of an area at a level have this many words more
abbrev pub with_husk : (ℕ → ℕ → ℕ) → ℕ → ℕ → ℕ → (ℕ → ℕ → ℕ)
with_husk husks area level words = put_at husks area (put_at (husks area) level (husks area level + words))

-- another object for a name
abbrev pub put_object : Store → ℕ → Object → Store
put_object s n o = record s { objects = slice_set s.objects n o }

-- other parts of an object
abbrev pub put_body : Store → ℕ → Body → Store
put_body s n body = put_object s n (record (object s n) { body = body })

-- objects with the next names, held at a level
abbrev pub with_made : Store → List Object → ℕ → Store
with_made s made level = record s { objects = s.objects ++ made; held = holding s.held (length s.objects) (length (s.objects ++ made)) level }

-- a wider block, and the husk of the old one
abbrev pub with_grown : Store → ℕ → Object → ℕ → ℕ → ℕ → Store
with_grown s n o area level words = record s { objects = slice_set s.objects n o; husks = with_husk s.husks area level words }
