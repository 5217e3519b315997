-- A list, register after register.
use Rattle.std.proofs.Common.{◌≡◌, ℕ, ◌<◌, List, [], ◌∷◌, ◌++◌, length, map, decimal, sym, ap, subst, ◌∙◌, append_assoc}
use Rattle.std.proofs.lemmas.List.{append-nil, map-append}
use Rattle.std.proofs.lemmas.Grind.{flat_map-append}
use Rattle.lisp_graph.specs.declared.command.Command.{Command}
use Rattle.lisp_graph.specs.declared.command.Command.TheVariants as commands
use Rattle.lisp_graph.specs.Request.{HasRoom, with_item}
use Rattle.world_text.specs.Spelling.{spaced}
use Rattle.trace_text.specs.Items.{items_of}

-- a list is the list of its registers
pub listed : (command : Command) (to area : ℕ) (items : List ℕ) → command ≡ commands.List to area items → command ≡ commands.List to area (items_of command)
listed command to area items is = is ∙ ap (λ items. commands.List to area items) (sym (ap items_of is))

pub has_room : (command : Command) (to area : ℕ) → command ≡ commands.List to area (items_of command) → length (items_of command) < 1024 → HasRoom command
has_room command to area is few = subst HasRoom (sym is) few

-- with one more register
pub longer : (old new : Command) (to area register : ℕ) → old ≡ commands.List to area (items_of old) → new ≡ with_item old register → new ≡ commands.List to area (items_of old ++ register ∷ [])
longer old new to area register is more = more ∙ ap (λ command. with_item command register) is

-- the text of one more register
pub spaced_more : (text rest after : List ℕ) (items : List ℕ) (item : ℕ) → text ≡ spaced (map decimal items) ++ rest → rest ≡ 32 ∷ decimal item ++ after → text ≡ spaced (map decimal (items ++ item ∷ [])) ++ after
spaced_more text rest after items item read is = read ∙ ap (λ more. spaced (map decimal items) ++ more) is ∙ simp (map-append, flat_map-append, append_assoc, append-nil)
