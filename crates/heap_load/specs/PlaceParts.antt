-- How a place is kept: an address, and what lies there.
use Rattle.std.specs.Prelude.{◌≡◌, ℕ, Bool, true, false, refl}
use Rattle.store_word.specs.declared.word.Content.{Content}
use Rattle.store_word.specs.declared.word.Content.TheVariants.{Null, Nil, List, Struct, Header, HeaderForward, GcForward, Fixnum}
use Rattle.heap_load.specs.declared.places.Place.TheInside.{Inside}
use Rattle.heap_load.specs.declared.places.PlaceKind.{PlaceKind}
use Rattle.heap_load.specs.declared.places.PlaceKind.TheVariants.{Pair, Cell, Block}
use Rattle.heap_load.specs.Places.{PlaceView, block_place, cell_place, pair_place}

-- the place of a kind at an address
abbrev pub place_from : PlaceKind → ℕ → PlaceView
place_from Pair at = pair_place at
place_from Cell at = cell_place at
place_from Block at = block_place at

abbrev pub place_of : Inside → PlaceView
place_of p = place_from p.kind p.at

-- the address in a reference
abbrev pub address_in : Content → ℕ
address_in (List at) = at
address_in (Struct at) = at
address_in Null = 0
address_in Nil = 0
address_in (Header code length) = 0
address_in (HeaderForward at) = 0
address_in (GcForward at) = 0
address_in (Fixnum number) = 0

-- what a reference refers to, if it isn't a cell
abbrev pub kind_in : Content → PlaceKind
kind_in (Struct at) = Block
kind_in (List at) = Pair
kind_in Null = Pair
kind_in Nil = Pair
kind_in (Header code length) = Pair
kind_in (HeaderForward at) = Pair
kind_in (GcForward at) = Pair
kind_in (Fixnum number) = Pair

abbrev pub kind_of : Bool → Content → PlaceKind
kind_of true content = Cell
kind_of false content = kind_in content

abbrev pub parts_of : PlaceView → Inside
parts_of v = record { at = address_in v.word.content; kind = kind_of v.cell v.word.content }

back_from : (kind : PlaceKind) (at : ℕ) → parts_of (place_from kind at) ≡ record { at = at; kind = kind }
back_from Pair at = refl
back_from Cell at = refl
back_from Block at = refl

-- no part is lost
pub parts_of-place_of : (p : Inside) → parts_of (place_of p) ≡ p
parts_of-place_of p = back_from p.kind p.at
