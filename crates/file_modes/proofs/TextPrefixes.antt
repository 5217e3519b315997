-- What was taken of a text.
use Rattle.std.proofs.Common.{◌≡◌, inl, inr, ℕ, ◌<◌, ◌≤◌, List, [], ◌++◌, length, take, Option, Some, None, Result, Ok, Err, refl, sym, ap, ◌∙◌, subst, Vec}
use Rattle.std.specs.Prelude.{IfSome, unwrap_or}
use Rattle.std.proofs.lemmas.List.{append-nil}
use Rattle.outer_ports.specs.Ports.{Gave, IsAtEnd}
use Rattle.outer_ports.proofs.Gains.{gave_nothing, gave_then}
use Rattle.line_input.specs.declared.statuses.status.RunError.{RunError}
use Rattle.line_input.specs.declared.statuses.status.RunError.TheVariants.{Memory, Read}
use Rattle.file_modes.specs.Taken.{Takes, WasTaken}

-- the whole text begins with what was given
whole_text : {left : Option (List ℕ)} (left' : Option (List ℕ)) (b : List ℕ) → Gave left left' b → IfSome left (λ bytes. bytes ≡ b ++ unwrap_or left' [])
whole_text None b gave = subst (λ (l : Option (List ℕ)). IfSome l (λ bytes. bytes ≡ b ++ [])) (sym gave) tt
whole_text (Some rest) b gave = subst (λ (l : Option (List ℕ)). IfSome l (λ bytes. bytes ≡ b ++ rest)) (sym gave) refl

none_left : (left' : Option (List ℕ)) (b : List ℕ) → IsAtEnd left' → b ≡ b ++ unwrap_or left' []
none_left None b end = sym (append-nil b)
none_left (Some rest) b end = sym (ap (λ (r : List ℕ). b ++ r) end ∙ append-nil b)

taken : {G : Type 0} {left left' : Option (List ℕ)} (limit : ℕ) (b : List ℕ) (result : Result (Vec ℕ G) RunError) → Gave left left' b → Takes limit (b ++ unwrap_or left' []) b result → WasTaken limit left left' result
taken {left' = left'} limit b result gave takes = record {
  i = b ++ unwrap_or left' [];
  b = b;
  input = whole_text left' b gave;
  gave = gave;
  rest = refl;
  takes = takes;
}

pub taken_whole : {G : Type 0} {left left' : Option (List ℕ)} (limit : ℕ) (bytes : Vec ℕ G) → Gave left left' bytes.items → IsAtEnd left' → WasTaken limit left left' (Ok bytes)
taken_whole {left' = left'} limit bytes gave end = taken limit bytes.items (Ok bytes) gave (refl, inl (none_left left' bytes.items end))

pub taken_much : {G : Type 0} {left left' : Option (List ℕ)} (limit : ℕ) (bytes : Vec ℕ G) → Gave left left' bytes.items → limit < length bytes.items → WasTaken limit left left' (Ok bytes)
taken_much limit bytes gave much = taken limit bytes.items (Ok bytes) gave (refl, inr much)

pub taken_fault : {G : Type 0} {left left' : Option (List ℕ)} (limit : ℕ) (b : List ℕ) → length b ≤ limit → Gave left left' b → WasTaken {G = G} limit left left' (Err Read)
taken_fault {G} limit b few gave = taken {G = G} limit b (Err Read) gave few

pub taken_memory : {G : Type 0} {left left' : Option (List ℕ)} (limit : ℕ) (b : List ℕ) → Gave left left' b → WasTaken {G = G} limit left left' (Err Memory)
taken_memory {G} limit b gave = taken {G = G} limit b (Err Memory) gave tt

-- Calls

-- the source failed, and gave nothing
pub fault_taken : {G : Type 0} {left left' left'' : Option (List ℕ)} (limit : ℕ) (b : List ℕ) → length b ≤ limit → left'' ≡ left' → Gave left left' b → WasTaken {G = G} limit left left'' (Err Read)
fault_taken {G} {left} limit b few same gave = taken_fault {G = G} limit b few (subst (λ (l : Option (List ℕ)). Gave left l b) (sym same) gave)

-- the source gave no more
pub whole_taken : {G : Type 0} {left left' left'' : Option (List ℕ)} (limit n : ℕ) (bytes : Vec ℕ G) (piece : List ℕ) → n ≡ 0 → Gave left left' bytes.items → Gave left' left'' (take n piece) → IsAtEnd left'' → WasTaken limit left left'' (Ok bytes)
whole_taken {left = left} {left'} {left''} limit n bytes piece none gave given end =
    taken_whole limit bytes (subst (λ (b : List ℕ). Gave left left'' b) (ap (λ (k : ℕ). bytes.items ++ take k piece) none ∙ append-nil bytes.items) (gave_then left left' left'' bytes.items (take n piece) gave given)) end

-- the source gave a piece
pub gave_piece : {left left' : Option (List ℕ)} (left'' : Option (List ℕ)) (b piece new : List ℕ) → new ≡ b ++ piece → Gave left left' b → Gave left' left'' piece → Gave left left'' new
gave_piece {left} {left'} left'' b piece new is gave given = subst (λ (bytes : List ℕ). Gave left left'' bytes) (sym is) (gave_then left left' left'' b piece gave given)

-- nothing was taken
pub gave_none : {left : Option (List ℕ)} (b : List ℕ) → b ≡ [] → Gave left left b
gave_none {left} b none = subst (λ (bytes : List ℕ). Gave left left bytes) (sym none) (gave_nothing left)
