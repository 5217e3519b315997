-- Parts that were gathered one after another.
use Rattle.std.proofs.Common.{◌≡◌, ℕ, ◌+◌, ◌<◌, List, [], ◌++◌, length, take, drop, get_or, sym, subst, ap, ◌∙◌, append_assoc, take-append-drop}
use Rattle.std.proofs.lemmas.List.{append-nil, drop_more}
use Rattle.std.proofs.lemmas.List.Concat.{flat_map-append}
use Rattle.std.specs.List.{flat_map}
use Rattle.outer_ports.specs.Ports.{IsCut}
use Rattle.outer_ports.specs.Buffers.{Gathered}
use Rattle.outer_ports.proofs.Gains.{cut_behind, cut_longer, parts_more}
use Rattle.outer_ports.proofs.BufferGains.{gathered_more, gathered_nothing}

-- all parts, split into those before one of them, that one, and those after it
all_parts : {X : Type 0} (f : X → List ℕ) (parts : List X) (i : ℕ) (d : X) → i < length parts → flat_map f parts ≡ flat_map f (take i parts) ++ (f (get_or parts i d) ++ flat_map f (drop (i + 1) parts))
all_parts f parts i d below =
    ap (flat_map f) (sym (take-append-drop i parts)) ∙ flat_map-append f (take i parts) (drop i parts)
    ∙ ap (λ (w : List ℕ). flat_map f (take i parts) ++ w) (ap (flat_map f) (drop_more parts i d below))

module _ {X : Type 0} (f : X → List ℕ) (parts : List X) (i : ℕ) (d : X) (below : i < length parts) {P Q R : List ℕ → Type 0} {pending pending' : List ℕ} (had : List ℕ)
    (first : Gathered P Q pending (had ++ flat_map f (take i parts))) where
  -- the next part was gathered
  pub gathered_part : Gathered Q R pending' (pending ++ f (get_or parts i d)) → Gathered P R pending' (had ++ flat_map f (take (i + 1) parts))
  gathered_part then =
      subst (λ (w : List ℕ). Gathered P R pending' w)
      (append_assoc had (flat_map f (take i parts)) (f (get_or parts i d)) ∙ ap (λ (w : List ℕ). had ++ w) (sym (parts_more f parts i d below)))
      (gathered_more (f (get_or parts i d)) first then)

  -- a prefix of it was
  pub gathered_cut_part : (front : List ℕ) × IsCut (f (get_or parts i d)) front × Gathered Q R pending' (pending ++ front) → (front : List ℕ) × IsCut (flat_map f parts) front × Gathered P R pending' (had ++ front)
  gathered_cut_part then = (
    flat_map f (take i parts) ++ then.0,
    subst (λ (w : List ℕ). IsCut w (flat_map f (take i parts) ++ then.0)) (sym (all_parts f parts i d below)) (cut_behind _ then.0 (flat_map f (take i parts)) (cut_longer _ then.0 (flat_map f (drop (i + 1) parts)) then.1)),
    subst (λ (w : List ℕ). Gathered P R pending' w) (append_assoc had (flat_map f (take i parts)) then.0) (gathered_more then.0 first then.2),
  )

-- nothing was gathered yet
pub gathered_no_part : {P : List ℕ → Type 0} (pending : List ℕ) → Gathered P P pending (pending ++ [])
gathered_no_part {P} pending = subst (λ (w : List ℕ). Gathered P P pending w) (sym (append-nil pending)) (gathered_nothing pending)
