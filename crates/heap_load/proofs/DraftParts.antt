-- Drafts that get their parts.
use Rattle.std.proofs.Common.{◌≡◌, ℕ, zero, suc, ◌<◌, List, [], ◌∷◌, length, set, ap, arith}
use Rattle.lisp_graph.specs.declared.object.Object.{Object}
use Rattle.lisp_graph.specs.Graph.{object_at}
use Rattle.heap_load.specs.Drafts.{filled}

pub draft_filled : (whole drafts : List Object) (i : ℕ) → i < length whole → length drafts ≡ length whole
    → (object_at drafts i).area ≡ (object_at whole i).area → (object_at drafts i).charge ≡ (object_at whole i).charge
    → set (filled i whole drafts) i (record (object_at (filled i whole drafts) i) { body = (object_at whole i).body }) ≡ filled (suc i) whole drafts
draft_filled [] drafts i within same area charge = absurd (omega arith)
draft_filled (object ∷ whole) [] i within same area charge = absurd (omega arith)
draft_filled (object ∷ whole) (draft ∷ drafts) zero within same area charge = λ i. record { area = area i; charge = charge i; body = object.body } ∷ drafts
draft_filled (object ∷ whole) (draft ∷ drafts) (suc i) within same area charge =
    ap (λ (rest : List Object). object ∷ rest) (draft_filled whole drafts i (omega arith) (omega arith) area charge)
