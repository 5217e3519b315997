-- The contents of the worked example.
use Rattle.std.proofs.Common.{ℕ, zero, suc, ◌≡◌, ◌+◌, ◌<◌, List, [], ◌∷◌, None, length, slice_index_or, slice_set, refl, sym, ◌∙◌, ap, inl, inr, arith, lit<, lit≤}
use Rattle.std.proofs.lemmas.Bool.{cases_eq}
use Rattle.std.proofs.lemmas.List.{get_or-set_same, get_or-set_other, get_or_default, length-set}
use Rattle.std.specs.Option.{is_some}
use Rattle.store_word.specs.Words.{Parts, null_word}
use Rattle.obj_layout.specs.declared.shape.Shape.TheVariants.{Pair as PairShape, Cell as CellShape}
use Rattle.obj_layout.specs.declared.run.RunEnd.{RunEnd}
use Rattle.obj_layout.specs.declared.run.RunEnd.TheVariants.{Nil, Pair, Forwarded}
use Rattle.obj_layout.specs.Forwards.{word_at, forward_of, here, on, Final, HasFinal, IsFinal}
use Rattle.obj_layout.specs.Shapes.{shape_of}
use Rattle.obj_layout.specs.Runs.{IsCell, IsPair, HasRun}
use Rattle.test_memory.specs.Example.{example_words, IsExample}
use Rattle.obj_layout.proofs.RunLaws.{run-one, run-more}

-- a store keeps the number of words
pub stored-size : (old new : List Parts) (at : ℕ) (word : Parts) → new ≡ slice_set old at word → length new ≡ length old
stored-size old new at word is = ap length is ∙ length-set old at word

-- one word more was stored
pub stored-more : (old new words : List Parts) (at : ℕ) (word : Parts) → new ≡ slice_set old at word → at < length old → at < length words → word ≡ slice_index_or words at word
    → ((k : ℕ) → k < at → word_at old k ≡ word_at words k) → (k : ℕ) → k < at + 1 → word_at new k ≡ word_at words k
stored-more old new words at word is inside within read below k less =
    let same : word_at words at ≡ word = get_or_default words at null_word word within ∙ sym read in
    ap (λ (ws : List Parts). word_at ws k) is ∙ elim (cases_eq k at) [
      | inl here_is ↦ ap (word_at (slice_set old at word)) here_is ∙ (get_or-set_same old at word null_word inside ∙ (sym same ∙ ap (word_at words) (sym here_is)))
      | inr other ↦ get_or-set_other old at k word null_word other ∙ below k (omega arith)
    ]

module _ (words : List Parts) (laid : IsExample words) where
  -- a word of the memory leads to the same word as that of the example
  leads : (at : ℕ) → at < 15 → forward_of (word_at words at).content ≡ forward_of (word_at example_words at).content
  leads at less = ap (λ (w : Parts). forward_of w.content) (laid.same at less)

  final : (at : ℕ) → at < 15 → forward_of (word_at example_words at).content ≡ None → IsFinal words at
  final at less none = record { inside = omega (arith, laid.size); no_forward = leads at less ∙ none }

  cell : (at : ℕ) → at < 15 → forward_of (word_at example_words at).content ≡ None → shape_of (word_at example_words at) ≡ CellShape → IsCell words at
  cell at less none is = record { final = final at less none; shape = ap shape_of (laid.same at less) ∙ is }

  pair : (at : ℕ) → at < 15 → forward_of (word_at example_words at).content ≡ None → shape_of (word_at example_words at) ≡ PairShape → IsPair words at
  pair at less none is = record { final = final at less none; shape = ap shape_of (laid.same at less) ∙ is }

  -- the forward at 13 leads to the one at 14, and that to the second pair
  pub final-13 : Final words 13 2
  final-13 = (2, lit≤ tt, on (leads 13 (lit< tt)) (on (leads 14 (lit< tt)) (here (leads 2 (lit< tt)))))

  pub has_final-13 : HasFinal words 13
  has_final-13 = (2, omega (arith, laid.size), final-13)

  -- the three compact runs
  pub has_run-at : (k : ℕ) → k < 3 → HasRun words (slice_index_or {A = ℕ × ℕ × RunEnd} ((7, 2, Nil) ∷ (9, 1, Pair) ∷ (12, 1, Forwarded 2) ∷ []) k (0, 0, Nil)).0
  has_run-at zero less = (
    _,
    lit≤ tt,
    run-more words 7 _ (cell 7 (lit< tt) refl refl) (ap (λ (w : Parts). w.cdr) (laid.same 7 (lit< tt)))
        (run-one words 8 Nil (cell 8 (lit< tt) refl refl) (ap (λ (w : Parts). w.cdr) (laid.same 8 (lit< tt))) tt),
  )
  has_run-at (suc zero) less = (
    _,
    lit≤ tt,
    run-one words 9 Pair (cell 9 (lit< tt) refl refl) (ap (λ (w : Parts). w.cdr) (laid.same 9 (lit< tt))) (pair 10 (lit< tt) refl refl),
  )
  has_run-at (suc (suc zero)) less = (
    _,
    lit≤ tt,
    run-one words 12 (Forwarded 2) (cell 12 (lit< tt) refl refl) (ap (λ (w : Parts). w.cdr) (laid.same 12 (lit< tt)))
        (record { forward = ap is_some (leads 13 (lit< tt)); final = final-13; inside = omega (arith, laid.size) }),
  )
  has_run-at (suc (suc (suc k))) less = absurd (omega arith)
