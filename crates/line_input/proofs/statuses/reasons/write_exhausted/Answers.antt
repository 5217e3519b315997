use Rattle.std.proofs.Common.{◌≡◌, ◌∷◌, ◌++◌, ◌∙◌, ℕ, List, ap, append_assoc}
use Rattle.line_input.proofs.statuses.reasons.write_exhausted.Goals as goal

-- the last words of the line, and its end
words_end : (area charged wanted quota end : List ℕ) → (area ++ 32 ∷ (charged ++ 32 ∷ (wanted ++ 32 ∷ quota))) ++ end ≡ area ++ 32 ∷ (charged ++ 32 ∷ (wanted ++ 32 ∷ (quota ++ end)))
words_end area charged wanted quota end =
    append_assoc area (32 ∷ (charged ++ 32 ∷ (wanted ++ 32 ∷ quota))) end
    ∙ ap (λ text. area ++ 32 ∷ text) (append_assoc charged (32 ∷ (wanted ++ 32 ∷ quota)) end ∙ ap (λ text. charged ++ 32 ∷ text) (append_assoc wanted (32 ∷ quota) end))

pub returns-clause-written : goal.returns-clause-written
returns-clause-written g c =
    rw (words_end c.args.area.now _ _ _ _)
    (rw (c.as_bytes.ensures.value, c.format.ensures.text, c.as_bytes-2.ensures.value, c.format-2.ensures.text, c.as_bytes-3.ensures.value, c.format-3.ensures.text, c.as_bytes-4.ensures.value, c.format-4.ensures.text) at c.give_parts.ensures.written)
