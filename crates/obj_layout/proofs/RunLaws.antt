-- How runs are made, and that at most one begins at an address.
use Rattle.std.proofs.Common.{ℕ, zero, suc, ◌≡◌, ◌+◌, ◌-◌, ◌<◌, ◌≤◌, List, refl, sym, ap, subst, inl, inr, arith}
use Rattle.std.proofs.lemmas.Bool.{cases_lt}
use Rattle.std.specs.Option.{is_some}
use Rattle.store_word.specs.Words.{Parts}
use Rattle.store_word.specs.declared.word.CdrCode.{CdrCode}
use Rattle.store_word.specs.declared.word.CdrCode.TheVariants.{Next as CdrNext}
use Rattle.obj_layout.specs.declared.run.RunEnd.{RunEnd}
use Rattle.obj_layout.specs.declared.run.RunEnd.TheVariants.{Nil, Pair, Forwarded}
use Rattle.obj_layout.specs.declared.run.Run.{Run}
use Rattle.obj_layout.specs.Forwards.{word_at}
use Rattle.obj_layout.specs.Runs.{IsCell, StandsBehind, last_code, IsRun}
use Rattle.obj_layout.proofs.ForwardChains.{leads-same}

-- a last cell is a run
pub run-one : (words : List Parts) (at : ℕ) (ending : RunEnd) → IsCell words at → (word_at words at).cdr ≡ last_code ending
    → StandsBehind words (at + 1) ending → IsRun words at (record { cells = 1; ending = ending })
run-one words at ending cell code behind = record {
  some = omega arith;
  cells = λ i less. let here : at ≡ at + i = omega arith in subst (λ (a : ℕ). IsCell words a) here cell;
  linked = λ i less. absurd (omega arith);
  last = (let here : at ≡ at + 1 - 1 = omega arith in subst (λ (a : ℕ). (word_at words a).cdr ≡ last_code ending) here code);
  behind = behind;
}

-- a cell coded next before a run begins a run of one cell more
pub run-more : (words : List Parts) (at : ℕ) (run : Run) → IsCell words at → (word_at words at).cdr ≡ CdrNext
    → IsRun words (at + 1) run → IsRun words at (record run { cells = run.cells + 1 })
run-more words at run cell code rest = record {
  some = omega arith;
  cells = cells;
  linked = linked;
  last = (let some = rest.some in
      let here : at + 1 + run.cells - 1 ≡ at + (run.cells + 1) - 1 = omega arith in
      subst (λ (a : ℕ). (word_at words a).cdr ≡ last_code run.ending) here rest.last);
  behind = (let here : at + 1 + run.cells ≡ at + (run.cells + 1) = omega arith in
      subst (λ (a : ℕ). StandsBehind words a run.ending) here rest.behind);
}
  where
    cells : (i : ℕ) → i < run.cells + 1 → IsCell words (at + i)
    cells zero less = let here : at ≡ at + 0 = omega arith in subst (λ (a : ℕ). IsCell words a) here cell
    cells (suc i) less = let here : at + 1 + i ≡ at + suc i = omega arith in subst (λ (a : ℕ). IsCell words a) here (rest.cells i (omega arith))

    linked : (i : ℕ) → i + 1 < run.cells + 1 → (word_at words (at + i)).cdr ≡ CdrNext
    linked zero less = let here : at ≡ at + 0 = omega arith in subst (λ (a : ℕ). (word_at words a).cdr ≡ CdrNext) here code
    linked (suc i) less = let here : at + 1 + i ≡ at + suc i = omega arith in
        subst (λ (a : ℕ). (word_at words a).cdr ≡ CdrNext) here (rest.linked i (omega arith))

-- a run doesn't end before its last cell
run-longer : (words : List Parts) (at : ℕ) (cells : ℕ) (ending : RunEnd) (b : Run) → IsRun words at (record { cells = cells; ending = ending }) → IsRun words at b → cells < b.cells → ⊥
run-longer words at cells ending b first second less = go ending first.last first.behind
  where
    some : 1 ≤ cells
    some = first.some

    here : at + (cells - 1) ≡ at + cells - 1
    here = omega arith

    code : (word_at words (at + cells - 1)).cdr ≡ CdrNext
    code = subst (λ (a : ℕ). (word_at words a).cdr ≡ CdrNext) here (second.linked (cells - 1) (omega arith))

    cell : IsCell words (at + cells)
    cell = second.cells cells less

    go : (e : RunEnd) → (word_at words (at + cells - 1)).cdr ≡ last_code e → StandsBehind words (at + cells) e → ⊥
    go Nil last behind = let next = code in absurd (cc)
    go Pair last behind = let pair = behind.shape in let single = cell.shape in absurd (cc)
    go (Forwarded to) last behind = let none = ap is_some cell.final.no_forward in let forward = behind.forward in absurd (cc)

-- the ends of two runs with the same number of cells
ending-same : (words : List Parts) (behind : ℕ) (code : CdrCode) (a b : RunEnd) → code ≡ last_code a → code ≡ last_code b → StandsBehind words behind a → StandsBehind words behind b → a ≡ b
ending-same words behind code Nil Nil m n x y = refl
ending-same words behind code Nil Pair m n x y = absurd (cc)
ending-same words behind code Nil (Forwarded to) m n x y = absurd (cc)
ending-same words behind code Pair Nil m n x y = absurd (cc)
ending-same words behind code Pair Pair m n x y = refl
ending-same words behind code Pair (Forwarded to) m n x y = let none = ap is_some x.final.no_forward in let some = y.forward in absurd (cc)
ending-same words behind code (Forwarded to) Nil m n x y = absurd (cc)
ending-same words behind code (Forwarded to) Pair m n x y = let none = ap is_some y.final.no_forward in let some = x.forward in absurd (cc)
ending-same words behind code (Forwarded to) (Forwarded other) m n x y = ap Forwarded (leads-same x.final.2 y.final.2)

-- two runs from an address are the same
pub run-same : (words : List Parts) (at : ℕ) (a b : Run) → IsRun words at a → IsRun words at b → a ≡ b
run-same words at a b first second =
    elim (cases_lt a.cells b.cells) [
      | inl less ↦ absurd (run-longer words at a.cells a.ending b first second less)
      | inr not_less ↦ elim (cases_lt b.cells a.cells) [
        | inl less ↦ absurd (run-longer words at b.cells b.ending a second first less)
        | inr not_more ↦
            let same : b.cells ≡ a.cells = omega arith in
            let there = subst (λ (n : ℕ). IsRun words at (record { cells = n; ending = b.ending })) same second in
            let ending : a.ending ≡ b.ending = ending-same words (at + a.cells) _ a.ending b.ending first.last there.last first.behind there.behind in
            (λ i. record { cells = sym same i; ending = ending i })
      ]
    ]
