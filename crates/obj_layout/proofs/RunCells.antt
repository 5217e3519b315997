-- The cells of a compact run are found one by one.
use Rattle.std.proofs.Common.{ℕ, ◌≡◌, ◌≢◌, ◌⊎◌, ◌+◌, ◌-◌, ◌<◌, ◌≤◌, Bool, true, false, not, List, Option, length, Some, slice_get, refl, sym, ◌∙◌, ap, subst, inl, inr, arith}
use Rattle.std.proofs.lemmas.Bool.{cases_lt}
use Rattle.std.specs.Option.{is_some}
use denote.Enum.Bare.{sameb, same_true, same_false, differs_true, differs_false}
use Rattle.store_word.specs.Words.{Parts}
use Rattle.store_word.specs.declared.word.CdrCode.{CdrCode}
use Rattle.store_word.specs.declared.word.CdrCode.TheVariants.{Next as CdrNext, Nil as CdrNil, Normal, Second}
use Rattle.store_word.specs.contracts.word.CdrCode.{the_type}
use Rattle.store_word.specs.declared.word.Content.{Content}
use Rattle.store_word.specs.declared.word.Content.TheVariants.{Header}
use Rattle.obj_layout.specs.declared.run.TheConstants.{RUN_LIMIT}
use Rattle.obj_layout.specs.declared.shape.Shape.TheVariants.{Pair as PairShape, Cell as CellShape}
use Rattle.obj_layout.specs.declared.run.RunEnd.{RunEnd}
use Rattle.obj_layout.specs.declared.run.RunEnd.TheVariants.{Nil, Pair, Forwarded}
use Rattle.obj_layout.specs.declared.run.Run.{Run}
use Rattle.obj_layout.specs.Forwards.{word_at, forward_of, Final, HasFinal, IsFinal}
use Rattle.obj_layout.specs.Shapes.{shape_from}
use Rattle.obj_layout.specs.Runs.{IsCell, IsRun, HasRun}
use Rattle.obj_layout.proofs.ForwardChains.{word_at-read, forward-read, leads-inside}

-- a cell isn't coded normal
cell-code : (content : Content) (code : CdrCode) → shape_from content code ≡ CellShape → code ≢ Normal
cell-code (Header c n) code is = absurd (cc)
cell-code _ Normal is = absurd (cc)
cell-code _ CdrNext is = λ e. cc
cell-code _ CdrNil is = λ e. cc
cell-code _ Second is = λ e. cc

-- a pair is
pair-code : (content : Content) (code : CdrCode) → shape_from content code ≡ PairShape → code ≡ Normal
pair-code (Header c n) code is = absurd (cc)
pair-code _ Normal is = refl
pair-code _ CdrNext is = absurd (cc)
pair-code _ CdrNil is = absurd (cc)
pair-code _ Second is = absurd (cc)

-- a compact run of at most 1,024 cells, of which `cells` were found
pub record Found (words : List Parts) (at cells : ℕ) : Type 0 where
  pub run : Run
  pub few : run.cells ≤ RUN_LIMIT
  pub is : IsRun words at run
  pub some : 1 ≤ cells
  pub within : cells ≤ run.cells

-- the first of them
pub found-one : (words : List Parts) (at : ℕ) → HasRun words at → Found words at 1
found-one words at (run, few, is) = record { run = run; few = few; is = is; some = omega arith; within = is.some }

-- the run with this number of cells and this end
abbrev ended : ℕ → RunEnd → Run
ended cells ending = record { cells = cells; ending = ending }

-- the last cell found is coded next, and a cell follows
record GoesOn (words : List Parts) (at cells : ℕ) : Type 0 where
  code : (word_at words (at + cells - 1)).cdr ≡ CdrNext
  cell : IsCell words (at + cells)
  more : Found words at (cells + 1)

-- the run goes on, or these are its cells
either : (words : List Parts) (at cells : ℕ) → Found words at cells → GoesOn words at cells ⊎ ((ending : RunEnd) × IsRun words at (ended cells ending))
either words at cells found =
    let run = found.run in
    let some = found.some in
    elim (cases_lt cells run.cells) [
      | inl less ↦
          let place : at + (cells - 1) ≡ at + cells - 1 = omega arith in
          inl (record {
            code = subst (λ (a : ℕ). (word_at words a).cdr ≡ CdrNext) place (found.is.linked (cells - 1) (omega arith));
            cell = found.is.cells cells less;
            more = record { run = run; few = found.few; is = found.is; some = omega arith; within = omega arith };
          })
      | inr not_less ↦
          let within = found.within in
          let same : run.cells ≡ cells = omega arith in
          inr (run.ending, subst (λ (n : ℕ). IsRun words at (ended n run.ending)) same found.is)
    ]

-- these are its cells if the last is coded nil
pub run-nil : {words : List Parts} {at cells : ℕ} {last : Parts} {code : CdrCode} → Found words at cells → word_at words (at + cells - 1) ≡ last → code ≡ last.cdr
    → false ≡ not (sameb the_type code CdrNil) → IsRun words at (ended cells Nil)
run-nil {words} {at} {cells} {last} {code} found last_is code_is test = go (either words at cells found)
  where
    nil : (word_at words (at + cells - 1)).cdr ≡ CdrNil
    nil = ap (λ (w : Parts). w.cdr) last_is ∙ (sym code_is ∙ differs_false the_type tt code CdrNil (sym test))

    go : GoesOn words at cells ⊎ ((ending : RunEnd) × IsRun words at (ended cells ending)) → IsRun words at (ended cells Nil)
    go (inl on) =
        let is_nil = nil in
        let next = on.code in
        absurd (cc)
    go (inr (Nil, is)) = is
    go (inr (Pair, is)) =
        let is_nil = nil in
        let next = is.last in
        absurd (cc)
    go (inr (Forwarded to, is)) =
        let is_nil = nil in
        let next = is.last in
        absurd (cc)

-- else a word of the memory follows
pub run-inside : {words : List Parts} {at cells : ℕ} {last : Parts} {code : CdrCode} → Found words at cells → word_at words (at + cells - 1) ≡ last → code ≡ last.cdr
    → true ≡ not (sameb the_type code CdrNil) → at + cells < length words
run-inside {words} {at} {cells} {last} {code} found last_is code_is test = go (either words at cells found)
  where
    coded : (word_at words (at + cells - 1)).cdr ≢ CdrNil
    coded nil = differs_true the_type code CdrNil (sym test) (code_is ∙ (ap (λ (w : Parts). w.cdr) (sym last_is) ∙ nil))

    go : GoesOn words at cells ⊎ ((ending : RunEnd) × IsRun words at (ended cells ending)) → at + cells < length words
    go (inl on) = on.cell.final.inside
    go (inr (Nil, is)) = absurd (coded is.last)
    go (inr (Pair, is)) = is.behind.final.inside
    go (inr (Forwarded to, is)) = leads-inside is.behind.final.2 is.behind.inside

-- the last cell found isn't coded nil, and the next word, which was read, is this one, a forward or not
pub record Behind (words : List Parts) (at cells : ℕ) (word : Parts) (some : Bool) : Type 0 where
  pub found : Found words at cells
  pub coded : (word_at words (at + cells - 1)).cdr ≢ CdrNil
  pub word_is : word_at words (at + cells) ≡ word
  pub forward : is_some (forward_of (word_at words (at + cells)).content) ≡ some

-- what follows from the reads and the tests
pub behind-read : {old new : List Parts} {at cells : ℕ} {last word : Parts} {code : CdrCode} {to : Option ℕ} {some : Bool} → Found old at cells
    → word_at old (at + cells - 1) ≡ last → code ≡ last.cdr → true ≡ not (sameb the_type code CdrNil)
    → new ≡ old → slice_get new (at + cells) ≡ Some word → to ≡ forward_of word.content → some ≡ is_some to → Behind old at cells word some
behind-read {old} {new} {at} {cells} {last} {word} {code} {to} {some} found last_is code_is test same read to_is some_is = record {
  found = found;
  coded = λ nil. differs_true the_type code CdrNil (sym test) (code_is ∙ (ap (λ (w : Parts). w.cdr) (sym last_is) ∙ nil));
  word_is = word_at-read old new (at + cells) word same read;
  forward = ap is_some (forward-read old new (at + cells) word to same read to_is) ∙ sym some_is;
}

-- a forward has a final address
pub run-forward : {words : List Parts} {at cells : ℕ} {word : Parts} → Behind words at cells word true → HasFinal words (at + cells)
run-forward {words} {at} {cells} {word} behind = go (either words at cells behind.found)
  where
    go : GoesOn words at cells ⊎ ((ending : RunEnd) × IsRun words at (ended cells ending)) → HasFinal words (at + cells)
    go (inl on) = let none = ap is_some on.cell.final.no_forward in let some = behind.forward in absurd (cc)
    go (inr (Nil, is)) = absurd (behind.coded is.last)
    go (inr (Pair, is)) = let none = ap is_some is.behind.final.no_forward in let some = behind.forward in absurd (cc)
    go (inr (Forwarded to, is)) = (to, is.behind.inside, is.behind.final)

-- and the run ends before it, with any final address that it has
pub run-forwarded : {words : List Parts} {at cells to : ℕ} {word : Parts} → Behind words at cells word true → Final words (at + cells) to → IsFinal words to
    → IsRun words at (ended cells (Forwarded to))
run-forwarded {words} {at} {cells} {to} {word} behind final last = go (either words at cells behind.found)
  where
    go : GoesOn words at cells ⊎ ((ending : RunEnd) × IsRun words at (ended cells ending)) → IsRun words at (ended cells (Forwarded to))
    go (inl on) = let none = ap is_some on.cell.final.no_forward in let some = behind.forward in absurd (cc)
    go (inr (Nil, is)) = absurd (behind.coded is.last)
    go (inr (Pair, is)) = let none = ap is_some is.behind.final.no_forward in let some = behind.forward in absurd (cc)
    go (inr (Forwarded other, is)) = record {
      some = is.some;
      cells = is.cells;
      linked = is.linked;
      last = is.last;
      behind = record { forward = is.behind.forward; final = final; inside = last.inside };
    }

-- it ends before a word coded normal that isn't a forward
pub run-pair : {words : List Parts} {at cells : ℕ} {word : Parts} {code : CdrCode} → Behind words at cells word false → code ≡ word.cdr → true ≡ sameb the_type code Normal
    → IsRun words at (ended cells Pair)
run-pair {words} {at} {cells} {word} {code} behind code_is test = go (either words at cells behind.found)
  where
    normal : (word_at words (at + cells)).cdr ≡ Normal
    normal = ap (λ (w : Parts). w.cdr) behind.word_is ∙ (sym code_is ∙ same_true the_type tt code Normal (sym test))

    go : GoesOn words at cells ⊎ ((ending : RunEnd) × IsRun words at (ended cells ending)) → IsRun words at (ended cells Pair)
    go (inl on) = absurd (cell-code (word_at words (at + cells)).content (word_at words (at + cells)).cdr on.cell.shape normal)
    go (inr (Nil, is)) = absurd (behind.coded is.last)
    go (inr (Pair, is)) = is
    go (inr (Forwarded to, is)) = let some = is.behind.forward in let none = behind.forward in absurd (cc)

-- and has a cell more before any other
pub found-more : {words : List Parts} {at cells : ℕ} {word : Parts} {code : CdrCode} → Behind words at cells word false → code ≡ word.cdr → false ≡ sameb the_type code Normal
    → Found words at (cells + 1)
found-more {words} {at} {cells} {word} {code} behind code_is test = go (either words at cells behind.found)
  where
    go : GoesOn words at cells ⊎ ((ending : RunEnd) × IsRun words at (ended cells ending)) → Found words at (cells + 1)
    go (inl on) = on.more
    go (inr (Nil, is)) = absurd (behind.coded is.last)
    go (inr (Pair, is)) =
        let normal = pair-code (word_at words (at + cells)).content (word_at words (at + cells)).cdr is.behind.shape in
        absurd (same_false the_type code Normal (sym test) (code_is ∙ (ap (λ (w : Parts). w.cdr) (sym behind.word_is) ∙ normal)))
    go (inr (Forwarded to, is)) = let some = is.behind.forward in let none = behind.forward in absurd (cc)
