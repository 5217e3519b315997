-- What an accepted line is, if it isn't part of a file.
use Rattle.std.proofs.Common.{◌≡◌, ◌⊎◌, inl, inr, ℕ, List, [], ◌∷◌, ◌++◌, length, drop, Bool, true, false, ◌==◌, cond, codes, Result, Ok, Err, refl, sym, ap, ◌∙◌, subst, arith}
use Rattle.std.specs.Prelude.{bytes_eq}
use Rattle.std.proofs.lemmas.List.{append-nil}
use Rattle.lisp_graph.specs.Name.{is_name}
use Rattle.world_text.specs.declared.reading.reason.Reason.TheVariants.{BadLine, UnknownCommand, WrongCount, BadName}
use Rattle.world_text.specs.Words.{first_word, is_well_formed, words_of}
use Rattle.world_text.specs.Next.{◌>>=◌}
use Rattle.world_text.specs.Spelling.{line_of}
use Rattle.world_text.proofs.reading_laws.ReadLaws.{eq_number, guard_ok, step_parts}
use Rattle.world_text.proofs.reading_laws.Rows.{formed_row}
use Rattle.world_text.proofs.reading_laws.ValueLaws.{same_bytes}
use Rattle.band_run.specs.declared.reading.line.BandLine.{BandLine}
use Rattle.band_run.specs.declared.reading.line.BandLine.TheVariants as L
use Rattle.band_run.specs.Lines.{IsNamed, alone, band_line, line_in, name_in}

-- a test that succeeded or failed
either_ok : {A E : Type 0} (b : Bool) (one other : Result A E) (x : A) → cond b one other ≡ Ok x → ((b ≡ true) × (one ≡ Ok x)) ⊎ ((b ≡ false) × (other ≡ Ok x))
either_ok true one other x is = inl (refl, is)
either_ok false one other x is = inr (refl, is)

-- the words of a line with this meaning
abbrev LineOf : List ℕ → ℕ → List (List ℕ) → BandLine → Type 0
LineOf head count words L.Open = (head ≡ codes "open") × (count ≡ 1)
LineOf head count words (L.Save name) = (head ≡ codes "save") × (count ≡ 2) × (first_word words ≡ name) × (is_name name ≡ true)
LineOf head count words (L.Load name) = (head ≡ codes "load") × (count ≡ 2) × (first_word words ≡ name) × (is_name name ≡ true)
LineOf head count words L.List = (head ≡ codes "list") × (count ≡ 1)
LineOf head count words L.End = (head ≡ codes "end") × (count ≡ 1)

alone_only : (count : ℕ) (one line : BandLine) → alone count one ≡ Ok line → (count ≡ 1) × (one ≡ line)
alone_only count one line is =
    let g = guard_ok (count == 1) (Ok one) WrongCount line is in
    (eq_number count 1 g.0, (let e = g.1 in cc))

name_only : (count : ℕ) (words : List (List ℕ)) (name : List ℕ) → name_in count words ≡ Ok name → (count ≡ 2) × (first_word words ≡ name) × (is_name name ≡ true)
name_only count words name is =
    let g = guard_ok (count == 2) (cond (is_name (first_word words)) (Ok (first_word words)) (Err BadName)) WrongCount name is in
    let h = guard_ok (is_name (first_word words)) (Ok (first_word words)) BadName name g.1 in
    let e : first_word words ≡ name = let f = h.1 in cc in
    (eq_number count 2 g.0, e, ap is_name (sym e) ∙ h.0)

line_only : (head : List ℕ) (count : ℕ) (words : List (List ℕ)) (line : BandLine) → line_in head count words ≡ Ok line → LineOf head count words line
unfolding line_in
line_only head count words line is = first (either_ok (bytes_eq head (codes "open")) (alone count L.Open) _ line is)
  where
    ends : ((bytes_eq head (codes "end") ≡ true) × (alone count L.End ≡ Ok line)) ⊎ ((bytes_eq head (codes "end") ≡ false) × (Err UnknownCommand ≡ Ok line)) → LineOf head count words line
    ends (inl (word, is)) = (let a = alone_only count L.End line is in subst (LineOf head count words) a.1 (same_bytes head (codes "end") word, a.0))
    ends (inr (word, is)) = absurd (cc (is))

    lists : ((bytes_eq head (codes "list") ≡ true) × (alone count L.List ≡ Ok line)) ⊎ ((bytes_eq head (codes "list") ≡ false) × (cond (bytes_eq head (codes "end")) (alone count L.End) (Err UnknownCommand) ≡ Ok line))
        → LineOf head count words line
    lists (inl (word, is)) = (let a = alone_only count L.List line is in subst (LineOf head count words) a.1 (same_bytes head (codes "list") word, a.0))
    lists (inr (word, is)) = ends (either_ok (bytes_eq head (codes "end")) (alone count L.End) _ line is)

    loads : ((bytes_eq head (codes "load") ≡ true) × ((name_in count words >>= (λ name. Ok (L.Load name))) ≡ Ok line))
        ⊎ ((bytes_eq head (codes "load") ≡ false) × (cond (bytes_eq head (codes "list")) (alone count L.List) (cond (bytes_eq head (codes "end")) (alone count L.End) (Err UnknownCommand)) ≡ Ok line))
        → LineOf head count words line
    loads (inl (word, is)) = (
        let p = step_parts (name_in count words) (λ name. Ok (L.Load name)) line is in
        let n = name_only count words p.0 p.1 in
        let e : L.Load p.0 ≡ line = let f = p.2 in cc in
        subst (LineOf head count words) e (same_bytes head (codes "load") word, n.0, n.1, n.2))
    loads (inr (word, is)) = lists (either_ok (bytes_eq head (codes "list")) (alone count L.List) _ line is)

    saves : ((bytes_eq head (codes "save") ≡ true) × ((name_in count words >>= (λ name. Ok (L.Save name))) ≡ Ok line))
        ⊎ ((bytes_eq head (codes "save") ≡ false)
        × (cond (bytes_eq head (codes "load")) (name_in count words >>= (λ name. Ok (L.Load name))) (cond (bytes_eq head (codes "list")) (alone count L.List) (cond (bytes_eq head (codes "end")) (alone count L.End) (Err UnknownCommand))) ≡ Ok line))
        → LineOf head count words line
    saves (inl (word, is)) = (
        let p = step_parts (name_in count words) (λ name. Ok (L.Save name)) line is in
        let n = name_only count words p.0 p.1 in
        let e : L.Save p.0 ≡ line = let f = p.2 in cc in
        subst (LineOf head count words) e (same_bytes head (codes "save") word, n.0, n.1, n.2))
    saves (inr (word, is)) = loads (either_ok (bytes_eq head (codes "load")) (name_in count words >>= (λ name. Ok (L.Load name))) _ line is)

    first : ((bytes_eq head (codes "open") ≡ true) × (alone count L.Open ≡ Ok line))
        ⊎ ((bytes_eq head (codes "open") ≡ false)
        × (cond (bytes_eq head (codes "save")) (name_in count words >>= (λ name. Ok (L.Save name))) (cond (bytes_eq head (codes "load")) (name_in count words >>= (λ name. Ok (L.Load name))) (cond (bytes_eq head (codes "list")) (alone count L.List) (cond (bytes_eq head (codes "end")) (alone count L.End) (Err UnknownCommand)))) ≡ Ok line))
        → LineOf head count words line
    first (inl (word, is)) = (let a = alone_only count L.Open line is in subst (LineOf head count words) a.1 (same_bytes head (codes "open") word, a.0))
    first (inr (word, is)) = saves (either_ok (bytes_eq head (codes "save")) (name_in count words >>= (λ name. Ok (L.Save name))) _ line is)

-- the text of a line
abbrev pub line_text : BandLine → List ℕ
line_text L.Open = codes "open"
line_text (L.Save name) = codes "save " ++ name
line_text (L.Load name) = codes "load " ++ name
line_text L.List = codes "list"
line_text L.End = codes "end"

one_word : (words : List (List ℕ)) (head : List ℕ) → first_word words ≡ head → length words ≡ 1 → line_of words ≡ head
one_word [] head is count = absurd (omega (arith, count))
one_word (word ∷ []) head is count = append-nil word ∙ is
one_word (word ∷ next ∷ words) head is count = absurd (omega (arith, count))

two_words : (words : List (List ℕ)) (head name : List ℕ) → first_word words ≡ head → length words ≡ 2 → first_word (drop 1 words) ≡ name → line_of words ≡ head ++ 32 ∷ name
two_words [] head name is count second = absurd (omega (arith, count))
two_words (word ∷ []) head name is count second = absurd (omega (arith, count))
two_words (word ∷ next ∷ []) head name is count second = ap (λ w. w ++ 32 ∷ (next ++ [])) is ∙ ap (λ n. head ++ 32 ∷ n) (append-nil next ∙ second)
two_words (word ∷ next ∷ more ∷ words) head name is count second = absurd (omega (arith, count))

spelled : (text : List ℕ) (line : BandLine) → text ≡ line_of (words_of text) → LineOf (first_word (words_of text)) (length (words_of text)) (drop 1 (words_of text)) line → (text ≡ line_text line) × IsNamed line
spelled text L.Open row is = (row ∙ one_word (words_of text) (codes "open") is.0 is.1, tt)
spelled text (L.Save name) row is = (row ∙ two_words (words_of text) (codes "save") name is.0 is.1 is.2, is.3)
spelled text (L.Load name) row is = (row ∙ two_words (words_of text) (codes "load") name is.0 is.1 is.2, is.3)
spelled text L.List row is = (row ∙ one_word (words_of text) (codes "list") is.0 is.1, tt)
spelled text L.End row is = (row ∙ one_word (words_of text) (codes "end") is.0 is.1, tt)

-- an accepted line is the text of its meaning
pub line_spelled : (text : List ℕ) (line : BandLine) → band_line text ≡ Ok line → (text ≡ line_text line) × IsNamed line
line_spelled text line is =
    let g = guard_ok (is_well_formed text) (line_in (first_word (words_of text)) (length (words_of text)) (drop 1 (words_of text))) BadLine line is in
    spelled text line (formed_row text g.0).0 (line_only (first_word (words_of text)) (length (words_of text)) (drop 1 (words_of text)) line g.1)
