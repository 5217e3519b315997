-- A text as its whole lines and the line that has begun.
use Rattle.std.proofs.Common.{◌≡◌, ℕ, ◌-◌, List, [], ◌∷◌, ◌++◌, length, Bool, true, false, refl, ap, ◌∙◌, arith, inl, inr}
use Rattle.std.proofs.lemmas.List.{take_at, get_or_at, length_push}
use Rattle.std.proofs.lemmas.Bool.{cases_Bool}
use Rattle.std.specs.List.{slice_split, onto_first}
use Rattle.outer_ports.specs.Lines.{parts_of, whole_lines, begun_line}

-- an element in front of the parts; it becomes the first element of the first part
abbrev with_first : {X : Type 0} → X → List (List X) → List X → List (List X) × List X
with_first x [] begun = ([], x ∷ begun)
with_first x (part ∷ parts) begun = ((x ∷ part) ∷ parts, begun)

onto_parts : {X : Type 0} (x : X) (whole : List (List X)) (begun : List X) (more : List (List X)) → onto_first x (whole ++ begun ∷ more) ≡ (with_first x whole begun).0 ++ (with_first x whole begun).1 ∷ more
onto_parts x [] begun more = refl
onto_parts x (part ∷ parts) begun more = refl

onto_begun : {X : Type 0} (x y : X) (whole : List (List X)) (begun : List X) → onto_first x (whole ++ (begun ++ y ∷ []) ∷ []) ≡ (with_first x whole begun).0 ++ ((with_first x whole begun).1 ++ y ∷ []) ∷ []
onto_begun x y [] begun = refl
onto_begun x y (part ∷ parts) begun = refl

-- the parts of a text, and those of the text with one more element in front
pub record Cuts {X : Type 0} (p : X → Bool) (text : List X) : Type 0 where
  pub whole : List (List X)
  pub begun : List X
  pub parts : slice_split p text ≡ whole ++ begun ∷ []
  pub ends : (x : X) → p x ≡ true → slice_split p (text ++ x ∷ []) ≡ whole ++ begun ∷ [] ∷ []
  pub goes : (x : X) → p x ≡ false → slice_split p (text ++ x ∷ []) ≡ whole ++ (begun ++ x ∷ []) ∷ []

pub cuts : {X : Type 0} (p : X → Bool) (text : List X) → Cuts p text
cuts p [] = record {
  whole = [];
  begun = [];
  parts = refl;
  ends = λ x e. rw e refl;
  goes = λ x e. rw e refl;
}
cuts p (x ∷ xs) =
    let rest = cuts p xs in
    elim (cases_Bool (p x)) [
      | inl e ↦ record {
        whole = [] ∷ rest.whole;
        begun = rest.begun;
        parts = rw e (ap (λ l. [] ∷ l) rest.parts);
        ends = λ y h. rw e (ap (λ l. [] ∷ l) (rest.ends y h));
        goes = λ y h. rw e (ap (λ l. [] ∷ l) (rest.goes y h));
      }
      | inr e ↦ record {
        whole = (with_first x rest.whole rest.begun).0;
        begun = (with_first x rest.whole rest.begun).1;
        parts = rw e (ap (onto_first x) rest.parts ∙ onto_parts x rest.whole rest.begun []);
        ends = λ y h. rw e (ap (onto_first x) (rest.ends y h) ∙ onto_parts x rest.whole rest.begun ([] ∷ []));
        goes = λ y h. rw e (ap (onto_first x) (rest.goes y h) ∙ onto_begun x y rest.whole rest.begun);
      }
    ]

-- all parts except the last are whole lines
pub whole_lines-is : (text : List ℕ) (whole : List (List ℕ)) (begun : List ℕ) → parts_of text ≡ whole ++ begun ∷ [] → whole_lines text ≡ whole
whole_lines-is text whole begun is = rw is (take_at whole (begun ∷ []) (length (whole ++ begun ∷ []) - 1) (omega (arith, length_push whole begun)))

pub begun_line-is : (text : List ℕ) (whole : List (List ℕ)) (begun : List ℕ) → parts_of text ≡ whole ++ begun ∷ [] → begun_line text ≡ begun
begun_line-is text whole begun is = rw is (get_or_at whole begun [] [] (length (whole ++ begun ∷ []) - 1) (omega (arith, length_push whole begun)))
