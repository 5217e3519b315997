-- The lines of a file.
use Rattle.std.proofs.Common.{◌≡◌, ℕ, zero, suc, ◌+◌, ◌-◌, max, List, [], ◌∷◌, ◌++◌, drop, append_assoc, Bool, true, false, if◌then◌else◌, refl, ap, sym, ◌∙◌, arith}
use Rattle.std.proofs.lemmas.Grind.{flat_map-append}
use Rattle.lisp_graph.specs.declared.object.Value.{Value}
use Rattle.lisp_graph.specs.declared.object.Object.{Object}
use Rattle.lisp_graph.specs.declared.world.AreaRule.{AreaRule}
use Rattle.store_word.specs.declared.space.Space.{Space}
use Rattle.world_text.specs.writing.Spelling.{ClosingLine, RootLine, WorldLine, spelled}
use Rattle.lisp_graph.specs.Groups.{group_size, is_nil, to_tail}
use Rattle.world_text.specs.writing.File.{file_text, head_lines, line_of_size, object_lines_of, root_lines_of, text_of}

-- objects that an earlier line contains are skipped
skipped : (skip number : ℕ) (objects : List Object) → object_lines_of skip number objects ≡ object_lines_of 0 (number + skip) (drop skip objects)
skipped zero number [] = refl
skipped (suc skip) number [] = refl
skipped zero number (object ∷ objects) = ap (λ n. object_lines_of 0 n (object ∷ objects)) (omega arith)
skipped (suc skip) number (object ∷ objects) = skipped skip (number + 1) objects ∙ ap (λ n. object_lines_of 0 n (drop skip objects)) (omega arith)

-- the line of the first of these objects, and the lines of those after it
pub first_line : (size number : ℕ) (object : Object) (objects : List Object) → group_size (to_tail object.area number (object ∷ objects)) ≡ size
    → object_lines_of 0 number (object ∷ objects) ≡ line_of_size size object objects ∷ object_lines_of 0 (number + max size 1) (drop (max size 1) (object ∷ objects))
first_line zero number object objects is = rw is refl
first_line (suc more) number object objects is =
    let less : suc more - 1 ≡ more = omega arith in
    let e : object_lines_of (suc more - 1) (number + 1) objects ≡ object_lines_of 0 (number + 1 + more) (drop more objects) = rw less (skipped more (number + 1) objects) in
    let one : max (suc more) 1 ≡ suc more = omega arith in
    let at : number + 1 + more ≡ number + suc more = omega arith in
    rw (is, e, one, at) refl

-- the text of a file is that of its parts
pub text_append : (areas : List AreaRule) (before behind : List WorldLine) → text_of areas (before ++ behind) ≡ text_of areas before ++ text_of areas behind
text_append areas before behind = flat_map-append (λ line. spelled areas line ++ 10 ∷ []) before behind

-- what is written in two steps
pub text_more : (areas : List AreaRule) (before behind : List WorldLine) (old middle new : List ℕ)
    → middle ≡ old ++ text_of areas before → new ≡ middle ++ text_of areas behind → new ≡ old ++ text_of areas (before ++ behind)
text_more areas before behind old middle new first second =
    second ∙ ap (λ (text : List ℕ). text ++ text_of areas behind) first ∙ append_assoc old (text_of areas before) (text_of areas behind) ∙ sym (ap (λ (text : List ℕ). old ++ text) (text_append areas before behind))

-- the lines of registers name no area
pub roots_text : (areas : List AreaRule) (register : ℕ) (values : List Value) → text_of areas (root_lines_of register values) ≡ text_of [] (root_lines_of register values)
roots_text areas register [] = refl
roots_text areas register (value ∷ values) = of_test (is_nil value) (roots_text areas (register + 1) values)
  where
    of_test : (b : Bool) → text_of areas (root_lines_of (register + 1) values) ≡ text_of [] (root_lines_of (register + 1) values)
        → text_of areas (if b then root_lines_of (register + 1) values else RootLine register value ∷ root_lines_of (register + 1) values)
        ≡ text_of [] (if b then root_lines_of (register + 1) values else RootLine register value ∷ root_lines_of (register + 1) values)
    of_test true rest = rest
    of_test false rest = ap (λ text. (spelled [] (RootLine register value) ++ 10 ∷ []) ++ text) rest

-- the text of a file is that of its head, its objects and its end
pub file_parts : (space : Space) (areas : List AreaRule) (objects : List Object) (roots : List Value) (head body whole : List ℕ) → head ≡ text_of areas (head_lines space areas)
    → body ≡ head ++ text_of areas (object_lines_of 0 0 objects) → whole ≡ body ++ text_of [] (root_lines_of 0 roots ++ ClosingLine true ∷ []) → whole ≡ file_text space areas objects roots
file_parts space areas objects roots head body whole is_head is_body is_whole =
    let lines = object_lines_of 0 0 objects in
    let roots_lines = root_lines_of 0 roots in
    let last : List WorldLine = ClosingLine true ∷ [] in
    let end : text_of [] (roots_lines ++ last) ≡ text_of areas (roots_lines ++ last) =
    text_append [] roots_lines last ∙ ap (λ (t : List ℕ). t ++ text_of [] last) (sym (roots_text areas 0 roots)) ∙ sym (text_append areas roots_lines last) in
    let front : List WorldLine = head_lines space areas ++ lines in
    let two : body ≡ text_of areas front = text_more areas (head_lines space areas) lines [] head body is_head is_body in
    text_more areas front (roots_lines ++ last) [] body whole two (is_whole ∙ ap (λ (t : List ℕ). body ++ t) end)
    ∙ ap (text_of areas) (sym (append_assoc front roots_lines last))
