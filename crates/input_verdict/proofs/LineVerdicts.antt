-- A line that keeps the limits is judged by its text.
use Rattle.std.proofs.Common.{◌≡◌, ℕ, ◌+◌, ◌^◌, ◌≤◌, List, [], ◌∷◌, ◌++◌, length, Bool, true, false, Option, None, Ok, ap, ◌∙◌, append_assoc, arith}
use Rattle.line_input.specs.Limits.{broken_limit}
use Rattle.line_input.specs.Lines.{Line, lines_of, size_of}
use Rattle.line_input.specs.Reader.{no_feed}
use Rattle.line_input.specs.Verdict.{further, unless_broken}
use Rattle.line_input.proofs.BrokenLimits.{unbroken_line}
use Rattle.line_input.proofs.Cuts.{lines_feed}
use Rattle.input_verdict.specs.Input.{JudgedInput}
use Rattle.input_verdict.specs.Events.{Event}
use Rattle.input_verdict.specs.Verdict.{Read, Said, counted, decided, judged, judged_as, line_in, noted}

within : (ended : Bool) (bytes size : ℕ) → ended ≡ false → size ≤ 32768 → bytes + (size + 1) ≤ 2 ^ 40 → broken_limit (2 ^ 40) ended bytes size (size + 1) ≡ None
within ended bytes size unended short low = ap (λ over. broken_limit (2 ^ 40) over bytes size (size + 1)) unended ∙ unbroken_line bytes size (size + 1) (omega arith) short

pub goes : (read : Read) (text rest : List ℕ) (event : Event) (place : JudgedInput) → line_in read.place text ≡ Ok (record { event = event; place = place }) → read.place.judge.ended ≡ false → no_feed text ≡ true → length text ≤ 32768
    → read.place.bytes + (length text + 1) ≤ 2 ^ 40 → judged read (lines_of ((text ++ 10 ∷ []) ++ rest)) ≡ judged (noted read event (further place (length text + 1))) (lines_of rest)
goes read text rest event place said unended feed short low =
    let line : Line = record { text = text; whole = true } in
    let cut : lines_of ((text ++ 10 ∷ []) ++ rest) ≡ line ∷ lines_of rest = ap lines_of (append_assoc text (10 ∷ []) rest) ∙ lines_feed text rest feed in
    let judges : judged_as read.place text (size_of line) ≡ Ok (record { event = event; place = further place (length text + 1) }) =
    ap (λ (reason : Option _). unless_broken (read.place.lines + 1) reason (counted (length text + 1) (line_in read.place text))) (within read.place.judge.ended read.place.bytes (length text) unended short low)
    ∙ ap (counted (length text + 1)) said in
    ap (judged read) cut ∙ ap (λ (s : Said). decided read s (λ more. judged more (lines_of rest))) judges
