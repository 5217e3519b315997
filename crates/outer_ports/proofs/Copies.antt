-- Parts of lists that were copied.
use Rattle.std.proofs.Common.{◌≡◌, ℕ, ◌+◌, ◌-◌, ◌≤◌, List, ◌++◌, length, min, take, drop, sym, ap, ◌∙◌, arith}
use Rattle.std.proofs.lemmas.List.{take_at, take-append-drop, take-take, take_min, length-take-le, drop-drop, length-drop}
use Rattle.std.proofs.Math.Seq.{take-append-add}

-- the bytes from a position on are those that were copied, followed by the others
pub drop-taken : (bytes into copy : List ℕ) (at n : ℕ) → copy ≡ take (at + n - at) (drop at bytes) → at + n ≤ length bytes → drop at bytes ≡ take n (copy ++ drop n into) ++ drop (at + n) bytes
drop-taken bytes into copy at n is fits =
    let e : at + n - at ≡ n = omega arith in
    let m : n ≤ length (drop at bytes) = omega (arith, length-drop at bytes) in
    let l : length copy ≡ n = rw (is, e) (length-take-le n (drop at bytes) m) in
    rw (take_at copy (drop n into) n l) (rw is (rw e (rw (← drop-drop n at bytes) (sym (take-append-drop n (drop at bytes))))))

-- the first bytes of a text that was copied after the first bytes of a buffer
pub copied-shorter : (len n : ℕ) (room after text : List ℕ) → len ≤ length room → n ≤ length text → take (len + length text) after ≡ take len room ++ text → take (len + n) after ≡ take len room ++ take n text
copied-shorter len n room after text inside at_most copied =
    let size : length (take len room) ≡ len = length-take-le len room inside in
    sym (take-take (len + n) (len + length text) after (omega (arith, at_most)))
    ∙ ap (take (len + n)) copied ∙ ap (λ k. take (k + n) (take len room ++ text)) (sym size) ∙ take-append-add (take len room) text n

-- as much of a text as there is room for was copied after the first bytes of a buffer
pub copied-front : (limit len count : ℕ) (room after text : List ℕ) → len ≤ limit → len ≤ length room → count ≡ min (length text) (limit - len)
    → take (len + length (take count text)) after ≡ take len room ++ take count text → take (len + count) after ≡ take limit (take len room ++ text)
copied-front limit len count room after text at_most inside is copied =
    let size : length (take count text) ≡ count = length-take-le count text (omega (arith, is)) in
    let whole : length (take len room) + (limit - len) ≡ limit = omega (arith, at_most, length-take-le len room inside) in
    let least : min (limit - len) (length text) ≡ count = omega (arith, is) in
    let same : take count text ≡ take (limit - len) text = ap (λ k. take k text) (sym least) ∙ take_min (limit - len) text in
    ap (λ k. take (len + k) after) (sym size) ∙ copied ∙ ap (λ l. take len room ++ l) same
    ∙ sym (take-append-add (take len room) text (limit - len)) ∙ ap (λ k. take k (take len room ++ text)) whole
