-- What holds between two lines, and when the reading ends.
use Rattle.std.proofs.Common.{◌≡◌, ◌⊎◌, inl, inr, ℕ, ◌+◌, ◌-◌, ◌<◌, ◌≤◌, ◌^◌, List, [], ◌∷◌, ◌++◌, length, take, drop, Bool, true, false, cond, Option, Some, None, Result, Ok, Err, refl, sym, ap, ◌∙◌, subst, arith, rules}
use Rattle.std.specs.Prelude.{IfSome, unwrap_or}
use Rattle.std.proofs.lemmas.List.{append-nil, append_assoc, drop-append-le, drop-drop, length-append, length-drop, take_all}
use Rattle.outer_ports.specs.Ports.{Gave, IsAtEnd}
use Rattle.outer_ports.proofs.Gains.{gave_nothing, gave_then}
use Rattle.world_text.specs.declared.reading.reason.Reason.{Reason}
use Rattle.line_input.specs.declared.lines.found.LineSpan.{LineSpan}
use Rattle.line_input.specs.declared.judging.input.InputReader.{InputReader}
use Rattle.line_input.specs.declared.statuses.status.RunError.{RunError}
use Rattle.line_input.specs.declared.statuses.status.RunError.TheVariants as T
use Rattle.line_input.specs.Lines.{Line, lines_of, size_of, whole_lines}
use Rattle.line_input.specs.Limits.{enough_bytes}
use Rattle.line_input.specs.Reader.{FitsIn, Buffered, IsAllBuffered, IsFound, IsPart, no_feed}
use Rattle.line_input.specs.Verdict.{IsPlace, IsUndecided, Judged, Reads, Rules, Said, WasRead, decided, early_reason, ended, enough, judged, judged_as, start, verdict}
use Rattle.line_input.proofs.Cuts.{Passes, lines_long, no_whole_lines, passes_last, passes_whole, whole_lines-append}
use Rattle.line_input.proofs.JudgedLines.{front_reason, judged_front, passed}

-- The source gave the bytes b: those of `lines`, which are `bytes` many, and then those that the reader buffers.
pub record Taken (left left' : Option (List ℕ)) (lines : List Line) (b : List ℕ) (bytes : ℕ) (reader : Buffered) : Type 0 where
  pub gave : Gave left left' b
  pub cuts : (more : List ℕ) → (reader.ended ≡ true → more ≡ []) → lines_of (b ++ more) ≡ lines ++ lines_of (reader.bytes ++ more)
  pub wholes : reader.ended ≡ false → whole_lines lines ≡ lines
  pub long : length b ≡ bytes + length reader.bytes
  pub tail : drop bytes b ≡ reader.bytes

-- The lines before the place were read, and the buffered bytes follow them.
pub record Going {J W : Type 0} (by : Rules J W) (first : J) (left left' : Option (List ℕ)) (place : InputReader J) (reader : Buffered) : Type 0 where
  pub lines : List Line
  pub b : List ℕ
  pub taken : Taken left left' lines b place.bytes reader
  pub judges : (rest : List Line) → judged by (start first) (lines ++ rest) ≡ judged by place rest

-- The next line, as it is judged
pub record Judges {J W : Type 0} (by : Rules J W) (place : InputReader J) (reader : Buffered) (found : LineSpan) (rest : List ℕ) : Type 0 where
  pub line : Line
  pub lines : List Line
  pub is : lines_of (reader.bytes ++ rest) ≡ line ∷ lines
  pub same : judged_as by place line.text (size_of line) ≡ judged_as by place (take found.length reader.bytes) found.size

pub start_place : {J : Type 0} (first : J) (place : InputReader J) → place ≡ start first → IsPlace place
start_place first place at = subst IsPlace (sym at) (record { few = omega arith; within = omega arith })

pub falls : (old new size : ℕ) → new ≡ old + size → 1 ≤ size → old + size ≤ 2 ^ 40 → 2 ^ 40 - new < 2 ^ 40 - old
falls old new size is some fits = omega arith

not_ended : (a b : Bool) → (a ≡ true → b ≡ true) → b ≡ false → a ≡ false
not_ended true b h is = cc (h refl)
not_ended false b h is = refl

pub at_least : {a b c : ℕ} → a ≤ b → b ≤ c → a ≤ c
at_least h k = omega arith

-- the rest of an input, if the source reports it
abbrev pub rest_of : Option (List ℕ) → List ℕ
rest_of left = unwrap_or left []

pub rest_end : (left : Option (List ℕ)) → IsAtEnd left → rest_of left ≡ []
rest_end None h = refl
rest_end (Some xs) h = h

pub told_input : (left left' : Option (List ℕ)) (b : List ℕ) → Gave left left' b → IfSome left (λ bytes. bytes ≡ b ++ rest_of left')
told_input left None b h = rw h (search rules)
told_input left (Some xs) b h = rw h refl

-- nothing was taken yet
pub taken_start : {left : Option (List ℕ)} (reader : Buffered) → reader.bytes ≡ [] → Taken left left [] [] 0 reader
taken_start {left} reader none = record {
  gave = gave_nothing left;
  cuts = λ more _. ap (λ xs. lines_of (xs ++ more)) (sym none);
  wholes = λ _. refl;
  long = omega (arith, ap length none);
  tail = sym none;
}

-- more bytes were taken
pub taken_more : {left left' left'' : Option (List ℕ)} {lines : List Line} {b : List ℕ} {bytes : ℕ} {reader : Buffered} (reader' : Buffered) (piece : List ℕ) → Taken left left' lines b bytes reader
    → Gave left' left'' piece → reader'.bytes ≡ reader.bytes ++ piece → (reader.ended ≡ true → piece ≡ []) → (reader.ended ≡ true → reader'.ended ≡ true) → Taken left left'' lines (b ++ piece) bytes reader'
taken_more {left} {left'} {left''} {lines} {b} {bytes} {reader} reader' piece t gave more_bytes stops once = record {
  gave = gave_then left left' left'' b piece t.gave gave;
  cuts = λ more none.
      ap lines_of (append_assoc b piece more)
      ∙ t.cuts (piece ++ more) (λ is. ap (λ xs. xs ++ more) (stops is) ∙ none (once is))
      ∙ ap (λ xs. lines ++ lines_of xs) (sym (append_assoc reader.bytes piece more) ∙ ap (λ xs. xs ++ more) (sym more_bytes));
  wholes = λ is. t.wholes (not_ended reader.ended reader'.ended once is);
  long = omega (arith, length-append b piece, length-append reader.bytes piece, ap length more_bytes, t.long);
  tail = drop-append-le bytes b piece (omega (arith, t.long)) ∙ ap (λ xs. xs ++ piece) t.tail ∙ sym more_bytes;
}

-- one more line was passed
pub taken_passed : {left left' : Option (List ℕ)} {lines : List Line} {b : List ℕ} {bytes : ℕ} {reader : Buffered} (bytes' : ℕ) (reader' : Buffered) (found : LineSpan) → Taken left left' lines b bytes reader → (p : Passes reader found)
    → reader'.bytes ≡ drop found.size reader.bytes → reader'.ended ≡ reader.ended → bytes' ≡ bytes + found.size → Taken left left' (lines ++ p.line ∷ []) b bytes' reader'
taken_passed {left} {left'} {lines} {b} {bytes} {reader} bytes' reader' found t p rest same counted = record {
  gave = t.gave;
  cuts = λ more none.
      t.cuts more (λ is. none (same ∙ is))
      ∙ ap (λ ls. lines ++ ls) (p.cuts more (λ is. none (same ∙ is)) ∙ ap (λ xs. p.line ∷ lines_of (xs ++ more)) (sym rest))
      ∙ sym (append_assoc lines (p.line ∷ []) (lines_of (reader'.bytes ++ more)));
  wholes = λ is.
      let on : reader.ended ≡ false = sym same ∙ is in
      whole_lines-append lines (p.line ∷ []) ∙ rw (t.wholes on, p.whole on) refl;
  long = omega (arith, t.long, ap length rest, length-drop found.size reader.bytes, p.within, counted);
  tail = ap (λ n. drop n b) counted ∙ sym (drop-drop found.size bytes b) ∙ ap (drop found.size) t.tail ∙ sym rest;
}

-- if the buffered bytes contain no line feed, the whole lines are those before them
pub taken_whole : {left left' : Option (List ℕ)} {lines : List Line} {b : List ℕ} {bytes : ℕ} {reader : Buffered} → Taken left left' lines b bytes reader → no_feed reader.bytes ≡ true → reader.ended ≡ false → whole_lines (lines_of b) ≡ lines ++ []
taken_whole {lines = lines} {b = b} {reader = reader} t none on =
    ap whole_lines (ap lines_of (sym (append-nil b)) ∙ t.cuts [] (λ _. refl) ∙ ap (λ xs. lines ++ lines_of xs) (append-nil reader.bytes))
    ∙ whole_lines-append lines (lines_of reader.bytes)
    ∙ rw (t.wholes on, no_whole_lines reader.bytes none) refl

module _ {J W : Type 0} (by : Rules J W) (first : J) where
  pub going_start : {left : Option (List ℕ)} (place : InputReader J) (reader : Buffered) → place ≡ start first → reader.bytes ≡ [] → Going by first left left place reader
  going_start {left} place reader at none = record {
    lines = [];
    b = [];
    taken = subst (λ (n : ℕ). Taken left left [] [] n reader) (sym (ap (λ (p : InputReader J). p.bytes) at)) (taken_start reader none);
    judges = λ rest. ap (λ p. judged by p rest) (sym at);
  }

  -- more bytes were taken
  pub going_filled : {left left' left'' : Option (List ℕ)} {place : InputReader J} {reader : Buffered} (reader' : Buffered) → Going by first left left' place reader
      → ((piece : List ℕ) × Gave left' left'' piece × (reader'.bytes ≡ reader.bytes ++ piece) × (reader.ended ≡ true → piece ≡ []))
      → (reader.ended ≡ true → reader'.ended ≡ true) → Going by first left left'' place reader'
  going_filled reader' going piece once = record {
    lines = going.lines;
    b = going.b ++ piece.0;
    taken = taken_more reader' piece.0 going.taken piece.1 piece.2 piece.3 once;
    judges = going.judges;
  }

  judges_passes : (place : InputReader J) (reader : Buffered) (found : LineSpan) (rest : List ℕ) → (reader.ended ≡ true → rest ≡ []) → Passes reader found → Judges by place reader found rest
  judges_passes place reader found rest none p = record {
    line = p.line;
    lines = lines_of (drop found.size reader.bytes ++ rest);
    is = p.cuts rest none;
    same = ap (judged_as by place p.line.text) p.size ∙ ap (λ t. judged_as by place t found.size) p.text;
  }

  -- the prefix of a line is refused as the whole line would be
  front_refused : (place : InputReader J) (reader : Buffered) (found : LineSpan) → place.bytes ≤ 2 ^ 40 → IsAllBuffered reader found → enough by place ≤ length reader.bytes → judged_as by place (take found.length reader.bytes) found.size ≡ Err (T.Line (place.lines + 1) (front_reason by place))
  front_refused place reader found within h many =
      let l : length (take found.length reader.bytes) ≡ length reader.bytes = ap length (take_all found.length reader.bytes (omega (arith, h.all))) in
      judged_front by place (take found.length reader.bytes) found.size within (subst (λ k. enough by place ≤ k) (sym l) many) (subst (λ k. enough by place ≤ k) (sym h.size) many)

  judges_next : (place : InputReader J) (reader : Buffered) (many : ℕ) (found : LineSpan) (rest : List ℕ) → place.bytes ≤ 2 ^ 40 → many ≡ enough by place → (reader.ended ≡ true → rest ≡ []) → IsFound reader many found → Judges by place reader found rest
  judges_next place reader many found rest within of none (inl h) = judges_passes place reader found rest none (passes_whole reader found h)
  judges_next place reader many found rest within of none (inr (inl h)) = judges_passes place reader found rest none (passes_last reader found h)
  judges_next place reader many found rest within of none (inr (inr (h, front))) =
      let k = lines_long reader.bytes rest h.some h.none in
      let f : enough by place ≤ length reader.bytes = subst (λ n. n ≤ length reader.bytes) of front in
      record {
        line = k.line;
        lines = k.rest;
        is = k.is;
        same = judged_front by place k.line.text (size_of k.line) within (at_least f k.long) (at_least f (omega (arith, k.long))) ∙ sym (front_refused place reader found within h f);
      }

  -- an accepted line is passed as a whole
  pub passes_accepted : (reader : Buffered) (many : ℕ) (found : LineSpan) (place after : InputReader J) → place.bytes ≤ 2 ^ 40 → many ≡ enough by place → judged_as by place (take found.length reader.bytes) found.size ≡ Ok after → IsFound reader many found → Passes reader found
  passes_accepted reader many found place after within of accepted (inl h) = passes_whole reader found h
  passes_accepted reader many found place after within of accepted (inr (inl h)) = passes_last reader found h
  passes_accepted reader many found place after within of accepted (inr (inr (h, front))) =
      let e = front_refused place reader found within h (subst (λ n. n ≤ length reader.bytes) of front) in
      absurd cc

  -- one more line was accepted
  pub going_passed : {left left' : Option (List ℕ)} {place : InputReader J} {reader : Buffered} (after : InputReader J) (reader' : Buffered) (found : LineSpan) → Going by first left left' place reader → Passes reader found
      → judged_as by place (take found.length reader.bytes) found.size ≡ Ok after → reader'.bytes ≡ drop found.size reader.bytes → reader'.ended ≡ reader.ended → Going by first left left' after reader'
  going_passed {left} {left'} {place} {reader} after reader' found going p accepted bytes same = record {
    lines = going.lines ++ p.line ∷ [];
    b = going.b;
    taken = taken_passed after.bytes reader' found going.taken p bytes same (passed by place (take found.length reader.bytes) found.size after accepted).bytes;
    judges = λ rest.
        ap (judged by (start first)) (append_assoc going.lines (p.line ∷ []) rest)
        ∙ going.judges (p.line ∷ rest)
        ∙ ap (λ (s : Said J). decided s (λ behind. judged by behind rest)) (ap (judged_as by place p.line.text) p.size ∙ ap (λ t. judged_as by place t found.size) p.text ∙ accepted);
  }

  pub less_left : (place after : InputReader J) (reader : Buffered) (found : LineSpan) → judged_as by place (take found.length reader.bytes) found.size ≡ Ok after → FitsIn reader found → length reader.bytes ≤ 32769 → 2 ^ 40 - after.bytes < 2 ^ 40 - place.bytes
  less_left place after reader found accepted fits short =
      let p = passed by place (take found.length reader.bytes) found.size after accepted in
      falls place.bytes after.bytes found.size p.bytes fits.some (omega (arith, p.within, fits.all, short))

  -- The end of the reading

  was_read : {left left' : Option (List ℕ)} {place : InputReader J} {reader : Buffered} (result : Result W RunError) (going : Going by first left left' place reader) → Reads by first (going.b ++ rest_of left') going.b result → WasRead by first left left' result
  was_read {left} {left'} result going reads = record {
    i = going.b ++ rest_of left';
    b = going.b;
    input = told_input left left' going.b going.taken.gave;
    gave = going.taken.gave;
    rest = refl;
    reads = reads;
  }

  undecided : {left left' : Option (List ℕ)} {place : InputReader J} {reader : Buffered} (going : Going by first left left' place reader) (many : ℕ) → place.bytes ≤ 2 ^ 40 → many ≡ enough by place → IsPart reader many → reader.ended ≡ false → IsUndecided by first going.b
  undecided {place = place} {reader = reader} going many within of part on = record {
    place = place;
    read = ap (judged by (start first)) whole ∙ going.judges [];
    part = (here (by.is_whole place.judge) refl few).0;
    within = (here (by.is_whole place.judge) refl few).1;
  }
    where
      whole : whole_lines (lines_of going.b) ≡ going.lines ++ []
      whole = taken_whole going.taken part.none on

      few : length reader.bytes < enough by place
      few = subst (λ n. length reader.bytes < n) of part.few

      here : (closed : Bool) → by.is_whole place.judge ≡ closed → length reader.bytes < enough_bytes (2 ^ 40) closed place.bytes
          → ((length going.b ≡ place.bytes) ⊎ ((by.is_whole place.judge ≡ false) × (length going.b ≤ place.bytes + 32768))) × (length going.b ≤ 2 ^ 40)
      here true is few = (inl (omega (arith, going.taken.long, few)), omega (arith, going.taken.long, few, within))
      here false is few = (inr (is, omega (arith, going.taken.long, few)), omega (arith, going.taken.long, few, within))

  pub was_read_fault : {left left' : Option (List ℕ)} {place : InputReader J} {reader : Buffered} → Going by first left left' place reader → (many : ℕ) → place.bytes ≤ 2 ^ 40 → many ≡ enough by place → IsPart reader many → reader.ended ≡ false → WasRead by first left left' (Err T.Read)
  was_read_fault going many within of part on = was_read (Err T.Read) going (undecided going many within of part on)

  pub was_read_nothing : (left : Option (List ℕ)) → WasRead by first left left (Err T.Memory)
  was_read_nothing left = record {
    i = rest_of left;
    b = [];
    input = told_input left left [] (gave_nothing left);
    gave = gave_nothing left;
    rest = refl;
    reads = tt;
  }

  reads_ended : (i b : List ℕ) (closed : Bool) (whole : W) (n : ℕ) (reason : Reason) → verdict by first i ≡ cond closed (Ok whole) (Err (T.Line n reason)) → b ≡ i → Reads by first i b (cond closed (Ok whole) (Err (T.Line n reason)))
  reads_ended i b true whole n reason says all = (all, says)
  reads_ended i b false whole n reason says all = (tt, says)

  pub was_read_end : {left left' : Option (List ℕ)} {place : InputReader J} {reader : Buffered} (result : Result W RunError) → Going by first left left' place reader → reader.bytes ≡ [] → IsAtEnd left' → result ≡ ended by (Ok place) → WasRead by first left left' result
  was_read_end {left} {left'} {place} {reader} result going none end is =
      let nothing = rest_end left' end in
      let all : going.b ≡ going.b ++ rest_of left' = sym (append-nil going.b) ∙ ap (λ xs. going.b ++ xs) (sym nothing) in
      let lines : lines_of (going.b ++ rest_of left') ≡ going.lines ++ [] =
      going.taken.cuts (rest_of left') (λ _. nothing) ∙ ap (λ xs. going.lines ++ lines_of (xs ++ rest_of left')) none ∙ ap (λ xs. going.lines ++ lines_of xs) nothing in
      let says : verdict by first (going.b ++ rest_of left') ≡ ended by (Ok place) = ap (λ ls. ended by (judged by (start first) ls)) lines ∙ ap (ended by) (going.judges []) in
      let P : Result W RunError → Type 0 = λ r. WasRead by first left left' r in
      subst P (sym is) (was_read (ended by (Ok place)) going (reads_ended (going.b ++ rest_of left') going.b (by.is_whole place.judge) (by.whole place.judge) (place.lines + 1) (early_reason place.lines by.empty) says all))

  reads_trouble : {A : Type 0} (i b : List ℕ) (trouble : RunError) (new : A) (said : Result A RunError) → Judged new (Err trouble) said → (said ≡ Err trouble → verdict by first i ≡ Err trouble) → Reads by first i b (Err trouble)
  reads_trouble i b (T.Line n reason) new said judged says = (judged.0, says judged.1)
  reads_trouble i b (T.TooSmall n) new said judged says = (judged.0, says judged.1)
  reads_trouble i b (T.Exhausted n area charged wanted quota) new said judged says = (judged.0, says judged.1)
  reads_trouble i b T.Read new said judged says = absurd judged.0
  reads_trouble i b T.Memory new said judged says = tt
  reads_trouble i b T.Swap new said judged says = absurd judged.0
  reads_trouble i b T.Usage new said judged says = absurd judged.0
  reads_trouble i b (T.NoObject object) new said judged says = absurd judged.0

  pub was_read_refused : {left left' : Option (List ℕ)} {place : InputReader J} {reader : Buffered} (going : Going by first left left' place reader) (many : ℕ) (found : LineSpan) (new : InputReader J) (trouble : RunError) → (reader.ended ≡ true → IsAtEnd left') → place.bytes ≤ 2 ^ 40 → many ≡ enough by place
      → IsFound reader many found → Judged new (Err trouble) (judged_as by place (take found.length reader.bytes) found.size) → WasRead by first left left' (Err trouble)
  was_read_refused {left} {left'} {place} {reader} going many found new trouble end within of is judges =
      let none = λ (is : reader.ended ≡ true). rest_end left' (end is) in
      let j = judges_next place reader many found (rest_of left') within of none is in
      let says = λ (e : judged_as by place (take found.length reader.bytes) found.size ≡ Err trouble). (
      ap (λ ls. ended by (judged by (start first) ls)) (going.taken.cuts (rest_of left') none ∙ ap (λ ls. going.lines ++ ls) j.is)
      ∙ ap (ended by) (going.judges (j.line ∷ j.lines) ∙ ap (λ (s : Said J). decided s (λ behind. judged by behind j.lines)) (j.same ∙ e))) in
      was_read (Err trouble) going (reads_trouble (going.b ++ rest_of left') going.b trouble new (judged_as by place (take found.length reader.bytes) found.size) judges says)
