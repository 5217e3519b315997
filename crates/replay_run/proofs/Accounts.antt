-- The lines of the areas, one after another.
use Rattle.std.proofs.Common.{◌≡◌, ℕ, zero, suc, ◌+◌, List, [], ◌∷◌, ◌++◌, length, take, refl, sym, ap, ◌∙◌, subst, arith, Some, Result, Err}
use Rattle.std.specs.Prelude.{flat_map, slice_get}
use Rattle.std.proofs.lemmas.List.{append-nil, append_assoc, length-append}
use Rattle.std.proofs.lemmas.List.Concat.{flat_map-append, flat_map-cons}
use Rattle.outer_ports.specs.Ports.{IsCut}
use Rattle.outer_ports.specs.Buffers.{Gathered, Gathers}
use Rattle.outer_ports.proofs.BufferGains.{gathered_more}
use Rattle.lisp_graph.specs.declared.world.AreaRule.{AreaRule}
use Rattle.paged_machine.specs.lisp_meaning.State.{State}
use Rattle.paged_machine.specs.lisp_meaning.Charges.{account_now}
use Rattle.paged_machine.specs.lisp_meaning.Step.{area_lines}
use Rattle.trace_text.specs.Replies.{account_text}
use Rattle.replay_run.specs.Replies.{account_line}

-- the text of the lines of these areas; the first area has number a
abbrev pub accounts : State → ℕ → List AreaRule → List ℕ
accounts s a areas = flat_map account_line (area_lines s a areas)

lines_append : (s : State) (a : ℕ) (xs ys : List AreaRule) → area_lines s a (xs ++ ys) ≡ area_lines s a xs ++ area_lines s (length xs + a) ys
lines_append s a [] ys = let same : 0 + a ≡ a = omega arith in ap (λ n. area_lines s n ys) (sym same)
lines_append s a (x ∷ xs) ys =
    let same : length xs + suc a ≡ suc (length xs) + a = omega arith in
    ap (λ lines. record { name = x.name; charged = account_now s a; quota = x.quota } ∷ lines) (lines_append s (suc a) xs ys ∙ ap (λ n. area_lines s (suc a) xs ++ area_lines s n ys) same)

accounts_append : (s : State) (xs ys : List AreaRule) → accounts s 0 (xs ++ ys) ≡ accounts s 0 xs ++ accounts s (length xs) ys
accounts_append s xs ys =
    let same : length xs + 0 ≡ length xs = omega arith in
    ap (λ lines. flat_map account_line lines) (lines_append s 0 xs ys ∙ ap (λ n. area_lines s 0 xs ++ area_lines s n ys) same)
    ∙ flat_map-append account_line (area_lines s 0 xs) (area_lines s (length xs) ys)

accounts_one : (s : State) (a : ℕ) (x : AreaRule) (ys : List AreaRule) → accounts s a (x ∷ ys) ≡ account_text x.name (account_now s a) x.quota ++ accounts s (suc a) ys
accounts_one s a x ys = flat_map-cons account_line (record { name = x.name; charged = account_now s a; quota = x.quota }) (area_lines s (suc a) ys)

-- an item of a list, and what precedes and follows it
split : (areas : List AreaRule) (i : ℕ) (rule : AreaRule) → slice_get areas i ≡ Some rule
    → (after : List AreaRule) × (areas ≡ take i areas ++ rule ∷ after) × (length (take i areas) ≡ i) × (take (suc i) areas ≡ take i areas ++ rule ∷ [])
split [] i rule h = absurd (cc (h))
split (x ∷ xs) zero rule h = let e : x ≡ rule = cc (h) in (xs, ap (λ y. y ∷ xs) e, refl, ap (λ y. y ∷ []) e)
split (x ∷ xs) (suc i) rule h = let t = split xs i rule h in (t.0, ap (λ ys. x ∷ ys) t.1, ap suc t.2, ap (λ ys. x ∷ ys) t.3)

module _ (s : State) (areas : List AreaRule) (i : ℕ) (rule : AreaRule) (charged : ℕ) (at : slice_get areas i ≡ Some rule) (is : charged ≡ account_now s i) where
  accounts_from : (after : List AreaRule) → accounts s 0 (take i areas ++ rule ∷ after) ≡ accounts s 0 (take i areas) ++ (account_text rule.name charged rule.quota ++ accounts s (suc i) after)
  accounts_from after =
      accounts_append s (take i areas) (rule ∷ after)
      ∙ ap (λ n. accounts s 0 (take i areas) ++ accounts s n (rule ∷ after)) (split areas i rule at).2
      ∙ ap (λ xs. accounts s 0 (take i areas) ++ xs) (accounts_one s i rule after ∙ ap (λ n. account_text rule.name n rule.quota ++ accounts s (suc i) after) (sym is))

  -- its line was gathered after those before it
  pub accounts_more : {P Q R : List ℕ → Type 0} (had : List ℕ) {pending pending' : List ℕ} → Gathered P Q pending (had ++ accounts s 0 (take i areas)) → Gathered Q R pending' (pending ++ account_text rule.name charged rule.quota)
      → Gathered P R pending' (had ++ accounts s 0 (take (i + 1) areas))
  accounts_more {P} {Q} {R} had {pending} {pending'} first then =
      let one : i + 1 ≡ suc i = omega arith in
      let text = account_text rule.name charged rule.quota in
      let more : accounts s 0 (take (i + 1) areas) ≡ accounts s 0 (take i areas) ++ text =
      ap (λ n. accounts s 0 (take n areas)) one ∙ ap (λ xs. accounts s 0 xs) (split areas i rule at).3 ∙ accounts_from [] ∙ ap (λ xs. accounts s 0 (take i areas) ++ xs) (append-nil text) in
      subst (λ xs. Gathered P R pending' xs) (append_assoc had (accounts s 0 (take i areas)) text ∙ ap (λ xs. had ++ xs) (sym more)) (gathered_more text first then)

  -- the sink failed in its line
  pub accounts_cut : {T E : Type 0} {P Q R : List ℕ → Type 0} {had pending pending' : List ℕ} (result : Result T E) (error : E) → result ≡ Err error → Gathered P Q pending (had ++ accounts s 0 (take i areas))
      → ((front : List ℕ) × IsCut (account_text rule.name charged rule.quota) front × Gathered Q R pending' (pending ++ front)) → Gathers P R had pending' (accounts s 0 areas) result
  accounts_cut {T} {E} {P} {Q} {R} {had} {pending} {pending'} result error err first part =
      let t = split areas i rule at in
      let lines = accounts s 0 (take i areas) in
      let text = account_text rule.name charged rule.quota in
      let front = part.0 in
      let cut = part.1 in
      let after = accounts s (suc i) t.0 in
      let whole : accounts s 0 areas ≡ (lines ++ front) ++ (cut.0 ++ after) =
      ap (λ xs. accounts s 0 xs) t.1 ∙ accounts_from t.0 ∙ ap (λ xs. lines ++ (xs ++ after)) cut.2 ∙ ap (λ xs. lines ++ xs) (append_assoc front cut.0 after) ∙ sym (append_assoc lines front (cut.0 ++ after)) in
      rw err (record {
        whole = tt;
        part = (
          lines ++ front,
          (cut.0 ++ after, omega (arith, cut.1, length-append cut.0 after), whole),
          subst (λ xs. Gathered P R pending' xs) (append_assoc had lines front) (gathered_more front first part.2),
        );
      })
