-- The closure is the least closed set that contains its start: after one round for each object nothing is added, and nothing is added that a closed set lacks.
use Rattle.std.proofs.Common.{◌≡◌, ◌≢◌, ℕ, zero, suc, ◌<◌, ◌≤◌, ◌⊎◌, inl, inr, Bool, true, false, ◌&&◌, ◌||◌, refl, sym, ◌∙◌, ap, arith, List, length}
use Rattle.std.proofs.lemmas.Bool.{cases_eq, cases_Bool, or_cases, and_parts, or_left, or_right}
use Rattle.std.proofs.lemmas.Grind.{common_steps}
use Rattle.lisp_graph.specs.declared.object.Object.{Object}
use Rattle.lisp_graph.specs.Graph.{object_at, body_refers}
use Rattle.lisp_graph.specs.Totals.{total, if_true}
use Rattle.lisp_graph.proofs.Totals.{total-zero, total-suc, total-lt}
use Rattle.lisp_meaning.specs.machine.Maps.{some_below}
use Rattle.lisp_meaning.specs.machine.Reach.{one_more, closure_after, closure}
use Rattle.lisp_meaning.proofs.sums.SomeBelow.{some_below-true, some_below-cong, some_below-which}

size : (ℕ → Bool) → ℕ → ℕ
size p n = total (λ m. if_true (p m) 1) n

ones : (n : ℕ) → total (λ m. 1) n ≡ n
ones zero = total-zero (λ m. 1)
ones (suc n) = let a = total-suc (λ m. 1) n in let b = ones n in omega arith

at_most_one : (b : Bool) → if_true b 1 ≤ 1
at_most_one true = omega arith
at_most_one false = omega arith

all_in : (p : ℕ → Bool) (n k : ℕ) → n ≤ size p n → k < n → p k ≡ true
unfolding size
all_in p n k h l = go (cases_Bool (p k))
  where
    go : (p k ≡ true) ⊎ (p k ≡ false) → p k ≡ true
    go (inl e) = e
    go (inr e) =
        let x = total-lt (λ m. if_true (p m) 1) (λ m. 1) k n l (λ m q. at_most_one (p m)) (let y : if_true (p k) 1 ≡ 0 = ap (λ (b : Bool). if_true b 1) e in omega arith) in
        let y = ones n in
        absurd (omega arith)

module _ (objects : List Object) (set : ℕ → Bool) where
  round : ℕ → (ℕ → Bool)
  round k = closure_after k objects set

  Stable : ℕ → Type 0
  unfolding round
  Stable k = (n : ℕ) → n < length objects → one_more objects (round k) n ≡ round k n

  next : (k : ℕ) → round (suc k) ≡ one_more objects (round k)
  unfolding round closure_after
  next k = refl

  -- some name is new, or nothing is
  find : (p q : ℕ → Bool) (n : ℕ) → ((m : ℕ) → m < n → p m ≡ q m) ⊎ ((m : ℕ) × (m < n) × (p m ≢ q m))
  find p q zero = inl (λ m l. absurd (omega arith))
  find p q (suc n) = go (find p q n) (cases_Bool (p n)) (cases_Bool (q n))
    where
      same : ((m : ℕ) → m < n → p m ≡ q m) → p n ≡ q n → (m : ℕ) → m < suc n → p m ≡ q m
      same h e m l = last (cases_eq m n)
        where
          last : (m ≡ n) ⊎ (m ≡ n → ⊥) → p m ≡ q m
          last (inl z) = ap p z ∙ e ∙ ap q (sym z)
          last (inr ne) = h m (omega arith)

      go : ((m : ℕ) → m < n → p m ≡ q m) ⊎ ((m : ℕ) × (m < n) × (p m ≢ q m)) → (p n ≡ true) ⊎ (p n ≡ false) → (q n ≡ true) ⊎ (q n ≡ false)
          → ((m : ℕ) → m < suc n → p m ≡ q m) ⊎ ((m : ℕ) × (m < suc n) × (p m ≢ q m))
      go (inr x) t u = inr (x.0, (let l = x.1 in omega arith), x.2)
      go (inl h) (inl a) (inl b) = inl (same h (a ∙ sym b))
      go (inl h) (inr a) (inr b) = inl (same h (a ∙ sym b))
      go (inl h) (inl a) (inr b) = inr (n, omega arith, λ e. cc)
      go (inl h) (inr a) (inl b) = inr (n, omega arith, λ e. cc)

  grows : (k m : ℕ) → round k m ≡ true → round (suc k) m ≡ true
  grows k m e = ap (λ (f : ℕ → Bool). f m) (next k) ∙ or_left (round k m) _ e

  grows_at : (k m : ℕ) → one_more objects (round k) m ≢ round k m → (round k m ≡ false) × (round (suc k) m ≡ true)
  grows_at k m ne = go (cases_Bool (round k m)) (cases_Bool (round (suc k) m))
    where
      up : round (suc k) m ≡ one_more objects (round k) m
      up = ap (λ (f : ℕ → Bool). f m) (next k)

      go : (round k m ≡ true) ⊎ (round k m ≡ false) → (round (suc k) m ≡ true) ⊎ (round (suc k) m ≡ false) → (round k m ≡ false) × (round (suc k) m ≡ true)
      go (inr a) (inl b) = (a, b)
      go (inl a) t = absurd (ne (sym up ∙ grows k m a ∙ sym a))
      go (inr a) (inr b) = absurd (ne (sym up ∙ b ∙ sym a))

  more_names : (p q : Bool) → (p ≡ true → q ≡ true) → if_true p 1 ≤ if_true q 1
  more_names true q h = let e : if_true q 1 ≡ 1 = ap (λ (b : Bool). if_true b 1) (h refl) in omega arith
  more_names false q h = omega arith

  stays : (k : ℕ) → Stable k → Stable (suc k)
  unfolding Stable
  stays k h n l =
      let agree : (m : ℕ) → m < length objects → round (suc k) m ≡ round k m = λ m q. ap (λ (f : ℕ → Bool). f m) (next k) ∙ h m q in
      let below = some_below-cong (λ m. round (suc k) m && body_refers n (object_at objects m).body) (λ m. round k m && body_refers n (object_at objects m).body) (length objects)
      (λ m q. ap (λ (b : Bool). b && body_refers n (object_at objects m).body) (agree m q)) in
      ap (λ (b : Bool). b || some_below (λ m. round (suc k) m && body_refers n (object_at objects m).body) (length objects)) (agree n l)
      ∙ ap (λ (b : Bool). round k n || b) below
      ∙ sym (ap (λ (f : ℕ → Bool). f n) (next k))

  enough : (k : ℕ) → Stable k ⊎ (k ≤ size (round k) (length objects))
  unfolding Stable size
  enough zero = inr (omega arith)
  enough (suc k) = go (enough k) (find (one_more objects (round k)) (round k) (length objects))
    where
      go : Stable k ⊎ (k ≤ size (round k) (length objects)) → ((m : ℕ) → m < length objects → one_more objects (round k) m ≡ round k m) ⊎ ((m : ℕ) × (m < length objects) × (one_more objects (round k) m ≢ round k m))
          → Stable (suc k) ⊎ (suc k ≤ size (round (suc k)) (length objects))
      go (inl s) t = inl (stays k s)
      go (inr h) (inl s) = inl (stays k s)
      go (inr h) (inr x) =
          let g = grows_at k x.0 x.2 in
          let a : if_true (round k x.0) 1 ≡ 0 = ap (λ (b : Bool). if_true b 1) g.0 in
          let b : if_true (round (suc k) x.0) 1 ≡ 1 = ap (λ (b : Bool). if_true b 1) g.1 in
          let l = total-lt (λ m. if_true (round k m) 1) (λ m. if_true (round (suc k) m) 1) x.0 (length objects) x.1 (λ m q. more_names (round k m) (round (suc k) m) (grows k m)) (omega arith) in
          inr (omega arith)

  starts : (k m : ℕ) → set m ≡ true → round k m ≡ true
  unfolding round closure_after
  starts zero m e = e
  starts (suc k) m e = or_left (closure_after k objects set m) _ (starts k m e)

  -- the closure has its start
  pub closure_start : (m : ℕ) → set m ≡ true → closure objects set m ≡ true
  unfolding round
  closure_start m e = starts (length objects) m e

  -- a name in an object of the closure is in the closure
  pub closure_closed : (m n : ℕ) → m < length objects → n < length objects → closure objects set m ≡ true → body_refers n (object_at objects m).body ≡ true → closure objects set n ≡ true
  unfolding round Stable
  closure_closed m n lm ln e r = go (enough (length objects))
    where
      go : Stable (length objects) ⊎ (length objects ≤ size (round (length objects)) (length objects)) → closure objects set n ≡ true
      go (inl s) = sym (s n ln) ∙ or_right (closure objects set n) _ (some_below-true (λ i. closure objects set i && body_refers n (object_at objects i).body) (length objects) m lm (grind (arith, common_steps)))
      go (inr h) = all_in (round (length objects)) (length objects) n h ln

after-zero : (objects : List Object) (from : ℕ → Bool) → closure_after 0 objects from ≡ from
unfolding closure_after
after-zero objects from = refl

after-suc : (k : ℕ) (objects : List Object) (from : ℕ → Bool) → closure_after (suc k) objects from ≡ one_more objects (closure_after k objects from)
unfolding closure_after
after-suc k objects from = refl

module _ (objects : List Object) (inside from : ℕ → Bool)
    (closed : (m n : ℕ) → m < length objects → inside m ≡ true → body_refers n (object_at objects m).body ≡ true → inside n ≡ true)
    (start : (n : ℕ) → from n ≡ true → inside n ≡ true) where
  rounds : (k n : ℕ) → closure_after k objects from n ≡ true → inside n ≡ true
  rounds zero n e = start n (sym (ap (λ (f : ℕ → Bool). f n) (after-zero objects from)) ∙ e)
  rounds (suc k) n e = go (or_cases (closure_after k objects from n) (some_below (λ m. closure_after k objects from m && body_refers n (object_at objects m).body) (length objects))
      (sym (ap (λ (f : ℕ → Bool). f n) (after-suc k objects from)) ∙ e)) (rounds k)
    where
      go : (closure_after k objects from n ≡ true) ⊎ (some_below (λ m. closure_after k objects from m && body_refers n (object_at objects m).body) (length objects) ≡ true)
          → ((m : ℕ) → closure_after k objects from m ≡ true → inside m ≡ true) → inside n ≡ true
      go (inl x) r = r n x
      go (inr x) r =
          let q = some_below-which (λ m. closure_after k objects from m && body_refers n (object_at objects m).body) (length objects) x in
          let b = and_parts (closure_after k objects from q.0) (body_refers n (object_at objects q.0).body) q.2 in
          closed q.0 n q.1 (r q.0 b.0) b.1

  -- a closure from inside a closed set stays inside
  pub closure_inside : (n : ℕ) → closure objects from n ≡ true → inside n ≡ true
  closure_inside n e = rounds (length objects) n e
