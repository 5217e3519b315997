-- A new pool: the frames below one number are in the list of free frames.
use Rattle.std.proofs.Common.{◌≡◌, ℕ, zero, suc, ◌+◌, ◌*◌, ◌<◌, ◌≤◌, inl, Bool, List, [], ◌∷◌, ◌++◌, length, sym, ap, subst, ◌∙◌, arith, zero-add}
use Rattle.std.specs.Prelude.{Contains}
use Rattle.std.specs.List.{range_with_len}
use Rattle.std.proofs.lemmas.List.{map-id}
use Rattle.std.proofs.lemmas.List.FromFn.{length-range_with_len, get_or-range_with_len, map-range_with_len_more}
use Rattle.store_word.specs.Words.{Parts}
use Rattle.index_lists.specs.Chains.{Chains, list_at, IsFree, IsSound}
use Rattle.frame_pool.specs.Invariant.{pool_of, PoolInvariant}

-- the two lists once the frames below n are in the first
abbrev pub filled : ℕ → ℕ → Chains
filled nodes n = record { nodes = nodes; lists = range_with_len 0 n ∷ [] ∷ [] }

-- the frames below n + 1 are those below n, and n
pub range_more : (n : ℕ) → range_with_len 0 (n + 1) ≡ range_with_len 0 n ++ n ∷ []
range_more n = sym (map-id (range_with_len 0 (n + 1))) ∙ (map-range_with_len_more (λ (k : ℕ). k) 0 n n (omega arith) ∙ ap (λ (xs : List ℕ). xs ++ n ∷ []) (map-id (range_with_len 0 n)))

-- each frame below n is among them
in_range : (n k : ℕ) → k < n → Contains (range_with_len 0 n) k
in_range n k b = (k, omega (arith, length-range_with_len 0 n), get_or-range_with_len 0 n k k b ∙ zero-add k)

-- frame n is in no list yet
pub filled_free : (nodes n : ℕ) → IsFree (filled nodes n) n
filled_free nodes n zero m =
    let size = length-range_with_len 0 n in
    let k = m.0 in
    let b : k < n = omega (arith, m.1) in
    let at = get_or-range_with_len 0 n k n b in
    omega (arith, m.2)
filled_free nodes n (suc zero) m = omega (arith, m.1)
filled_free nodes n (suc (suc l)) m = omega (arith, m.1)

-- all frames are free
pub fresh_kept : (c : Chains) (n k : ℕ) (pages : List ℕ) (tags : List Bool) (words : List Parts) → c ≡ filled n k → k ≡ n → n ≤ 4096 → IsSound c
    → length pages ≡ n → length tags ≡ n → length words ≡ n * 256 → PoolInvariant c (pool_of c pages tags words)
fresh_kept c n k pages tags words is same few s p t w =
    let zeroth : list_at c 0 ≡ range_with_len 0 k = ap (λ (v : Chains). list_at v 0) is in
    let one : list_at c 1 ≡ [] = ap (λ (v : Chains). list_at v 1) is in
    record {
      sound = s;
      two = ap (λ (v : Chains). length v.lists) is;
      nodes = ap (λ (v : Chains). v.nodes) is ∙ sym p;
      few = omega arith;
      tag_each = omega arith;
      words_each = omega arith;
      each = λ frame b. inl (subst (λ (xs : List ℕ). Contains xs frame) (sym zeroth) (in_range k frame (omega (arith, p, same))));
      all = omega (arith, ap length zeroth, ap length one, length-range_with_len 0 k);
    }
