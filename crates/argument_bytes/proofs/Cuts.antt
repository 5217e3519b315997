-- Facts about bytes that are cut at each NUL byte.
use Rattle.std.proofs.Common.{◌≡◌, ℕ, ◌++◌, ◌∷◌, [], List, take, drop, sym, ap, arith}
use Rattle.std.proofs.lemmas.Grind.{common_steps}
use Rattle.std.proofs.lemmas.List.Sums.{fold-append}
use Rattle.std.proofs.lemmas.List.{take-append-drop}
use Rattle.std.specs.List.{fold, Any}
use Rattle.argument_bytes.specs.Arguments.{Split, with_byte, split_at_nuls}

-- a piece that has the property is still there after a further byte
any_with_byte : (P : List ℕ → Type 0) (split : Split) (byte : ℕ) → Any P split.done → Any P (with_byte split byte).done
any_with_byte P split byte (k, x, lt, is, p) = (k, x, grind (arith, common_steps), grind (arith, common_steps), p)

-- it is still there after all further bytes
any_kept : (P : List ℕ → Type 0) (split : Split) (more : List ℕ) → Any P split.done → Any P (fold with_byte split more).done
any_kept P split [] any = any
any_kept P split (byte ∷ more) any = any_kept P (with_byte split byte) more (any_with_byte P split byte any)

-- a piece among those of the first bytes is among those of all
pub any_in_all : (P : List ℕ → Type 0) (bytes : List ℕ) (i : ℕ) → Any P (split_at_nuls (take i bytes)).done → Any P (split_at_nuls bytes).done
any_in_all P bytes i any =
    let start : Split = record { done = []; begun = [] } in
    let whole : split_at_nuls (take i bytes ++ drop i bytes) ≡ split_at_nuls bytes = ap split_at_nuls (take-append-drop i bytes) in
    let parts : split_at_nuls (take i bytes ++ drop i bytes) ≡ fold with_byte (split_at_nuls (take i bytes)) (drop i bytes)
    = fold-append with_byte start (take i bytes) (drop i bytes) in
    rw (sym whole, parts) (any_kept P (split_at_nuls (take i bytes)) (drop i bytes) any)
