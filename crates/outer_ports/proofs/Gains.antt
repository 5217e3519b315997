-- What a sink gained, and what a source gave, over several calls.
use Rattle.std.proofs.Common.{◌≡◌, ℕ, ◌+◌, ◌-◌, ◌<◌, ◌≤◌, List, [], ◌++◌, length, take, drop, get_or, refl, sym, subst, ap, ◌∙◌, arith, append_assoc, Result, Ok, Err}
use Rattle.std.proofs.lemmas.List.{append-nil, take_rest, take-append-drop, length-drop, length-append, take_all, take_more, drop_more, flat_map_more}
use Rattle.std.proofs.Math.Seq.{take-add}
use Rattle.std.specs.List.{flat_map}
use Rattle.std.specs.Result.{OnOk, OnErr}
use Rattle.std.proofs.lemmas.List.Concat.{flat_map-append}
use Rattle.std.specs.Prelude.{Option, Some, None, option_map}
use Rattle.outer_ports.specs.Ports.{Gained, Gave, Wrote, IsCut}

-- equal bytes
pub gained_as : {P Q : List ℕ → Type 0} {a b : List ℕ} → a ≡ b → Gained P Q a → Gained P Q b
gained_as {P} {Q} e h = subst (λ w. Gained P Q w) e h

-- first these bytes, then those
pub gained_more : {P Q R : List ℕ → Type 0} {a b : List ℕ} → Gained P Q a → Gained Q R b → Gained P R (a ++ b)
gained_more {P} {Q} {R} {a} {b} first then = record { each = λ had is. subst R (append_assoc had a b) (then.each (had ++ a) (first.each had is)) }

-- first these bytes, then none
pub gained_none : {P Q R : List ℕ → Type 0} {a : List ℕ} → Gained P Q a → Gained Q R [] → Gained P R a
gained_none {P} {Q} {R} {a} first then = gained_as (append-nil a) (gained_more first then)

-- nothing was done
pub gained_nothing : {P : List ℕ → Type 0} → Gained P P []
gained_nothing {P} = record { each = λ had is. subst P (sym (append-nil had)) is }

-- one more piece of the bytes, from position `at` on
pub gave_more : {P Q R : List ℕ → Type 0} (bytes : List ℕ) (at n : ℕ) → Gained P Q (take at bytes) → Gained Q R (take n (take (length bytes - at) (drop at bytes))) → Gained P R (take (at + n) bytes)
gave_more {P} {Q} {R} bytes at n first then =
    gained_as (sym (take-add at n bytes)) (gained_more first (gained_as (ap (take n) (take_rest bytes at)) then))

-- all of the bytes were given, or a prefix of them
pub wrote_front : {T E : Type 0} {P Q : List ℕ → Type 0} {r : Result T E} (bytes : List ℕ) {n : ℕ} → n ≤ length bytes → Gained P Q (take n bytes) → OnOk r (n ≡ length bytes) → OnErr r (n < length bytes) → Wrote P Q bytes r
wrote_front {r = Ok x} bytes {n} fits gained ok err = record { whole = gained_as (ap (λ k. take k bytes) ok ∙ take_all (length bytes) bytes (omega arith)) gained; part = _ }
wrote_front {r = Err e} bytes {n} fits gained ok err = record {
  whole = _;
  part = (take n bytes, (drop n bytes, omega (arith, length-drop n bytes), sym (take-append-drop n bytes)), gained);
}

-- a prefix of a text is also a prefix of each longer text
pub cut_longer : (a front b : List ℕ) → IsCut a front → IsCut (a ++ b) front
cut_longer a front b cut = (cut.0 ++ b, omega (arith, length-append cut.0 b, cut.1), ap (λ w. w ++ b) cut.2 ∙ append_assoc front cut.0 b)

-- a prefix of the second text, after all of the first
pub cut_behind : (b front a : List ℕ) → IsCut b front → IsCut (a ++ b) (a ++ front)
cut_behind b front a cut = (cut.0, cut.1, ap (λ w. a ++ w) cut.2 ∙ sym (append_assoc a front cut.0))

-- the parts one after another, up to the next one
pub parts_more : {X : Type 0} (f : X → List ℕ) (parts : List X) (i : ℕ) (d : X) → i < length parts → flat_map f (take (i + 1) parts) ≡ flat_map f (take i parts) ++ f (get_or parts i d)
parts_more f parts i d below = rw (take_more parts i d below) (sym (flat_map_more f [] (take i parts) (get_or parts i d)))

-- all parts, split into those before one of them, that one, and those after it
parts_split : {X : Type 0} (f : X → List ℕ) (parts : List X) (i : ℕ) (d : X) → i < length parts → flat_map f parts ≡ flat_map f (take i parts) ++ (f (get_or parts i d) ++ flat_map f (drop (i + 1) parts))
parts_split f parts i d below =
    ap (flat_map f) (sym (take-append-drop i parts)) ∙ flat_map-append f (take i parts) (drop i parts) ∙ ap (λ w. flat_map f (take i parts) ++ w) (ap (flat_map f) (drop_more parts i d below))

-- the parts up to one that was refused
pub parts_part : {X : Type 0} {P Q R : List ℕ → Type 0} (f : X → List ℕ) (parts : List X) (i : ℕ) (d : X) → i < length parts → Gained P Q (flat_map f (take i parts)) → (front : List ℕ) × IsCut (f (get_or parts i d)) front × Gained Q R front → (front : List ℕ) × IsCut (flat_map f parts) front × Gained P R front
parts_part f parts i d below first then =
    let e = parts_split f parts i d below in
    let before : List ℕ = flat_map f (take i parts) in
    let after : List ℕ = flat_map f (drop (i + 1) parts) in
    let cut : IsCut (before ++ (f (get_or parts i d) ++ after)) (before ++ then.0) = cut_behind _ then.0 before (cut_longer _ then.0 after then.1) in
    (before ++ then.0, subst (λ w. IsCut w (before ++ then.0)) (sym e) cut, gained_more first then.2)

-- a source that gave nothing
pub gave_nothing : (left : Option (List ℕ)) → Gave left left []
gave_nothing None = refl
gave_nothing (Some xs) = refl

-- a source that gave these bytes, and then those
pub gave_then : (first mid last : Option (List ℕ)) (a b : List ℕ) → Gave first mid a → Gave mid last b → Gave first last (a ++ b)
gave_then first mid None a b h k = h ∙ ap (option_map (λ rest. a ++ rest)) k
gave_then first mid (Some xs) a b h k = h ∙ ap (option_map (λ rest. a ++ rest)) k ∙ ap Some (sym (append_assoc a b xs))
