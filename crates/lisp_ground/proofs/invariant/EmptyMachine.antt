-- A new memory and a new table are an empty machine's.
use Rattle.std.proofs.Common.{◌≡◌, ℕ, ◌+◌, ◌*◌, ◌<◌, inl, inr, List, length, get_or, replicate, refl, ◌∙◌, ap, subst, arith}
use Rattle.std.specs.Prelude.{Contains}
use Rattle.std.proofs.lemmas.Bool.{cases_lt}
use Rattle.std.proofs.lemmas.List.{get_or_past, get_or-replicate, length-replicate}
use Rattle.area_space.specs.store_word.Words.{Parts, null_word}
use Rattle.area_space.specs.store_word.declared.word.Content.TheVariants.{Nil as NilWord}
use Rattle.area_space.specs.store_word.declared.word.CdrCode.TheVariants.{Nil as CdrNil}
use Rattle.area_space.specs.lisp_graph.declared.world.AreaRule.{AreaRule}
use Rattle.area_space.specs.lisp_graph.declared.world.World.{World}
use Rattle.area_space.specs.mem_port.Store.{Store, IsFresh}
use Rattle.area_space.specs.Table.{Table, levels_of, slot_of, live, stale, IsUnclassed}
use Rattle.area_space.specs.Sound.{IsTable}
use Rattle.area_space.specs.Fresh.{fresh, quotas_in}
use Rattle.area_space.specs.Room.{RoomRule}
use Rattle.area_space.proofs.FreeSets.{empties}
use Rattle.area_space.proofs.GroundLaws.{ground_fresh, named_fresh}
use Rattle.lisp_meaning.specs.Empty.{IsEmpty}
use Rattle.lisp_meaning.specs.Empty.{IsBare, blank_map}
use Rattle.lisp_meaning.specs.Opening.{opening}
use Rattle.lisp_meaning.proofs.invariant.EmptyMachine.{empty_strong}
use Rattle.lisp_ground.specs.Image.{Rest, no_rest, by_class, image_of}
use Rattle.lisp_ground.specs.GroundInvariant.{GroundInvariant}
use Rattle.lisp_meaning.specs.Interpretation.{interpretation}
use Rattle.lisp_ground.proofs.invariant.OfImage.{kept_ground}
use Rattle.lisp_ground.proofs.regions.Regions.{region_is, region_free}
use Rattle.lisp_ground.proofs.sums.Charges.{by_class_at, by_class_past}

alike : {X : Type 0} (n i : ℕ) (x : X) → get_or (replicate n x) i x ≡ x
alike n i x =
    elim (cases_lt i n) [
      | inl l ↦ get_or-replicate n i x x l
      | inr past ↦ (let size = length-replicate n x in get_or_past (replicate n x) i x (omega arith))
    ]

by_class_zero : (t : Table) (class : ℕ → ℕ) (n area level : ℕ) → by_class t class (replicate n 0) area level ≡ 0
by_class_zero t class n area level =
    elim (cases_lt level (levels_of t)) [
      | inl low ↦ by_class_at t class (replicate n 0) area level low ∙ alike n (class (slot_of t area level)) 0
      | inr past ↦ by_class_past t class (replicate n 0) area level past
    ]

module _ (s : Store) (regions top : ℕ) (rules : List AreaRule) (f : IsFresh s regions top) (v : IsTable (fresh regions top rules)) where
  fresh_free : (r : ℕ) → IsUnclassed (fresh regions top rules) r
  fresh_free r c m = let x = subst (λ (xs : List ℕ). Contains xs r) (empties (2 * (length (quotas_in rules) * (top + 1))) c) m in absurd (omega (arith, x.1))

  pub fresh_empty : (rest : Rest) (registers : ℕ) → length rest.registers ≡ registers → ((r : ℕ) → r < registers → (get_or rest.registers r null_word).content ≡ NilWord)
      → IsEmpty (image_of s (fresh regions top rules) rest) registers
  fresh_empty rest registers count nil = record {
    words = λ a. ap (λ (ws : List Parts). get_or ws a null_word) f.words ∙ alike (4096 * regions) a null_word;
    regions = λ i. region_is s (fresh regions top rules) rest i v ∙ region_free (fresh regions top rules) i (fresh_free i);
    live_charge = λ area level. by_class_zero (fresh regions top rules) live (2 * (length (quotas_in rules) * (top + 1))) area level;
    live_husks = λ area level. by_class_zero (fresh regions top rules) live (2 * (length (quotas_in rules) * (top + 1))) area level;
    old_charge = λ area level. by_class_zero (fresh regions top rules) stale (2 * (length (quotas_in rules) * (top + 1))) area level;
    old_husks = λ area level. by_class_zero (fresh regions top rules) stale (2 * (length (quotas_in rules) * (top + 1))) area level;
    count = count;
    nil = nil;
    collection = refl;
  }

-- the registers of an empty machine
abbrev nil_registers : ℕ → Rest
nil_registers n = record no_rest { registers = replicate n (record { cdr = CdrNil; content = NilWord }) }

-- so a new ground represents a world without objects
pub fresh_kept_on : (s : Store) (w : World) (regions : ℕ) → IsFresh s regions w.space.levels → IsTable (fresh regions w.space.levels w.areas) → RoomRule (fresh regions w.space.levels w.areas) → IsBare w
    → GroundInvariant s (fresh regions w.space.levels w.areas) (interpretation blank_map (opening w))
fresh_kept_on s w regions f v room bare =
    let t = fresh regions w.space.levels w.areas in
    let n = length w.roots in
    let named = named_fresh s regions w.space.levels w.areas f in
    let empty = fresh_empty s regions w.space.levels w.areas f v (nil_registers n) n (length-replicate n (record { cdr = CdrNil; content = NilWord })) (λ r l. ap (λ (p : Parts). p.content) (get_or-replicate n r (record { cdr = CdrNil; content = NilWord }) null_word l)) in
    let strong = empty_strong (image_of s t (nil_registers n)) w empty bare in
    record {
      kept = kept_ground s t (nil_registers n) (interpretation blank_map (opening w)) strong.kept v named;
      ground = ground_fresh s regions w.space.levels w.areas f;
      named = named;
      table = v;
      room = room;
      agrees = record { levels = refl; quotas = refl; kinds = refl };
    }
