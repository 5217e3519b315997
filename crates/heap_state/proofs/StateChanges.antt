-- How what is represented changes.
use Rattle.std.proofs.Common.{◌≡◌, ℕ, ◌<◌, ◌⊎◌, inl, inr, refl, sym, ◌∙◌, ap, List, length, get_or, slice_set, length-set, Some, arith}
use Rattle.std.proofs.lemmas.Bool.{cases_eq}
use Rattle.std.proofs.lemmas.List.{get_or-set_same, get_or-set_other}
use Rattle.store_word.specs.Words.{Parts, null_word}
use Rattle.lisp_graph.specs.declared.object.Value.{Value}
use Rattle.lisp_graph.specs.declared.object.Value.TheVariants as V
use Rattle.lisp_graph.specs.Graph.{is_ref}
use Rattle.area_space.specs.Table.{Table, IsOld}
use Rattle.transporter.specs.lisp_meaning.State.{State, Phase, Idle, Running, aim_of}
use Rattle.transporter.specs.lisp_meaning.Roles.{RoleMap, Refines, value_of}
use Rattle.transporter.specs.lisp_meaning.Interpretation.{interpretation}
use Rattle.transporter.specs.lisp_meaning.Sound.{Reach}
use Rattle.transporter.proofs.lisp_meaning.closure.ClosedSets.{refers_at, is_ref-same}
use Rattle.transporter.proofs.lisp_meaning.maps.Frames.{refined}
use Rattle.transporter.specs.lisp_ground.After.{old_on}
use Rattle.transporter.proofs.lisp_ground.invariant.WordStores.{kept_on_same}
use Rattle.transporter.specs.Settling.{IsKeptValue}
use Rattle.heap_state.specs.PhaseAgrees.{PhaseAgrees}
use Rattle.heap_state.specs.Laws.{KeptRegister, RepresentsTwice, ReadOn, RegisterSet}

-- a collection keeps each register's value

kept_value : (t : Table) (s : State) (r region : ℕ) (p : Phase) → PhaseAgrees t p → Reach s p → IsOld t region → IsKeptValue t s.registers s.store (aim_of p) (get_or s.registers r V.Nil)
kept_value t s r region Idle aims reach old = absurd (aims.1 region old)
kept_value t s r region (Running c) aims reach old = record {
  running = aims;
  reaches = reach;
  name = λ n is. reach.closed.from_registers n (refers_at n s.registers r (ap (is_ref n) is ∙ is_ref-same n));
}

pub kept_register : KeptRegister
kept_register m t registers k s r region b reach low old = kept_value t s r region s.phase b.aims reach old

-- values by a later map
pub later_means : (k k' : RoleMap) (registers : List Parts) (values : List Value) → Refines k.role k'.role → ((r : ℕ) → r < length values → value_of k.role (get_or registers r null_word).content ≡ Some (get_or values r V.Nil))
    → (r : ℕ) → r < length values → value_of k'.role (get_or registers r null_word).content ≡ Some (get_or values r V.Nil)
later_means k k' registers values refines means r low = refined k.role k'.role refines (get_or registers r null_word).content (get_or values r V.Nil) (means r low)

pub represented_twice : RepresentsTwice
represented_twice m m1 m2 t t1 t2 registers1 registers2 k s s1 s2 more more' x y = record {
  map = y.map;
  represents = y.represents;
  refines = λ kind a n e. y.refines kind a n (x.refines kind a n e);
  work = (let a = x.work in let b = y.work in omega arith);
}

pub read_on : ReadOn
read_on m m' t registers k s b n =
    let same : old_on m' t s.store (aim_of s.phase) k.at ≡ old_on m t s.store (aim_of s.phase) k.at = refl in
    record {
      map = k;
      represents = record { kept = kept_on_same m m' t (interpretation k s) b.kept n; count = b.count; means = b.means; aims = b.aims };
      refines = λ kind a n e. e;
      work = omega arith;
    }

-- a register is set

pub set_means : (k : RoleMap) (registers : List Parts) (values : List Value) (to : ℕ) (word : Parts) (v : Value) → length registers ≡ length values
    → ((r : ℕ) → r < length values → value_of k.role (get_or registers r null_word).content ≡ Some (get_or values r V.Nil))
    → to < length registers → value_of k.role word.content ≡ Some v
    → (r : ℕ) → r < length (slice_set values to v) → value_of k.role (get_or (slice_set registers to word) r null_word).content ≡ Some (get_or (slice_set values to v) r V.Nil)
set_means k registers values to word v count means low is r below = go (cases_eq r to)
  where
    go : (r ≡ to) ⊎ (r ≡ to → ⊥) → value_of k.role (get_or (slice_set registers to word) r null_word).content ≡ Some (get_or (slice_set values to v) r V.Nil)
    go (inl e) =
        let here : to < length values = omega arith in
        ap (λ (i : ℕ). value_of k.role (get_or (slice_set registers to word) i null_word).content) e
        ∙ ap (λ (x : Parts). value_of k.role x.content) (get_or-set_same registers to word null_word low)
        ∙ is
        ∙ sym (ap (λ (x : Value). Some x) (ap (λ (i : ℕ). get_or (slice_set values to v) i V.Nil) e ∙ get_or-set_same values to v V.Nil here))
    go (inr ne) =
        let size = length-set values to v in
        ap (λ (x : Parts). value_of k.role x.content) (get_or-set_other registers to r word null_word ne)
        ∙ means r (omega arith)
        ∙ sym (ap (λ (x : Value). Some x) (get_or-set_other values to r v V.Nil ne))

pub register_set : RegisterSet
register_set m t registers k s to word v b low is = record {
  kept = b.kept;
  count = length-set registers to word ∙ b.count ∙ sym (length-set s.registers to v);
  means = set_means k registers s.registers to word v b.count b.means low is;
  aims = b.aims;
}
