-- Worlds and commands within the limits of a machine introduce no name that dangles.
use Rattle.std.proofs.Common.{◌≡◌, ℕ, ◌<◌, ◌⊎◌, inl, inr, true, refl, arith, List, length, get_or, nat_lt}
use Rattle.std.specs.List.{All}
use Rattle.std.proofs.lemmas.Bool.{or_cases, eqb-true, lt-ltb, ltb-true}
use Rattle.lisp_graph.specs.declared.object.Value.{Value}
use Rattle.lisp_graph.specs.declared.object.Value.TheVariants as V
use Rattle.lisp_graph.specs.declared.object.Body.{Body}
use Rattle.lisp_graph.specs.declared.object.Body.TheVariants.{Cons, Block}
use Rattle.lisp_graph.specs.declared.command.Command.{Command}
use Rattle.lisp_graph.specs.declared.command.Command.TheVariants as C
use Rattle.lisp_graph.specs.declared.world.World.{World}
use Rattle.lisp_graph.specs.Graph.{RefersBelow, PartsReferBelow, object_at, is_ref, refers_in, body_refers}
use Rattle.lisp_graph.specs.Commands.{InLimits}
use Rattle.lisp_graph.specs.World.{IsWorld}
use Rattle.lisp_graph.proofs.GraphInvariant.{value_below, object_in}
use Rattle.lisp_meaning.specs.machine.Opening.{IsWhole}
use Rattle.lisp_meaning.specs.machine.Sound.{IsAllowed}
use Rattle.lisp_meaning.proofs.closure.ClosedSets.{refers_each}

below_each : (count : ℕ) (values : List Value) → All (RefersBelow count) values → (n : ℕ) → refers_in n values ≡ true → n < count
below_each count values h n e =
    ltb-true n count (refers_each (λ m. nat_lt m count) values (λ i m l r. value_in (get_or values i V.Nil) (value_below count values i h) m r) n e)
  where
    value_in : (v : Value) → RefersBelow count v → (m : ℕ) → is_ref m v ≡ true → nat_lt m count ≡ true
    value_in (V.Ref name) b m r = lt-ltb m count (let x = eqb-true name m r in let y : name < count = b in omega arith)
    value_in V.Nil b m r = cc
    value_in (V.Fix i) b m r = cc

below_parts : (count : ℕ) (body : Body) → PartsReferBelow count body → (n : ℕ) → body_refers n body ≡ true → n < count
below_parts count (Cons car cdr) h n e = go (or_cases (is_ref n car) (is_ref n cdr) e)
  where
    one : (v : Value) → RefersBelow count v → is_ref n v ≡ true → n < count
    one (V.Ref name) b r = let x = eqb-true name n r in let y : name < count = b in omega arith
    one V.Nil b r = cc
    one (V.Fix i) b r = cc

    go : (is_ref n car ≡ true) ⊎ (is_ref n cdr ≡ true) → n < count
    go (inl x) = one car h.0 x
    go (inr x) = one cdr h.1 x
below_parts count (Block code fields) h n e = below_each count fields h n e

pub world_whole : (w : World) → IsWorld w → IsWhole w
world_whole w h = record {
  registers = h.space.registers.0;
  roots = below_each (length w.objects) w.roots h.graph.registers;
  objects = λ m n l e. below_parts (length w.objects) (object_at w.objects m).body (object_in (length w.objects) w.objects m h.graph.objects).refers n e;
}

pub limits_allowed : (c : Command) → InLimits c → IsAllowed c
limits_allowed (C.Set to (V.Ref n)) h = absurd h
limits_allowed (C.Set to V.Nil) h = λ n. refl
limits_allowed (C.Set to (V.Fix i)) h = λ n. refl
limits_allowed (C.List to area items) h = h.0
limits_allowed _ h = tt
