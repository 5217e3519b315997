-- A part of a cons is stored in a register.
use Rattle.std.proofs.Common.{◌≡◌, ◌≢◌, ℕ, ◌<◌, sym, ap, subst, List, length, get_or, Some}
use Rattle.store_word.specs.Words.{Parts, tag_of}
use Rattle.store_word.specs.declared.word.Tag.TheVariants.{List as ListTag}
use Rattle.lisp_graph.specs.declared.command.Command.TheVariants as C
use Rattle.lisp_graph.specs.declared.reply.Reply.TheVariants as R
use Rattle.lisp_graph.specs.declared.object.Value.{Value}
use Rattle.lisp_graph.specs.declared.object.Value.TheVariants as V
use Rattle.lisp_graph.specs.Effect.{Effect, answered, fetched, when_cons}
use Rattle.lisp_graph.specs.Graph.{value_at}
use Rattle.mem_port.specs.Store.{Store, StoresNothing}
use Rattle.area_space.specs.Table.{Table}
use Rattle.block_store.specs.lisp_meaning.State.{State}
use Rattle.block_store.specs.lisp_meaning.Flip.{graph_of}
use Rattle.block_store.specs.lisp_meaning.Roles.{RoleMap}
use Rattle.block_store.specs.lisp_meaning.Interpretation.{interpretation}
use Rattle.block_store.specs.lisp_meaning.Sound.{Reach}
use Rattle.block_store.specs.transporter.Marking.{MarksFollow}
use Rattle.block_store.specs.transporter.Preserving.{NoOldAddresses, PreservesScanned}
use Rattle.heap_state.specs.Represents.{Represents}
use Rattle.heap_state.specs.RepresentsLater.{RepresentsSame}
use Rattle.heap_state.specs.Reads.{reads}
use Rattle.heap_state.proofs.SettledRegister.{registers_same}
use Rattle.cdr_lists.specs.Reading.{CanRead, KeepsCons, ReadsCar, ReadsCdr}
use Rattle.heap_state.proofs.FetchedValues.{FetchesAll}
use Rattle.heap_state.proofs.CommandEffects.{Leaves, later_represented, leaves_same}
use Rattle.heap_commands.proofs.ConsRegisters.{IsConsValue, can_read, cons_case, cons_value, list_tagged, not_cons, read_name, value_there}

-- The parts of conses

module _ (m m1 : Store) (t t1 : Table) (registers : List Parts) (to from : ℕ) (word : Parts) (from_in : from < length registers) (of : Parts) (read : of ≡ get_or registers from of) (list : tag_of of.content ≢ ListTag → ⊥) where
  held : (k : RoleMap) (s : State) → Represents m t registers k s → IsConsValue s.store (get_or s.registers from V.Nil)
  held k s b =
      let a = list_tagged of.content list in
      cons_value m t (interpretation k s) b.kept of.content (get_or s.registers from V.Nil) a.0 (value_there m t registers from from_in of read k s b) a.1

  can_here : (k : RoleMap) (s : State) (b : Represents m t registers k s) → Reach s s.phase → CanRead m t (interpretation k s) s.registers of.content (V.Ref (held k s b).name)
  can_here k s b reach = read_name m t (interpretation k s) s.registers of.content (get_or s.registers from V.Nil) (held k s b).name (held k s b).value (can_read m t registers from from_in of read k s b reach)

  pub car_fetches : ReadsCar m t m1 t1 of.content word → FetchesAll m t registers m1 t1 (C.Car to from) to word
  car_fetches reads k s b reach =
      let v = held k s b in
      record {
        value = v.car;
        means = reads (interpretation k s) s.registers v.name v.car v.cdr (can_here k s b reach) v.body;
        is = ap (λ (e : Effect). Some e) (cons_case s.store.objects (value_at s.registers from) v.name v.car v.cdr (λ name car cdr. fetched (graph_of s) to car) (answered R.WrongType (graph_of s)) v.value v.body);
      }

  pub cdr_fetches : ReadsCdr m t m1 t1 of.content word → FetchesAll m t registers m1 t1 (C.Cdr to from) to word
  cdr_fetches reads k s b reach =
      let v = held k s b in
      record {
        value = v.cdr;
        means = reads (interpretation k s) s.registers v.name v.car v.cdr (can_here k s b reach) v.body;
        is = ap (λ (e : Effect). Some e) (cons_case s.store.objects (value_at s.registers from) v.name v.car v.cdr (λ name car cdr. fetched (graph_of s) to cdr) (answered R.WrongType (graph_of s)) v.value v.body);
      }

-- A call on the word of a register that isn't a cons

module _ (m m1 : Store) (t t1 : Table) (registers : List Parts) (from : ℕ) (from_in : from < length registers) (of : Parts) (read : of ≡ get_or registers from of) where
  pub no_cons : (found : State → ℕ → Value → Value → Effect) → tag_of of.content ≢ ListTag → (k : RoleMap) (s : State) → Represents m t registers k s
      → Some (when_cons s.store.objects (value_at s.registers from) (found s) (answered R.WrongType (graph_of s))) ≡ Some (answered R.WrongType (graph_of s))
  no_cons found other k s b =
      ap (λ (e : Effect). Some e) (not_cons m t (interpretation k s) b.kept of.content (value_at s.registers from) (found s) (answered R.WrongType (graph_of s)) (value_there m t registers from from_in of read k s b) other)

  -- it kept what was represented
  pub kept_represented : KeepsCons m t m1 t1 of.content → PreservesScanned m t m1 t1 → RepresentsSame m t registers m1 t1 registers
  kept_represented kept preserves k s b reach =
      later_represented m m1 t t1 registers k s preserves.grows b (kept (interpretation k s) s.registers (get_or s.registers from V.Nil) (can_read m t registers from from_in of read k s b reach))

  pub kept_leaves : KeepsCons m t m1 t1 of.content → PreservesScanned m t m1 t1 → (NoOldAddresses m t → NoOldAddresses m1 t1) → MarksFollow m t m1 t1 → Leaves m t registers m1 t1 registers
  kept_leaves kept preserves stays_fresh marks = record {
    represented = kept_represented kept preserves;
    preserves = preserves;
    others = registers_same t1 registers;
    stays_fresh = λ fresh words. stays_fresh words;
    marks = marks;
  }

-- nothing was stored
pub stays_leaves : (m m1 : Store) (t t1 : Table) (registers : List Parts) → t1 ≡ t → StoresNothing m m1 → Leaves m t registers m1 t1 registers
stays_leaves m m1 t t1 registers same stays = subst (λ (u : Table). Leaves m t registers m1 u registers) (sym same) (leaves_same m m1 t registers stays)
