-- A value of a register is stored in a cons.
use Rattle.std.proofs.Common.{◌≡◌, ◌≢◌, ℕ, ◌<◌, ◌⊎◌, inl, inr, refl, sym, ap, subst, List, length, get_or, Some, IsTrue, ◌||◌, ◌==◌}
use Rattle.store_word.specs.Words.{Parts, tag_of}
use Rattle.store_word.specs.declared.word.Tag.TheVariants.{List as ListTag}
use Rattle.lisp_graph.specs.declared.command.Command.{Command}
use Rattle.lisp_graph.specs.declared.command.Command.TheVariants as C
use Rattle.lisp_graph.specs.declared.reply.Reply.TheVariants as R
use Rattle.lisp_graph.specs.declared.object.Body.{Body}
use Rattle.lisp_graph.specs.declared.object.Body.TheVariants as B
use Rattle.lisp_graph.specs.declared.object.Value.TheVariants as V
use Rattle.lisp_graph.specs.Effect.{Effect, answered, effect, stored}
use Rattle.lisp_graph.specs.Graph.{value_at}
use Rattle.mem_port.specs.Store.{Store}
use Rattle.area_space.specs.Table.{Table}
use Rattle.block_store.specs.lisp_meaning.State.{State}
use Rattle.block_store.specs.lisp_meaning.Changes.{put_body}
use Rattle.block_store.specs.lisp_meaning.Flip.{graph_of}
use Rattle.block_store.specs.lisp_meaning.Roles.{RoleMap}
use Rattle.block_store.specs.lisp_meaning.Interpretation.{interpretation}
use Rattle.block_store.specs.lisp_meaning.Sound.{Reach}
use Rattle.block_store.specs.lisp_meaning.Step.{may_fault, owed_by}
use Rattle.block_store.specs.transporter.Preserving.{NoOldAddresses, PreservesScanned}
use Rattle.heap_state.specs.Marks.{MarksOf}
use Rattle.heap_state.specs.Represents.{Represents}
use Rattle.heap_state.specs.RepresentsLater.{RepresentsLater, RepresentsSame}
use Rattle.heap_state.specs.Performs.{AnswersOn, FaultsOn, Performs}
use Rattle.heap_state.specs.Reads.{reads}
use Rattle.heap_state.specs.Settled.{IsSettled}
use Rattle.heap_state.proofs.StateChanges.{later_means}
use Rattle.heap_state.proofs.SettledRegister.{aims_grown, registers_same, settled_on}
use Rattle.cdr_lists.specs.Parts.{SetOn, SetsCar, SetsCdr}
use Rattle.cdr_lists.specs.Reading.{CanRead}
use Rattle.heap_state.proofs.CommandEffects.{counted_represented}
use Rattle.heap_commands.proofs.ConsRegisters.{IsConsValue, can_read, cons_case, cons_value, list_tagged, only_two, read_name, value_there}

-- what a command stores is another body of an object
pub record StoresBody (m : Store) (t : Table) (m' : Store) (t' : Table) (k : RoleMap) (s : State) (c : Command) : Type 0 where
  pub name : ℕ
  pub body : Body
  pub set : SetOn m t m' t' (interpretation k s) (put_body s.store name body) (owed_by c R.Fine)
  pub is : effect (graph_of s) c ≡ Some (stored (graph_of s) name body)

sure : R.Fine ≡ R.Fault → ⊥
sure e = cc

-- it did so
pub stored_performs : (m m' : Store) (t t' : Table) (registers : List Parts) (c : Command) → ((k : RoleMap) (s : State) → Represents m t registers k s → Reach s s.phase → StoresBody m t m' t' k s c) → PreservesScanned m t m' t' → (NoOldAddresses m t → NoOldAddresses m' t') → MarksOf c R.Fine m t m' t'
    → ((i : ℕ) → IsTrue (reads c i) → (i < length registers) × IsSettled t registers i) → Performs m t registers m' t' registers c R.Fine
stored_performs m m' t t' registers c stores preserves stays_fresh marks settled = record {
  performed = performed;
  preserves = preserves;
  others = registers_same t' registers;
  stays_fresh = λ fresh words. stays_fresh words;
  marks = marks;
  settled = λ done i read. settled_on t t' registers registers i preserves.grows (registers_same t' registers) (settled i read).0 (settled i read).1;
}
  where
    performed : (k : RoleMap) (s : State) → Represents m t registers k s → Reach s s.phase → FaultsOn m t m' t' registers c R.Fine k s ⊎ AnswersOn m t m' t' registers c R.Fine k s
    performed k s b reach =
        let x = stores k s b reach in
        let next : State = record s { store = put_body s.store x.name x.body } in
        let represented : RepresentsLater m t m' t' registers k s next (owed_by c R.Fine) = record {
          map = x.set.map;
          represents = record { kept = x.set.kept; count = b.count; means = later_means k x.set.map registers s.registers x.set.refines b.means; aims = aims_grown t t' s.phase preserves.grows b.aims };
          refines = x.set.refines;
          work = x.set.work;
        } in
        inr (record {
          effect_of = stored (graph_of s) x.name x.body;
          is = x.is;
          reply = refl;
          sure = sure;
          represented = counted_represented m m' t t' registers k s next (owed_by c R.Fine) 0 (owed_by c R.Fine) represented;
        })

-- a page call failed
pub stored_faulted : (m m' : Store) (t t' : Table) (registers : List Parts) (c : Command) → IsTrue (may_fault c) → RepresentsSame m t registers m' t' registers → PreservesScanned m t m' t' → (NoOldAddresses m t → NoOldAddresses m' t') → MarksOf c R.Fault m t m' t'
    → Performs m t registers m' t' registers c R.Fault
stored_faulted m m' t t' registers c may represented preserves stays_fresh marks = record {
  performed = λ k s b reach. inl (refl, may, represented k s b reach);
  preserves = preserves;
  others = registers_same t' registers;
  stays_fresh = λ fresh words. stays_fresh words;
  marks = marks;
  settled = λ done. absurd done;
}

-- both registers are settled
pub both_settled : (t : Table) (registers : List Parts) (target from : ℕ) → target < length registers → from < length registers → IsSettled t registers target → IsSettled t registers from
    → (i : ℕ) → IsTrue (i == target || i == from) → (i < length registers) × IsSettled t registers i
both_settled t registers target from target_in from_in target_settled from_settled i h = elim (only_two target from i h) [
  | inl e ↦ (subst (λ (j : ℕ). j < length registers) (sym e) target_in, subst (IsSettled t registers) (sym e) target_settled)
  | inr e ↦ (subst (λ (j : ℕ). j < length registers) (sym e) from_in, subst (IsSettled t registers) (sym e) from_settled)
]

-- The parts of conses

module _ (m m' : Store) (t t' : Table) (registers : List Parts) (target from : ℕ) (target_in : target < length registers) (from_in : from < length registers) (of value : Parts) (read : of ≡ get_or registers target of) (value_read : value ≡ get_or registers from value) where
  module _ (list : tag_of of.content ≢ ListTag → ⊥) where
    held : (k : RoleMap) (s : State) → Represents m t registers k s → IsConsValue s.store (get_or s.registers target V.Nil)
    held k s b =
        let a = list_tagged of.content list in
        cons_value m t (interpretation k s) b.kept of.content (get_or s.registers target V.Nil) a.0 (value_there m t registers target target_in of read k s b) a.1

    can_here : (k : RoleMap) (s : State) (b : Represents m t registers k s) → Reach s s.phase → CanRead m t (interpretation k s) s.registers of.content (V.Ref (held k s b).name)
    can_here k s b reach = read_name m t (interpretation k s) s.registers of.content (get_or s.registers target V.Nil) (held k s b).name (held k s b).value (can_read m t registers target target_in of read k s b reach)

    pub car_stores : SetsCar m t m' t' of.content value.content → (k : RoleMap) (s : State) → Represents m t registers k s → Reach s s.phase → StoresBody m t m' t' k s (C.Rplaca target from)
    car_stores sets k s b reach =
        let v = held k s b in
        record {
          name = v.name;
          body = B.Cons (value_at s.registers from) v.cdr;
          set = sets (interpretation k s) s.registers v.name v.car v.cdr (value_at s.registers from) (can_here k s b reach) v.body (value_there m t registers from from_in value value_read k s b);
          is = ap (λ (e : Effect). Some e) (cons_case s.store.objects (value_at s.registers target) v.name v.car v.cdr (λ name car cdr. stored (graph_of s) name (B.Cons (value_at s.registers from) cdr)) (answered R.WrongType (graph_of s)) v.value v.body);
        }

    pub cdr_stores : SetsCdr m t m' t' of.content value.content → (k : RoleMap) (s : State) → Represents m t registers k s → Reach s s.phase → StoresBody m t m' t' k s (C.Rplacd target from)
    cdr_stores sets k s b reach =
        let v = held k s b in
        record {
          name = v.name;
          body = B.Cons v.car (value_at s.registers from);
          set = sets (interpretation k s) s.registers v.name v.car v.cdr (value_at s.registers from) (can_here k s b reach) v.body (value_there m t registers from from_in value value_read k s b);
          is = ap (λ (e : Effect). Some e) (cons_case s.store.objects (value_at s.registers target) v.name v.car v.cdr (λ name car cdr. stored (graph_of s) name (B.Cons car (value_at s.registers from))) (answered R.WrongType (graph_of s)) v.value v.body);
        }
