-- The value of a word is stored in a register, and shown.
use Rattle.std.proofs.Common.{◌≡◌, ◌≢◌, ℕ, ◌<◌, ◌≤◌, ◌⊎◌, inl, inr, refl, sym, subst, List, length, slice_set, Some, IsTrue, arith}
use Rattle.std.specs.Prelude.{IfOk, OnOk, OnErr, Result, Ok, Err}
use Rattle.store_word.specs.Words.{Parts}
use Rattle.store_word.specs.declared.faults.SwapFault.{SwapFault}
use Rattle.lisp_graph.specs.declared.command.Command.{Command}
use Rattle.lisp_graph.specs.declared.reply.Reply.{Reply}
use Rattle.lisp_graph.specs.declared.reply.Reply.TheVariants as R
use Rattle.lisp_graph.specs.declared.object.Value.{Value}
use Rattle.lisp_graph.specs.Effect.{effect, fetched}
use Rattle.mem_port.specs.Store.{Store, StoresNothing}
use Rattle.area_space.specs.Table.{Table}
use Rattle.transporter.specs.lisp_meaning.State.{State, aim_of}
use Rattle.transporter.specs.lisp_meaning.Flip.{graph_of}
use Rattle.transporter.specs.lisp_meaning.Roles.{RoleMap}
use Rattle.transporter.specs.lisp_meaning.Interpretation.{interpretation}
use Rattle.transporter.specs.lisp_meaning.Sound.{Reach}
use Rattle.transporter.specs.lisp_meaning.Step.{may_fault}
use Rattle.transporter.specs.lisp_ground.After.{old_on}
use Rattle.transporter.specs.Settled.{MeansOn}
use Rattle.transporter.specs.Settling.{RefersToOld}
use Rattle.transporter.specs.Preserving.{NoOldAddresses, PreservesScanned}
use Rattle.transporter.specs.Marking.{MarksFollow}
use Rattle.transporter.proofs.PageMarks.{marks-read, marks-then}
use Rattle.transporter.proofs.ScannedWords.{fresh-value, read-stays_fresh, read-preserves, preserves-then}
use Rattle.heap_state.specs.Consistent.{RepresentsState}
use Rattle.heap_state.specs.Represents.{Represents}
use Rattle.heap_state.specs.RepresentsLater.{RepresentsLater}
use Rattle.heap_state.specs.Performs.{AnswersOn, FaultsOn, Performs}
use Rattle.heap_state.specs.Reads.{reads, reply_of}
use Rattle.heap_state.specs.Settled.{IsSettled}
use Rattle.heap_state.specs.Words.{CanShow, Shows}
use Rattle.heap_state.proofs.StateChanges.{register_set}
use Rattle.heap_state.proofs.PageMarks.{marks_of}
use Rattle.heap_state.proofs.SettledRegister.{registers_same, settled_on}
use Rattle.heap_state.proofs.WordValues.{can_show, shows_value}
use Rattle.heap_state.proofs.CommandEffects.{Leaves, counted_represented, later_represents, later_represented, leaves_read, performs_fault, read_represents, set_others, wider_represented}

-- a reply is `fault` or another
pub fault_cases : (r : Reply) → (r ≡ R.Fault) ⊎ (r ≢ R.Fault)
fault_cases R.Fault = inl refl
fault_cases r = inr (λ e. cc)

-- a command other than `rplacd` owes 0, which is at most any number
none_owed : (n : ℕ) → 0 ≤ n
none_owed n = omega arith

-- what a command fetches is the value of a word
pub record Fetches (m : Store) (t : Table) (m' : Store) (t' : Table) (k : RoleMap) (s : State) (c : Command) (to : ℕ) (word : Parts) : Type 0 where
  pub value : Value
  pub means : MeansOn m t m' t' (interpretation k s) word value
  pub is : effect (graph_of s) c ≡ Some (fetched (graph_of s) to value)

abbrev pub FetchesAll : Store → Table → List Parts → Store → Table → Command → ℕ → Parts → Type 0
FetchesAll m t registers m' t' c to word = (k : RoleMap) (s : State) → Represents m t registers k s → Reach s s.phase → Fetches m t m' t' k s c to word

module _ (m m1 m2 : Store) (t t1 : Table) (registers : List Parts) (c : Command) (to from : ℕ) (word : Parts) (reply : Reply) (consistent : RepresentsState m t registers) (to_in : to < length registers) (from_in : from < length registers) (settled : IsSettled t registers from)
    (only : (i : ℕ) → IsTrue (reads c i) → i ≡ from) (fetches : FetchesAll m t registers m1 t1 c to word) (young : RefersToOld t1 word → ⊥) (preserves : PreservesScanned m t m1 t1) (stays_fresh : NoOldAddresses m t → NoOldAddresses m1 t1) (marks : MarksFollow m t m1 t1) where
  -- the word has a value
  means_here : MeansOn m t m1 t1 (interpretation consistent.map consistent.state) word (fetches consistent.map consistent.state consistent.represents consistent.reach).value
  means_here = (fetches consistent.map consistent.state consistent.represents consistent.reach).means

  -- so it can be shown
  pub fetched_shows : CanShow m1.words word.content
  fetched_shows =
      let f = means_here in
      can_show m1 t1 (interpretation f.later.map consistent.state) f.later.kept word.content (fetches consistent.map consistent.state consistent.represents consistent.reach).value f.value_is

  -- it wasn't stored in a register
  pub fetched_leaves : Leaves m t registers m1 t1 registers
  fetched_leaves = record {
    represented = λ k s b reach. later_represented m m1 t t1 registers k s preserves.grows b (fetches k s b reach).means.later;
    preserves = preserves;
    others = registers_same t1 registers;
    stays_fresh = λ fresh words. stays_fresh words;
    marks = marks;
  }

  -- it did
  module _ (stays : StoresNothing m1 m2) (shows : Shows m1.words word.content reply) (sure : reply ≢ R.Fault) where
    performed : (k : RoleMap) (s : State) → Represents m t registers k s → Reach s s.phase → FaultsOn m t m2 t1 (slice_set registers to word) c reply k s ⊎ AnswersOn m t m2 t1 (slice_set registers to word) c reply k s
    performed k s b reach =
        let f = fetches k s b reach in
        let moved = later_represents m m1 t t1 registers k s preserves.grows b f.means.later in
        let read = read_represents m1 m2 t1 registers f.means.later.map s moved stays in
        let set = register_set m2 t1 registers f.means.later.map s to word f.value read to_in f.means.value_is in
        let same : old_on m2 t1 s.store (aim_of s.phase) f.means.later.map.at ≡ old_on m1 t1 s.store (aim_of s.phase) f.means.later.map.at = refl in
        let represented : RepresentsLater m t m2 t1 (slice_set registers to word) k s (record s { registers = slice_set s.registers to f.value }) 0 = record { map = f.means.later.map; represents = set; refines = f.means.later.refines; work = (let w = f.means.later.work in omega arith) } in
        inr (record {
          effect_of = fetched (graph_of s) to f.value;
          is = f.is;
          reply = sym (shows_value m1 t1 (interpretation f.means.later.map s) f.means.later.kept word.content f.value reply f.means.value_is shows);
          sure = sure;
          represented = counted_represented m m2 t t1 (slice_set registers to word) k s (record s { registers = slice_set s.registers to f.value }) _ 0 _
              (wider_represented m m2 t t1 (slice_set registers to word) k s (record s { registers = slice_set s.registers to f.value }) 0 _ (none_owed _) represented);
        })

    pub fetched_performs : Performs m t registers m2 t1 (slice_set registers to word) c reply
    fetched_performs =
        let fresh = fresh-value means_here.later.map.role t1 word.content (fetches consistent.map consistent.state consistent.represents consistent.reach).value means_here.value_is young in
        let others = set_others t1 registers to word to_in fresh in
        record {
          performed = performed;
          preserves = preserves-then preserves (read-preserves t1 stays);
          others = others;
          stays_fresh = λ fresh words. read-stays_fresh t1 stays (stays_fresh words);
          marks = marks_of c reply (marks-then marks (marks-read t1 stays));
          settled = λ done i read. subst (IsSettled t1 (slice_set registers to word)) (sym (only i read)) (settled_on t t1 registers (slice_set registers to word) from preserves.grows others from_in settled);
        }

  -- it did, or it couldn't be shown
  shown_performs : (registers' : List Parts) → IsTrue (may_fault c) → StoresNothing m1 m2 → (reply ≢ R.Fault → Shows m1.words word.content reply) → (reply ≢ R.Fault → registers' ≡ slice_set registers to word) → (reply ≡ R.Fault → registers' ≡ registers)
      → Performs m t registers m2 t1 registers' c reply
  shown_performs registers' may stays shows set kept = elim (fault_cases reply) [
    | inl e ↦
        let faulted = performs_fault m m2 t t1 registers registers c may (leaves_read m m1 m2 t t1 registers registers fetched_leaves stays) in
        subst (λ (r : Reply). Performs m t registers m2 t1 registers' c r) (sym e) (subst (λ (rs : List Parts). Performs m t registers m2 t1 rs c R.Fault) (sym (kept e)) faulted)
    | inr sure ↦ subst (λ (rs : List Parts). Performs m t registers m2 t1 rs c reply) (sym (set sure)) (fetched_performs stays (shows sure) sure)
  ]

-- the same for what the call returned
pub answer_performs : (m m1 m2 : Store) (t t1 : Table) (registers : List Parts) (c : Command) (to from : ℕ) (word : Parts) (r : Result Reply SwapFault) → RepresentsState m t registers → to < length registers → from < length registers → IsSettled t registers from
    → ((i : ℕ) → IsTrue (reads c i) → i ≡ from) → FetchesAll m t registers m1 t1 c to word → (RefersToOld t1 word → ⊥) → PreservesScanned m t m1 t1 → (NoOldAddresses m t → NoOldAddresses m1 t1) → MarksFollow m t m1 t1
    → (registers' : List Parts) → IsTrue (may_fault c) → StoresNothing m1 m2 → IfOk r (Shows m1.words word.content) → IfOk r (λ reply. reply ≢ R.Fault) → OnOk r (registers' ≡ slice_set registers to word) → OnErr r (registers' ≡ registers)
    → Performs m t registers m2 t1 registers' c (reply_of r)
answer_performs m m1 m2 t t1 registers c to from word (Ok reply) consistent to_in from_in settled only fetches young preserves stays_fresh marks registers' may stays shows sure set kept =
    shown_performs m m1 m2 t t1 registers c to from word reply consistent to_in from_in settled only fetches young preserves stays_fresh marks registers' may stays (λ _. shows) (λ _. set) (λ e. absurd (sure e))
answer_performs m m1 m2 t t1 registers c to from word (Err fault) consistent to_in from_in settled only fetches young preserves stays_fresh marks registers' may stays shows sure set kept =
    shown_performs m m1 m2 t t1 registers c to from word R.Fault consistent to_in from_in settled only fetches young preserves stays_fresh marks registers' may stays (λ no. absurd (no refl)) (λ no. absurd (no refl)) (λ _. kept)
