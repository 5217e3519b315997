-- What a command does to what is represented, from what its calls do.
use Rattle.std.proofs.Common.{◌≡◌, ℕ, ◌+◌, ◌<◌, ◌≤◌, ◌⊎◌, inl, inr, refl, sym, ◌∙◌, ap, subst, List, length, length-set, get_or, slice_set, Some, IsTrue, arith}
use Rattle.std.proofs.lemmas.Bool.{cases_eq}
use Rattle.std.proofs.lemmas.List.{get_or-set_same, get_or-set_other}
use Rattle.store_word.specs.Words.{Parts, null_word}
use Rattle.lisp_graph.specs.declared.command.Command.{Command}
use Rattle.lisp_graph.specs.declared.reply.Reply.{Reply}
use Rattle.lisp_graph.specs.declared.reply.Reply.TheVariants as R
use Rattle.lisp_graph.specs.Effect.{answered, effect}
use Rattle.mem_port.specs.Store.{Store, StoresNothing}
use Rattle.area_space.specs.Table.{Table}
use Rattle.transporter.specs.lisp_meaning.State.{State, Phase, Idle, Running, Condemned, aim_of}
use Rattle.transporter.specs.lisp_meaning.Flip.{graph_of}
use Rattle.transporter.specs.lisp_meaning.Roles.{RoleMap}
use Rattle.transporter.specs.lisp_meaning.Sound.{Reach}
use Rattle.transporter.specs.lisp_meaning.Step.{counted, counted_phase, may_fault, owed_by}
use Rattle.transporter.specs.lisp_ground.GroundInvariant.{GroundInvariant}
use Rattle.transporter.specs.lisp_meaning.Interpretation.{interpretation}
use Rattle.transporter.specs.lisp_ground.After.{old_on}
use Rattle.transporter.proofs.lisp_ground.invariant.WordStores.{kept_on_same}
use Rattle.transporter.specs.LiveWordsUnchanged.{OnlyGrows}
use Rattle.transporter.specs.Preserving.{NoOldAddresses, FreshOn, RegistersPreserved, PreservesScanned}
use Rattle.transporter.specs.Transports.{RepresentedByLaterMap}
use Rattle.transporter.specs.Marking.{MarksFollow}
use Rattle.transporter.proofs.PageMarks.{marks-read, marks-then}
use Rattle.transporter.proofs.ScannedWords.{read-stays_fresh, read-preserves, preserves-then}
use Rattle.heap_state.specs.PhaseAgrees.{PhaseAgrees}
use Rattle.heap_state.specs.Represents.{Represents}
use Rattle.heap_state.specs.RepresentsLater.{RepresentsLater, RepresentsSame}
use Rattle.heap_state.specs.Performs.{AnswersOn, FaultsOn, Performs}
use Rattle.heap_state.specs.Settled.{NoOldAddressesInRegisters}
use Rattle.heap_state.proofs.StateChanges.{represented_twice, later_means, read_on}
use Rattle.heap_state.proofs.PageMarks.{marks_after, marks_of}
use Rattle.heap_state.proofs.SettledRegister.{aims_grown, registers_fresh, registers_same, registers_then}

-- Counting the work changes nothing that is represented

aim_counted : (owed paid : ℕ) (p : Phase) → aim_of (counted_phase owed paid p) ≡ aim_of p
aim_counted owed paid Idle = refl
aim_counted owed paid (Running c) = refl

aims_counted : (t : Table) (owed paid : ℕ) (p : Phase) → PhaseAgrees t p → PhaseAgrees t (counted_phase owed paid p)
aims_counted t owed paid Idle aims = aims
aims_counted t owed paid (Running c) aims = aims

counted_represents : (m : Store) (t : Table) (registers : List Parts) (k : RoleMap) (s : State) (owed paid : ℕ) → Represents m t registers k s → Represents m t registers k (counted owed paid s)
counted_represents m t registers k s owed paid b = record {
  kept = subst (λ (aim : Condemned). GroundInvariant m t (record (interpretation k s) { aim = aim })) (sym (aim_counted owed paid s.phase)) b.kept;
  count = b.count;
  means = b.means;
  aims = aims_counted t owed paid s.phase b.aims;
}

pub counted_represented : (m m' : Store) (t t' : Table) (registers' : List Parts) (k : RoleMap) (s s' : State) (owed paid more : ℕ) → RepresentsLater m t m' t' registers' k s s' more → RepresentsLater m t m' t' registers' k s (counted owed paid s') more
counted_represented m m' t t' registers' k s s' owed paid more x = record {
  map = x.map;
  represents = counted_represents m' t' registers' x.map s' owed paid x.represents;
  refines = x.refines;
  work = (let same = ap (λ (aim : Condemned). old_on m' t' s'.store aim x.map.at) (aim_counted owed paid s'.phase) in let w = x.work in omega arith);
}

-- more may be placed than is
pub wider_represented : (m m' : Store) (t t' : Table) (registers' : List Parts) (k : RoleMap) (s s' : State) (more wide : ℕ) → more ≤ wide → RepresentsLater m t m' t' registers' k s s' more → RepresentsLater m t m' t' registers' k s s' wide
wider_represented m m' t t' registers' k s s' more wide low x = record { map = x.map; represents = x.represents; refines = x.refines; work = (let w = x.work in omega arith) }

pub no_more : (m m' : Store) (t t' : Table) (registers' : List Parts) (k : RoleMap) (s s' : State) (n : ℕ) → RepresentsLater m t m' t' registers' k s s' (0 + n) → RepresentsLater m t m' t' registers' k s s' n
no_more m m' t t' registers' k s s' n x = record { map = x.map; represents = x.represents; refines = x.refines; work = (let w = x.work in omega arith) }

-- What is represented is unchanged

-- the same objects by a later map
pub later_represents : (m m' : Store) (t t' : Table) (registers : List Parts) (k : RoleMap) (s : State) → OnlyGrows t t' → Represents m t registers k s → (x : RepresentedByLaterMap m t m' t' (interpretation k s)) → Represents m' t' registers x.map s
later_represents m m' t t' registers k s g b x = record { kept = x.kept; count = b.count; means = later_means k x.map registers s.registers x.refines b.means; aims = aims_grown t t' s.phase g b.aims }

pub later_represented : (m m' : Store) (t t' : Table) (registers : List Parts) (k : RoleMap) (s : State) → OnlyGrows t t' → Represents m t registers k s → RepresentedByLaterMap m t m' t' (interpretation k s)
    → RepresentsLater m t m' t' registers k s s 0
later_represented m m' t t' registers k s g b x = record { map = x.map; represents = later_represents m m' t t' registers k s g b x; refines = x.refines; work = (let w = x.work in omega arith) }

-- nothing was stored
pub read_represents : (m m' : Store) (t : Table) (registers : List Parts) (k : RoleMap) (s : State) → Represents m t registers k s → StoresNothing m m' → Represents m' t registers k s
read_represents m m' t registers k s b stays = record { kept = kept_on_same m m' t (interpretation k s) b.kept stays; count = b.count; means = b.means; aims = b.aims }

-- after a call the same states are represented, and scanned words and registers are unchanged or fresh
pub record Leaves (m : Store) (t : Table) (registers : List Parts) (m' : Store) (t' : Table) (registers' : List Parts) : Type 0 where
  pub represented : RepresentsSame m t registers m' t' registers'
  pub preserves : PreservesScanned m t m' t'
  pub others : RegistersPreserved t' registers registers'
  pub stays_fresh : NoOldAddressesInRegisters t registers → NoOldAddresses m t → NoOldAddresses m' t'
  pub marks : MarksFollow m t m' t'

-- and nothing was stored after it
pub leaves_read : (m m1 m2 : Store) (t t' : Table) (registers registers' : List Parts) → Leaves m t registers m1 t' registers' → StoresNothing m1 m2 → Leaves m t registers m2 t' registers'
leaves_read m m1 m2 t t' registers registers' x stays = record {
  represented = λ k s b reach. (let y = x.represented k s b reach in represented_twice m m1 m2 t t' t' registers' registers' k s s s 0 0 y (read_on m1 m2 t' registers' y.map s y.represents stays));
  preserves = preserves-then x.preserves (read-preserves t' stays);
  others = x.others;
  stays_fresh = λ fresh words. read-stays_fresh t' stays (x.stays_fresh fresh words);
  marks = marks-then x.marks (marks-read t' stays);
}

-- nothing was stored
pub leaves_same : (m m' : Store) (t : Table) (registers : List Parts) → StoresNothing m m' → Leaves m t registers m' t registers
leaves_same m m' t registers stays = record {
  represented = λ k s b reach. read_on m m' t registers k s b stays;
  preserves = read-preserves t stays;
  others = registers_same t registers;
  stays_fresh = λ fresh words. read-stays_fresh t stays words;
  marks = marks-read t stays;
}

-- Commands

pub performs_fault : (m m' : Store) (t t' : Table) (registers registers' : List Parts) (c : Command) → IsTrue (may_fault c) → Leaves m t registers m' t' registers' → Performs m t registers m' t' registers' c R.Fault
performs_fault m m' t t' registers registers' c may x = record {
  performed = λ k s b reach. inl (refl, may, x.represented k s b reach);
  preserves = x.preserves;
  others = x.others;
  stays_fresh = x.stays_fresh;
  marks = marks_of c R.Fault x.marks;
  settled = λ done. absurd done;
}

fault_other : R.WrongType ≡ R.Fault → ⊥
fault_other e = cc

-- it was refused as a word of a wrong type
pub performs_refused : (m m' : Store) (t t' : Table) (registers registers' : List Parts) (c : Command)
    → ((k : RoleMap) (s : State) → Represents m t registers k s → effect (graph_of s) c ≡ Some (answered R.WrongType (graph_of s))) → Leaves m t registers m' t' registers' → Performs m t registers m' t' registers' c R.WrongType
performs_refused m m' t t' registers registers' c wrong x = record {
  performed = λ k s b reach. inr (record {
    effect_of = answered R.WrongType (graph_of s);
    is = wrong k s b;
    reply = refl;
    sure = fault_other;
    represented = counted_represented m m' t t' registers' k s s (owed_by c R.WrongType) 0 (owed_by c R.WrongType) (wider_represented m m' t t' registers' k s s 0 (owed_by c R.WrongType) (omega arith) (x.represented k s b reach));
  });
  preserves = x.preserves;
  others = x.others;
  stays_fresh = x.stays_fresh;
  marks = marks_of c R.WrongType x.marks;
  settled = λ done. absurd done;
}

-- registers were settled, and then the command acted
pub performs_after : (m m1 m2 : Store) (t t1 t2 : Table) (r0 r1 r2 : List Parts) (c : Command) (r : Reply) → Leaves m t r0 m1 t1 r1 → Performs m1 t1 r1 m2 t2 r2 c r → Performs m t r0 m2 t2 r2 c r
performs_after m m1 m2 t t1 t2 r0 r1 r2 c r x y = record {
  performed = performed;
  preserves = preserves-then x.preserves y.preserves;
  others = registers_then t1 t2 r0 r1 r2 y.preserves.grows x.others y.others;
  stays_fresh = λ fresh words. y.stays_fresh (registers_fresh t t1 r0 r1 x.preserves.grows x.others fresh) (x.stays_fresh fresh words);
  marks = marks_after m m1 m2 t t1 t2 c r x.marks y.marks;
  settled = y.settled;
}
  where
    performed : (k : RoleMap) (s : State) → Represents m t r0 k s → Reach s s.phase → FaultsOn m t m2 t2 r2 c r k s ⊎ AnswersOn m t m2 t2 r2 c r k s
    performed k s b reach =
        let p = x.represented k s b reach in
        elim (y.performed p.map s p.represents reach) [
          | inl f ↦ inl (f.0, f.1, represented_twice m m1 m2 t t1 t2 r1 r2 k s s s 0 0 p f.2)
          | inr a ↦ inr (record {
            effect_of = a.effect_of;
            is = a.is;
            reply = a.reply;
            sure = a.sure;
            represented = no_more m m2 t t2 r2 k s _ _ (represented_twice m m1 m2 t t1 t2 r1 r2 k s s _ 0 _ p a.represented);
          })
        ]

-- A register is set

-- to a fresh word
pub set_others : (t : Table) (registers : List Parts) (to : ℕ) (word : Parts) → to < length registers → FreshOn t word.content → RegistersPreserved t registers (slice_set registers to word)
set_others t registers to word low fresh = record {
  count = length-set registers to word;
  each = λ r inside. elim (cases_eq r to) [
    | inl e ↦
        let is = ap (λ (i : ℕ). get_or (slice_set registers to word) i null_word) e ∙ get_or-set_same registers to word null_word low in
        inr (subst (λ (w : Parts). FreshOn t w.content) (sym is) fresh)
    | inr ne ↦ inl (get_or-set_other registers to r word null_word ne)
  ];
}
