-- What a walk over a heap requires of the words that it is given, and what it may return.
use Rattle.std.proofs.Common.{◌≡◌, ℕ, ◌+◌, ◌<◌, ◌≤◌, true, refl, sym, ◌∙◌, ap, subst, arith, List, length, get_or, slice_get, Some, Result, Ok, Err}
use Rattle.std.specs.Result.{IfOk}
use Rattle.std.proofs.lemmas.Option.{get_or_from_slice_get, slice_get_read}
use Rattle.std.proofs.lemmas.Result.{IfOk-weaker}
use Rattle.store_word.specs.Faults.{TellsFaults}
use Rattle.store_word.specs.Words.{Parts, null_word}
use Rattle.store_word.specs.declared.space.Space.{Space}
use Rattle.lisp_graph.specs.declared.walk.Form.{Form}
use Rattle.lisp_graph.specs.declared.walk.Seen.{Seen}
use Rattle.lisp_graph.specs.declared.walk.SeenCons.{SeenCons}
use Rattle.lisp_graph.specs.KeyedGraph.{Shows, cons_at}
use Rattle.mem_port.specs.Frames.{LeavesRoom}
use Rattle.mem_port.specs.Store.{Store, StoresNothing, MarksHold}
use Rattle.area_space.specs.Table.{Table}
use Rattle.scavenger.specs.Scan.{Scan}
use Rattle.word_graph.specs.lisp_meaning.State.{State}
use Rattle.word_graph.specs.lisp_meaning.Interpretation.{interpretation}
use Rattle.word_graph.specs.Placed.{MeanValues, CanWalk, CanSee, HasObject}
use Rattle.word_graph.specs.Shown.{told, form_in, field_in, parts_in, is_cons_in, cons_in}
use Rattle.word_graph.proofs.HeldObjects.{registers_are_told, keys_are_objects, reached_show, reads_show_the_same, walks_go_on}
use Rattle.word_graph.proofs.RenamedGraph.{dump_is_of_state as dump_shown}
use Rattle.lisp_heap.specs.HeapView.{HeapView, Counts, contents_of, lists_of, store_of}
use Rattle.lisp_heap.specs.Stands.{Stands, IsSound}
use Rattle.lisp_heap.specs.Walking.{graph_in, DumpIsOfState, StandsAsBefore}
use Rattle.lisp_heap.proofs.ListedMemory.{listed, read_all, unlisted}

-- for each swap error of a read at most one page fewer is resident
pub room_by_faults : {T E : Type 0} (faults faults' before now : ℕ) (result : Result T E) → TellsFaults faults faults' result → LeavesRoom before now result → before + faults ≤ now + faults'
room_by_faults faults faults' before now (Ok x) cause room = (let a = room.answered in let b = cause.later in omega arith)
room_by_faults faults faults' before now (Err e) cause room = (let a = room.failed in let b = cause.failed in omega arith)

-- the registers have the values of a state that the heap represents
pub stands_mean : (h : HeapView) (s : State) (st : Stands h s) → MeanValues st.map h.registers s.registers
stands_mean h s st = record { count = st.represents.represents.count; each = st.represents.represents.means }

pub dump_is_of_state : DumpIsOfState
dump_is_of_state h s st space areas text dump = dump_shown (store_of h.memory) h.table h.registers st.map s st.represents.represents.kept (stands_mean h s st) space areas text dump

-- so a walk over it is possible
stands_walk : (h : HeapView) (s : State) → Stands h s → CanWalk (store_of h.memory) h.table h.registers
stands_walk h s st = record {
  it = interpretation st.map s;
  kept = st.represents.represents.kept;
  values = s.registers;
  means = stands_mean h s st;
}

module _ (m : Store) (t : Table) (scan : Scan) (registers : List Parts) (space : Space) (faults : ℕ) (resident : List ℕ) (counts : Counts) (sound : IsSound (contents_of m t scan registers space faults resident counts)) where
  module _ (m' : Store) (faults' : ℕ) (resident' : List ℕ) (counts' : Counts) (stays : StoresNothing m m') (marks : MarksHold m') where
    -- if nothing was stored it represents the same states,
    stands_still : (s : State) → Stands (contents_of m t scan registers space faults resident counts) s → Stands (contents_of m' t scan registers space faults' resident' counts') s
    stands_still s st = record {
      map = st.map;
      represents = listed m' t scan registers st.map s (read_all m m' t scan registers st.map s stays marks (unlisted m t scan registers st.map s st.represents));
      space = st.space;
      kinds = st.kinds;
    }

    sound_still : IsSound (contents_of m' t scan registers space faults' resident' counts')
    sound_still = record {
      stands = (sound.stands.0, stands_still sound.stands.0 sound.stands.1);
      sizes = sound.sizes;
      areas = sound.areas;
      registers = sound.registers;
      regions = sound.regions;
    }

  -- and is still sound
  pub sound_after : (m' : Store) (t' : Table) (faults' : ℕ) (resident' : List ℕ) (counts' : Counts) → StoresNothing m m' → t' ≡ t → MarksHold m' → IsSound (contents_of m' t' scan registers space faults' resident' counts')
  sound_after m' t' faults' resident' counts' stays same marks =
      subst (λ (x : Table). IsSound (contents_of m' x scan registers space faults' resident' counts')) (sym same) (sound_still m' faults' resident' counts' stays marks)

  walks : CanWalk m t registers
  walks = walks_go_on (store_of (lists_of m)) m t registers refl refl refl (stands_walk (contents_of m t scan registers space faults resident counts) sound.stands.0 sound.stands.1)

  module _ (h : HeapView) (view : contents_of m t scan registers space faults resident counts ≡ h) where
    -- and shows the same graph
    pub same_graph : (m' : Store) (t' : Table) (faults' : ℕ) (resident' : List ℕ) (counts' : Counts) → StoresNothing m m' → t' ≡ t → graph_in (contents_of m' t' scan registers space faults' resident' counts') ≡ graph_in h
    same_graph m' t' faults' resident' counts' stays same =
        ap (λ (x : Table). graph_in (contents_of m' x scan registers space faults' resident' counts')) same ∙ reads_show_the_same m m' t registers stays ∙ ap graph_in view

    -- and it represents the same states, in the same world
    pub stands_as_before : (m' : Store) (t' : Table) (faults' : ℕ) (resident' : List ℕ) (counts' : Counts) → StoresNothing m m' → t' ≡ t → MarksHold m' → length resident + faults ≤ length resident' + faults' → StandsAsBefore h (contents_of m' t' scan registers space faults' resident' counts')
    stands_as_before m' t' faults' resident' counts' stays same marks room =
        subst (λ (x : HeapView). StandsAsBefore x (contents_of m' t' scan registers space faults' resident' counts')) view
        (subst (λ (x : Table). StandsAsBefore (contents_of m t scan registers space faults resident counts) (contents_of m' x scan registers space faults' resident' counts')) (sym same)
        (record { words = stays.words; settled = refl; table = refl; scan = refl; stands = stands_still m' faults' resident' counts' stays marks; world = record { registers = refl; space = refl; kinds = refl }; room = room }))

    -- Registers
    module _ (r : ℕ) (l : r < length (graph_in h).registers) (word : Parts) (is : word ≡ get_or registers r word) where
      low : r < length registers
      low = subst (λ (n : ℕ). r < n) (registers_are_told.count m t registers) (subst (λ (x : HeapView). r < length (graph_in x).registers) (sym view) l)

      word_is : get_or registers r null_word ≡ word
      word_is = get_or_from_slice_get registers r word null_word (slice_get_read registers (length registers) r word refl low is)

      pub register_can : CanSee m t word.content
      register_can = subst (λ (x : Parts). CanSee m t x.content) word_is (registers_are_told.can m t registers walks r low)

      pub register_is : {E : Type 0} (result : Result Seen E) → IfOk result (λ seen. seen ≡ told m t word.content) → IfOk result (λ seen. slice_get (graph_in h).registers r ≡ Some seen)
      register_is result told_is = IfOk-weaker result (λ (seen : Seen). seen ≡ told m t word.content) (λ (seen : Seen). slice_get (graph_in h).registers r ≡ Some seen)
          (λ seen e. (sym (ap (λ (x : HeapView). slice_get (graph_in x).registers r) view) ∙ registers_are_told.is m t registers r low ∙ ap (λ (x : Parts). Some (told m t x.content)) word_is ∙ ap Some (sym e))) told_is

      pub register_shows : {E : Type 0} (result : Result Seen E) → IfOk result (λ seen. seen ≡ told m t word.content) → IfOk result (Shows (graph_in h))
      register_shows result told_is = IfOk-weaker result (λ (seen : Seen). seen ≡ told m t word.content) (Shows (graph_in h))
          (λ seen e. (subst (λ (x : HeapView). Shows (graph_in x) seen) view
          (subst (Shows (graph_in (contents_of m t scan registers space faults resident counts))) (ap (λ (x : Parts). told m t x.content) word_is ∙ sym e) (reached_show.registers m t registers walks r low)))) told_is

    -- Objects
    module _ (key : ℕ) (has : (graph_in h).has key ≡ true) where
      has_key : (graph_in (contents_of m t scan registers space faults resident counts)).has key ≡ true
      has_key = ap (λ (x : HeapView). (graph_in x).has key) view ∙ has

      pub key_can : HasObject m t key
      key_can = keys_are_objects.can m t registers walks key has_key

      pub form_is : {E : Type 0} (result : Result Form E) → IfOk result (λ form. form ≡ form_in m t key) → IfOk result (λ form. form ≡ (graph_in h).form key)
      form_is result e = subst (λ (x : HeapView). IfOk result (λ form. form ≡ (graph_in x).form key)) view e

      pub field_within : (index : ℕ) → index < ((graph_in h).form key).length → index < parts_in m t key
      field_within index l = subst (λ (x : HeapView). index < ((graph_in x).form key).length) (sym view) l

      pub field_is : {E : Type 0} (index : ℕ) (result : Result Seen E) → IfOk result (λ seen. seen ≡ field_in m t key index) → IfOk result (λ seen. seen ≡ (graph_in h).field key index)
      field_is index result e = subst (λ (x : HeapView). IfOk result (λ seen. seen ≡ (graph_in x).field key index)) view e

      field_is_shown : (index : ℕ) (seen : Seen) → seen ≡ field_in m t key index → Shows (graph_in h) seen
      field_is_shown index seen e =
          subst (λ (x : HeapView). Shows (graph_in x) seen) view
          (subst (Shows (graph_in (contents_of m t scan registers space faults resident counts))) (sym e) (reached_show.fields m t registers walks key has_key index))

      pub field_shows : {E : Type 0} (index : ℕ) (result : Result Seen E) → IfOk result (λ seen. seen ≡ field_in m t key index) → IfOk result (Shows (graph_in h))
      field_shows index result is = IfOk-weaker result (λ (seen : Seen). seen ≡ field_in m t key index) (Shows (graph_in h)) (λ seen e. field_is_shown index seen e) is

      pub cons_told : (graph_in h).cons key ≡ true → is_cons_in m t key ≡ true
      cons_told pair = subst (λ (x : HeapView). (graph_in x).cons key ≡ true) (sym view) pair

      pub cons_is : {E : Type 0} (result : Result SeenCons E) → IfOk result (λ cons. cons ≡ cons_in m t key) → IfOk result (λ cons. cons ≡ cons_at (graph_in h) key)
      cons_is result e = subst (λ (x : HeapView). IfOk result (λ cons. cons ≡ cons_at (graph_in x) key)) view e

      pub car_shows : {E : Type 0} (result : Result SeenCons E) → IfOk result (λ cons. cons ≡ cons_in m t key) → IfOk result (λ cons. Shows (graph_in h) cons.car)
      car_shows result is = IfOk-weaker result (λ (cons : SeenCons). cons ≡ cons_in m t key) (λ (cons : SeenCons). Shows (graph_in h) cons.car) (λ cons e. field_is_shown 0 cons.car (ap (λ (x : SeenCons). x.car) e)) is

      pub cdr_shows : {E : Type 0} (result : Result SeenCons E) → IfOk result (λ cons. cons ≡ cons_in m t key) → IfOk result (λ cons. Shows (graph_in h) cons.cdr)
      cdr_shows result is = IfOk-weaker result (λ (cons : SeenCons). cons ≡ cons_in m t key) (λ (cons : SeenCons). Shows (graph_in h) cons.cdr) (λ cons e. field_is_shown 1 cons.cdr (ap (λ (x : SeenCons). x.cdr) e)) is
