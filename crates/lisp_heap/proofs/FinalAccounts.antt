-- The accounts of areas when a collection has ended.
use Rattle.std.proofs.Common.{◌≡◌, ℕ, sym, ◌∙◌, subst, Bool, List}
use Rattle.std.specs.Prelude.{MatchBool}
use Rattle.store_word.specs.Words.{Parts}
use Rattle.store_word.specs.declared.space.Space.{Space}
use Rattle.mem_port.specs.Store.{Store}
use Rattle.area_space.specs.Table.{Table}
use Rattle.word_graph.specs.lisp_meaning.State.{Phase, Running, State}
use Rattle.word_graph.specs.lisp_meaning.Flip.{Settles}
use Rattle.word_graph.specs.lisp_meaning.Roles.{RoleMap}
use Rattle.word_graph.specs.lisp_meaning.Run.{SilentReclaim}
use Rattle.word_graph.proofs.lisp_meaning.sums.RetainedCharges.{retention}
use Rattle.scavenger.specs.Scan.{Scan}
use Rattle.heap_state.specs.RepresentsAll.{RepresentsAll}
use Rattle.heap_collect.specs.Moments.{HasSettled}
use Rattle.lisp_heap.specs.HeapView.{Counts, contents_of}
use Rattle.lisp_heap.specs.Freed.{Reclaimed, SilentRetains}
use Rattle.lisp_heap.specs.Stands.{Stands}
use Rattle.lisp_heap.proofs.ListedMemory.{listed, unlisted}

pub silent_retains : SilentRetains
silent_retains s mid c running over silent area =
    let here : SilentReclaim s (Running c) mid = subst (λ (p : Phase). SilentReclaim s p mid) running silent in
    retention s c.aim mid (subst (λ (b : Bool). MatchBool b (Settles s c.aim mid) (mid ≡ s)) over here) area

module _ (m m' : Store) (t t' : Table) (scan : Scan) (registers : List Parts) (space : Space) (faults faults' : ℕ) (resident resident' : List ℕ) (counts counts' : Counts) where
  pub reclaimed : ((k : RoleMap) (s : State) → RepresentsAll m t scan registers k s → HasSettled m' t' scan registers s)
      → (s : State) → Stands (contents_of m t scan registers space faults resident counts) s → Reclaimed (contents_of m' t' scan registers space faults' resident' counts') s
  reclaimed reclaims s st =
      let x = reclaims st.map s (unlisted m t scan registers st.map s st.represents) in
      record {
        collection = x.collection;
        next = x.next;
        running = x.running;
        settles = x.settles;
        stands = record { map = x.map; represents = listed m' t' scan registers x.map x.next x.represents; space = st.space ∙ sym x.settles.space; kinds = x.represents.represents.kept.agrees.kinds };
        retains = retention s x.collection.aim x.next x.settles;
      }
