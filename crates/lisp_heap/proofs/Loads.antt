-- What a heap represents while a world is loaded.
use Rattle.std.proofs.Common.{◌≡◌, ℕ, ◌*◌, ◌≤◌, refl, sym, ◌∙◌, ap, subst, List, length}
use Rattle.store_word.specs.Words.{Parts}
use Rattle.store_word.specs.declared.space.Space.{Space}
use Rattle.lisp_graph.specs.declared.world.World.{World}
use Rattle.mem_port.specs.Store.{MarksHold, Store}
use Rattle.area_space.specs.Table.{Table}
use Rattle.word_graph.specs.lisp_meaning.Opening.{opening}
use Rattle.scavenger.specs.Scan.{Scan}
use Rattle.heap_load.specs.Loading.{RepresentsGroups, RepresentsSome, RepresentsWorld, emptied}
use Rattle.lisp_heap.specs.HeapView.{HeapView, Counts, SameWorld, contents_of}
use Rattle.lisp_heap.specs.Form.{world_with}
use Rattle.lisp_heap.specs.Loaded.{StandsGrouped}
use Rattle.lisp_heap.specs.Stands.{IsSound, Stands}
use Rattle.lisp_heap.proofs.ListedMemory.{listed, unlisted}

module _ (m : Store) (t : Table) (scan : Scan) (registers : List Parts) (space : Space) (faults : ℕ) (resident : List ℕ) (counts : Counts) (world : World) (h : HeapView) (view : contents_of m t scan registers space faults resident counts ≡ h)
    (empty : Stands h (opening (world_with world.space world.areas))) where
  abbrev old : HeapView
  old = contents_of m t scan registers space faults resident counts

  pub here : Stands old (opening (world_with world.space world.areas))
  here = subst (λ (x : HeapView). Stands x (opening (world_with world.space world.areas))) (sym view) empty

  -- what it consists of represents the world without objects
  pub represents_empty : RepresentsWorld m t registers (emptied world)
  represents_empty = record { map = here.map; represents = (unlisted m t scan registers here.map (opening (emptied world)) here.represents).represents }

  module _ (m' : Store) (t' : Table) (registers' : List Parts) (faults' : ℕ) (resident' : List ℕ) (counts' : Counts) (hold : MarksHold m') (count : length registers' ≡ length registers) (regions : t'.regions ≡ t.regions) where
    abbrev new : HeapView
    new = contents_of m' t' scan registers' space faults' resident' counts'

    -- it represents what its parts represent, since nothing remains to be scanned
    abbrev pub stands_loaded : (w : World) → w.space ≡ world.space → w.areas ≡ world.areas → RepresentsWorld m' t' registers' w → Stands new (opening w)
    stands_loaded w sizes areas x = record {
      map = x.map;
      represents = listed m' t' scan registers' x.map (opening w) (record {
        represents = x.represents;
        scans = record { over = here.represents.scans.over; count = count ∙ here.represents.scans.count; pages = here.represents.scans.pages ∙ ap (λ (n : ℕ). 16 * n) (sym regions) };
        reach = tt;
        marks = hold;
      });
      space = here.space ∙ sym sizes;
      kinds = x.represents.kept.agrees.kinds;
    }

    -- and its conses have the layout that loading gave them
    pub grouped_loaded : RepresentsGroups m' t' registers' world → StandsGrouped new world
    grouped_loaded x = record { stands = stands_loaded world refl refl x.represents; grouped = x.grouped }

    -- and is sound
    pub sound_loaded : IsSound old → RepresentsSome m' t' registers' world → IsSound new
    sound_loaded sound x = record {
      stands = (opening (record world { objects = x.objects; roots = x.roots }), stands_loaded (record world { objects = x.objects; roots = x.roots }) refl refl x.represents);
      sizes = sound.sizes;
      areas = subst (λ ks. (1 ≤ length ks) × (length ks ≤ 16)) (sym (x.represents.represents.kept.agrees.kinds ∙ sym here.kinds)) sound.areas;
      registers = count ∙ sound.registers;
      regions = regions ∙ sound.regions;
    }

    -- and the world is the same
    pub world_loaded : RepresentsSome m' t' registers' world → SameWorld old new
    world_loaded x = record { registers = count; space = refl; kinds = x.represents.represents.kept.agrees.kinds ∙ sym here.kinds }
