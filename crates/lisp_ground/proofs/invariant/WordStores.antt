-- One word of an object is stored.
use Rattle.std.proofs.Common.{◌≡◌, ℕ, ◌+◌, ◌*◌, ◌/◌, ◌%◌, ◌<◌, inl, inr, IsTrue, List, length, slice_get, refl, sym, ◌∙◌, ap, subst, arith, Some}
use Rattle.std.proofs.lemmas.Bool.{ltb-true, cases_lt}
use Rattle.std.proofs.lemmas.List.{get_or_past}
use Rattle.area_space.specs.store_word.Words.{Parts, null_word}
use Rattle.area_space.specs.lisp_graph.declared.object.Value.{Value}
use Rattle.area_space.specs.mem_port.Store.{Store, Stores, StoresNothing}
use Rattle.area_space.specs.Table.{Table, used_of}
use Rattle.area_space.specs.Sound.{IsTable}
use Rattle.area_space.specs.Ground.{IsGround, NamesNoFree}
use Rattle.area_space.proofs.GroundLaws.{ground_same, named_same}
use Rattle.lisp_meaning.specs.State as M
use Rattle.lisp_meaning.specs.Image.{word, is_used, with_words}
use Rattle.lisp_meaning.specs.Roles.{value_of}
use Rattle.lisp_meaning.specs.Rewriting.{StoresAt}
use Rattle.lisp_meaning.specs.After.{AfterWord}
use Rattle.lisp_meaning.specs.Invariant.{MemoryInvariant}
use Rattle.lisp_ground.specs.Image.{no_rest, ground_image}
use Rattle.lisp_ground.specs.GroundInvariant.{GroundInvariant, NamesUsed}
use Rattle.lisp_meaning.specs.Interpretation.{Interpretation}
use Rattle.lisp_ground.specs.Writes.{Within, WritesWithin}
use Rattle.lisp_ground.specs.After.{AfterStore}
use Rattle.lisp_ground.proofs.words.Words.{get_or_here, get_or_same}
use Rattle.lisp_ground.proofs.words.UsedWords.{is_used_as}
use Rattle.lisp_ground.proofs.invariant.Marks.{ground_marks}
use Rattle.lisp_ground.proofs.words.WrittenWords.{stores_within, stored_there, ground_written, named_written}
use Rattle.lisp_ground.proofs.words.Values.{value_names_used}
use Rattle.lisp_ground.proofs.invariant.OfImage.{kept_on_after}

-- reads, holds and evictions change nothing
pub kept_on_same : (m m' : Store) (t : Table) (it : Interpretation) → GroundInvariant m t it → StoresNothing m m' → GroundInvariant m' t it
kept_on_same m m' t it on n = record {
  kept = subst (λ (ws : List Parts). MemoryInvariant (ground_image (record m { words = ws }) t) it) (sym n.words) on.kept;
  ground = ground_same m m' t n.words n.levels n.top on.ground;
  named = named_same m m' t n.words on.named;
  table = on.table;
  room = on.room;
  agrees = on.agrees;
}

-- an address below a used end, as the table has it
pub used_below : (m : Store) (t : Table) (a : ℕ) → IsTable t → IsTrue (is_used (ground_image m t) a) → a % 4096 < used_of t (a / 4096)
used_below m t a v u = let x = ltb-true a (4096 * (a / 4096) + used_of t (a / 4096)) (sym (is_used_as m t no_rest a v) ∙ u) in omega arith

-- and it is in the memory
pub used_inside : (m : Store) (t : Table) (a : ℕ) → IsTable t → IsGround m t → IsTrue (is_used (ground_image m t) a) → a < length m.words
used_inside m t a v g u =
    let below = used_below m t a v u in
    let size = g.size in
    let many = v.used_size in
    elim (cases_lt (a / 4096) t.regions) [
      | inl l ↦ omega arith
      | inr past ↦ (let none = get_or_past t.used (a / 4096) 0 (omega arith) in absurd (omega arith))
    ]

module _ (m m' : Store) (t : Table) (it : Interpretation) (on : GroundInvariant m t it)
    (a : ℕ) (w : Parts) (v : Value) (stores : Stores m m' a w) (used : IsTrue (is_used (ground_image m t) a)) (value : value_of it.map.role w.content ≡ Some v) where
  writes : WritesWithin m m' a 1
  writes = stores_within m m' a w stores

  here : slice_get m'.words a ≡ Some w
  here = stored_there m m' a w stores (used_inside m t a on.table on.ground used)

  only_there : (c : ℕ) → Within a 1 c → c ≡ a
  only_there c x = let y = x.0 in let z = x.1 in omega arith

  ground : IsGround m' t
  ground = ground_written m m' t a 1 on.ground writes (λ c x. subst (λ (i : ℕ). i % 4096 < used_of t (i / 4096)) (sym (only_there c x)) (used_below m t a on.table used))

  named : NamesNoFree m' t
  named = named_written m m' t a 1 on.named writes safe
    where
      safe : (c : ℕ) (word : Parts) → Within a 1 c → slice_get m'.words c ≡ Some word → NamesUsed t word.content
      safe c word x got =
          let both : Some w ≡ Some word = sym here ∙ (ap (slice_get m'.words) (sym (only_there c x)) ∙ got) in
          let same : w ≡ word = cc in
          subst (λ (p : Parts). NamesUsed t p.content) same (value_names_used m t it on w.content v value)

  -- the store, as the image has it
  pub stores_at : w.cdr ≡ (word (ground_image m t) a).cdr → StoresAt (ground_image m t) m'.words it.map a v
  stores_at code =
      let is : word (ground_image m' t) a ≡ w = get_or_here m'.words a w null_word here in
      record {
        value_is = ap (λ (p : Parts). value_of it.map.role p.content) is ∙ value;
        code = ap (λ (p : Parts). p.cdr) is ∙ code;
        others = λ c ne. get_or_same m'.words m.words c null_word (writes.others c (λ x. ne (only_there c x)));
        marks = ground_marks m' t on.table named;
      }

  -- what the image keeps after it the ground keeps
  pub stored_on : (s' : M.Store) → AfterWord (ground_image m t) (with_words (ground_image m t) m'.words) it s' → AfterStore m t m' it s'
  stored_on s' after = record {
    kept = kept_on_after m m' t t it it.map s' it.aim on (record { regions = refl; top = refl; quotas = refl; kinds = refl }) on.table ground named after.kept;
    old = after.old;
  }
