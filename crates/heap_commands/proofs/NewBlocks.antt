-- A new block, with a register for it.
use Rattle.std.proofs.Common.{◌≡◌, ℕ, suc, ◌+◌, ◌<◌, ◌≤◌, inr, refl, sym, ◌∙◌, ap, subst, List, [], ◌∷◌, length, slice_set, arith}
use Rattle.store_word.specs.Words.{Parts}
use Rattle.store_word.specs.declared.word.Content.TheVariants.{Struct as StructAt}
use Rattle.lisp_graph.specs.declared.object.Value.TheVariants as V
use Rattle.lisp_graph.specs.declared.command.Command.TheVariants as C
use Rattle.lisp_graph.specs.declared.reply.Reply.TheVariants as R
use Rattle.lisp_graph.specs.Effect.{block_of, made}
use Rattle.mem_port.specs.Store.{Store}
use Rattle.area_space.specs.Accounts.{account_of}
use Rattle.area_space.specs.Table.{Table, areas_of, levels_of, quota_of}
use Rattle.area_space.specs.Sound.{IsTable}
use Rattle.block_store.specs.lisp_meaning.State.{State, new_level, rule_of}
use Rattle.block_store.specs.lisp_meaning.State as M
use Rattle.block_store.specs.lisp_meaning.Changes.{with_made}
use Rattle.block_store.specs.lisp_meaning.Flip.{graph_of}
use Rattle.block_store.specs.lisp_meaning.Roles.{RoleMap, as_ref, value_of}
use Rattle.block_store.specs.lisp_meaning.Interpretation.{interpretation}
use Rattle.block_store.specs.transporter.Making.{PlacesNew}
use Rattle.block_store.specs.transporter.Marking.{MarksFollow}
use Rattle.block_store.specs.transporter.Preserving.{NoOldAddresses, PreservesScanned}
use Rattle.block_store.specs.transporter.Transports.{WordsUnchanged}
use Rattle.block_store.specs.Making.{CanMake, MakesBlock}
use Rattle.heap_state.specs.Consistent.{RepresentsState}
use Rattle.heap_state.specs.Represents.{Represents}
use Rattle.heap_state.specs.RepresentsLater.{RepresentsLater}
use Rattle.heap_state.specs.Performs.{AnswersOn, PerformsAt}
use Rattle.heap_state.proofs.Allocations.{allocation_answers, block_fresh, fits_quota, made_represented, placed_more, performs_at, quota_left}
use Rattle.heap_state.proofs.SettledRegister.{registers_same, stays_represented}
use Rattle.heap_state.proofs.CommandEffects.{performs_fault, set_others}

-- a block can be made
pub can_make : (m : Store) (t : Table) (registers : List Parts) (area level count : ℕ) → RepresentsState m t registers → area < areas_of t → level < levels_of t → account_of t area + (count + 1) ≤ quota_of t area → CanMake m t area level count
can_make m t registers area level count x area_in level_in fits = record {
  it = interpretation x.map x.state;
  kept = x.represents.kept;
  quota = quota_left m t registers x.map x.state area level (suc count) x.represents area_in level_in (omega arith);
}

module _ (m m' : Store) (t t' : Table) (registers : List Parts) (to area level code count : ℕ) (preserves : PreservesScanned m t m' t') (stays_fresh : NoOldAddresses m t → NoOldAddresses m' t') (marks : MarksFollow m t m' t') where
  -- a command that met a swap error makes nothing
  pub make_faulted : WordsUnchanged m t m' t' → PerformsAt m t registers m' t' registers (C.Make to area code count) R.Fault area level
  make_faulted stays = performs_at m m' t t' registers registers (C.Make to area code count) R.Fault area level (performs_fault m m' t t' registers registers (C.Make to area code count) refl (record {
    represented = stays_represented m m' t t' registers preserves.grows stays;
    preserves = preserves;
    others = registers_same t' registers;
    stays_fresh = λ fresh words. stays_fresh words;
    marks = marks;
  }))

  module _ (at : ℕ) (word : Parts) (is : word.content ≡ StructAt at) (low : to < length registers) (area_in : area < areas_of t) (level_in : level < levels_of t) (fits : account_of t area + (count + 1) ≤ quota_of t area) (makes : MakesBlock m t m' t' area level code count at)
      (placed : PlacesNew t t' area level at (count + 1) (count + 1)) where
    -- the table is sound afterwards, since some state is represented
    pub table_there : (k : RoleMap) (s : State) → Represents m t registers k s → IsTable t'
    table_there k s b = (makes (interpretation k s) b.kept (quota_left m t registers k s area level (suc count) b area_in level_in (omega arith))).kept.table

    module _ (k : RoleMap) (s : State) (b : Represents m t registers k s) (level_is : level ≡ new_level (rule_of s.areas area).kind) where
      -- the objects with the new one
      abbrev after : M.Store
      after = with_made s.store (block_of area code count ∷ []) (new_level (rule_of s.areas area).kind)

      make_represented : RepresentsLater m t m' t' (slice_set registers to word) k s (record s { registers = slice_set s.registers to (V.Ref (length s.store.objects)); store = after }) (suc count)
      make_represented =
          let quota = quota_left m t registers k s area level (suc count) b area_in level_in (omega arith) in
          let made = makes (interpretation k s) b.kept quota in
          let of_level : RepresentsLater m t m' t' (slice_set registers to word) k s (record s { registers = slice_set s.registers to (V.Ref (length s.store.objects)); store = with_made s.store (block_of area code count ∷ []) level }) (suc count) =
          made_represented m m' t t' registers k made.map s (with_made s.store (block_of area code count ∷ []) level) to word (V.Ref (length s.store.objects)) (count + 1) (suc count) preserves.grows b made.kept made.refines low
          (ap (value_of made.map.role) is ∙ ap as_ref made.there) made.old (placed_more t t' area level at (count + 1) (count + 1) placed) (omega arith) in
          subst (λ (l : ℕ). RepresentsLater m t m' t' (slice_set registers to word) k s (record s { registers = slice_set s.registers to (V.Ref (length s.store.objects)); store = with_made s.store (block_of area code count ∷ []) l }) (suc count)) level_is of_level

      make_answers : AnswersOn m t m' t' (slice_set registers to word) (C.Make to area code count) R.Fine k s
      make_answers =
          allocation_answers m m' t t' (slice_set registers to word) k s (C.Make to area code count) (made (graph_of s) to area (suc count) (block_of area code count ∷ [])) (record { area = area; charge = suc count }) refl refl refl
          (fits_quota s area level (suc count) (quota_left m t registers k s area level (suc count) b area_in level_in (omega arith))) make_represented

    pub make_performs : PerformsAt m t registers m' t' (slice_set registers to word) (C.Make to area code count) R.Fine area level
    make_performs k s b reach level_is = record {
      performed = inr (make_answers k s b level_is);
      preserves = preserves;
      others = set_others t' registers to word low (subst (Rattle.block_store.specs.transporter.Preserving.FreshOn t') (sym is) (block_fresh t t' area level at (count + 1) (count + 1) (table_there k s b) placed));
      stays_fresh = λ fresh words. stays_fresh words;
      marks = marks;
      settled = λ done i reads. absurd cc;
    }
