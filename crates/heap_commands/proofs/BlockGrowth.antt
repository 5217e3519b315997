-- A block in a register grows.
use Rattle.std.specs.Prelude.{IsSome, if◌then◌else◌}
use Rattle.std.proofs.Common.{◌≡◌, ◌≢◌, ◌⊎◌, ℕ, suc, ◌+◌, ◌/◌, ◌<◌, ◌≤◌, inl, inr, Bool, true, false, refl, sym, ◌∙◌, ap, subst, List, length, get_or, Some, arith}
use Rattle.std.proofs.lemmas.Bool.{cases_eq, eqb-true, le-leb, lt-leb}
use Rattle.std.proofs.lemmas.List.{get_or_read}
use Rattle.store_word.specs.Words.{Parts, null_word, tag_of}
use Rattle.store_word.specs.declared.word.Content.{Content}
use Rattle.store_word.specs.declared.word.Content.TheVariants.{Null, Nil as NilWord, List as ListAt, Struct as StructAt, Header, HeaderForward, GcForward, Fixnum}
use Rattle.store_word.specs.declared.word.Tag.TheVariants.{Struct as StructTag}
use Rattle.lisp_graph.specs.declared.object.Value.{Value}
use Rattle.lisp_graph.specs.declared.object.Value.TheVariants as V
use Rattle.lisp_graph.specs.declared.object.Body.TheVariants.{Block}
use Rattle.lisp_graph.specs.declared.command.Command.TheVariants as C
use Rattle.lisp_graph.specs.declared.reply.Reply.TheVariants as R
use Rattle.lisp_graph.specs.Graph.{value_at}
use Rattle.lisp_graph.specs.Effect.{Effect, answered, effect, grown, grown_block, grown_length, with_object}
use Rattle.mem_port.specs.Store.{Store, StoresNothing, level_of_word}
use Rattle.area_space.specs.Table.{Table, areas_of, live, quota_of, slot_of}
use Rattle.area_space.specs.Accounts.{account_of}
use Rattle.area_space.proofs.GroundLaws.{ground_same, named_same}
use Rattle.block_store.specs.lisp_meaning.State.{State, aim_of, object, rule_of}
use Rattle.block_store.specs.lisp_meaning.State as M
use Rattle.block_store.specs.lisp_meaning.Charges.{account}
use Rattle.block_store.specs.lisp_meaning.Changes.{with_grown}
use Rattle.block_store.specs.lisp_meaning.Flip.{graph_of}
use Rattle.block_store.specs.lisp_meaning.Image.{Live, region}
use Rattle.block_store.specs.lisp_meaning.Invariant.{MemoryInvariant}
use Rattle.block_store.specs.lisp_meaning.Roles.{AsBlock, RoleMap, names_as, owner, value_of}
use Rattle.block_store.specs.lisp_meaning.Step.{allocated, exceeds, level_now, wanted_by}
use Rattle.block_store.proofs.lisp_meaning.invariant.Rewrites.{grown_store, live_level_is}
use Rattle.block_store.specs.lisp_ground.Image.{ground_image, no_rest}
use Rattle.block_store.specs.lisp_ground.GroundInvariant.{GroundInvariant}
use Rattle.block_store.specs.lisp_meaning.Interpretation.{Interpretation, interpretation}
use Rattle.block_store.proofs.lisp_ground.sums.Accounts.{account_agrees, areas_agree, quota_agrees}
use Rattle.block_store.proofs.lisp_ground.words.FinalAddresses.{final_is_place, final_place, name_in_use}
use Rattle.block_store.proofs.lisp_ground.regions.OldAndLive.{live_standing}
use Rattle.block_store.specs.obj_layout.Forwards as F
use Rattle.block_store.specs.obj_layout.Forwards.{word_at, forward_of, Final}
use Rattle.block_store.specs.transporter.Settling.{RefersToOld, reference_of}
use Rattle.block_store.specs.transporter.Marking.{IsForward, IsPlaced, MarksFollow, placed, forwarded}
use Rattle.block_store.specs.transporter.Preserving.{NoOldAddresses, PreservesScanned}
use Rattle.block_store.specs.transporter.Transports.{WordsUnchanged}
use Rattle.block_store.specs.Headers.{TellsArea, TellsLength}
use Rattle.block_store.specs.declared.fault.BlockFault.{BlockFault}
use Rattle.block_store.specs.declared.fault.BlockFault.TheVariants.{NotABlock, NoField, Swap}
use Rattle.block_store.specs.Growing.{CanGrow, GrowsBlock, GrowsWithin, IsHusk, LaidOn, PlacesGrown}
use Rattle.block_store.specs.Marks.{MarksGrown}
use Rattle.block_store.proofs.BlockGrowth.{husked-extends}
use Rattle.block_store.proofs.transporter.UsedEnds.{new-extends}
use Rattle.block_store.proofs.transporter.PageMarks.{within-placed}
use Rattle.block_store.proofs.BlockReferences.{head_role, ref_named}
use Rattle.block_store.proofs.LiveFields.{live_word, place_fresh}
use Rattle.heap_state.specs.Represents.{Represents}
use Rattle.heap_state.specs.RepresentsLater.{RepresentsLater}
use Rattle.heap_state.specs.Performs.{AnswersOn, Performs}
use Rattle.heap_state.specs.Reads.{reply_of}
use Rattle.heap_state.specs.Settled.{IsSettled}
use Rattle.heap_state.proofs.StateChanges.{later_means}
use Rattle.heap_state.proofs.SettledRegister.{aims_grown, registers_same, settled_on, stays_represented}
use Rattle.heap_state.proofs.CommandEffects.{Leaves, performs_after, performs_fault, performs_refused}
use Rattle.heap_commands.specs.declared.blocks.growing.Growing.{Growing}
use Rattle.heap_commands.specs.declared.blocks.growing.Growing.TheVariants.{Answered, Wants}
use Rattle.heap_commands.specs.Refusals.{reply_to}
use Rattle.heap_commands.specs.Growth.{CanGrowIn, Finds, IsAnswered, IsBlock, IsGrowing, PlacesGrowth, WantsGrowth}
use Rattle.heap_state.proofs.Allocations.{allocation_answers, fits_quota, quota_left}
use Rattle.heap_commands.specs.NewMarks.{GivesMarks, MarksGrowth, MarksMade}
use Rattle.heap_commands.proofs.NewMarks.{level_cases, placed_after}
use Rattle.heap_commands.proofs.NoAllocation.{leaves_there, performs_same}
use Rattle.heap_commands.proofs.RegisterReferences.{other_word, register_means, struct_block, with_block}
use Rattle.heap_commands.proofs.Sizes.{told_length}

-- If nothing was stored at its words, what is represented was represented before

kept_on_words : (m m' : Store) (t : Table) (it : Interpretation) → m'.words ≡ m.words → m'.levels ≡ m.levels → m'.top ≡ m.top → GroundInvariant m t it → GroundInvariant m' t it
kept_on_words m m' t it words levels greatest on = record {
  kept = subst (λ (ws : List Parts). MemoryInvariant (ground_image (record m { words = ws }) t) it) (sym words) on.kept;
  ground = ground_same m m' t words levels greatest on.ground;
  named = named_same m m' t words on.named;
  table = on.table;
  room = on.room;
  agrees = on.agrees;
}

back_represents : (m m' : Store) (t t' : Table) (registers : List Parts) (k : RoleMap) (s : State) → StoresNothing m m' → t' ≡ t → Represents m' t' registers k s → Represents m t registers k s
back_represents m m' t t' registers k s stays same b =
    let c = subst (λ (u : Table). Represents m' u registers k s) same b in
    record { kept = kept_on_words m' m t (interpretation k s) (sym stays.words) (sym stays.levels) (sym stays.top) c.kept; count = c.count; means = c.means; aims = c.aims }

-- The effect of the command

-- a block that has the fields is unchanged
grown_stays : (s : State) (n code : ℕ) (fields : List Value) (wanted : ℕ) → wanted ≤ length fields → grown (graph_of s) n code fields wanted ≡ answered R.Fine (graph_of s)
grown_stays s n code fields wanted few =
    ap (λ (b : Bool). if b then answered R.Fine (graph_of s) else record {
      reply = R.Fine;
      graph = with_object (graph_of s) n (grown_block (object s.store n).area code fields (grown_length (length fields) wanted));
      wanted = Some (record { area = (object s.store n).area; charge = suc (grown_length (length fields) wanted) });
    }) (le-leb wanted (length fields) few)

-- one that has fewer becomes wider
abbrev wider : State → ℕ → ℕ → List Value → ℕ → Effect
wider s n code fields wanted = record {
  reply = R.Fine;
  graph = with_object (graph_of s) n (grown_block (object s.store n).area code fields (grown_length (length fields) wanted));
  wanted = Some (record { area = (object s.store n).area; charge = suc (grown_length (length fields) wanted) });
}

grown_wider : (s : State) (n code : ℕ) (fields : List Value) (wanted : ℕ) → length fields < wanted → grown (graph_of s) n code fields wanted ≡ wider s n code fields wanted
grown_wider s n code fields wanted more = ap (λ (b : Bool). if b then answered R.Fine (graph_of s) else wider s n code fields wanted) (lt-leb wanted (length fields) more)

-- it is the charge of a block that grows
pub growing_effect : (s : State) (r wanted area charge : ℕ) → IsGrowing s r wanted area charge → (e : Effect) × (effect (graph_of s) (C.Grow r wanted) ≡ Some e) × (e.wanted ≡ Some (record { area = area; charge = charge }))
growing_effect s r wanted area charge g =
    let x = g.block in (
      wider s x.name x.code x.fields wanted,
      ap (λ (e : Effect). Some e) (with_block s.store.objects (value_at s.registers r) x.name x.code x.fields x.value x.body (λ n code fields. grown (graph_of s) n code fields wanted) (answered R.WrongType (graph_of s)) ∙ grown_wider s x.name x.code x.fields wanted g.fewer),
      ap (λ (a : ℕ). Some (record { area = a; charge = suc (grown_length (length x.fields) wanted) })) g.area_is ∙ ap (λ (n : ℕ). Some (record { area = area; charge = n })) (sym g.charge_is),
    )

-- Before it grows

-- the swap failed
pub fault_answered : (m m' : Store) (t t' : Table) (registers registers' : List Parts) (r wanted : ℕ) → Leaves m t registers m' t' registers' → IsAnswered m t registers m' t' registers' r wanted R.Fault
fault_answered m m' t t' registers registers' r wanted left = record {
  performs = performs_fault m m' t t' registers registers' (C.Grow r wanted) refl left;
  unwanted = λ sure. absurd (sure refl);
}

module _ (m m' : Store) (t t' : Table) (registers : List Parts) (r wanted : ℕ) (word : Parts) (is : word ≡ get_or registers r word) (low : r < length registers) (stays : StoresNothing m m') (same : t' ≡ t) where
  effect_there : (k : RoleMap) (s : State) (x : IsBlock s (value_at s.registers r)) → effect (graph_of s) (C.Grow r wanted) ≡ Some (grown (graph_of s) x.name x.code x.fields wanted)
  effect_there k s x = ap (λ (e : Effect). Some e) (with_block s.store.objects (value_at s.registers r) x.name x.code x.fields x.value x.body (λ n code fields. grown (graph_of s) n code fields wanted) (answered R.WrongType (graph_of s)))

  found_other : tag_of word.content ≢ StructTag → IsAnswered m t registers m' t' registers r wanted R.WrongType
  found_other tag = record {
    performs = performs_refused m m' t t' registers registers (C.Grow r wanted) effect_is (leaves_there m m' t t' registers stays same);
    unwanted = λ sure k s b reach. ap wanted_by (effect_is k s b);
  }
    where
      effect_is : (k : RoleMap) (s : State) → Represents m t registers k s → effect (graph_of s) (C.Grow r wanted) ≡ Some (answered R.WrongType (graph_of s))
      effect_is k s b =
          ap (λ (e : Effect). Some e) (other_word m t k s registers b word.content (value_at s.registers r) (register_means m t k s registers b r word is low) tag (λ n code fields. grown (graph_of s) n code fields wanted) (answered R.WrongType (graph_of s)))

  pub found_failed : (fault : BlockFault) → (fault ≡ NotABlock → tag_of word.content ≢ StructTag) → ((count : ℕ) → fault ≢ NoField count) → IsAnswered m t registers m' t' registers r wanted (reply_of (reply_to fault))
  found_failed NotABlock other some = found_other (other refl)
  found_failed (NoField count) other some = absurd (some count refl)
  found_failed (Swap swap) other some = fault_answered m m' t t' registers registers r wanted (leaves_there m m' t t' registers stays same)

  module _ (struct : tag_of word.content ≢ StructTag → ⊥) (count : ℕ) (tells : TellsLength m t word.content count) (settled : IsSettled t registers r) where
    block_there : (k : RoleMap) (s : State) → Represents m t registers k s → IsBlock s (value_at s.registers r)
    block_there k s b = struct_block m t k s registers b word.content (value_at s.registers r) (register_means m t k s registers b r word is low) struct

    settled_there : IsSettled t' registers r
    settled_there = subst (λ (u : Table). IsSettled u registers r) (sym same) settled

    pub found_wide : wanted ≤ count → IsAnswered m t registers m' t' registers r wanted R.Fine
    found_wide few = record {
      performs = performs_same m m' t t' registers registers (C.Grow r wanted) R.Fine effect_is (λ e. cc)
          (λ done i reads. subst (λ (j : ℕ). IsSettled t' registers j) (sym (eqb-true i r reads)) settled_there) (leaves_there m m' t t' registers stays same);
      unwanted = λ sure k s b reach. ap wanted_by (effect_is k s b);
    }
      where
        effect_is : (k : RoleMap) (s : State) → Represents m t registers k s → effect (graph_of s) (C.Grow r wanted) ≡ Some (answered R.Fine (graph_of s))
        effect_is k s b =
            let x = block_there k s b in
            let size = told_length m t registers k s b r count word is low tells x in
            effect_there k s x ∙ ap (λ (e : Effect). Some e) (grown_stays s x.name x.code x.fields wanted (omega arith))

    pub found_wants : (area charge : ℕ) → TellsArea m t word.content area → area < areas_of t → count < wanted → charge ≡ suc (grown_length count wanted) → WantsGrowth m' t' registers r wanted area charge
    found_wants area charge told inside more charge_is = record {
      settled = settled_there;
      area_in = subst (λ (u : Table). area < areas_of u) (sym same) inside;
      grows = λ k s b'.
          (let b = back_represents m m' t t' registers k s stays same b' in
          let x = block_there k s b in
          let size = told_length m t registers k s b r count word is low tells x in
          record {
            block = x;
            area_is = told (interpretation k s) x.name b.kept (register_means m t k s registers b r word is low ∙ ap (λ (v : Value). Some v) x.value);
            fewer = omega arith;
            charge_is = charge_is ∙ ap (λ (n : ℕ). suc (grown_length n wanted)) size;
          });
    }

-- When it grows

-- the address in a STRUCT word
struct_at : (content : Content) → (tag_of content ≢ StructTag → ⊥) → (a : ℕ) × (content ≡ StructAt a)
struct_at (StructAt a) struct = (a, refl)
struct_at Null struct = absurd (struct (λ e. cc))
struct_at NilWord struct = absurd (struct (λ e. cc))
struct_at (ListAt a) struct = absurd (struct (λ e. cc))
struct_at (Header code n) struct = absurd (struct (λ e. cc))
struct_at (HeaderForward a) struct = absurd (struct (λ e. cc))
struct_at (GcForward a) struct = absurd (struct (λ e. cc))
struct_at (Fixnum i) struct = absurd (struct (λ e. cc))

module _ (m : Store) (t : Table) (registers : List Parts) (r wanted : ℕ) (word : Parts) (is : word ≡ get_or registers r word) (low : r < length registers) (settled : IsSettled t registers r) where
  young : RefersToOld t word → ⊥
  young = subst (λ (w : Parts). RefersToOld t w → ⊥) (sym (get_or_read registers r word low is null_word)) settled

  module _ (x : CanGrowIn m t registers r wanted) where
    same_name : (n : ℕ) → value_at x.state.registers r ≡ V.Ref n → n ≡ x.growing.block.name
    same_name n ref = let e : V.Ref n ≡ V.Ref x.growing.block.name = sym ref ∙ x.growing.block.value in cc

    same_fields : (n code : ℕ) (fields : List Value) → value_at x.state.registers r ≡ V.Ref n → (object x.state.store n).body ≡ Block code fields → fields ≡ x.growing.block.fields
    same_fields n code fields ref body =
        let e : Block code fields ≡ Block x.growing.block.code x.growing.block.fields = sym body ∙ ap (λ (i : ℕ). (object x.state.store i).body) (same_name n ref) ∙ x.growing.block.body in
        cc

    fits_there : account x.state.space.levels x.state.store (aim_of x.state.phase) x.area + suc (grown_length (length x.growing.block.fields) wanted) ≤ (rule_of x.state.areas x.area).quota
    fits_there =
        let b = x.represents in
        let a = account_agrees m t (interpretation x.map x.state) b.kept x.area in
        let c = areas_agree m t (interpretation x.map x.state) b.kept in
        let d = x.area_in in
        let q = quota_agrees m t (interpretation x.map x.state) b.kept x.area (omega arith) in
        let charge = x.growing.charge_is in
        let fits = x.fits in
        omega arith

    -- the block can grow
    pub can_grow : CanGrow m t word wanted
    can_grow = record {
      it = interpretation x.map x.state;
      kept = x.represents.kept;
      value = value_at x.state.registers r;
      value_is = register_means m t x.map x.state registers x.represents r word is low;
      young = young;
      fewer = λ n code fields ref body. (let e = ap (λ (vs : List Value). length vs) (same_fields n code fields ref body) in let f = x.growing.fewer in omega arith);
      quota = λ n code fields ref body.
          (let area : (object x.state.store n).area ≡ x.area = ap (λ (i : ℕ). (object x.state.store i).area) (same_name n ref) ∙ x.growing.area_is in
          subst (λ (a : ℕ). account x.state.space.levels x.state.store (aim_of x.state.phase) a + suc (grown_length (length fields) wanted) ≤ (rule_of x.state.areas a).quota) (sym area)
          (subst (λ (vs : List Value). account x.state.space.levels x.state.store (aim_of x.state.phase) x.area + suc (grown_length (length vs) wanted) ≤ (rule_of x.state.areas x.area).quota) (sym (same_fields n code fields ref body)) fits_there));
    }

    -- and so the word is tagged STRUCT
    pub is_struct : tag_of word.content ≢ StructTag → ⊥
    is_struct tag =
        let y = x.growing.block in
        let other = other_word m t x.map x.state registers x.represents word.content (value_at x.state.registers r) (register_means m t x.map x.state registers x.represents r word is low) tag (λ n code fields. true) false in
        let found = with_block x.state.store.objects (value_at x.state.registers r) y.name y.code y.fields y.value y.body (λ n code fields. true) false in
        let both : true ≡ false = sym found ∙ other in
        cc

  module _ (m' : Store) (t' : Table) (at : ℕ) (struct : tag_of word.content ≢ StructTag → ⊥) (grows : GrowsBlock m t m' t' word.content wanted at) (within : GrowsWithin m t word.content wanted) (preserves : PreservesScanned m t m' t') (stays_fresh : NoOldAddresses m t → NoOldAddresses m' t') (marks : MarksFollow m t m' t') where
    module _ (k : RoleMap) (s : State) (b : Represents m t registers k s) where
      refers : value_of k.role word.content ≡ Some (value_at s.registers r)
      refers = register_means m t k s registers b r word is low

      block : IsBlock s (value_at s.registers r)
      block = struct_block m t k s registers b word.content (value_at s.registers r) refers struct

      named_value : value_of k.role word.content ≡ Some (V.Ref block.name)
      named_value = refers ∙ ap (λ (v : Value). Some v) block.value

      size : within.count ≡ length block.fields
      size = told_length m t registers k s b r within.count word is low within.length_is block

      more : length block.fields < wanted
      more = let e = size in let f = within.fewer in omega arith

      area : (object s.store block.name).area ≡ within.area
      area = within.area_is (interpretation k s) block.name b.kept named_value

      reference : (a : ℕ) × (word.content ≡ StructAt a)
      reference = struct_at word.content struct

      named : names_as AsBlock (k.role reference.0) ≡ Some block.name
      named = ref_named k word.content reference.0 block.name reference.1 named_value

      stands_live : (region (ground_image m t) (k.at block.name)).standing ≡ Live
      stands_live = live_standing m t no_rest b.kept.table (k.at block.name)
          (live_word m t (interpretation k s) b.kept (k.at block.name) block.name (ap owner (head_role m t (interpretation k s) b.kept reference.0 block.name named))
          (place_fresh m t (interpretation k s) b.kept reference.0 block.name named (λ old. young (reference.0, ap Rattle.block_store.specs.transporter.Settling.reference_of reference.1, old)))).live

      level_is : (region (ground_image m t) (k.at block.name)).level ≡ level_now s block.name
      level_is = live_level_is (ground_image m t) k s block.name b.kept.kept (name_in_use m t (interpretation k s) b.kept AsBlock reference.0 block.name named) stands_live

      -- the objects with the wider block
      abbrev after : M.Store
      after = with_grown s.store block.name (grown_block (object s.store block.name).area block.code block.fields (grown_length (length block.fields) wanted)) (object s.store block.name).area (level_now s block.name) (suc (length block.fields))

      store_is : (allocated s (C.Grow r wanted) (object s.store block.name).area (wider s block.name block.code block.fields wanted).graph).store ≡ after
      store_is =
          sym (ap (λ (e : Effect). (allocated s (C.Grow r wanted) (object s.store block.name).area e.graph).store) (grown_wider s block.name block.code block.fields wanted more))
          ∙ grown_store s r wanted block.name block.code block.fields block.value block.body more

      laid_represented : RepresentsLater m t m' t' registers k s (record s { store = after }) (suc (grown_length (length block.fields) wanted))
      laid_represented =
          let laid = grows (interpretation k s) block.name block.code (level_now s block.name) block.fields b.kept named_value block.body level_is in
          record {
            map = laid.map;
            represents = record { kept = laid.kept; count = b.count; means = later_means k laid.map registers s.registers laid.refines b.means; aims = aims_grown t t' s.phase preserves.grows b.aims };
            refines = laid.refines;
            work = (let old = laid.old in let placed = laid.placed in omega arith);
          }

      state_represented : RepresentsLater m t m' t' registers k s (allocated s (C.Grow r wanted) (object s.store block.name).area (wider s block.name block.code block.fields wanted).graph) (suc (grown_length (length block.fields) wanted))
      state_represented = subst (λ (st : M.Store). RepresentsLater m t m' t' registers k s (record s { store = st }) (suc (grown_length (length block.fields) wanted))) (sym store_is) laid_represented

      not_exceeded : exceeds s (record { area = (object s.store block.name).area; charge = suc (grown_length (length block.fields) wanted) }) ≡ false
      not_exceeded =
          let fits = subst (λ (n : ℕ). account_of t within.area + suc (grown_length n wanted) ≤ quota_of t within.area) size within.fits in
          let quota = quota_left m t registers k s within.area 0 (suc (grown_length (length block.fields) wanted)) b within.area_in (omega arith) fits in
          subst (λ (a : ℕ). exceeds s (record { area = a; charge = suc (grown_length (length block.fields) wanted) }) ≡ false) (sym area) (fits_quota s within.area 0 (suc (grown_length (length block.fields) wanted)) quota)

      grow_answers : AnswersOn m t m' t' registers (C.Grow r wanted) R.Fine k s
      grow_answers =
          allocation_answers m m' t t' registers k s (C.Grow r wanted) (wider s block.name block.code block.fields wanted) (record { area = (object s.store block.name).area; charge = suc (grown_length (length block.fields) wanted) })
          (ap (λ (e : Effect). Some e) (with_block s.store.objects (value_at s.registers r) block.name block.code block.fields block.value block.body (λ n code fields. grown (graph_of s) n code fields wanted) (answered R.WrongType (graph_of s)) ∙ grown_wider s block.name block.code block.fields wanted more))
          refl refl not_exceeded state_represented

    pub grow_places : PlacesGrowth m t registers t' r wanted
    grow_places k s _ charge b g =
        let named = register_means m t k s registers b r word is low ∙ ap (λ (v : Value). Some v) g.block.value in
        let laid = grows (interpretation k s) g.block.name g.block.code _ g.block.fields b.kept named g.block.body refl in
        laid.placed ∙ ap (λ (n : ℕ). t.placed + n) (sym g.charge_is)

    -- pages get marks by the words of the wider block, and by the forward at its old place
    module _ (husk : (reference here : ℕ) → word.content ≡ StructAt reference → Final m.words reference here → IsHusk m m' here at wanted) (places : (reference here : ℕ) → word.content ≡ StructAt reference → Final m.words reference here → PlacesGrown m t t' here at wanted)
        (marked : (reference here : ℕ) → word.content ≡ StructAt reference → Final m.words reference here → MarksGrown m t m' word.content here at wanted) (k : RoleMap) (s : State) (b : Represents m t registers k s) (g : IsBlock s (value_at s.registers r)) where
      means_there : value_of k.role word.content ≡ Some (V.Ref g.name)
      means_there = register_means m t k s registers b r word is low ∙ ap (λ (v : Value). Some v) g.value

      struct_there : (a : ℕ) × (word.content ≡ StructAt a)
      struct_there = struct_at word.content struct

      names_there : names_as AsBlock (k.role struct_there.0) ≡ Some g.name
      names_there = ref_named k word.content struct_there.0 g.name struct_there.1 means_there

      final_there : Final m.words struct_there.0 (k.at g.name)
      final_there = final_place m t (interpretation k s) b.kept AsBlock struct_there.0 g.name names_there

      abbrev husk_there : IsHusk m m' (k.at g.name) at wanted
      husk_there = husk struct_there.0 (k.at g.name) struct_there.1 final_there

      abbrev place_there : PlacesGrown m t t' (k.at g.name) at wanted
      place_there = places struct_there.0 (k.at g.name) struct_there.1 final_there

      abbrev marks_there : MarksGrown m t m' word.content (k.at g.name) at wanted
      marks_there = marked struct_there.0 (k.at g.name) struct_there.1 final_there

      abbrev later : LaidOn m t m' t' (interpretation k s) (with_grown s.store g.name (grown_block (object s.store g.name).area g.code g.fields (grown_length (length g.fields) wanted)) (object s.store g.name).area (region (ground_image m t) (k.at g.name)).level (suc (length g.fields))) AsBlock at g.name (suc (grown_length (length g.fields) wanted))
      later = grows (interpretation k s) g.name g.code (region (ground_image m t) (k.at g.name)).level g.fields b.kept means_there g.body refl

      first_word : (word_at m'.words at).content ≡ Header husk_there.code (grown_length husk_there.count wanted)
      first_word = ap (λ (a : ℕ). (word_at m'.words a).content) (let e : at ≡ at + 0 = omega arith in e) ∙ ap (λ (w : Parts). w.content) (husk_there.grown 0 (omega arith))

      final_here : Final m'.words at at
      final_here = (0, omega arith, F.here (ap forward_of first_word))

      place_is : at ≡ later.map.at g.name
      place_is = final_is_place m' t' (record (interpretation later.map s) { store = _ }) later.kept AsBlock at g.name later.there at final_here

      final_after : Final m'.words struct_there.0 at
      final_after = subst (λ (a : ℕ). Final m'.words struct_there.0 a) (sym place_is) (final_place m' t' (record (interpretation later.map s) { store = _ }) later.kept AsBlock struct_there.0 g.name (later.refines AsBlock struct_there.0 g.name names_there))

      same_count : (code code' count count' : ℕ) → Header code count ≡ Header code' count' → count ≡ count'
      same_count code code' count count' e = cc

      placed_count : place_there.count ≡ marks_there.count
      placed_count = same_count place_there.code marks_there.code place_there.count marks_there.count (sym place_there.header ∙ marks_there.header)

      placed_there : (a : ℕ) → at ≤ a → a < at + (grown_length marks_there.count wanted + 1) → IsPlaced t t' a
      placed_there a from to =
          let p = place_there.placed in
          let wide = ap (λ (n : ℕ). grown_length n wanted) placed_count in
          placed_after t p.room t' a p.opens
          (within-placed p.room t' (slot_of p.room place_there.area place_there.level) at (grown_length place_there.count wanted + 1) later.kept.table
          (husked-extends (live (slot_of t place_there.area place_there.level)) (place_there.count + 1) place_there.husk (new-extends p)) a (from, omega arith))

      old_plain : IsForward (word_at m.words (k.at g.name)) → ⊥
      old_plain f = let z : false ≡ true = subst (λ (c : Content). IsSome (forward_of c)) husk_there.header f in cc

      now_forward : IsForward (word_at m'.words (k.at g.name))
      now_forward = subst IsForward (sym (ap (λ (a : ℕ). word_at m'.words a) (let e : k.at g.name ≡ k.at g.name + 0 = omega arith in e) ∙ husk_there.husk 0 (omega arith))) refl

      unmarked_there : (page : ℕ) → m.marks page ≡ 0 → (m'.marks page ≡ 0) ⊎ ((a : ℕ) × (a / 256 ≡ page) × GivesMarks m t m' t' at (grown_length marks_there.count wanted + 1) a)
      unmarked_there page clean = elim (level_cases m' at (grown_length marks_there.count wanted + 1) page) [
        | inr x ↦ (let less = x.1 in inr (at + x.0, x.2, record { may = placed (placed_there (at + x.0) (omega arith) (omega arith)); young = λ from to. x.3 }))
        | inl few ↦ elim (cases_eq (k.at g.name / 256) page) [
          | inr off ↦ inl (marks_there.unmarked page clean (λ on. absurd (off on)) few)
          | inl on ↦ elim (cases_eq (level_of_word m'.levels (word_at m'.words (k.at g.name))) 0) [
            | inl none ↦ inl (marks_there.unmarked page clean (λ same. none) few)
            | inr some ↦ inr (k.at g.name, on, record { may = forwarded old_plain now_forward; young = λ from to. omega arith })
          ]
        ]
      ]

      marks_made : MarksMade m t m' t' (get_or registers r null_word) (grown_length marks_there.count wanted + 1)
      marks_made = record {
        address = struct_there.0;
        refers = ap (λ (w : Parts). reference_of w.content) (sym (get_or_read registers r word low is null_word)) ∙ ap reference_of struct_there.1;
        at = at;
        final = final_after;
        placed = placed_there;
        unmarked = unmarked_there;
      }

      charged : marks_there.count ≡ length g.fields
      charged = told_length m t registers k s b r marks_there.count word is low marks_there.length_is g

    pub grow_marked : ((reference here : ℕ) → word.content ≡ StructAt reference → Final m.words reference here → IsHusk m m' here at wanted) → ((reference here : ℕ) → word.content ≡ StructAt reference → Final m.words reference here → PlacesGrown m t t' here at wanted)
        → ((reference here : ℕ) → word.content ≡ StructAt reference → Final m.words reference here → MarksGrown m t m' word.content here at wanted) → MarksGrowth m t registers m' t' r wanted
    grow_marked husk places marked k s _ charge b g =
        let same = charged husk places marked k s b g.block in
        let wide = ap (λ (n : ℕ). grown_length n wanted) same in
        let is_charge = g.charge_is in
        subst (MarksMade m t m' t' (get_or registers r null_word)) (let e : grown_length (marks_there husk places marked k s b g.block).count wanted + 1 ≡ charge = omega arith in e) (marks_made husk places marked k s b g.block)

    pub grow_performs : Performs m t registers m' t' registers (C.Grow r wanted) R.Fine
    grow_performs = record {
      performed = λ k s b reach. inr (grow_answers k s b);
      preserves = preserves;
      others = registers_same t' registers;
      stays_fresh = λ fresh words. stays_fresh words;
      marks = marks;
      settled = λ done i reads. subst (λ (j : ℕ). IsSettled t' registers j) (sym (eqb-true i r reads)) (settled_on t t' registers registers r preserves.grows (registers_same t' registers) low settled);
    }

-- It failed

pub grow_faulted : (m m' : Store) (t t' : Table) (registers : List Parts) (r wanted : ℕ) → PreservesScanned m t m' t' → (NoOldAddresses m t → NoOldAddresses m' t') → MarksFollow m t m' t' → WordsUnchanged m t m' t' → Performs m t registers m' t' registers (C.Grow r wanted) R.Fault
grow_faulted m m' t t' registers r wanted preserves stays_fresh marks stays = performs_fault m m' t t' registers registers (C.Grow r wanted) refl (record {
  represented = stays_represented m m' t t' registers preserves.grows stays;
  preserves = preserves;
  others = registers_same t' registers;
  stays_fresh = λ fresh words. stays_fresh words;
  marks = marks;
})

-- What was found after registers were settled

pub finds_after : (m m1 m2 : Store) (t t1 t2 : Table) (r0 r1 r2 : List Parts) (target wanted : ℕ) (found : Growing) → Leaves m t r0 m1 t1 r1 → Finds m1 t1 r1 m2 t2 r2 target wanted found → Finds m t r0 m2 t2 r2 target wanted found
finds_after m m1 m2 t t1 t2 r0 r1 r2 target wanted (Answered reply) left found = record {
  performs = performs_after m m1 m2 t t1 t2 r0 r1 r2 (C.Grow target wanted) reply left found.performs;
  unwanted = λ sure k s b reach. (let x = left.represented k s b reach in found.unwanted sure x.map s x.represents reach);
}
finds_after m m1 m2 t t1 t2 r0 r1 r2 target wanted (Wants _ _) left wants = wants
