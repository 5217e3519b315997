-- Changes of objects at their places keep the invariant.
use Rattle.std.proofs.Common.{◌≡◌, ℕ, Bool, suc, ◌+◌, ◌⊎◌, inl, inr, ◌&&◌, refl, sym, ◌∙◌, ap, arith, Option, Some, None, List, length, set, ◌<◌, ◌≤◌}
use Rattle.std.specs.Prelude.{is_some, unwrap_or, slice_set, if◌then◌else◌}
use Rattle.std.proofs.lemmas.Bool.{cases_lt, lt-leb}
use Rattle.std.proofs.Math.ListN.{length-set}
use Rattle.lisp_graph.specs.store_word.Words.{Parts}
use Rattle.lisp_graph.specs.declared.object.Value.{Value}
use Rattle.lisp_graph.specs.declared.object.Body.{Body}
use Rattle.lisp_graph.specs.declared.object.Body.TheVariants.{Cons, Block}
use Rattle.lisp_graph.specs.declared.object.Object.{Object}
use Rattle.lisp_graph.specs.declared.command.Command.TheVariants as C
use Rattle.lisp_graph.specs.declared.reply.Reply.TheVariants as R
use Rattle.lisp_graph.specs.Effect.{grown_length, grown_block, answered, with_object, when_block, when_block_body}
use Rattle.lisp_meaning.specs.machine.Flip.{graph_of}
use Rattle.lisp_meaning.specs.machine.Step.{husks_after, level_now}
use Rattle.lisp_meaning.proofs.closure.HeldNames.{holding-old, holding-past}
use Rattle.lisp_meaning.specs.machine.State.{rule_of, new_level, survivor, aim_of, Store, object, in_use}
use Rattle.lisp_meaning.specs.machine.Changes.{holding, with_husk, put_body, with_grown}
use Rattle.lisp_meaning.specs.reading.Image.{Image, word, region, is_old, with_words}
use Rattle.lisp_meaning.specs.reading.Classes.{classes}
use Rattle.lisp_meaning.specs.invariants.Roles.{AsCons, AsBlock, PairHead, Cell, header_of}
use Rattle.lisp_meaning.specs.invariants.Laid.{ACell, APair, ABlock, scratched, relaid_to}
use Rattle.lisp_meaning.specs.invariants.Invariant.{MemoryInvariant}
use Rattle.lisp_meaning.specs.invariants.Interpretation.{Interpretation, interpretation}
use Rattle.lisp_meaning.specs.keeping.After.{AfterWord}
use Rattle.lisp_meaning.specs.keeping.Rewriting.{CarStored, CdrStored, FieldStored, Resettled, CellRelaid, BlockGrown, LiveLevel, GrownStore}
use Rattle.lisp_meaning.proofs.layout.ObjectWords.{head_fits, cell_fits, block_fits}
use Rattle.lisp_meaning.proofs.roles.RunNames.{cons_there, pair_there, cell_there, block_there}
use Rattle.lisp_meaning.proofs.invariant.AfterWrite.{SameSizes, sums_same}
use Rattle.lisp_meaning.proofs.invariant.Stores.{same_put, kept_car_stored, kept_cdr_stored, kept_field_stored, kept_settled}
use Rattle.lisp_meaning.proofs.invariant.Relocation.{live_level}
use Rattle.lisp_meaning.proofs.invariant.CellRelocation.{kept_cell_relaid, cell_relaid_old, cell_relaid_refines}
use Rattle.lisp_meaning.proofs.invariant.BlockGrowth.{grown_wide, kept_block_grown, block_grown_old, block_grown_refines}
use Rattle.lisp_meaning.proofs.reading.ReferenceMeaning.{laid_named, one_named}
use Rattle.lisp_meaning.proofs.invariant.Allocation.{after_same}

pub live_level_is : LiveLevel
live_level_is g k s n h used live = go (s.store.held n) refl
  where
    go : (o : Option ℕ) → s.store.held n ≡ o → (region g (k.at n)).level ≡ level_now s n
    go None e = let x = ap is_some e in cc
    go (Some level) e =
        live_level g (interpretation k s) h n level e live
        ∙ ap (λ (o : Option ℕ). if (aim_of s.phase).condemned n then survivor s.space.levels (aim_of s.phase).what (unwrap_or o 0) else unwrap_or o 0) (sym e)

-- the store after a growth
pub grown_store : GrownStore
grown_store s target wanted n code fields is_block body more =
    let area = (object s.store n).area in
    let wide = grown_block area code fields (grown_length (length fields) wanted) in
    let objects = ap (λ (b : Bool). (if b then answered R.Fine (graph_of s) else record {
      reply = R.Fine;
      graph = with_object (graph_of s) n wide;
      wanted = Some (record { area = area; charge = suc (grown_length (length fields) wanted) });
    }).graph.objects) (lt-leb wanted (length fields) more) in
    let held : (objects : List Object) → length objects ≡ length s.store.objects → holding s.store.held (length s.store.objects) (length objects) (new_level (rule_of s.areas area).kind) ≡ s.store.held =
    λ objects e i m. same objects e m (cases_lt m (length s.store.objects)) i in
    let husks = ap (λ (v : Value). when_block s.store.objects v (λ n code fields. with_husk s.store.husks (object s.store n).area (level_now s n) (suc (length fields))) s.store.husks) is_block
    ∙ ap (λ (b : Body). when_block_body b (λ code fields. with_husk s.store.husks area (level_now s n) (suc (length fields))) s.store.husks) body in
    ap (λ (os : List Object). record { objects = os; held = holding s.store.held (length s.store.objects) (length os) (new_level (rule_of s.areas area).kind); husks = husks_after s (C.Grow target wanted) }) objects
    ∙ ap (λ (h : ℕ → Option ℕ). record { objects = slice_set s.store.objects n wide; held = h; husks = husks_after s (C.Grow target wanted) }) (held (slice_set s.store.objects n wide) (length-set s.store.objects n wide))
    ∙ ap (λ (h : ℕ → ℕ → ℕ). record { objects = slice_set s.store.objects n wide; held = s.store.held; husks = h }) husks
  where
    same : (objects : List Object) → length objects ≡ length s.store.objects → (m : ℕ) → (m < length s.store.objects) ⊎ (length s.store.objects ≤ m)
        → holding s.store.held (length s.store.objects) (length objects) (new_level (rule_of s.areas (object s.store n).area).kind) m ≡ s.store.held m
    same objects e m (inl l) = holding-old s.store.held (length s.store.objects) (length objects) (new_level (rule_of s.areas (object s.store n).area).kind) m l
    same objects e m (inr l) = holding-past s.store.held (length s.store.objects) (length objects) (new_level (rule_of s.areas (object s.store n).area).kind) m (omega arith)

abbrev second : Option (ℕ × ℕ) → ℕ
second None = 0
second (Some x) = x.1

-- Stores

after_word : (g : Image) (ws : List Parts) (it : Interpretation) (s' : Store) → SameSizes it.store s' → MemoryInvariant (with_words g ws) (record it { store = s' }) → AfterWord g (with_words g ws) it s'
after_word g ws it s' c kept = record {
  kept = kept;
  old = sums_same it.store s' c (λ n. it.aim.condemned n && is_old (region g (it.map.at n)).standing) (λ n. it.aim.condemned n && is_old (region g (it.map.at n)).standing) (λ n. refl);
}

pub car_stored : CarStored
car_stored g ws it a n car cdr new h st body w =
    let r = cons_there (word g) (classes g) it.map it.store h.roled a n st.named st.here in
    let u = used r in
    after_word g ws it (put_body it.store n (Cons new cdr)) (same_put it.store n (Cons new cdr) (h.names n u))
    (kept_car_stored g it h n a ws w.marks u w.others w.code car cdr new body w.value_is r)
  where
    used : (it.map.role a ≡ PairHead n) ⊎ ((i : ℕ) × (it.map.role a ≡ Cell n i)) → in_use it.store n
    used (inl r) = (head_fits (word g) (classes g) it.map it.store h.roled n a r).used
    used (inr r) = (cell_fits (word g) (classes g) it.map it.store h.roled n a r.0 r.1).used

pub cdr_stored : CdrStored
cdr_stored g ws it a n car cdr new h st normal body w =
    let r = pair_there (word g) (classes g) it.map it.store h.roled a n st.named st.here normal in
    let f = head_fits (word g) (classes g) it.map it.store h.roled n a r in
    after_word g ws it (put_body it.store n (Cons car new)) (same_put it.store n (Cons car new) (h.names n f.used))
    (kept_cdr_stored g it h n (suc a) ws w.marks f.used w.others w.code car cdr new body w.value_is f.tail)

pub field_stored : FieldStored
field_stored g ws it a n i code fields new h st body l w =
    let r = block_there (word g) (classes g) it.map it.store h.roled a n st.named st.here in
    let f = block_fits (word g) (classes g) it.map it.store h.roled n a r in
    let e : Some (f.kind, f.size) ≡ Some (code, length fields) = sym f.header ∙ ap header_of body in
    let size : f.size ≡ length fields = ap second e in
    let inside : i < f.size = omega arith in
    after_word g ws it (put_body it.store n (Block code (set fields i new))) (same_put it.store n (Block code (set fields i new)) (h.names n f.used))
    (kept_field_stored g it h n (suc a + i) ws w.marks f.used w.others w.code i code fields new body l (f.fields i inside) w.value_is)

pub resettled : Resettled
resettled g ws it a value h had w =
    after_word g ws it it.store (record { size = refl; held = λ m. refl; area = λ m. refl; charge = λ m. refl; husks = λ x y. refl })
    (kept_settled g it h a ws w.marks w.others w.code value had w.value_is)

-- Objects that are relocated

pub cell_relaid : CellRelaid
cell_relaid g g1 ws it a b n area level car cdr new h st cell body w first first_code second second_code =
    let r = cell_there (word g) (classes g) it.map it.store h.roled a n st.named st.here cell in
    let others : (c : ℕ) → (c ≡ a → ⊥) → word (with_words g1 ws) c ≡ word g1 c = λ c ne. w.others c (λ x. let l = x.0 in let y = x.1 in ne (omega arith)) in
    after_same g (with_words g1 ws) it (relaid_to it.map n a (ACell r.0) b APair) (put_body it.store n (Cons car new)) AsCons b 1 (λ i. n) h
    (kept_cell_relaid g g1 it h n a b r.0 area level car cdr new w.placed w.charged ws w.marks r.1 body w.live first first_code second second_code w.forward others)
    (cell_relaid_refines g g1 it h n a b r.0 area level car cdr new w.placed w.charged ws w.marks r.1 body w.live first first_code second second_code w.forward others)
    (one_named (relaid_to it.map n a (ACell r.0) b APair) AsCons b n (laid_named (scratched it.map b 2) n a 1 b APair _ _ (suc (it.map.age a))))
    (cell_relaid_old g g1 it h n a b r.0 area level car cdr new w.placed w.charged ws w.marks r.1 body w.live first first_code second second_code w.forward others)

pub block_grown : BlockGrown
block_grown g g1 ws it a b n code wanted area level fields h st body more most fits w v =
    let r = block_there (word g) (classes g) it.map it.store h.roled a n st.named st.here in
    let wide = grown_length (length fields) wanted in
    let g3 = grown_wide (length fields) wanted more most in
    after_same g (with_words g1 ws) it (relaid_to it.map n a (ABlock (length fields)) b (ABlock wide)) (with_grown it.store n (grown_block area code fields wide) area level (suc (length fields))) AsBlock b 1 (λ i. n) h
    (kept_block_grown g g1 it h n a b area level code wide fields w.placed w.charged ws w.marks r body w.live g3.0 g3.1 g3.2 (λ l. fits) v.header v.header_code v.copied v.nils w.forward w.blanks w.others)
    (block_grown_refines g g1 it h n a b area level code wide fields w.placed w.charged ws w.marks r body w.live g3.0 g3.1 g3.2 (λ l. fits) v.header v.header_code v.copied v.nils w.forward w.blanks w.others)
    (one_named (relaid_to it.map n a (ABlock (length fields)) b (ABlock wide)) AsBlock b n (laid_named (scratched it.map b (suc wide)) n a (suc (length fields)) b (ABlock wide) _ _ (suc (it.map.age a))))
    (block_grown_old g g1 it h n a b area level code wide fields w.placed w.charged ws w.marks r body w.live g3.0 g3.1 g3.2 (λ l. fits) v.header v.header_code v.copied v.nils w.forward w.blanks w.others)
