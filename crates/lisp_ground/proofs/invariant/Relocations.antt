-- Objects that are relocated on a ground.
use Rattle.std.proofs.Common.{◌≡◌, ℕ, suc, ◌+◌, ◌-◌, ◌/◌, ◌%◌, ◌<◌, ◌⊎◌, inl, inr, IsTrue, List, length, slice_get, sym, ◌∙◌, ap, subst, arith, Some}
use Rattle.std.specs.Prelude.{Contains}
use Rattle.std.proofs.lemmas.Bool.{cases_eq, cases_lt}
use Rattle.area_space.specs.store_word.Words.{Parts, null_word, address_of}
use Rattle.area_space.specs.store_word.declared.word.CdrCode.TheVariants.{Next as CdrNext}
use Rattle.area_space.specs.store_word.declared.word.Content.{Content}
use Rattle.area_space.specs.store_word.declared.word.Content.TheVariants.{Nil as NilWord, Header}
use Rattle.area_space.specs.lisp_graph.declared.object.Body.TheVariants.{Cons}
use Rattle.area_space.specs.lisp_graph.Effect.{grown_length, grown_block}
use Rattle.area_space.specs.mem_port.Store.{Store}
use Rattle.area_space.specs.declared.classes.Origin.TheVariants.{New, Reserve}
use Rattle.area_space.specs.Table.{Table, levels_of, slot_of, live, chain}
use Rattle.area_space.specs.Ground.{IsGround, NamesNoFree}
use Rattle.area_space.proofs.UsedEnds.{end_in_chain}
use Rattle.lisp_meaning.specs.State.{object}
use Rattle.lisp_meaning.specs.State as M
use Rattle.lisp_meaning.specs.Changes.{put_body, with_grown}
use Rattle.lisp_meaning.specs.Image.{Live, word, is_used, with_words}
use Rattle.lisp_meaning.specs.Classes.{Class, classes}
use Rattle.lisp_meaning.specs.Roles.{Kind, AsCons, AsBlock, Head, Field, owner, value_of, header_of}
use Rattle.lisp_meaning.specs.Placed.{Recharged}
use Rattle.lisp_meaning.specs.After.{After}
use Rattle.lisp_meaning.specs.Rewriting.{Relays}
use Rattle.lisp_meaning.proofs.roles.RunNames.{cell_there}
use Rattle.lisp_meaning.proofs.layout.ObjectWords.{block_fits}
use Rattle.lisp_meaning.proofs.invariant.Rewrites.{cell_relaid, block_grown}
use Rattle.obj_layout.specs.Forwards.{word_at}
use Rattle.lisp_ground.specs.Image.{no_rest, ground_image}
use Rattle.lisp_ground.specs.GroundInvariant.{GroundInvariant, NamesUsed}
use Rattle.lisp_meaning.specs.Interpretation.{Interpretation}
use Rattle.lisp_ground.specs.Writes.{Within}
use Rattle.lisp_ground.specs.Laying.{Lays}
use Rattle.lisp_ground.specs.After.{AfterOn}
use Rattle.lisp_ground.specs.Rewriting.{RelaysOn, CellRelaidOn, BlockGrownOn}
use Rattle.lisp_ground.proofs.words.Words.{get_or_here, get_or_same, with_address}
use Rattle.lisp_ground.proofs.regions.Slots.{slot_area, slot_level}
use Rattle.lisp_ground.proofs.regions.Classes.{classes_are, class_live}
use Rattle.lisp_ground.proofs.invariant.Marks.{ground_marks}
use Rattle.lisp_ground.proofs.words.Values.{value_names_used, word_names_used}
use Rattle.lisp_ground.proofs.invariant.WordStores.{used_below}
use Rattle.lisp_ground.proofs.invariant.Stores.{part_used, same_header_size}
use Rattle.lisp_ground.proofs.words.Shapes.{block_stands}
use Rattle.lisp_ground.proofs.invariant.NewObjects.{the_word}
use Rattle.lisp_ground.proofs.words.UsedEnds.{Extends, committed_extends, husked_extends}
use Rattle.lisp_ground.proofs.words.Layout.{laid_ground, laid_named, laid_placed, laid_reserved, laid_recharged, used_rises}
use Rattle.lisp_ground.proofs.words.WrittenWords.{ground_written, named_written}
use Rattle.lisp_ground.proofs.invariant.OfImage.{after_on}

abbrev live_class : ℕ → ℕ → Class
live_class area level = record { area = area; level = level; standing = Live }

module _ (m mid m' : Store) (t u : Table) (it : Interpretation) (on : GroundInvariant m t it)
    (a b count area level blank : ℕ) (r : RelaysOn m t mid m' u a b count area level blank) (x : Extends t u b count)
    (safe : (c : ℕ) (w : Parts) → Within b count c → slice_get mid.words c ≡ Some w → NamesUsed t w.content)
    (used : (c : ℕ) → Within a (suc blank) c → IsTrue (is_used (ground_image m t) c)) where
  lays : Lays m t mid u b count area level
  lays = record { area_in = r.area_in; level_in = r.level_in; end = r.end; writes = r.writes; safe = safe; sound = r.sound }

  mid_ground : IsGround mid u
  mid_ground = laid_ground m mid t u b count area level on.table on.ground on.named lays x

  mid_named : NamesNoFree mid u
  mid_named = laid_named m mid t u b count area level on.table on.ground on.named lays x

  ground : IsGround m' u
  ground = ground_written mid m' u a (suc blank) mid_ground r.rewrites (λ c w.
      (let below = used_below m t c on.table (used c w) in
      let more = used_rises m mid t u b count area level on.table on.ground on.named lays x (c / 4096) in
      omega arith))

  -- the words that are stored at the old place are a forward to the new one, and NULL
  stored_word : (c : ℕ) → Within a (suc blank) c → (slice_get m'.words c ≡ Some r.forward) ⊎ (slice_get m'.words c ≡ Some null_word)
  stored_word c w =
      let from = w.0 in
      let to = w.1 in
      elim (cases_eq c a) [
        | inl e ↦ inl (ap (slice_get m'.words) e ∙ r.forward_at)
        | inr ne ↦ (let e : c ≡ a + (c - a) = omega arith in inr (ap (slice_get m'.words) e ∙ r.blanks (c - a) (omega arith) (omega arith)))
      ]

  forward_safe : NamesUsed u r.forward.content
  forward_safe = λ to has free.
      (let address : address_of r.forward.content ≡ Some b = ap address_of r.leads in
      let both : Some b ≡ Some to = sym address ∙ has in
      let same : b ≡ to = cc in
      let there = end_in_chain t (slot_of t area level) b count r.end in
      free (live (slot_of t area level)) (subst (λ (cs : List (List ℕ)). Contains (chain (record t { chains = cs }) (live (slot_of t area level))) (to / 4096)) (sym x.chains)
      (subst (λ (y : ℕ). Contains (chain t (live (slot_of t area level))) (y / 4096)) same there)))

  named : NamesNoFree m' u
  named = named_written mid m' u a (suc blank) mid_named r.rewrites (λ c w inside got. by_word c w got (stored_word c inside))
    where
      by_word : (c : ℕ) (w : Parts) → slice_get m'.words c ≡ Some w → (slice_get m'.words c ≡ Some r.forward) ⊎ (slice_get m'.words c ≡ Some null_word) → NamesUsed u w.content
      by_word c w got (inl e) = subst (λ (p : Parts). NamesUsed u p.content) (the_word m'.words c r.forward w e got) forward_safe
      by_word c w got (inr e) = subst (λ (p : Parts). NamesUsed u p.content) (the_word m'.words c null_word w e got) (λ to has. absurd cc)

  -- the change, as the image has it
  pub relays : (before after husk : ℕ) → Recharged (ground_image m t) (ground_image mid u) area level before after husk
      → Relays (ground_image m t) (ground_image mid u) m'.words a b count area level before after husk blank
  relays before after husk charged = record {
    live = classes_are m t no_rest (a / 4096) on.table ∙ (class_live t (a / 4096) (slot_of t area level) on.table r.stands ∙ class_is);
    placed = laid_placed m mid t u b count area level on.table on.ground on.named lays x;
    charged = charged;
    forward = ap (λ (w : Parts). w.content) (get_or_here m'.words a r.forward null_word r.forward_at) ∙ r.leads;
    blanks = λ j some low. get_or_here m'.words (a + j) null_word null_word (r.blanks j some low);
    others = λ c out. get_or_same m'.words mid.words c null_word (r.rewrites.others c out);
    marks = ground_marks m' u r.sound named;
  }
    where
      class_is : live_class (slot_of t area level / levels_of t) (slot_of t area level % levels_of t) ≡ live_class area level
      class_is = ap (λ (n : ℕ). live_class n (slot_of t area level % levels_of t)) (slot_area t area level r.level_in) ∙ ap (live_class area) (slot_level t area level r.level_in)

  -- what the image keeps after it the ground keeps
  pub relaid_on : (s' : M.Store) (kind : Kind) (n : ℕ) → After (ground_image m t) (with_words (ground_image mid u) m'.words) it s' 0 kind b 1 (λ i. n)
      → AfterOn m t m' u it s' 0 kind b 1 (λ i. n)
  relaid_on s' kind n after = after_on m m' t u it s' 0 kind b 1 (λ i. n) on x.form r.sound ground named after

pub cell_relaid_on : CellRelaidOn
cell_relaid_on m mid m' t t' it a b n area level car cdr new first second on st code body r commit first_at first_code car_is second_at second_code new_is =
    let x = committed_extends t t' (slot_of t area level) b 2 0 Reserve commit in
    let l = lays m mid m' t t' it on a b 2 area level 0 r x safe used in
    let charged = laid_reserved m mid t t' b 2 0 area level on.table l 3 commit in
    let one = get_or_here mid.words b first null_word first_at in
    let two = get_or_here mid.words (suc b) second null_word second_at in
    relaid_on m mid m' t t' it on a b 2 area level 0 r x safe used (put_body it.store n (Cons car new)) AsCons n
    (cell_relaid (ground_image m t) (ground_image mid t') m'.words it a b n area level car cdr new on.kept st code body
    (relays m mid m' t t' it on a b 2 area level 0 r x safe used 3 3 0 charged)
    (ap (λ (w : Parts). value_of it.map.role w.content) one ∙ car_is) (ap (λ (w : Parts). w.cdr) one ∙ first_code)
    (ap (λ (w : Parts). value_of it.map.role w.content) two ∙ new_is) (ap (λ (w : Parts). w.cdr) two ∙ second_code))
  where
    safe : (c : ℕ) (w : Parts) → Within b 2 c → slice_get mid.words c ≡ Some w → NamesUsed t w.content
    safe c w inside got =
        let from = inside.0 in
        let to = inside.1 in
        elim (cases_eq c b) [
          | inl e ↦ subst (λ (p : Parts). NamesUsed t p.content) (the_word mid.words c first w (ap (slice_get mid.words) e ∙ first_at) got) (value_names_used m t it on first.content car car_is)
          | inr ne ↦ (
              let e : c ≡ suc b = omega arith in
              subst (λ (p : Parts). NamesUsed t p.content) (the_word mid.words c second w (ap (slice_get mid.words) e ∙ second_at) got) (value_names_used m t it on second.content new new_is))
        ]

    used : (c : ℕ) → Within a 1 c → IsTrue (is_used (ground_image m t) c)
    used c inside =
        let from = inside.0 in
        let to = inside.1 in
        let e : c ≡ a = omega arith in
        let role = cell_there (word (ground_image m t)) (classes (ground_image m t)) it.map it.store on.kept.roled a n st.named st.here code in
        subst (λ (i : ℕ). IsTrue (is_used (ground_image m t) i)) (sym e) (part_used m t it on a n (ap owner role.1))

pub block_grown_on : BlockGrownOn
block_grown_on m mid m' t c t' it a b n code wanted area level fields on st body wider few fits r commit husk enough w =
    let wide = grown_length (length fields) wanted in
    let first = committed_extends t c (slot_of t area level) b (suc (grown_length (length fields) wanted)) (suc (grown_length (length fields) wanted)) New commit in
    let x = husked_extends t c t' (live (slot_of t area level)) (suc (length fields)) b (suc (grown_length (length fields) wanted)) first husk in
    let l = lays m mid m' t t' it on a b (suc (grown_length (length fields) wanted)) area level (length fields) r x safe used in
    let charged = laid_recharged m mid t c t' b (suc (grown_length (length fields) wanted)) (suc (grown_length (length fields) wanted)) (suc (length fields)) area level on.table l commit husk enough in
    let header = get_or_here mid.words b (record { cdr = CdrNext; content = Header code (grown_length (length fields) wanted) }) null_word w.header_at in
    relaid_on m mid m' t t' it on a b (suc (grown_length (length fields) wanted)) area level (length fields) r x safe used
    (with_grown it.store n (grown_block area code fields (grown_length (length fields) wanted)) area level (suc (length fields))) AsBlock n
    (block_grown (ground_image m t) (ground_image mid t') m'.words it a b n code wanted area level fields on.kept st body wider few fits
    (relays m mid m' t t' it on a b (suc (grown_length (length fields) wanted)) area level (length fields) r x safe used (suc (length fields)) (suc (grown_length (length fields) wanted)) (suc (length fields)) charged)
    (record { header = ap (λ (p : Parts). p.content) header; header_code = ap (λ (p : Parts). p.cdr) header; copied = w.copied; nils = w.nils }))
  where
    role : it.map.role a ≡ Head n
    role = block_stands m t it on a n st

    size : (block_fits (word (ground_image m t)) (classes (ground_image m t)) it.map it.store on.kept.roled n a role).size ≡ length fields
    size = let f = block_fits (word (ground_image m t)) (classes (ground_image m t)) it.map it.store on.kept.roled n a role in
        same_header_size (header_of (object it.store n).body) (f.kind, f.size) (code, length fields) f.header (ap header_of body)

    field_role : (i : ℕ) → i < length fields → it.map.role (suc a + i) ≡ Field n i
    field_role i low = let f = block_fits (word (ground_image m t)) (classes (ground_image m t)) it.map it.store on.kept.roled n a role in let e = size in f.fields i (omega arith)

    used : (i : ℕ) → Within a (suc (length fields)) i → IsTrue (is_used (ground_image m t) i)
    used i inside =
        let from = inside.0 in
        let to = inside.1 in
        elim (cases_eq i a) [
          | inl e ↦ subst (λ (j : ℕ). IsTrue (is_used (ground_image m t) j)) (sym e) (part_used m t it on a n (ap owner role))
          | inr ne ↦ (
              let e : i ≡ suc a + (i - suc a) = omega arith in
              subst (λ (j : ℕ). IsTrue (is_used (ground_image m t) j)) (sym e) (part_used m t it on (suc a + (i - suc a)) n (ap owner (field_role (i - suc a) (omega arith)))))
        ]

    -- the words of the wider block are a header, copies of words of the memory, and NIL
    content_safe : (i : ℕ) (p : Parts) → slice_get mid.words i ≡ Some p → (content : Content) → (word_at mid.words i).content ≡ content → NamesUsed t content → NamesUsed t p.content
    content_safe i p got content is ok =
        let same : word_at mid.words i ≡ p = get_or_here mid.words i p null_word got in
        subst (NamesUsed t) (sym is ∙ ap (λ (q : Parts). q.content) same) ok

    copy_safe : (j : ℕ) → NamesUsed t (word_at m.words (suc a + j)).content
    copy_safe j = λ to has. word_names_used m t it on (suc a + j) (word_at m.words (suc a + j)) (with_address m.words (suc a + j) to has) to has

    safe : (i : ℕ) (p : Parts) → Within b (suc (grown_length (length fields) wanted)) i → slice_get mid.words i ≡ Some p → NamesUsed t p.content
    safe i p inside got =
        let from = inside.0 in
        let to = inside.1 in
        elim (cases_eq i b) [
          | inl e ↦ (
              let is : record { cdr = CdrNext; content = Header code (grown_length (length fields) wanted) } ≡ p = the_word mid.words i _ p (ap (slice_get mid.words) e ∙ w.header_at) got in
              subst (λ (q : Parts). NamesUsed t q.content) is (λ to_there has. absurd cc))
          | inr ne ↦ (
              let e : i ≡ suc b + (i - suc b) = omega arith in
              elim (cases_lt (i - suc b) (length fields)) [
                | inl low ↦ content_safe i p got (word_at m.words (suc a + (i - suc b))).content (ap (λ (j : ℕ). (word_at mid.words j).content) e ∙ w.copied (i - suc b) low) (copy_safe (i - suc b))
                | inr past ↦ content_safe i p got NilWord (ap (λ (j : ℕ). (word_at mid.words j).content) e ∙ w.nils (i - suc b) past (omega arith)) (λ to_there has. absurd cc)
              ])
        ]
