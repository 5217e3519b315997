-- Words and their values: how they are shown, and when they are equal.
use Rattle.std.proofs.Common.{◌≡◌, ℕ, ◌⊎◌, inl, inr, Bool, false, ◌==◌, sym, ◌∙◌, ap, List, Some, None}
use Rattle.std.proofs.lemmas.Bool.{cases_eq, eq-eqb, ne_eqb}
use Rattle.store_word.specs.declared.word.Content.{Content}
use Rattle.store_word.specs.declared.word.Content.TheVariants.{Null, Nil as NilWord, Fixnum, List as ListAt, Struct as StructAt, Header, HeaderForward, GcForward}
use Rattle.lisp_graph.specs.declared.object.Value.{Value}
use Rattle.lisp_graph.specs.declared.object.Value.TheVariants as V
use Rattle.lisp_graph.specs.declared.object.Body.{Body}
use Rattle.lisp_graph.specs.declared.reply.Reply.{Reply}
use Rattle.lisp_graph.specs.Graph.{shown, shown_body, same_value}
use Rattle.transporter.specs.lisp_meaning.State.{Store, object}
use Rattle.mem_port.specs.Store as Memory
use Rattle.area_space.specs.Table.{Table}
use Rattle.transporter.specs.lisp_meaning.Roles.{Kind, AsCons, AsBlock, value_of, RoleMap, kind_of}
use Rattle.transporter.specs.lisp_ground.Image.{ground_image}
use Rattle.transporter.specs.lisp_ground.GroundInvariant.{GroundInvariant}
use Rattle.transporter.proofs.lisp_meaning.reading.ReadRoles.{distinct}
use Rattle.transporter.specs.lisp_meaning.Interpretation.{Interpretation}
use Rattle.obj_layout.specs.Forwards.{word_at, Final, HasFinal}
use Rattle.transporter.proofs.lisp_ground.words.FinalAddresses.{one_final}
use Rattle.store_word.specs.Words.{Parts}
use Rattle.heap_state.specs.Words.{CanShow, Shows, header_reply, CanCompare, SameWord, SamePlace}
use Rattle.transporter.specs.lisp_ground.Leading.{Refers}
use Rattle.transporter.proofs.lisp_ground.words.References.{references_lead}

-- two final addresses are compared
pub same_place : (words : List Parts) (left right a b : ℕ) → Final words left a → Final words right b → SamePlace words left right (a == b)
same_place words left right a b first second x y at_x at_y =
    ap (λ (z : ℕ). z == b) (one_final words left a x first at_x) ∙ ap (λ (z : ℕ). x == z) (one_final words right b y second at_y)

has_final : (words : List Parts) (k : RoleMap) (s : Store) (kind : Kind) (a : ℕ) (v : Value) → Refers words k s kind a v → HasFinal words a
has_final words k s kind a v r = (k.at r.name, r.leads.inside, r.leads.final)

-- the word that was read at a final address
pub read_final : (old new : List Parts) (at end to : ℕ) (word : Parts) → new ≡ old → word ≡ word_at new end → Final old at end → Final old at to → word_at old to ≡ word
read_final old new at end to word same found first second = ap (word_at old) (one_final old at to end second first) ∙ ap (λ (words : List Parts). word_at words end) (sym same) ∙ sym found

value_is : (v w : Value) → Some v ≡ Some w → w ≡ v
value_is v w e = cc

module _ (m : Memory.Store) (t : Table) (it : Interpretation) (on : GroundInvariant m t it) where
  -- a word with a value can be shown
  pub can_show : (c : Content) (v : Value) → value_of it.map.role c ≡ Some v → CanShow m.words c
  can_show (StructAt a) v is = has_final m.words it.map it.store AsBlock a v (references_lead.values m t it on AsBlock a v is)
  can_show Null v is = tt
  can_show NilWord v is = tt
  can_show (Fixnum i) v is = tt
  can_show (ListAt a) v is = tt
  can_show (Header code n) v is = tt
  can_show (HeaderForward a) v is = tt
  can_show (GcForward a) v is = tt

  shown_ref : (v : Value) (n : ℕ) (body : Body) → v ≡ V.Ref n → (object it.store n).body ≡ body → shown it.store.objects v ≡ shown_body body
  shown_ref v n body is e = ap (shown it.store.objects) is ∙ ap shown_body e

  -- and what shows it shows its value
  pub shows_value : (c : Content) (v : Value) (reply : Reply) → value_of it.map.role c ≡ Some v → Shows m.words c reply → shown it.store.objects v ≡ reply
  shows_value (Fixnum i) v reply is shows = ap (shown it.store.objects) (value_is (V.Fix i) v is) ∙ sym shows
  shows_value NilWord v reply is shows = ap (shown it.store.objects) (value_is V.Nil v is) ∙ sym shows
  shows_value (ListAt a) v reply is shows =
      let r = references_lead.values m t it on AsCons a v is in
      let c = references_lead.conses m t it on r.name r.leads.used r.leads.kind_is in
      shown_ref v r.name _ r.value c.body ∙ sym shows
  shows_value (StructAt a) v reply is shows =
      let r = references_lead.values m t it on AsBlock a v is in
      let b = references_lead.blocks m t it on r.name r.leads.used r.leads.kind_is in
      shown_ref v r.name _ r.value b.body ∙ sym (shows (it.map.at r.name) r.leads.final ∙ ap header_reply b.header)
  shows_value Null v reply is shows = absurd (let x : None ≡ Some v = is in cc)
  shows_value (Header code n) v reply is shows = absurd (let x : None ≡ Some v = is in cc)
  shows_value (HeaderForward a) v reply is shows = absurd (let x : None ≡ Some v = is in cc)
  shows_value (GcForward a) v reply is shows = absurd (let x : None ≡ Some v = is in cc)

  -- two words with values can be compared
  pub can_compare : (c d : Content) (v w : Value) → value_of it.map.role c ≡ Some v → value_of it.map.role d ≡ Some w → CanCompare m.words c d
  can_compare (ListAt a) (ListAt b) v w is is_other =
      (has_final m.words it.map it.store AsCons a v (references_lead.values m t it on AsCons a v is), has_final m.words it.map it.store AsCons b w (references_lead.values m t it on AsCons b w is_other))
  can_compare (StructAt a) (StructAt b) v w is is_other =
      (has_final m.words it.map it.store AsBlock a v (references_lead.values m t it on AsBlock a v is), has_final m.words it.map it.store AsBlock b w (references_lead.values m t it on AsBlock b w is_other))
  can_compare Null d v w is is_other = tt
  can_compare NilWord d v w is is_other = tt
  can_compare (Fixnum i) d v w is is_other = tt
  can_compare (Header code n) d v w is is_other = tt
  can_compare (HeaderForward a) d v w is is_other = tt
  can_compare (GcForward a) d v w is is_other = tt
  can_compare (ListAt a) Null v w is is_other = tt
  can_compare (ListAt a) NilWord v w is is_other = tt
  can_compare (ListAt a) (Fixnum i) v w is is_other = tt
  can_compare (ListAt a) (StructAt b) v w is is_other = tt
  can_compare (ListAt a) (Header code n) v w is is_other = tt
  can_compare (ListAt a) (HeaderForward b) v w is is_other = tt
  can_compare (ListAt a) (GcForward b) v w is is_other = tt
  can_compare (StructAt a) Null v w is is_other = tt
  can_compare (StructAt a) NilWord v w is is_other = tt
  can_compare (StructAt a) (Fixnum i) v w is is_other = tt
  can_compare (StructAt a) (ListAt b) v w is is_other = tt
  can_compare (StructAt a) (Header code n) v w is is_other = tt
  can_compare (StructAt a) (HeaderForward b) v w is is_other = tt
  can_compare (StructAt a) (GcForward b) v w is is_other = tt

  -- two objects are the same if their places are
  same_names : (kind : Kind) (a b : ℕ) (v w : Value) (same : Bool) → Refers m.words it.map it.store kind a v → Refers m.words it.map it.store kind b w → SamePlace m.words a b same → same ≡ same_value v w
  same_names kind a b v w same r q is =
      is (it.map.at r.name) (it.map.at q.name) r.leads.final q.leads.final ∙ go (cases_eq r.name q.name) ∙ sym (ap (λ (x : Value). same_value x w) r.value ∙ ap (same_value (V.Ref r.name)) q.value)
    where
      go : (r.name ≡ q.name) ⊎ (r.name ≡ q.name → ⊥) → (it.map.at r.name == it.map.at q.name) ≡ (r.name == q.name)
      go (inl e) = eq-eqb (it.map.at r.name) (it.map.at q.name) (ap it.map.at e) ∙ sym (eq-eqb r.name q.name e)
      go (inr n) = ne_eqb (it.map.at r.name) (it.map.at q.name) (λ e. n (distinct (ground_image m t) it.map it.store on.kept.roled r.name q.name r.leads.used q.leads.used e)) ∙ sym (ne_eqb r.name q.name n)

  -- a cons isn't a block
  other_names : (a b : ℕ) (v w : Value) → Refers m.words it.map it.store AsCons a v → Refers m.words it.map it.store AsBlock b w → same_value v w ≡ false
  other_names a b v w r q =
      ap (λ (x : Value). same_value x w) r.value ∙ ap (same_value (V.Ref r.name)) q.value
      ∙ ne_eqb r.name q.name (λ e. let x = ap (λ (n : ℕ). kind_of (object it.store n).body) e in let y = r.leads.kind_is in let z = q.leads.kind_is in cc)

  other_names_back : (a b : ℕ) (v w : Value) → Refers m.words it.map it.store AsBlock a v → Refers m.words it.map it.store AsCons b w → same_value v w ≡ false
  other_names_back a b v w r q =
      ap (λ (x : Value). same_value x w) r.value ∙ ap (same_value (V.Ref r.name)) q.value
      ∙ ne_eqb r.name q.name (λ e. let x = ap (λ (n : ℕ). kind_of (object it.store n).body) e in let y = r.leads.kind_is in let z = q.leads.kind_is in cc)

  both : (v w x y : Value) → v ≡ x → w ≡ y → same_value v w ≡ same_value x y
  both v w x y e f = ap (λ (z : Value). same_value z w) e ∙ ap (same_value x) f

  -- words are the same if their values are
  pub same_words : (c d : Content) (v w : Value) (same : Bool) → value_of it.map.role c ≡ Some v → value_of it.map.role d ≡ Some w → SameWord m.words c d same → same ≡ same_value v w
  same_words (Fixnum i) (Fixnum j) v w same is is_other e = e ∙ sym (both v w (V.Fix i) (V.Fix j) (value_is (V.Fix i) v is) (value_is (V.Fix j) w is_other))
  same_words (Fixnum i) NilWord v w same is is_other e = e ∙ sym (both v w (V.Fix i) V.Nil (value_is (V.Fix i) v is) (value_is V.Nil w is_other))
  same_words (Fixnum i) (ListAt b) v w same is is_other e = let q = references_lead.values m t it on AsCons b w is_other in e ∙ sym (both v w (V.Fix i) (V.Ref q.name) (value_is (V.Fix i) v is) q.value)
  same_words (Fixnum i) (StructAt b) v w same is is_other e = let q = references_lead.values m t it on AsBlock b w is_other in e ∙ sym (both v w (V.Fix i) (V.Ref q.name) (value_is (V.Fix i) v is) q.value)
  same_words NilWord (Fixnum j) v w same is is_other e = e ∙ sym (both v w V.Nil (V.Fix j) (value_is V.Nil v is) (value_is (V.Fix j) w is_other))
  same_words NilWord NilWord v w same is is_other e = e ∙ sym (both v w V.Nil V.Nil (value_is V.Nil v is) (value_is V.Nil w is_other))
  same_words NilWord (ListAt b) v w same is is_other e = let q = references_lead.values m t it on AsCons b w is_other in e ∙ sym (both v w V.Nil (V.Ref q.name) (value_is V.Nil v is) q.value)
  same_words NilWord (StructAt b) v w same is is_other e = let q = references_lead.values m t it on AsBlock b w is_other in e ∙ sym (both v w V.Nil (V.Ref q.name) (value_is V.Nil v is) q.value)
  same_words (ListAt a) (Fixnum j) v w same is is_other e = let r = references_lead.values m t it on AsCons a v is in e ∙ sym (both v w (V.Ref r.name) (V.Fix j) r.value (value_is (V.Fix j) w is_other))
  same_words (ListAt a) NilWord v w same is is_other e = let r = references_lead.values m t it on AsCons a v is in e ∙ sym (both v w (V.Ref r.name) V.Nil r.value (value_is V.Nil w is_other))
  same_words (ListAt a) (ListAt b) v w same is is_other e = same_names AsCons a b v w same (references_lead.values m t it on AsCons a v is) (references_lead.values m t it on AsCons b w is_other) e
  same_words (ListAt a) (StructAt b) v w same is is_other e = e ∙ sym (other_names a b v w (references_lead.values m t it on AsCons a v is) (references_lead.values m t it on AsBlock b w is_other))
  same_words (StructAt a) (Fixnum j) v w same is is_other e = let r = references_lead.values m t it on AsBlock a v is in e ∙ sym (both v w (V.Ref r.name) (V.Fix j) r.value (value_is (V.Fix j) w is_other))
  same_words (StructAt a) NilWord v w same is is_other e = let r = references_lead.values m t it on AsBlock a v is in e ∙ sym (both v w (V.Ref r.name) V.Nil r.value (value_is V.Nil w is_other))
  same_words (StructAt a) (ListAt b) v w same is is_other e = e ∙ sym (other_names_back a b v w (references_lead.values m t it on AsBlock a v is) (references_lead.values m t it on AsCons b w is_other))
  same_words (StructAt a) (StructAt b) v w same is is_other e = same_names AsBlock a b v w same (references_lead.values m t it on AsBlock a v is) (references_lead.values m t it on AsBlock b w is_other) e
  same_words (Fixnum i) Null v w same is is_other e = absurd (let x : None ≡ Some w = is_other in cc)
  same_words (Fixnum i) (Header code n) v w same is is_other e = absurd (let x : None ≡ Some w = is_other in cc)
  same_words (Fixnum i) (HeaderForward b) v w same is is_other e = absurd (let x : None ≡ Some w = is_other in cc)
  same_words (Fixnum i) (GcForward b) v w same is is_other e = absurd (let x : None ≡ Some w = is_other in cc)
  same_words NilWord Null v w same is is_other e = absurd (let x : None ≡ Some w = is_other in cc)
  same_words NilWord (Header code n) v w same is is_other e = absurd (let x : None ≡ Some w = is_other in cc)
  same_words NilWord (HeaderForward b) v w same is is_other e = absurd (let x : None ≡ Some w = is_other in cc)
  same_words NilWord (GcForward b) v w same is is_other e = absurd (let x : None ≡ Some w = is_other in cc)
  same_words (ListAt a) Null v w same is is_other e = absurd (let x : None ≡ Some w = is_other in cc)
  same_words (ListAt a) (Header code n) v w same is is_other e = absurd (let x : None ≡ Some w = is_other in cc)
  same_words (ListAt a) (HeaderForward b) v w same is is_other e = absurd (let x : None ≡ Some w = is_other in cc)
  same_words (ListAt a) (GcForward b) v w same is is_other e = absurd (let x : None ≡ Some w = is_other in cc)
  same_words (StructAt a) Null v w same is is_other e = absurd (let x : None ≡ Some w = is_other in cc)
  same_words (StructAt a) (Header code n) v w same is is_other e = absurd (let x : None ≡ Some w = is_other in cc)
  same_words (StructAt a) (HeaderForward b) v w same is is_other e = absurd (let x : None ≡ Some w = is_other in cc)
  same_words (StructAt a) (GcForward b) v w same is is_other e = absurd (let x : None ≡ Some w = is_other in cc)
  same_words Null d v w same is is_other e = absurd (let x : None ≡ Some v = is in cc)
  same_words (Header code n) d v w same is is_other e = absurd (let x : None ≡ Some v = is in cc)
  same_words (HeaderForward a) d v w same is is_other e = absurd (let x : None ≡ Some v = is in cc)
  same_words (GcForward a) d v w same is is_other e = absurd (let x : None ≡ Some v = is in cc)
