-- References lead to their objects: final addresses of the words are the map's places.
use Rattle.std.proofs.Common.{◌≡◌, ℕ, suc, ◌+◌, ◌<◌, ◌≤◌, inl, inr, refl, sym, ◌∙◌, ap, subst, arith, List, length, slice_get, Option, Some, None}
use Rattle.std.proofs.lemmas.Option.{get_or_from_slice_get}
use Rattle.area_space.specs.store_word.declared.word.CdrCode.{CdrCode}
use Rattle.area_space.specs.store_word.declared.word.CdrCode.TheVariants.{Next as CdrNext, Nil as CdrNil, Normal as CdrNormal, Second as CdrSecond}
use Rattle.area_space.specs.store_word.declared.word.Content.{Content}
use Rattle.area_space.specs.store_word.declared.word.Content.TheVariants.{Header}
use Rattle.area_space.specs.lisp_graph.declared.object.Value.{Value}
use Rattle.area_space.specs.lisp_graph.declared.object.Value.TheVariants as V
use Rattle.area_space.specs.lisp_graph.declared.object.Body.{Body}
use Rattle.area_space.specs.lisp_graph.declared.object.Body.TheVariants.{Cons, Block}
use Rattle.area_space.specs.mem_port.Store as Memory
use Rattle.area_space.specs.Table.{Table}
use Rattle.obj_layout.specs.Forwards.{word_at}
use Rattle.obj_layout.specs.Shapes.{shape_from, word_count}
use Rattle.lisp_meaning.specs.State.{object, in_use}
use Rattle.lisp_meaning.specs.Classes.{classes}
use Rattle.lisp_meaning.specs.Roles.{Kind, AsCons, AsBlock, Head, names_as, as_ref, value_of, owner, kind_of, car_of, cdr_of, field_of, header_of, Begins}
use Rattle.lisp_meaning.specs.Fits.{Holds, CellCdr}
use Rattle.lisp_meaning.proofs.reading.ReadRoles.{used_where}
use Rattle.lisp_meaning.proofs.layout.ObjectWords.{cell_fits, head_fits, tail_fits, block_fits, field_fits}
use Rattle.lisp_ground.specs.Image.{ground_image}
use Rattle.lisp_ground.specs.GroundInvariant.{GroundInvariant}
use Rattle.lisp_meaning.specs.Interpretation.{Interpretation}
use Rattle.lisp_ground.specs.Leading.{cdr_by, cdr_in, reference, LeadsTo, Refers, IsConsIn, IsBlockIn, ReferencesLead}
use Rattle.lisp_ground.proofs.words.FinalAddresses.{final_place, final_is_place, name_in_use, named_as_kind, place_inside}
use Rattle.lisp_ground.proofs.words.Shapes.{head_whole}
use Rattle.lisp_ground.proofs.invariant.WordStores.{used_inside}

some_same : {A : Type 0} (x y : A) → Some x ≡ Some y → x ≡ y
some_same x y e = cc

module _ (m : Memory.Store) (t : Table) (it : Interpretation) (on : GroundInvariant m t it) where
  leads_to : (kind : Kind) (a n : ℕ) → names_as kind (it.map.role a) ≡ Some n → LeadsTo m.words it.map it.store kind a n
  leads_to kind a n named =
      let used = name_in_use m t it on kind a n named in
      let is = named_as_kind m t it on kind a n named in
      record {
        used = used;
        kind_is = is;
        final = final_place m t it on kind a n named;
        only = final_is_place m t it on kind a n named;
        begins = subst (λ (x : Kind). Begins x (it.map.role (it.map.at n)) n) is (on.kept.roled.begins n used);
        inside = place_inside m t it on n used;
      }

  refers_by : (kind : Kind) (a : ℕ) (v : Value) (o : Option ℕ) → names_as kind (it.map.role a) ≡ o → as_ref o ≡ Some v → Refers m.words it.map it.store kind a v
  refers_by kind a v None named is = absurd (let x : None ≡ Some v = is in cc)
  refers_by kind a v (Some n) named is = record { name = n; value = sym (some_same (V.Ref n) v is); named = named; leads = leads_to kind a n named }

  refers : (kind : Kind) (a : ℕ) (v : Value) → value_of it.map.role (reference kind a) ≡ Some v → Refers m.words it.map it.store kind a v
  refers AsCons a v is = refers_by AsCons a v (names_as AsCons (it.map.role a)) refl is
  refers AsBlock a v is = refers_by AsBlock a v (names_as AsBlock (it.map.role a)) refl is

  -- The parts of a cons

  holds_value : (c : Content) (part : Option Value) (v : Value) → Holds it.map.role c part → part ≡ Some v → value_of it.map.role c ≡ Some v
  holds_value c part v holds is = holds.2 ∙ sym holds.1 ∙ is

  by_code : (at : ℕ) (code : CdrCode) (cdr : Value) → (word_at m.words at).cdr ≡ code → value_of it.map.role (cdr_by code at (word_at m.words (suc at)).content) ≡ Some cdr → value_of it.map.role (cdr_in m.words at) ≡ Some cdr
  by_code at code cdr is value = ap (λ (c : CdrCode). value_of it.map.role (cdr_by c at (word_at m.words (suc at)).content)) is ∙ value

  cell_cdr : (at i : ℕ) (cdr : Value) (part : Option Value) (code : CdrCode) → part ≡ Some cdr → CellCdr it.map.role at i part code → value_of it.map.role (cdr_by code at (word_at m.words (suc at)).content) ≡ Some cdr
  cell_cdr at i cdr part CdrNil is c = sym c ∙ is
  cell_cdr at i cdr part CdrNext is c = ap as_ref c.1 ∙ sym (c.2) ∙ is
  cell_cdr at i cdr part CdrNormal is c = absurd c
  cell_cdr at i cdr part CdrSecond is c = absurd c

  not_normal : (at i : ℕ) (part : Option Value) (code : CdrCode) → CellCdr it.map.role at i part code → code ≡ CdrNormal → ⊥
  not_normal at i part CdrNil c e = cc
  not_normal at i part CdrNext c e = cc
  not_normal at i part CdrNormal c e = c
  not_normal at i part CdrSecond c e = c

  cons_parts : (n : ℕ) (car cdr : Value) → (object it.store n).body ≡ Cons car cdr → Begins AsCons (it.map.role (it.map.at n)) n → IsConsIn m.words it.map it.store n
  cons_parts n car cdr body (inl pair) =
      let R = on.kept.roled in
      let head = head_fits (word_at m.words) (classes (ground_image m t)) it.map it.store R n (it.map.at n) pair in
      let tail = tail_fits (word_at m.words) (classes (ground_image m t)) it.map it.store R n (it.map.at n) pair in
      record {
        car = car;
        cdr = cdr;
        body = body;
        car_value = holds_value (word_at m.words (it.map.at n)).content (car_of (object it.store n).body) car head.car (ap car_of body);
        cdr_value = by_code (it.map.at n) CdrNormal cdr head.code (holds_value (word_at m.words (suc (it.map.at n))).content (cdr_of (object it.store n).body) cdr tail.cdr (ap cdr_of body));
        second = λ e. used_inside m t (suc (it.map.at n)) on.table on.ground (used_where (ground_image m t) it.map it.store R on.kept.covered (suc (it.map.at n)) n (ap owner head.tail)).0;
      }
  cons_parts n car cdr body (inr cell) =
      let R = on.kept.roled in
      let fits = cell_fits (word_at m.words) (classes (ground_image m t)) it.map it.store R n (it.map.at n) cell.0 cell.1 in
      record {
        car = car;
        cdr = cdr;
        body = body;
        car_value = holds_value (word_at m.words (it.map.at n)).content (car_of (object it.store n).body) car fits.car (ap car_of body);
        cdr_value = cell_cdr (it.map.at n) cell.0 cdr (cdr_of (object it.store n).body) (word_at m.words (it.map.at n)).cdr (ap cdr_of body) fits.cdr;
        second = λ e. absurd (not_normal (it.map.at n) cell.0 (cdr_of (object it.store n).body) (word_at m.words (it.map.at n)).cdr fits.cdr e);
      }

  begins_as : (n : ℕ) (kind : Kind) → in_use it.store n → kind_of (object it.store n).body ≡ kind → Begins kind (it.map.role (it.map.at n)) n
  begins_as n kind used is = subst (λ (x : Kind). Begins x (it.map.role (it.map.at n)) n) is (on.kept.roled.begins n used)

  cons_in : (n : ℕ) → in_use it.store n → kind_of (object it.store n).body ≡ AsCons → IsConsIn m.words it.map it.store n
  cons_in n used is = go (object it.store n).body refl
    where
      go : (body : Body) → (object it.store n).body ≡ body → IsConsIn m.words it.map it.store n
      go (Cons car cdr) e = cons_parts n car cdr e (begins_as n AsCons used is)
      go (Block code fields) e = absurd (let z = ap kind_of e in let y = is in cc)

  -- The parts of a block

  first : Option (ℕ × ℕ) → ℕ
  first None = 0
  first (Some p) = p.0

  second : Option (ℕ × ℕ) → ℕ
  second None = 0
  second (Some p) = p.1

  block_parts : (n code : ℕ) (fields : List Value) → (object it.store n).body ≡ Block code fields → it.map.role (it.map.at n) ≡ Head n → IsBlockIn m.words it.map it.store n
  unfolding first second
  block_parts n code fields body head =
      let R = on.kept.roled in
      let fits = block_fits (word_at m.words) (classes (ground_image m t)) it.map it.store R n (it.map.at n) head in
      let parts : Some (fits.kind, fits.size) ≡ Some (code, length fields) = sym fits.header ∙ ap header_of body in
      let size : fits.size ≡ length fields = ap second parts in
      let header : (word_at m.words (it.map.at n)).content ≡ Header code (length fields) = fits.content ∙ ap (λ (i : ℕ). Header i fits.size) (ap first parts) ∙ ap (Header code) size in
      let whole = subst (λ (c : Content). it.map.at n + word_count (shape_from c (word_at m.words (it.map.at n)).cdr) ≤ length m.words) header (head_whole m t it on (it.map.at n) n head) in
      let few : it.map.at n + suc (length fields) ≤ length m.words = whole in
      record {
        code = code;
        fields = fields;
        body = body;
        header = header;
        field_values = λ i l.
            let below : i < fits.size = (let x = l in let y : fits.size ≡ length fields = size in omega arith) in
            let q = (field_fits (word_at m.words) (classes (ground_image m t)) it.map it.store R n (it.map.at n) head i below).value in
            let v : slice_get fields i ≡ Some q.0 = sym (ap (λ (x : Body). field_of x i) body) ∙ q.1 in
            q.2 ∙ ap Some (sym (get_or_from_slice_get fields i q.0 V.Nil v));
        inside = omega arith;
      }

  block_in : (n : ℕ) → in_use it.store n → kind_of (object it.store n).body ≡ AsBlock → IsBlockIn m.words it.map it.store n
  block_in n used is = go (object it.store n).body refl
    where
      go : (body : Body) → (object it.store n).body ≡ body → IsBlockIn m.words it.map it.store n
      go (Cons car cdr) e = absurd (let z = ap kind_of e in let y = is in cc)
      go (Block code fields) e = block_parts n code fields e (begins_as n AsBlock used is)

pub references_lead : ReferencesLead
references_lead = record { names = leads_to; values = refers; conses = cons_in; blocks = block_in }
