-- Growth of a block, from the invariant to the invariant.
use Rattle.std.proofs.Common.{◌≡◌, ℕ, suc, ◌+◌, ◌*◌, ◌-◌, ◌^◌, ◌<◌, ◌≤◌, ◌⊎◌, inl, inr, ◌==◌, refl, sym, ◌∙◌, ap, subst, arith, Option, Some, None, List, ◌++◌, length, replicate}
use Rattle.std.specs.Prelude.{slice_get}
use Rattle.std.proofs.lemmas.Bool.{cases_eq, cases_lt}
use Rattle.std.proofs.Math.ListN.{length-set}
use Rattle.lisp_graph.specs.store_word.Words.{Parts, null_word}
use Rattle.lisp_graph.specs.store_word.declared.word.CdrCode.TheVariants.{Next as CdrNext}
use Rattle.lisp_graph.specs.store_word.declared.word.Content.{Content}
use Rattle.lisp_graph.specs.store_word.declared.word.Content.TheVariants.{Nil as NilWord, Header, HeaderForward}
use Rattle.lisp_graph.specs.declared.object.Value.{Value}
use Rattle.lisp_graph.specs.declared.object.Value.TheVariants as V
use Rattle.lisp_graph.specs.declared.object.Body.{Body}
use Rattle.lisp_graph.specs.declared.object.Body.TheVariants.{Block}
use Rattle.lisp_graph.specs.declared.object.Object.{Object}
use Rattle.lisp_graph.specs.Effect.{grown_length, grown_block}
use Rattle.lisp_meaning.specs.machine.Maps.{put_at}
use Rattle.lisp_meaning.specs.machine.State.{rule_of, object}
use Rattle.lisp_meaning.specs.machine.Changes.{with_grown}
use Rattle.lisp_meaning.specs.machine.Charges.{account}
use Rattle.lisp_meaning.specs.reading.Image.{Image, word, region, is_free, Live}
use Rattle.lisp_meaning.specs.reading.Classes.{Class, class_at, classes, in_old}
use Rattle.lisp_meaning.specs.reading.Marks.{Marks}
use Rattle.lisp_meaning.specs.invariants.Roles.{Scratch, Head, owner, value_of, kind_of, field_of, header_of, Refines}
use Rattle.lisp_meaning.specs.invariants.Fits.{Holds, Roled}
use Rattle.lisp_meaning.specs.invariants.ChargesIn.{charges_in}
use Rattle.lisp_meaning.specs.invariants.Invariant.{MemoryInvariant}
use Rattle.lisp_meaning.specs.invariants.Interpretation.{Interpretation}
use Rattle.lisp_meaning.specs.invariants.Laid.{ABlock, scratched, relaid_to}
use Rattle.lisp_meaning.specs.invariants.Placed.{Placed, Recharged}
use Rattle.lisp_meaning.proofs.maps.Puts.{put_at-same, put_at-other}
use Rattle.lisp_meaning.proofs.maps.Frames.{Frame, refined}
use Rattle.lisp_meaning.proofs.layout.ObjectWords.{Standing, block_fits, field_fits, stands_block}
use Rattle.lisp_meaning.proofs.maps.StoreChanges.{wide_old, wide_new, wide_size, grown_put, grown_kept}
use Rattle.lisp_meaning.proofs.layout.Relocation.{relay_block, relay_block_frame, age_grown}
use Rattle.lisp_meaning.proofs.layout.Placement.{ground, scratch_role, other_role, ground_frame}
use Rattle.lisp_meaning.proofs.invariant.ObjectTransport.{not_placed}
use Rattle.lisp_meaning.proofs.invariant.AfterRelocation.{Relays, quota_relaid}
use Rattle.lisp_meaning.proofs.invariant.Relocation.{kept_laid_anew, laid_anew_old, laid_anew_refines}

-- the new length is greater, at most 2,047, and at least twice the old one and one more, up to 2,047
pub grown_wide : (count wanted : ℕ) → count < wanted → wanted ≤ 2047 → (count < grown_length count wanted) × (grown_length count wanted ≤ 2047) × ((2 * count + 1 ≤ grown_length count wanted) ⊎ (grown_length count wanted ≡ 2047))
grown_wide count wanted more low = (omega arith, omega arith, go (cases_lt (2 * count + 1) 2047))
  where
    go : (2 * count + 1 < 2047) ⊎ (2047 ≤ 2 * count + 1) → (2 * count + 1 ≤ grown_length count wanted) ⊎ (grown_length count wanted ≡ 2047)
    go (inl l) = inl (omega arith)
    go (inr l) = inr (omega arith)

module _ (g g1 : Image) (it : Interpretation) (h : MemoryInvariant g it) (n a b area level code wide : ℕ) (fields : List Value)
    (p : Placed g g1 b (suc wide) area level) (c : Recharged g g1 area level (suc (length fields)) (suc wide) (suc (length fields))) (ws : List Parts) (marks : Marks (record g1 { words = ws }))
    (ra : it.map.role a ≡ Head n) (body : (object it.store n).body ≡ Block code fields) (there : class_at (classes g) a ≡ record { area = area; level = level; standing = Live })
    (more : length fields < wide) (top_width : wide ≤ 2047) (doubles : (2 * length fields + 1 ≤ wide) ⊎ (wide ≡ 2047)) (fits : area < length it.areas → account it.top it.store it.aim area + suc wide ≤ (rule_of it.areas area).quota)
    (header : (word g1 b).content ≡ Header code wide) (header_code : (word g1 b).cdr ≡ CdrNext)
    (copy : (j : ℕ) → j < length fields → (word g1 (suc b + j)).content ≡ (word g (suc a + j)).content) (nils : (j : ℕ) → length fields ≤ j → j < wide → (word g1 (suc b + j)).content ≡ NilWord)
    (forward : (word (record g1 { words = ws }) a).content ≡ HeaderForward b) (blank : (j : ℕ) → 0 < j → j < suc (length fields) → word (record g1 { words = ws }) (a + j) ≡ null_word)
    (others : (j : ℕ) → ((a ≤ j) × (j < a + suc (length fields)) → ⊥) → word (record g1 { words = ws }) j ≡ word g1 j) where
  block_below : n < length it.store.objects
  block_below = h.names n (block_fits (word g) (classes g) it.map it.store h.roled n a ra).used

  block_now : object (with_grown it.store n (grown_block area code fields wide) area level (suc (length fields))) n ≡ grown_block area code fields wide
  block_now = grown_put it.store n (grown_block area code fields wide) area level (suc (length fields)) block_below

  size_is : length fields ≡ (block_fits (word g) (classes g) it.map it.store h.roled n a ra).size
  size_is = let z : Some (code, length fields) ≡ Some ((block_fits (word g) (classes g) it.map it.store h.roled n a ra).kind, (block_fits (word g) (classes g) it.map it.store h.roled n a ra).size) = sym (ap header_of body) ∙ (block_fits (word g) (classes g) it.map it.store h.roled n a ra).header in ap second z
    where
      second : Option (ℕ × ℕ) → ℕ
      second None = 0
      second (Some x) = x.1

  block_area : (object it.store n).area ≡ area
  block_area = sym (h.classes_of.area n (block_fits (word g) (classes g) it.map it.store h.roled n a ra).used) ∙ ap (λ (x : ℕ). (region g x).area) (block_fits (word g) (classes g) it.map it.store h.roled n a ra).place ∙ ap (λ (x : Class). x.area) there

  block_charge : (object it.store n).charge ≡ suc (length fields)
  block_charge = (block_fits (word g) (classes g) it.map it.store h.roled n a ra).charge ∙ ap suc (sym size_is)

  charge_now : (object (with_grown it.store n (grown_block area code fields wide) area level (suc (length fields))) n).charge ≡ suc wide
  charge_now = ap (λ (o : Object). o.charge) block_now

  put_level : (f : ℕ → ℕ → ℕ) (x y : ℕ) → ((x ≡ area) × (y ≡ level) → ⊥) → put_at f area (put_at (f area) level (f area level + suc (length fields))) x y ≡ f x y
  put_level f x y ne = go (cases_eq x area)
    where
      go : (x ≡ area) ⊎ (x ≡ area → ⊥) → put_at f area (put_at (f area) level (f area level + suc (length fields))) x y ≡ f x y
      go (inr d) = ap (λ (q : ℕ → ℕ). q y) (put_at-other f area (put_at (f area) level (f area level + suc (length fields))) x d)
      go (inl e) =
          ap (λ (q : ℕ → ℕ). q y) (put_at-same f area (put_at (f area) level (f area level + suc (length fields))) x e)
          ∙ put_at-other (f area) level (f area level + suc (length fields)) y (λ d. ne (e, d)) ∙ ap (λ (q : ℕ). f q y) (sym e)

  block_relays : Relays it.store (with_grown it.store n (grown_block area code fields wide) area level (suc (length fields))) n area level (suc (length fields))
  block_relays = record {
    used = (block_fits (word g) (classes g) it.map it.store h.roled n a ra).used;
    size = length-set it.store.objects n (grown_block area code fields wide);
    held = λ m. refl;
    same = λ m ne. grown_kept it.store n (grown_block area code fields wide) area level (suc (length fields)) m ne;
    area_is = block_area;
    area_now = ap (λ (o : Object). o.area) block_now;
    no_less = (let x = block_charge in let y = charge_now in omega arith);
    husks_here = ap (λ (q : ℕ → ℕ). q level) (put_at-same it.store.husks area (put_at (it.store.husks area) level (it.store.husks area level + suc (length fields))) area refl)
        ∙ put_at-same (it.store.husks area) level (it.store.husks area level + suc (length fields)) level refl;
    husks_else = λ x y ne. put_level it.store.husks x y ne;
  }

  rh0 : (scratched it.map b (suc wide)).role a ≡ Head n
  rh0 = other_role g g1 it h b (suc wide) area level p a (not_placed g g1 it h b (suc wide) area level p a n (ap owner ra)) ∙ ra

  R0 : Roled (word g1) (classes g1) (scratched it.map b (suc wide)) it.store
  R0 = ground g g1 it h b (suc wide) area level p

  same_head : word g1 a ≡ word g a
  same_head = p.words a (not_placed g g1 it h b (suc wide) area level p a n (ap owner ra))

  size_there : length fields ≡ (block_fits (word g1) (classes g1) (scratched it.map b (suc wide)) it.store R0 n a rh0).size
  size_there =
      let f = block_fits (word g1) (classes g1) (scratched it.map b (suc wide)) it.store R0 n a rh0 in
      let z : Header (block_fits (word g) (classes g) it.map it.store h.roled n a ra).kind (block_fits (word g) (classes g) it.map it.store h.roled n a ra).size ≡ Header f.kind f.size = sym (ap (λ (u : Parts). u.content) same_head ∙ (block_fits (word g) (classes g) it.map it.store h.roled n a ra).content) ∙ f.content in
      let y : (block_fits (word g) (classes g) it.map it.store h.roled n a ra).size ≡ f.size = cc in size_is ∙ y

  ages : (2 ^ suc (it.map.age a) ≤ suc wide) × (suc (it.map.age a) ≤ 11)
  ages = age_grown (it.map.age a) (length fields) wide (let x = (block_fits (word g) (classes g) it.map it.store h.roled n a ra).age in let y = size_is in let P : ℕ → Type 0 = λ i. 2 ^ it.map.age a ≤ suc i in subst P (sym y) x) more top_width doubles

  block_scratch : (j : ℕ) → j < suc wide → (scratched it.map b (suc wide)).role (b + j) ≡ Scratch
  block_scratch j l = scratch_role g g1 it h b (suc wide) area level p (b + j) (omega arith, omega arith)

  block_class : class_at (classes g1) b ≡ class_at (classes g1) a
  block_class = p.class_there ∙ sym (p.class a (ap (λ (x : Class). is_free x.standing) there) ∙ there)

  total_size : length (fields ++ replicate (wide - length fields) V.Nil) ≡ wide
  total_size = let z = wide_size fields (wide - length fields) in omega arith

  block_body : header_of (object (with_grown it.store n (grown_block area code fields wide) area level (suc (length fields))) n).body ≡ Some (code, wide)
  block_body = ap (λ (o : Object). header_of o.body) block_now ∙ ap (λ (x : ℕ). Some (code, x)) total_size

  field_now : (j : ℕ) → field_of (object (with_grown it.store n (grown_block area code fields wide) area level (suc (length fields))) n).body j ≡ slice_get (fields ++ replicate (wide - length fields) V.Nil) j
  field_now j = ap (λ (o : Object). field_of o.body j) block_now

  block_values : (j : ℕ) → j < wide → Holds (scratched it.map b (suc wide)).role (word g1 (suc b + j)).content (field_of (object (with_grown it.store n (grown_block area code fields wide) area level (suc (length fields))) n).body j)
  block_values j l = go (cases_lt j (length fields))
    where
      go : (j < length fields) ⊎ (length fields ≤ j) → Holds (scratched it.map b (suc wide)).role (word g1 (suc b + j)).content (field_of (object (with_grown it.store n (grown_block area code fields wide) area level (suc (length fields))) n).body j)
      go (inl q) =
          let f = (field_fits (word g) (classes g) it.map it.store h.roled n a ra j (let y = size_is in omega arith)).value in
          let e : slice_get fields j ≡ Some f.0 = sym (ap (λ (x : Body). field_of x j) body) ∙ f.1 in
          let C : Content → Type 0 = λ w. value_of (scratched it.map b (suc wide)).role w ≡ Some f.0 in (
            f.0,
            field_now j ∙ wide_old fields (wide - length fields) j q ∙ e,
            subst C (sym (copy j q)) (refined it.map.role (scratched it.map b (suc wide)).role (ground_frame g g1 it h b (suc wide) area level p).refine (word g (suc a + j)).content f.0 f.2),
          )
      go (inr q) =
          let C : Content → Type 0 = λ w. value_of (scratched it.map b (suc wide)).role w ≡ Some V.Nil in
          let z : length fields + (j - length fields) ≡ j = omega arith in
          let P : ℕ → Type 0 = λ i. slice_get (fields ++ replicate (wide - length fields) V.Nil) i ≡ Some V.Nil in
          (V.Nil, field_now j ∙ subst P z (wide_new fields (wide - length fields) (j - length fields) (omega arith)), subst C (sym (nils j q l)) refl)

  block_roled : Roled (word (record g1 { words = ws })) (classes g1) (relaid_to it.map n a (ABlock (length fields)) b (ABlock wide)) (with_grown it.store n (grown_block area code fields wide) area level (suc (length fields)))
  block_roled = relay_block (word g1) (word (record g1 { words = ws })) (classes g1) (scratched it.map b (suc wide)) it.store (with_grown it.store n (grown_block area code fields wide) area level (suc (length fields))) R0 n a b (block_fits (word g) (classes g) it.map it.store h.roled n a ra).used block_class forward
      (λ m u. u) (λ m u. u) block_relays.same rh0 (length fields) wide code size_there ages.0 ages.1 block_scratch p.near others blank (ap (λ (o : Object). kind_of o.body) block_now) header_code header block_body charge_now block_values

  block_frame : Frame (scratched it.map b (suc wide)) (relaid_to it.map n a (ABlock (length fields)) b (ABlock wide)) it.store (with_grown it.store n (grown_block area code fields wide) area level (suc (length fields))) (λ m. m == n)
  block_frame = relay_block_frame (word g1) (word (record g1 { words = ws })) (classes g1) (scratched it.map b (suc wide)) it.store (with_grown it.store n (grown_block area code fields wide) area level (suc (length fields))) R0 n a b (block_fits (word g) (classes g) it.map it.store h.roled n a ra).used block_class forward
      (λ m u. u) (λ m u. u) block_relays.same rh0 (length fields) wide code size_there ages.0 ages.1 block_scratch p.near others blank (ap (λ (o : Object). kind_of o.body) block_now) header_code header block_body charge_now block_values

  block_standing : Standing it.map n a (ABlock (length fields))
  block_standing = let P : ℕ → Type 0 = λ i. Standing it.map n a (ABlock i) in subst P (sym size_is) (stands_block (word g) (classes g) it.map it.store h.roled n a ra)

  block_recharged : Recharged g g1 area level (object it.store n).charge (object (with_grown it.store n (grown_block area code fields wide) area level (suc (length fields))) n).charge (suc (length fields))
  block_recharged =
      let P : ℕ → Type 0 = λ x. Recharged g g1 area level x (suc wide) (suc (length fields)) in
      let Q : ℕ → Type 0 = λ x. Recharged g g1 area level (object it.store n).charge x (suc (length fields)) in
      subst Q (sym charge_now) (subst P (sym block_charge) c)

  block_quota : (x : ℕ) → x < length it.areas → account it.top (with_grown it.store n (grown_block area code fields wide) area level (suc (length fields))) it.aim x ≤ (rule_of it.areas x).quota
  block_quota = quota_relaid it.store (with_grown it.store n (grown_block area code fields wide) area level (suc (length fields))) n area level (suc (length fields)) it.top it.aim block_relays block_below
      (let l = h.levels n (block_fits (word g) (classes g) it.map it.store h.roled n a ra).used in let e = ap (λ (x : Class). x.level) (ap (class_at (classes g)) (block_fits (word g) (classes g) it.map it.store h.roled n a ra).place ∙ there) in omega arith)
      it.areas h.quota (λ l. let q = fits l in let x = charge_now in let y = block_charge in omega arith)

  pub kept_block_grown : MemoryInvariant (record g1 { words = ws }) (record it { map = relaid_to it.map n a (ABlock (length fields)) b (ABlock wide); store = with_grown it.store n (grown_block area code fields wide) area level (suc (length fields)) })
  kept_block_grown = kept_laid_anew g g1 it (with_grown it.store n (grown_block area code fields wide) area level (suc (length fields))) h n a b area level (suc (length fields)) (ABlock (length fields)) (ABlock wide) p block_recharged ws marks block_relays
      block_standing there block_roled block_frame block_quota (let x = charge_now in let y = block_charge in omega arith) (inl refl)

  pub block_grown_old : charges_in (with_grown it.store n (grown_block area code fields wide) area level (suc (length fields))) (relaid_to it.map n a (ABlock (length fields)) b (ABlock wide)).at (classes g1) in_old ≡ charges_in it.store it.map.at (classes g) in_old
  block_grown_old = laid_anew_old g g1 it (with_grown it.store n (grown_block area code fields wide) area level (suc (length fields))) h n a b area level (suc (length fields)) (ABlock (length fields)) (ABlock wide) p block_recharged ws marks block_relays
      block_standing there block_roled block_frame block_quota (let x = charge_now in let y = block_charge in omega arith)

  pub block_grown_refines : Refines it.map.role (relaid_to it.map n a (ABlock (length fields)) b (ABlock wide)).role
  block_grown_refines = laid_anew_refines g g1 it (with_grown it.store n (grown_block area code fields wide) area level (suc (length fields))) h n a b area level (suc (length fields)) (ABlock (length fields)) (ABlock wide) p block_recharged ws marks block_relays
      block_standing there block_roled block_frame block_quota (let x = charge_now in let y = block_charge in omega arith)
