-- A new object, from the invariant to the invariant: words placed and written, and charged.
use Rattle.std.proofs.Common.{◌≡◌, ℕ, suc, ◌+◌, ◌<◌, ◌≤◌, ◌⊎◌, inl, inr, Bool, true, false, ◌&&◌, ◌==◌, refl, sym, ◌∙◌, ap, subst, arith, Option, Some, List, [], ◌∷◌, length, nat_eq}
use Rattle.std.specs.Prelude.{is_some, slice_get}
use Rattle.std.proofs.lemmas.Bool.{cases_eq}
use Rattle.std.proofs.lemmas.Grind.{common_steps}
use Rattle.lisp_graph.specs.store_word.declared.word.CdrCode.{CdrCode}
use Rattle.lisp_graph.specs.store_word.declared.word.CdrCode.TheVariants.{Next as CdrNext, Normal as CdrNormal}
use Rattle.lisp_graph.specs.store_word.declared.word.Content.{Content}
use Rattle.lisp_graph.specs.store_word.declared.word.Content.TheVariants.{Header}
use Rattle.lisp_graph.specs.declared.object.Value.{Value}
use Rattle.lisp_graph.specs.declared.object.Body.{Body}
use Rattle.lisp_graph.specs.declared.object.Body.TheVariants.{Cons, Block}
use Rattle.lisp_graph.specs.declared.object.Object.{Object}
use Rattle.lisp_graph.specs.declared.world.AreaRule.{AreaRule}
use Rattle.lisp_graph.specs.Graph.{object_at}
use Rattle.lisp_graph.specs.Totals.{total, if_true}
use Rattle.lisp_graph.proofs.Totals.{total-cong, total-zero, total-suc}
use Rattle.lisp_meaning.specs.machine.State.{rule_of, Condemned, Store, object, is_held, in_use}
use Rattle.lisp_meaning.specs.machine.Changes.{with_made}
use Rattle.lisp_meaning.specs.machine.Charges.{per_area, account}
use Rattle.lisp_meaning.specs.reading.Image.{Image, word}
use Rattle.lisp_meaning.specs.invariants.ChargesIn.{charges_in}
use Rattle.lisp_meaning.specs.reading.Classes.{region_of, classes, in_old}
use Rattle.lisp_meaning.specs.reading.Marks.{Marks}
use Rattle.lisp_meaning.specs.invariants.Roles.{AsCons, AsBlock, Scratch, value_of, kind_of, car_of, cdr_of, field_of, header_of, Refines}
use Rattle.lisp_meaning.specs.invariants.Fits.{Holds, PairCode, Roled}
use Rattle.lisp_meaning.specs.invariants.Invariant.{MemoryInvariant}
use Rattle.lisp_meaning.specs.invariants.Interpretation.{Interpretation}
use Rattle.lisp_meaning.specs.invariants.Laid.{APair, ABlock, scratched, newly_laid}
use Rattle.lisp_meaning.specs.invariants.Placed.{Placed, Charged}
use Rattle.lisp_meaning.proofs.sums.Charges.{total-split, total-none}
use Rattle.lisp_meaning.proofs.maps.Frames.{Frame, refined}
use Rattle.lisp_meaning.proofs.maps.StoreChanges.{made_size, made_new, made_same, made_used, made_uses, made_news, held_old}
use Rattle.lisp_meaning.proofs.layout.NewObjects.{make_pair, make_pair_frame, make_block, make_block_frame}
use Rattle.lisp_meaning.proofs.layout.Placement.{ground, scratch_role, ground_frame}
use Rattle.lisp_meaning.proofs.invariant.AfterNewObject.{kept_made, kept_made_frame, kept_made_old}

-- Accounts

where_sum : (t : Bool) (f : ℕ → ℕ) (n : ℕ) → total (λ i. if_true t (f i)) n ≡ if_true t (total f n)
where_sum true f n = refl
where_sum false f n = total-none (λ i. 0) n (λ m l. refl)

-- the area in which objects are made is charged this much more
module _ (s : Store) (made : List Object) (level top area : ℕ) (aim : Condemned) (below : (n : ℕ) → in_use s n → n < length s.objects)
    (areas_are : (i : ℕ) → i < length made → (object_at made i).area ≡ area) where
  counted_in : (a m : ℕ) → ℕ
  counted_in a m = if_true (is_held (with_made s made level) m && per_area (with_made s made level) a m) (object (with_made s made level) m).charge

  old_counted : (a m : ℕ) → m < length s.objects → counted_in a m ≡ if_true (is_held s m && per_area s a m) (object s m).charge
  unfolding counted_in
  old_counted a m l =
      let out : (length s.objects ≤ m) × (m < length s.objects + length made) → ⊥ = λ x. (let y = x.0 in omega arith) in
      ap (λ (o : Option ℕ). if_true (is_some o && per_area (with_made s made level) a m) (object (with_made s made level) m).charge) (held_old s made level m out)
      ∙ ap (λ (o : Object). if_true (is_held s m && nat_eq o.area a) o.charge) (made_same s made level m out)

  new_counted : (a i : ℕ) → i < length made → counted_in a (length s.objects + i) ≡ if_true (nat_eq area a) (object_at made i).charge
  unfolding counted_in
  new_counted a i l =
      ap (λ (b : Bool). if_true (b && per_area (with_made s made level) a (length s.objects + i)) (object (with_made s made level) (length s.objects + i)).charge) (made_used s made level i l)
      ∙ ap (λ (o : Object). if_true (true && nat_eq o.area a) o.charge) (made_new s made level i)
      ∙ ap (λ (x : ℕ). if_true (nat_eq x a) (object_at made i).charge) (areas_are i l)

  pub account_made : (a : ℕ) → account top (with_made s made level) aim a ≡ account top s aim a + if_true (nat_eq area a) (total (λ i. (object_at made i).charge) (length made))
  unfolding counted_in
  account_made a =
      let x = ap (total (counted_in a)) (made_size s made level) in
      let y = total-split (counted_in a) (length s.objects) (length made) in
      let z = total-cong (counted_in a) (λ m. if_true (is_held s m && per_area s a m) (object s m).charge) (length s.objects) (λ m l. old_counted a m l) in
      let v = total-cong (λ i. counted_in a (length s.objects + i)) (λ i. if_true (nat_eq area a) (object_at made i).charge) (length made) (λ i l. new_counted a i l) in
      let w = where_sum (nat_eq area a) (λ i. (object_at made i).charge) (length made) in
      omega arith

-- what fits the quota of its area leaves all accounts within theirs
pub quota_made : (top : ℕ) (areas : List AreaRule) (s s' : Store) (aim : Condemned) (area charge : ℕ) → ((a : ℕ) → a < length areas → account top s aim a ≤ (rule_of areas a).quota)
    → ((a : ℕ) → account top s' aim a ≡ account top s aim a + if_true (nat_eq area a) charge) → account top s aim area + charge ≤ (rule_of areas area).quota
    → (a : ℕ) → a < length areas → account top s' aim a ≤ (rule_of areas a).quota
quota_made top areas s s' aim area charge quota change fits a l = go (cases_eq area a)
  where
    go : (area ≡ a) ⊎ (area ≡ a → ⊥) → account top s' aim a ≤ (rule_of areas a).quota
    go (inl e) =
        let P : ℕ → Type 0 = λ x. account top s aim x + charge ≤ (rule_of areas x).quota in
        let f = subst P e fits in
        let b : nat_eq area a ≡ true = grind (arith, common_steps) in
        let x = change a in let y = ap (λ (t : Bool). if_true t charge) b in omega arith
    go (inr ne) =
        let b : nat_eq area a ≡ false = grind (arith, common_steps) in
        let x = change a in let y = ap (λ (t : Bool). if_true t charge) b in let z = quota a l in omega arith

one_charge : (o : Object) → total (λ i. (object_at (o ∷ []) i).charge) 1 ≡ o.charge
one_charge o = let a = total-suc (λ i. (object_at (o ∷ []) i).charge) 0 in let b = total-zero (λ i. (object_at (o ∷ []) i).charge) in omega arith

account_one : (s : Store) (o : Object) (level top area : ℕ) (aim : Condemned) → ((n : ℕ) → in_use s n → n < length s.objects) → o.area ≡ area
    → (a : ℕ) → account top (with_made s (o ∷ []) level) aim a ≡ account top s aim a + if_true (nat_eq area a) o.charge
account_one s o level top area aim below is a =
    account_made s (o ∷ []) level top area aim below (λ i l. ap (λ (x : ℕ). (object_at (o ∷ []) x).area) (let z : i ≡ 0 = omega arith in z) ∙ is) a
    ∙ ap (λ (x : ℕ). account top s aim a + if_true (nat_eq area a) x) (one_charge o)

-- One object

module _ (g g1 : Image) (it : Interpretation) (h : MemoryInvariant g it) (b area level : ℕ) (o : Object) (is_area : o.area ≡ area)
    (low : level < suc it.top) (fits : account it.top it.store it.aim area + o.charge ≤ (rule_of it.areas area).quota) where
  quotas : (a : ℕ) → a < length it.areas → account it.top (with_made it.store (o ∷ []) level) it.aim a ≤ (rule_of it.areas a).quota
  quotas = quota_made it.top it.areas it.store (with_made it.store (o ∷ []) level) it.aim area o.charge h.quota (account_one it.store o level it.top area it.aim h.names is_area) fits

  fresh : in_use it.store (length it.store.objects) → ⊥
  fresh u = let x = h.names (length it.store.objects) u in omega arith

  now_used : in_use (with_made it.store (o ∷ []) level) (length it.store.objects)
  now_used = let P : ℕ → Type 0 = λ n. in_use (with_made it.store (o ∷ []) level) n in subst P (let z : length it.store.objects + 0 ≡ length it.store.objects = omega arith in z) (made_used it.store (o ∷ []) level 0 (omega arith))

  out : (m : ℕ) → (m ≡ length it.store.objects → ⊥) → (length it.store.objects ≤ m) × (m < length it.store.objects + 1) → ⊥
  out m ne x = let l = x.0 in let y = x.1 in ne (omega arith)

  object_is : object (with_made it.store (o ∷ []) level) (length it.store.objects) ≡ o
  object_is = ap (object (with_made it.store (o ∷ []) level)) (let z : length it.store.objects ≡ length it.store.objects + 0 = omega arith in z) ∙ made_new it.store (o ∷ []) level 0

  -- a pair of charge 2 or 3
  module _ (car cdr : Value) (body : o.body ≡ Cons car cdr) (p : Placed g g1 b 2 area level) (c : Charged g g1 area level o.charge) (marks : Marks g1)
      (first : value_of it.map.role (word g1 b).content ≡ Some car) (first_code : (word g1 b).cdr ≡ CdrNormal)
      (second : value_of it.map.role (word g1 (suc b)).content ≡ Some cdr) (second_code : PairCode o.charge (word g1 (suc b)).cdr) where
    pair_value : (w : Content) (v : Value) → value_of it.map.role w ≡ Some v → value_of (scratched it.map b 2).role w ≡ Some v
    pair_value w v e = refined it.map.role (scratched it.map b 2).role (ground_frame g g1 it h b 2 area level p).refine w v e

    pair_scratch : (scratched it.map b 2).role b ≡ Scratch
    pair_scratch = scratch_role g g1 it h b 2 area level p b (omega arith, omega arith)

    pair_scratch2 : (scratched it.map b 2).role (suc b) ≡ Scratch
    pair_scratch2 = scratch_role g g1 it h b 2 area level p (suc b) (omega arith, omega arith)

    pair_near : region_of (suc b) ≡ region_of b
    pair_near = ap region_of (let z : suc b ≡ b + 1 = omega arith in z) ∙ p.near 1 (omega arith)

    pair_kind : kind_of (object (with_made it.store (o ∷ []) level) (length it.store.objects)).body ≡ AsCons
    pair_kind = ap (λ (x : Object). kind_of x.body) object_is ∙ ap kind_of body

    pair_code : PairCode (object (with_made it.store (o ∷ []) level) (length it.store.objects)).charge (word g1 (suc b)).cdr
    pair_code = let P : Object → Type 0 = λ x. PairCode x.charge (word g1 (suc b)).cdr in subst P (sym object_is) second_code

    pair_car : Holds (scratched it.map b 2).role (word g1 b).content (car_of (object (with_made it.store (o ∷ []) level) (length it.store.objects)).body)
    pair_car = (car, ap (λ (x : Object). car_of x.body) object_is ∙ ap car_of body, pair_value (word g1 b).content car first)

    pair_cdr : Holds (scratched it.map b 2).role (word g1 (suc b)).content (cdr_of (object (with_made it.store (o ∷ []) level) (length it.store.objects)).body)
    pair_cdr = (cdr, ap (λ (x : Object). cdr_of x.body) object_is ∙ ap cdr_of body, pair_value (word g1 (suc b)).content cdr second)

    pair_pays : 2 + 0 ≤ o.charge
    pair_pays = go second_code
      where
        go : {code : CdrCode} → PairCode o.charge code → 2 + 0 ≤ o.charge
        go (inl x) = let y = x.0 in omega arith
        go (inr x) = let y = x.0 in omega arith

    pair_roled : Roled (word g1) (classes g1) (newly_laid it.map (length it.store.objects) b APair) (with_made it.store (o ∷ []) level)
    pair_roled = make_pair (word g1) (classes g1) (scratched it.map b 2) it.store (with_made it.store (o ∷ []) level) (ground g g1 it h b 2 area level p) (length it.store.objects) b fresh now_used
        (made_uses it.store (o ∷ []) level h.names) (λ m u ne. made_news it.store (o ∷ []) level m u (out m ne)) (λ m ne. made_same it.store (o ∷ []) level m (out m ne))
        pair_scratch pair_scratch2 pair_near pair_kind first_code pair_code pair_car pair_cdr

    pair_frame : Frame (scratched it.map b 2) (newly_laid it.map (length it.store.objects) b APair) it.store (with_made it.store (o ∷ []) level) (λ m. m == length it.store.objects)
    pair_frame = make_pair_frame (word g1) (classes g1) (scratched it.map b 2) it.store (with_made it.store (o ∷ []) level) (ground g g1 it h b 2 area level p) (length it.store.objects) b fresh now_used
        (made_uses it.store (o ∷ []) level h.names) (λ m u ne. made_news it.store (o ∷ []) level m u (out m ne)) (λ m ne. made_same it.store (o ∷ []) level m (out m ne))
        pair_scratch pair_scratch2 pair_near pair_kind first_code pair_code pair_car pair_cdr

    pub kept_pair_made : MemoryInvariant g1 (record it { map = newly_laid it.map (length it.store.objects) b APair; store = with_made it.store (o ∷ []) level })
    kept_pair_made = kept_made g g1 it h b area level APair o p c marks is_area low pair_pays quotas pair_roled pair_frame

    pub pair_made_old : charges_in (with_made it.store (o ∷ []) level) (newly_laid it.map (length it.store.objects) b APair).at (classes g1) in_old ≡ charges_in it.store it.map.at (classes g) in_old
    pair_made_old = kept_made_old g g1 it h b area level APair o p c marks is_area low pair_pays quotas pair_roled pair_frame

    pub pair_made_refines : Refines it.map.role (newly_laid it.map (length it.store.objects) b APair).role
    pair_made_refines = (kept_made_frame g g1 it h b area level APair o p c marks is_area low pair_pays quotas pair_roled pair_frame).refine

  -- a block
  module _ (code : ℕ) (fields : List Value) (body : o.body ≡ Block code fields) (charge : o.charge ≡ suc (length fields))
      (p : Placed g g1 b (suc (length fields)) area level) (c : Charged g g1 area level o.charge) (marks : Marks g1)
      (header : (word g1 b).content ≡ Header code (length fields)) (header_code : (word g1 b).cdr ≡ CdrNext)
      (values : (j : ℕ) → j < length fields → (v : Value) × (slice_get fields j ≡ Some v) × (value_of it.map.role (word g1 (suc b + j)).content ≡ Some v)) where
    block_ground : Roled (word g1) (classes g1) (scratched it.map b (suc (length fields))) it.store
    block_ground = ground g g1 it h b (suc (length fields)) area level p

    block_scratch : (j : ℕ) → j < suc (length fields) → (scratched it.map b (suc (length fields))).role (b + j) ≡ Scratch
    block_scratch j l = scratch_role g g1 it h b (suc (length fields)) area level p (b + j) (omega arith, omega arith)

    block_kind : kind_of (object (with_made it.store (o ∷ []) level) (length it.store.objects)).body ≡ AsBlock
    block_kind = ap (λ (x : Object). kind_of x.body) object_is ∙ ap kind_of body

    block_body : header_of (object (with_made it.store (o ∷ []) level) (length it.store.objects)).body ≡ Some (code, length fields)
    block_body = ap (λ (x : Object). header_of x.body) object_is ∙ ap header_of body

    block_charge : (object (with_made it.store (o ∷ []) level) (length it.store.objects)).charge ≡ suc (length fields)
    block_charge = ap (λ (x : Object). x.charge) object_is ∙ charge

    block_values : (j : ℕ) → j < length fields → Holds (scratched it.map b (suc (length fields))).role (word g1 (suc b + j)).content (field_of (object (with_made it.store (o ∷ []) level) (length it.store.objects)).body j)
    block_values j l =
        let x = values j l in (
          x.0,
          ap (λ (y : Object). field_of y.body j) object_is ∙ ap (λ (y : Body). field_of y j) body ∙ x.1,
          refined it.map.role (scratched it.map b (suc (length fields))).role (ground_frame g g1 it h b (suc (length fields)) area level p).refine (word g1 (suc b + j)).content x.0 x.2,
        )

    block_pays : suc (length fields) + 0 ≤ o.charge
    block_pays = let x = charge in omega arith

    block_roled : Roled (word g1) (classes g1) (newly_laid it.map (length it.store.objects) b (ABlock (length fields))) (with_made it.store (o ∷ []) level)
    block_roled = make_block (word g1) (classes g1) (scratched it.map b (suc (length fields))) it.store (with_made it.store (o ∷ []) level) block_ground (length it.store.objects) b fresh now_used
        (made_uses it.store (o ∷ []) level h.names) (λ m u ne. made_news it.store (o ∷ []) level m u (out m ne)) (λ m ne. made_same it.store (o ∷ []) level m (out m ne))
        (length fields) code block_scratch p.near block_kind header_code header block_body block_charge block_values

    block_frame : Frame (scratched it.map b (suc (length fields))) (newly_laid it.map (length it.store.objects) b (ABlock (length fields))) it.store (with_made it.store (o ∷ []) level) (λ m. m == length it.store.objects)
    block_frame = make_block_frame (word g1) (classes g1) (scratched it.map b (suc (length fields))) it.store (with_made it.store (o ∷ []) level) block_ground (length it.store.objects) b fresh now_used
        (made_uses it.store (o ∷ []) level h.names) (λ m u ne. made_news it.store (o ∷ []) level m u (out m ne)) (λ m ne. made_same it.store (o ∷ []) level m (out m ne))
        (length fields) code block_scratch p.near block_kind header_code header block_body block_charge block_values

    pub kept_block_made : MemoryInvariant g1 (record it { map = newly_laid it.map (length it.store.objects) b (ABlock (length fields)); store = with_made it.store (o ∷ []) level })
    kept_block_made = kept_made g g1 it h b area level (ABlock (length fields)) o p c marks is_area low block_pays quotas block_roled block_frame

    pub block_made_old : charges_in (with_made it.store (o ∷ []) level) (newly_laid it.map (length it.store.objects) b (ABlock (length fields))).at (classes g1) in_old ≡ charges_in it.store it.map.at (classes g) in_old
    block_made_old = kept_made_old g g1 it h b area level (ABlock (length fields)) o p c marks is_area low block_pays quotas block_roled block_frame

    pub block_made_refines : Refines it.map.role (newly_laid it.map (length it.store.objects) b (ABlock (length fields))).role
    block_made_refines = (kept_made_frame g g1 it h b area level (ABlock (length fields)) o p c marks is_area low block_pays quotas block_roled block_frame).refine
