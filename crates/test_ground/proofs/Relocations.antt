-- Objects of the machine are relocated.
use Rattle.std.proofs.Common.{ℕ, zero, suc, ◌≡◌, ◌⊎◌, ◌+◌, ◌*◌, ◌/◌, ◌%◌, ◌<◌, ◌≤◌, Bool, cond, List, length, Option, Some, None, refl, sym, ◌∙◌, ap, subst, inl, inr, arith}
use Rattle.std.specs.Prelude.{Contains, slice_get, slice_index}
use Rattle.std.proofs.lemmas.Bool.{cases_lt, lt-ltb, le-ltb}
use Rattle.std.proofs.lemmas.List.{get_or-set_same}
use Rattle.store_word.specs.Words.{Parts, null_word}
use Rattle.store_word.specs.declared.word.CdrCode.TheVariants.{Next as CdrNext, Normal as CdrNormal}
use Rattle.store_word.specs.declared.word.Content.{Content}
use Rattle.store_word.specs.declared.word.Content.TheVariants.{Nil as NilWord, List as ListAt, Struct as StructAt, Header}
use Rattle.lisp_graph.specs.declared.object.Body.{Body}
use Rattle.lisp_graph.specs.declared.object.Body.TheVariants.{Cons, Block}
use Rattle.lisp_graph.specs.declared.object.Value.{Value}
use Rattle.lisp_graph.specs.declared.object.Value.TheVariants as V
use Rattle.lisp_graph.specs.Effect.{grown_length}
use Rattle.mem_port.specs.Store.{Store, StoresNothing}
use Rattle.area_space.specs.declared.classes.Origin.TheVariants.{New, Reserve}
use Rattle.area_space.specs.Table.{Table, slot_of, live, chain, quota_of, used_of}
use Rattle.area_space.specs.Accounts.{account_of}
use Rattle.area_space.specs.Charges.{committed, husked}
use Rattle.area_space.specs.Places.{IsEnd}
use Rattle.area_space.specs.Sound.{IsTable}
use Rattle.obj_layout.specs.Forwards.{forward_of, word_at, Final, HasFinal, IsFinal}
use Rattle.obj_layout.specs.Shapes.{shape_from}
use Rattle.obj_layout.proofs.ForwardChains.{stores_nothing-twice, word_at-read}
use Rattle.transporter.specs.lisp_meaning.State.{no_aim, object, rule_of}
use Rattle.transporter.specs.lisp_meaning.Charges.{account}
use Rattle.transporter.specs.lisp_meaning.Forwards.{forward_of as leads_from}
use Rattle.transporter.specs.lisp_meaning.Classes.{classes}
use Rattle.transporter.specs.lisp_meaning.Roles.{AsCons, AsBlock, names_as, as_ref, car_of, header_of, value_of}
use Rattle.transporter.specs.lisp_meaning.Rewriting.{StandsThere}
use Rattle.transporter.proofs.lisp_meaning.maps.Frames.{refined}
use Rattle.transporter.proofs.lisp_meaning.roles.RunNames.{cell_there}
use Rattle.transporter.proofs.lisp_meaning.layout.ObjectWords.{cell_fits, block_fits}
use Rattle.transporter.specs.lisp_ground.Image.{ground_image}
use Rattle.transporter.specs.lisp_ground.GroundInvariant.{GroundInvariant}
use Rattle.transporter.specs.lisp_ground.Writes.{WritesWithin}
use Rattle.transporter.proofs.lisp_ground.sums.Accounts.{areas_agree}
use Rattle.transporter.proofs.lisp_ground.words.FinalAddresses.{has_final, same_forward, stands_there}
use Rattle.transporter.proofs.lisp_ground.invariant.Relocations.{block_grown_on, cell_relaid_on}
use Rattle.transporter.proofs.lisp_ground.words.Shapes.{block_stands}
use Rattle.transporter.specs.Parcels.{block_parcel}
use Rattle.transporter.specs.Writes.{Writes}
use Rattle.transporter.proofs.MovedParcels.{opened-words, role_below, role_inside, within-written}
use Rattle.transporter.proofs.ParcelRoles.{Stands, block-stands, not_blank}
use Rattle.test_ground.specs.Trials.{IsOpen, open_objects}
use Rattle.test_ground.specs.Written.{Reserves, pair_of, field_or_nil, wider_of, husk_of}
use Rattle.test_ground.proofs.NewObjects.{open-same, fits-quota, written, reserved-inside, reserved_on, reserved_chains, still_first, opened-as}

-- Names and bodies

named : (o : Option ℕ) (v : Value) → as_ref o ≡ Some v → (n : ℕ) × (o ≡ Some n)
named None v e = absurd (cc)
named (Some n) v e = (n, refl)

cons-is : (b : Body) (v : Value) → car_of b ≡ Some v → (d : Value) × (b ≡ Cons v d)
cons-is (Cons a d) v e = (d, let z : a ≡ v = cc in ap (λ (x : Value). Cons x d) z)
cons-is (Block code fields) v e = absurd (cc)

block-is : (b : Body) (code size : ℕ) → header_of b ≡ Some (code, size) → (fields : List Value) × (b ≡ Block code fields) × (length fields ≡ size)
block-is (Cons a d) code size e = absurd (cc)
block-is (Block kind fields) code size e =
    let z : (kind, length fields) ≡ (code, size) = cc in
    (fields, ap (λ (p : ℕ × ℕ). Block p.0 fields) z, ap (λ (p : ℕ × ℕ). p.1) z)

-- the name of a register that is a list or a block
pub list-named : {m : Store} {t : Table} {front middle : Parts} (x : IsOpen m t front middle) (cell : ℕ) → middle.content ≡ ListAt cell → (n : ℕ) × (names_as AsCons (x.map.role cell) ≡ Some n)
list-named x cell is = named (names_as AsCons (x.map.role cell)) x.second (ap (value_of x.map.role) (sym is) ∙ x.middle_is)

pub block-named : {m : Store} {t : Table} {front middle : Parts} (x : IsOpen m t front middle) (first : ℕ) → front.content ≡ StructAt first → (n : ℕ) × (names_as AsBlock (x.map.role first) ≡ Some n)
block-named x first is = named (names_as AsBlock (x.map.role first)) x.first (ap (value_of x.map.role) (sym is) ∙ x.front_is)

pub cell-inside : {m : Store} {t : Table} {front middle : Parts} → IsOpen m t front middle → (cell : ℕ) → middle.content ≡ ListAt cell → cell < length m.words
cell-inside {m} {t} x cell is =
    let n = list-named x cell is in
    role_inside m t (open_objects x.map x.space x.areas x.store) x.on cell (not_blank (x.map.role cell) AsCons n.0 n.1)

pub block-final : {m : Store} {t : Table} {front middle : Parts} → IsOpen m t front middle → (first : ℕ) → front.content ≡ StructAt first → HasFinal m.words first
block-final {m} {t} x first is = let n = block-named x first is in has_final m t (open_objects x.map x.space x.areas x.store) x.on AsBlock first n.0 n.1

-- A cell that becomes a pair

pub open-cut : {m m1 m2 m3 : Store} {t t' : Table} {front middle : Parts} (cell to : ℕ) (car nil : Parts) (x : IsOpen m t front middle) → middle.content ≡ ListAt cell → slice_get m.words cell ≡ Some car
    → forward_of car.content ≡ None → (car.cdr ≡ CdrNormal → ⊥) → Contains (chain t (live (slot_of t 0 0))) (cell / 4096) → nil.content ≡ NilWord
    → Reserves m t m1 t' to 2 0 Reserve → Writes m1 m2 to 2 (pair_of CdrNext car nil) → Writes m2 m3 cell (0 + 1) (husk_of to) → IsOpen m3 t' front middle
open-cut {m} {m1} {m2} {m3} {t} {t'} {front} {middle} cell to car nil x is read here code there is_nil r w h =
    let n = list-named x cell is in
    let k = x.map in
    let on = reserved_on m m1 t t' front middle x to 2 0 Reserve r in
    let same = opened-words r.region r.opens in
    let word_is : word_at m1.words cell ≡ car = ap (λ (ws : List Parts). word_at ws cell) same ∙ word_at-read m.words m.words cell car refl read in
    let no_forward = sym (same_forward (word_at m1.words cell).content) ∙ (ap (λ (p : Parts). forward_of p.content) word_is ∙ here) in
    let no_pair : (word_at m1.words cell).cdr ≡ CdrNormal → ⊥ = λ e. code (sym (ap (λ (p : Parts). p.cdr) word_is) ∙ e) in
    let st : StandsThere (ground_image m1 r.room) k AsCons cell n.0 = record { named = n.1; here = no_forward } in
    let role = cell_there (word_at m1.words) (classes (ground_image m1 r.room)) k x.store on.kept.roled cell n.0 n.1 no_forward no_pair in
    let fits = cell_fits (word_at m1.words) (classes (ground_image m1 r.room)) k x.store on.kept.roled n.0 cell role.0 role.1 in
    let body = cons-is (object x.store n.0).body fits.car.0 fits.car.1 in
    let old_inside = cell-inside x cell is in
    let size = ap (λ (ws : List Parts). length ws) same in
    let size2 = w.size in
    let pair = written w (reserved-inside to 2 0 r) in
    let husk = written h (omega arith) in
    let areas = areas_agree m1 r.room (open_objects k x.space x.areas x.store) on in
    let some = x.some in
    let made = cell_relaid_on m1 m2 m3 r.room t' (open_objects k x.space x.areas x.store) cell to n.0 0 0 fits.car.0 body.0 V.Nil (pair_of CdrNext car nil 0) (pair_of CdrNext car nil 1) on st no_pair body.1
    (record {
      area_in = omega arith;
      level_in = omega arith;
      stands = still_first m m1 t t' front middle x to 2 0 Reserve r (cell / 4096) there;
      end = r.end;
      writes = within-written w;
      rewrites = within-written h;
      forward = husk_of to 0;
      forward_at = ap (slice_get m3.words) (let e : cell ≡ cell + 0 = omega arith in e) ∙ husk 0 (omega arith);
      leads = refl;
      blanks = λ j some low. absurd (omega arith);
      sound = r.sound;
    }) r.commit
    (ap (slice_get m2.words) (let e : to ≡ to + 0 = omega arith in e) ∙ pair 0 (omega arith)) refl (ap (λ (p : Parts). value_of k.role p.content) (sym word_is) ∙ fits.car.2)
    (ap (slice_get m2.words) (let e : suc to ≡ to + 1 = omega arith in e) ∙ pair 1 (omega arith)) refl (ap (value_of k.role) is_nil) in
    opened-as m m1 t t' front middle x to 2 0 Reserve r front middle _ made.map x.first x.second refl refl made.kept
    (refined k.role made.map.role made.refines front.content x.first x.front_is)
    (refined k.role made.map.role made.refines middle.content x.second x.middle_is)

-- A block that grows

twice : (n : ℕ) → 2 * n + 1 ≤ 2047 → grown_length n (2 * n + 1) ≡ 2 * n + 1
twice n few = grind arith

pub field-there : (words : List Parts) (at fields i : ℕ) → i < fields → field_or_nil words at fields i ≡ word_at words (at + suc i)
field-there words at fields i l = ap (λ (b : Bool). cond b (word_at words (at + suc i)) (record { cdr = CdrNext; content = NilWord })) (lt-ltb i fields l)

field-nil : (words : List Parts) (at fields i : ℕ) → fields ≤ i → field_or_nil words at fields i ≡ record { cdr = CdrNext; content = NilWord }
field-nil words at fields i l = ap (λ (b : Bool). cond b (word_at words (at + suc i)) (record { cdr = CdrNext; content = NilWord })) (le-ltb i fields l)

-- the fields that are read while the words after them are written
pub field-same : {old new : Store} {to i : ℕ} {word : ℕ → Parts} (at fields : ℕ) → Writes old new to (i + 1) word → (at + fields < to) ⊎ (to + 2 * fields + 2 ≤ at) → i < 2 * fields + 1
    → field_or_nil new.words at fields i ≡ field_or_nil old.words at fields i
field-same {old} {new} {to} {i} at fields w apart low = go (cases_lt i fields)
  where
    out : i < fields → (at + fields < to) ⊎ (to + 2 * fields + 2 ≤ at) → (to ≤ at + suc i) × (at + suc i < to + (i + 1)) → ⊥
    out l (inl before) x = (let a = x.0 in omega arith)
    out l (inr after) x = (let a = x.1 in omega arith)

    go : (i < fields) ⊎ (fields ≤ i) → field_or_nil new.words at fields i ≡ field_or_nil old.words at fields i
    go (inl l) = field-there new.words at fields i l ∙ (w.others (at + suc i) (out l apart) ∙ sym (field-there old.words at fields i l))
    go (inr l) = field-nil new.words at fields i l ∙ sym (field-nil old.words at fields i l)

husk-null : (to j : ℕ) → 0 < j → husk_of to j ≡ null_word
husk-null to zero some = absurd (omega arith)
husk-null to (suc j) some = refl

-- the block at the final address of the front register
pub record FrontBlock (m : Store) (t : Table) (front middle : Parts) (first at code fields : ℕ) : Type 0 where
  pub opened : IsOpen m t front middle
  pub is : front.content ≡ StructAt first
  pub final : Final m.words first at
  pub last : IsFinal m.words at
  pub header : (word_at m.words at).content ≡ Header code fields

-- after it was looked for and its header was read
pub front-block : {m m' m'' : Store} {t : Table} {front middle header : Parts} (first at code fields : ℕ) → IsOpen m t front middle → StructAt first ≡ front.content → StoresNothing m m' → StoresNothing m' m'' → Final m.words first at → IsFinal m.words at
    → slice_get m'.words at ≡ Some header → Header code fields ≡ header.content → FrontBlock m'' t front middle first at code fields
front-block {m} {m'} {m''} {t} {front} {middle} {header} first at code fields x is one two final last read header_is =
    let stays = stores_nothing-twice one two in
    record {
      opened = open-same x stays;
      is = sym is;
      final = subst (λ (ws : List Parts). Final ws first at) (sym stays.words) final;
      last = subst (λ (ws : List Parts). IsFinal ws at) (sym stays.words) last;
      header = ap (λ (p : Parts). p.content) (word_at-read m''.words m'.words at header (sym two.words) read) ∙ sym header_is;
    }

module _ {m : Store} {t : Table} {front middle : Parts} {first at code fields : ℕ} (b : FrontBlock m t front middle first at code fields) where
  abbrev x : IsOpen m t front middle
  x = b.opened

  abbrev name : ℕ
  name = (block-named x first b.is).0

  stands : StandsThere (ground_image m t) x.map AsBlock at name
  stands = stands_there m t (open_objects x.map x.space x.areas x.store) x.on AsBlock first name (block-named x first b.is).1 at b.final b.last

  body : (flds : List Value) × ((object x.store name).body ≡ Block code flds) × (length flds ≡ fields)
  body =
      let role = block_stands m t (open_objects x.map x.space x.areas x.store) x.on at name stands in
      let f = block_fits (word_at m.words) (classes (ground_image m t)) x.map x.store x.on.kept.roled name at role in
      let e = sym f.content ∙ b.header in
      let kind : f.kind ≡ code = cc in
      let size : f.size ≡ fields = cc in
      block-is (object x.store name).body code fields (f.header ∙ ap (λ (n : ℕ). Some (n, f.size)) kind ∙ ap (λ (n : ℕ). Some (code, n)) size)

  words : Stands x.map x.store (block_parcel at fields)
  words = block-stands m.words (classes (ground_image m t)) x.map x.store x.on.kept.roled at code fields name stands.named b.last.no_forward
      (ap (λ (p : Content). shape_from p (word_at m.words at).cdr) b.header)

  pub block-inside : at + fields < length m.words
  block-inside = role_inside m t (open_objects x.map x.space x.areas x.store) x.on (at + fields) (words.words fields (omega arith))

  module _ {m1 : Store} {t' : Table} (to : ℕ) (r : Reserves m t m1 t' to (2 * fields + 2) (2 * fields + 2) New) where
    on : GroundInvariant m1 r.room (open_objects x.map x.space x.areas x.store)
    on = reserved_on m m1 t t' front middle x to (2 * fields + 2) (2 * fields + 2) New r

    same : m1.words ≡ m.words
    same = opened-words r.region r.opens

    -- its words are apart from its new place
    pub block-apart : (at + fields < to) ⊎ (to + 2 * fields + 2 ≤ at)
    block-apart =
        let below = role_below m1 r.room (open_objects x.map x.space x.areas x.store) on (at + fields) (words.words fields (omega arith)) in
        let near : (at + fields) / 4096 ≡ at / 4096 = words.near fields (omega arith) in
        let used = subst (λ (region : ℕ). (at + fields) % 4096 < used_of r.room region) near below in
        go (at / 4096) refl near used (cases_lt (at / 4096) (to / 4096)) (cases_lt (to / 4096) (at / 4096))
      where
        go : (region : ℕ) → at / 4096 ≡ region → (at + fields) / 4096 ≡ at / 4096 → (at + fields) % 4096 < used_of r.room (at / 4096) → (at / 4096 < to / 4096) ⊎ (to / 4096 ≤ at / 4096) → (to / 4096 < at / 4096) ⊎ (at / 4096 ≤ to / 4096)
            → (at + fields < to) ⊎ (to + 2 * fields + 2 ≤ at)
        go region e near used (inl less) q = inl (omega arith)
        go region e near used (inr more) (inl less) = (let a = r.end.end in let b = r.end.fits in inr (omega arith))
        go region e near used (inr more) (inr less) =
            let one : at / 4096 ≡ to / 4096 = omega arith in
            let low = subst (λ (i : ℕ). (at + fields) % 4096 < used_of r.room i) one used in
            let a = r.end.end in
            inl (omega arith)

    module _ (few : fields ≤ 1023) (there : Contains (chain t (live (slot_of t 0 0))) (at / 4096)) where
      in_room : Contains (chain r.room (live (slot_of r.room 0 0))) (at / 4096)
      in_room = still_first m m1 t t' front middle x to (2 * fields + 2) (2 * fields + 2) New r (at / 4096) there

      -- the class that a husk is noted in
      pub in_live : Contains (chain t' (live (slot_of r.room 0 0))) (at / 4096)
      in_live = subst (λ (cs : List (List ℕ)). Contains (chain (record r.room { chains = cs }) (live (slot_of r.room 0 0))) (at / 4096)) (sym (reserved_chains m m1 t t' front middle x to (2 * fields + 2) (2 * fields + 2) New r)) in_room

      charge_there : fields + 1 ≤ slice_index t'.charges (live (slot_of r.room 0 0))
      charge_there =
          let old = slice_index r.room.charges (live (slot_of r.room 0 0)) in
          let e = r.end.inside in
          let sizes = r.opens.sound.charges_size in
          let is : slice_index t'.charges (live (slot_of r.room 0 0)) ≡ old + (2 * fields + 2) = ap (λ (u : Table). slice_index u.charges (live (slot_of r.room 0 0))) r.commit ∙ get_or-set_same r.room.charges (live (slot_of r.room 0 0)) (old + (2 * fields + 2)) 0 (omega arith) in
          omega arith

      pub husk-enough : (slot : ℕ) → Contains (chain t' (live slot)) (at / 4096) → fields + 1 ≤ slice_index t'.charges (live slot)
      husk-enough slot has =
          let one : live (slot_of r.room 0 0) ≡ live slot = r.sound.sound.one_list _ _ (at / 4096) in_live has in
          subst (λ (c : ℕ). fields + 1 ≤ slice_index t'.charges c) one charge_there

      pub open-grown : {m2 m3 : Store} {u : Table} → account_of t 0 + (2 * fields + 2) ≤ quota_of t 0 → Writes m1 m2 to (2 * fields + 2) (wider_of m1.words at code fields) → Writes m2 m3 at (fields + 1) (husk_of to)
          → u ≡ husked t' (live (slot_of r.room 0 0)) (fields + 1) → IsTable u → IsOpen m3 u front middle
      open-grown {m2} {m3} {u} quota w h is_husked sound =
          let flds = body.0 in
          let size = body.2 in
          let grown : grown_length (length flds) (2 * fields + 1) ≡ 2 * fields + 1 = ap (λ (n : ℕ). grown_length n (2 * fields + 1)) size ∙ twice fields (omega arith) in
          let count : suc (grown_length (length flds) (2 * fields + 1)) ≡ 2 * fields + 2 = omega arith in
          let areas = areas_agree m1 r.room (open_objects x.map x.space x.areas x.store) on in
          let some = x.some in
          let old_inside = block-inside in
          let lengths = ap (λ (ws : List Parts). length ws) same in
          let size2 = w.size in
          let new = written w (reserved-inside to (2 * fields + 2) (2 * fields + 2) r) in
          let husk = written h (omega arith) in
          let st : StandsThere (ground_image m1 r.room) x.map AsBlock at name = record { named = stands.named; here = ap (λ (ws : List Parts). leads_from (word_at ws at).content) same ∙ stands.here } in
          let made = block_grown_on m1 m2 m3 r.room t' u (open_objects x.map x.space x.areas x.store) at to name code (2 * fields + 1) 0 0 flds on st body.1 (omega arith) (omega arith)
          (subst (λ (c : ℕ). account x.space.levels x.store no_aim 0 + c ≤ (rule_of x.areas 0).quota) (sym count) (fits-quota (2 * fields + 2) x quota))
          (record {
            area_in = omega arith;
            level_in = omega arith;
            stands = in_room;
            end = subst (IsEnd r.room (slot_of r.room 0 0) to) (sym count) r.end;
            writes = subst (WritesWithin m1 m2 to) (sym count) (within-written w);
            rewrites = subst (WritesWithin m2 m3 at) (let e : fields + 1 ≡ suc (length flds) = omega arith in e) (within-written h);
            forward = husk_of to 0;
            forward_at = ap (slice_get m3.words) (let e : at ≡ at + 0 = omega arith in e) ∙ husk 0 (omega arith);
            leads = refl;
            blanks = λ j some low. husk j (omega arith) ∙ ap Some (husk-null to j some);
            sound = sound;
          })
          (subst (λ (c : ℕ). t' ≡ record (committed r.room (slot_of r.room 0 0) to c c New) { pages = t'.pages }) (sym count) r.commit)
          (subst (λ (c : ℕ). u ≡ husked t' (live (slot_of r.room 0 0)) c) (let e : fields + 1 ≡ suc (length flds) = omega arith in e) is_husked)
          (subst (λ (c : ℕ). c ≤ slice_index t'.charges (live (slot_of r.room 0 0))) (let e : fields + 1 ≡ suc (length flds) = omega arith in e) charge_there)
          (record {
            header_at = ap (slice_get m2.words) (let e : to ≡ to + 0 = omega arith in e) ∙ (new 0 (omega arith) ∙ ap (λ (n : ℕ). Some (record { cdr = CdrNext; content = Header code n })) (sym grown));
            copied = λ j l. ap (λ (a : ℕ). (word_at m2.words a).content) (let e : suc to + j ≡ to + suc j = omega arith in e)
                ∙ (ap (λ (p : Parts). p.content) (w.there (suc j) (omega arith) ∙ field-there m1.words at fields j (omega arith))
                ∙ ap (λ (a : ℕ). (word_at m1.words a).content) (let e : at + suc j ≡ suc at + j = omega arith in e));
            nils = λ j past l. ap (λ (a : ℕ). (word_at m2.words a).content) (let e : suc to + j ≡ to + suc j = omega arith in e)
                ∙ ap (λ (p : Parts). p.content) (w.there (suc j) (omega arith) ∙ field-nil m1.words at fields j (omega arith));
          }) in
          opened-as m m1 t t' front middle x to (2 * fields + 2) (2 * fields + 2) New r front middle _ made.map x.first x.second (ap (λ (v : Table). v.aim) is_husked) (ap (λ (v : Table). v.chains) is_husked) made.kept
          (refined x.map.role made.map.role made.refines front.content x.first x.front_is)
          (refined x.map.role made.map.role made.refines middle.content x.second x.middle_is)
