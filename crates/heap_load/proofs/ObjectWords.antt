-- The words of a cons and of a block are stored at their addresses.
use Rattle.std.proofs.Common.{◌≡◌, ℕ, suc, ◌+◌, ◌<◌, inl, inr, refl, sym, ap, ◌∙◌, subst, arith, List, length, get_or, true, false, Some}
use Rattle.store_word.specs.Words.{Parts}
use Rattle.store_word.specs.declared.word.CdrCode.{CdrCode}
use Rattle.store_word.specs.declared.word.CdrCode.TheVariants.{Next, Normal}
use Rattle.store_word.specs.declared.word.Content.TheVariants.{List as ListAt, Struct as StructAt}
use Rattle.lisp_graph.specs.declared.object.Value.{Value}
use Rattle.lisp_graph.specs.declared.object.Value.TheVariants as V
use Rattle.lisp_graph.specs.declared.object.Body.TheVariants.{Cons, Block}
use Rattle.lisp_graph.specs.declared.object.Object.{Object}
use Rattle.lisp_graph.specs.declared.world.World.{World}
use Rattle.lisp_graph.specs.Graph.{object_at}
use Rattle.mem_port.specs.Store.{Store, Stores, StoresNothing}
use Rattle.area_space.specs.Table.{Table}
use Rattle.block_store.specs.obj_layout.Forwards.{word_at, IsFinal}
use Rattle.block_store.specs.lisp_meaning.Classes.{classes}
use Rattle.block_store.specs.lisp_meaning.Fits.{PairCode}
use Rattle.block_store.specs.lisp_meaning.Roles.{AsBlock, AsCons, names_as, value_of}
use Rattle.block_store.specs.lisp_meaning.Rewriting.{StandsThere}
use Rattle.block_store.specs.lisp_ground.Image.{ground_image}
use Rattle.block_store.proofs.lisp_meaning.roles.RunNames.{pair_there}
use Rattle.block_store.proofs.lisp_meaning.layout.ObjectWords.{tail_fits}
use Rattle.block_store.proofs.lisp_ground.words.FinalAddresses.{final_is_place, stands_there}
use Rattle.block_store.proofs.lisp_ground.invariant.Stores.{field_stored_on}
use Rattle.block_store.proofs.LiveFields.{field_live}
use Rattle.block_store.specs.transporter.LiveWordsUnchanged.{IsLiveWord}
use Rattle.block_store.proofs.transporter.FetchedWords.{live-inside}
use Rattle.block_store.proofs.transporter.LiveObjects.{grows-same}
use Rattle.cdr_lists.specs.Pairs.{second_code}
use Rattle.cdr_lists.proofs.ConsAddresses.{CanSetAt, sets_car, sets_cdr, settable_at}
use Rattle.cdr_lists.proofs.PartStores.{car_set, cdr_set, second_inside}
use Rattle.cdr_lists.proofs.SettledCell.{final_itself, no_change}
use Rattle.heap_load.specs.Drafts.{is_known}
use Rattle.heap_load.specs.Places.{PlaceView, cell_code_of, place_at, word_of}
use Rattle.heap_load.specs.Loading.{BlockStandsIn, CarFilled, Filled, Filling, HoldsSome, IsLoadable, Laid, StandsIn, code_for, loaded}
use Rattle.heap_load.proofs.NewDrafts.{store_with}
use Rattle.heap_load.proofs.ObjectParts.{ConsFilling, FieldsFilled, body_here, can_set, car_filled, cdr_filled, cons_start, field_filled, fields_more, filled_next, filling_read, parts_below, word_means}
use Rattle.heap_load.proofs.ConsPlaces.{block_named, cons_named, laid_stored, value_stays}
use Rattle.heap_load.proofs.GroupSequences.{code_by_cdr}

-- the cdr code of the second word is that of the charge
code_of_charge : (charge : ℕ) (code : CdrCode) → PairCode charge code → code ≡ second_code charge
code_of_charge charge code (inl p) = p.1 ∙ ap second_code (sym p.0)
code_of_charge charge code (inr p) = p.1 ∙ ap second_code (sym p.0)

same_place : (a b : ℕ) → ListAt a ≡ ListAt b → a ≡ b
same_place a b e = cc

module _ (m : Store) (t : Table) (world : World) (places : List PlaceView) (n : ℕ) (first second : Value) (x : Filling m t world places n (Cons first second)) (low : n < length world.objects)
    (laid : Laid m.words places world.objects (length world.objects)) (car cdr : Value) (body : (object_at world.objects n).body ≡ Cons car cdr) (at : ℕ) (is : (place_at places n).word.content ≡ ListAt at) where
  stands : StandsIn m.words places world.objects (length world.objects) n
  stands = laid.each n low car cdr body

  here : stands.at ≡ at
  here = same_place stands.at at (sym stands.place_is ∙ is)

  final : IsFinal m.words at
  final = subst (IsFinal m.words) here stands.final

  pub head_inside : at < length m.words
  head_inside = final.inside

  -- the first word has the cdr code of a pair, or of a cell with this cdr
  pub pair_code : (place_at places n).cell ≡ false → (word_at m.words at).cdr ≡ Normal
  pair_code pair = ap (λ (a : ℕ). (word_at m.words a).cdr) (sym here) ∙ stands.code ∙ ap code_for (stands.alone pair)

  pub cell_code : (place_at places n).cell ≡ true → (word_at m.words at).cdr ≡ cell_code_of cdr
  cell_code cell = ap (λ (a : ℕ). (word_at m.words a).cdr) (sym here) ∙ stands.code ∙ code_by_cdr world.objects n car cdr low body (stands.together cell)

  module _ (written : Parts) (new : Value) (value : value_of x.holds.map.role written.content ≡ Some new) where
    settable : CanSetAt m t at written
    settable = settable_at m t (place_at places n).word written at is (can_set m t world places n (Cons first second) x low written new value)

    -- the car was stored
    module _ (code : CdrCode) (code_is : (word_at m.words at).cdr ≡ code) (m' : Store) (word : Parts) (e : word ≡ record written { cdr = code }) (stores : Stores m m' at word) where
      pub car_stored : Filling m' t world places n (Cons new second)
      car_stored = car_filled m t world places n (Cons first second) x low m' t first second new written.content refl value refl
          (sets_car m t (place_at places n).word.content at is m' t written.content
          (car_set m t at written settable m (no_change m) at (final_itself m.words at final) final m' written.content word (ap (λ (p : Parts). p.cdr) e ∙ sym code_is) (ap (λ (p : Parts). p.content) e) stores))

      pub car_laid : Laid m'.words places world.objects (length world.objects)
      car_laid = laid_stored m m' places world.objects (length world.objects) at word final.inside stores (ap (λ (p : Parts). p.cdr) e ∙ sym code_is)
          (value_stays x.holds.map.role word.content new (ap (λ (p : Parts). value_of x.holds.map.role p.content) e ∙ value)) laid

    module _ (pair : (place_at places n).cell ≡ false) where
      there : StandsThere (ground_image m t) x.holds.map AsCons at n
      there = stands_there m t (loaded world x.holds.map x.objects) x.holds.kept AsCons at n
          (cons_named x.holds.map (place_at places n).word.content at n is (x.places_are n low).names) at (final_itself m.words at final) final

      -- the second word has the cdr code of the charge
      tail_code : (word_at m.words (at + 1)).cdr ≡ second_code (object_at world.objects n).charge
      tail_code =
          let head = pair_there (word_at m.words) (classes (ground_image m t)) x.holds.map (store_with world x.objects) x.holds.kept.kept.roled at n there.named there.here (pair_code pair) in
          let tail = tail_fits (word_at m.words) (classes (ground_image m t)) x.holds.map (store_with world x.objects) x.holds.kept.kept.roled n at head in
          let next : at + 1 ≡ suc at = omega arith in
          ap (λ (a : ℕ). (word_at m.words a).cdr) next ∙ code_of_charge (object_at x.objects n).charge (word_at m.words (suc at)).cdr tail.code ∙ ap (λ (o : Object). second_code o.charge) x.next

      pub tail_inside : at + 1 < length m.words
      tail_inside = second_inside m t at written settable m (no_change m) at (final_itself m.words at final) final (pair_code pair)

      -- the cdr was stored
      module _ (m' : Store) (word : Parts) (e : word ≡ record written { cdr = second_code (object_at world.objects n).charge }) (stores : Stores m m' (at + 1) word) where
        pub cdr_stored : Filling m' t world places n (Cons first new)
        cdr_stored = cdr_filled m t world places n (Cons first second) x low m' t first second new written.content refl value grows-same
            (sets_cdr m t (place_at places n).word.content at is m' t written.content
            (cdr_set m t at written settable m (no_change m) at (final_itself m.words at final) final m' written.content word (pair_code pair) (ap (λ (p : Parts). p.cdr) e ∙ sym tail_code) (ap (λ (p : Parts). p.content) e) stores))

        pub cdr_laid : Laid m'.words places world.objects (length world.objects)
        cdr_laid = laid_stored m m' places world.objects (length world.objects) (at + 1) word tail_inside stores (ap (λ (p : Parts). p.cdr) e ∙ sym tail_code)
            (value_stays x.holds.map.role word.content new (ap (λ (p : Parts). value_of x.holds.map.role p.content) e ∙ value)) laid

-- The parts of a cons get stored

module _ (m : Store) (t : Table) (world : World) (places : List PlaceView) (n : ℕ) (w : IsLoadable world) (size : length places ≡ length world.objects) (low : n < length world.objects)
    (laid : Laid m.words places world.objects (length world.objects)) (car cdr : Value) (body : (object_at world.objects n).body ≡ Cons car cdr) where
  module _ (filled : Filled m t world places n) where
    start : ConsFilling m t world places n car cdr
    start = cons_start m t world places n car cdr body low filled

    -- the car of a pair was known
    pub car_given : (place_at places n).cell ≡ false → is_known n car ≡ true → CarFilled m t world places n car cdr
    car_given pair known = record {
      rest = start.rest;
      filling = subst (λ (v : Value). Filling m t world places n (Cons v start.rest)) (start.first pair known) start.filling;
      known = start.second pair;
    }

    -- nothing was stored
    pub car_left : (m' : Store) (t' : Table) → t' ≡ t → StoresNothing m m' → HoldsSome m' t' world
    car_left m' t' same nothing = filling_read m t world places n (Cons start.old start.rest) start.filling low m' t' same nothing

    module _ (at : ℕ) (is : (place_at places n).word.content ≡ ListAt at) where
      pub car_inside : at < length m.words
      car_inside = head_inside m t world places n start.old start.rest start.filling low laid car cdr body at is

      pub pair_has : (place_at places n).cell ≡ false → (word_at m.words at).cdr ≡ Normal
      pair_has = pair_code m t world places n start.old start.rest start.filling low laid car cdr body at is

      pub cell_has : (place_at places n).cell ≡ true → (word_at m.words at).cdr ≡ cell_code_of cdr
      cell_has = cell_code m t world places n start.old start.rest start.filling low laid car cdr body at is

      -- the car was stored, of a pair or of a cell
      module _ (code : CdrCode) (code_is : (word_at m.words at).cdr ≡ code) (written : Parts) (written_is : written ≡ word_of places car)
          (m' : Store) (word : Parts) (word_is : word ≡ record written { cdr = code }) (stores : Stores m m' at word) where
        car_value : value_of start.filling.holds.map.role written.content ≡ Some car
        car_value = ap (λ (p : Parts). value_of start.filling.holds.map.role p.content) written_is
            ∙ word_means m t world places n (Cons start.old start.rest) start.filling size car (parts_below world w n low (Cons car cdr) body).0

        stored : Filling m' t world places n (Cons car start.rest)
        stored = car_stored m t world places n start.old start.rest start.filling low laid car cdr body at is written car car_value code code_is m' word word_is stores

        pub car_done : (place_at places n).cell ≡ false → (t' : Table) → t' ≡ t → CarFilled m' t' world places n car cdr
        car_done pair t' same = subst (λ (u : Table). CarFilled m' u world places n car cdr) (sym same) (record { rest = start.rest; filling = stored; known = start.second pair })

        pub cell_done : (place_at places n).cell ≡ true → (t' : Table) → t' ≡ t → Filled m' t' world places (n + 1)
        cell_done cell t' same = subst (λ (u : Table). Filled m' u world places (n + 1)) (sym same)
            (filled_next m' t world places n (subst (Filling m' t world places n) (ap (Cons car) (start.cell cell) ∙ sym body) stored))

        pub car_done_laid : Laid m'.words places world.objects (length world.objects)
        car_done_laid = car_laid m t world places n start.old start.rest start.filling low laid car cdr body at is written car car_value code code_is m' word word_is stores

  module _ (x : CarFilled m t world places n car cdr) where
    -- the cdr of a pair was known
    pub cdr_given : is_known n cdr ≡ true → Filled m t world places (n + 1)
    cdr_given known = filled_next m t world places n (subst (Filling m t world places n) (ap (Cons car) (x.known known) ∙ sym body) x.filling)

    -- nothing was stored
    pub cdr_left : (m' : Store) (t' : Table) → t' ≡ t → StoresNothing m m' → HoldsSome m' t' world
    cdr_left m' t' same nothing = filling_read m t world places n (Cons car x.rest) x.filling low m' t' same nothing

    module _ (written : Parts) (written_is : written ≡ word_of places cdr) (pair : (place_at places n).cell ≡ false) (at : ℕ) (is : (place_at places n).word.content ≡ ListAt at) where
      cdr_value : value_of x.filling.holds.map.role written.content ≡ Some cdr
      cdr_value = ap (λ (p : Parts). value_of x.filling.holds.map.role p.content) written_is
          ∙ word_means m t world places n (Cons car x.rest) x.filling size cdr (parts_below world w n low (Cons car cdr) body).1

      pub cdr_inside : at + 1 < length m.words
      cdr_inside = tail_inside m t world places n car x.rest x.filling low laid car cdr body at is written cdr cdr_value pair

      module _ (m' : Store) (word : Parts) (word_is : word ≡ record written { cdr = second_code (object_at world.objects n).charge }) (stores : Stores m m' (at + 1) word) where
        pub cdr_done : (t' : Table) → t' ≡ t → Filled m' t' world places (n + 1)
        cdr_done t' same = subst (λ (u : Table). Filled m' u world places (n + 1)) (sym same)
            (filled_next m' t world places n (subst (Filling m' t world places n) (sym body)
            (cdr_stored m t world places n car x.rest x.filling low laid car cdr body at is written cdr cdr_value pair m' word word_is stores)))

        pub cdr_done_laid : Laid m'.words places world.objects (length world.objects)
        cdr_done_laid = cdr_laid m t world places n car x.rest x.filling low laid car cdr body at is written cdr cdr_value pair m' word word_is stores

-- The fields of a block get stored

module _ (m : Store) (t : Table) (world : World) (places : List PlaceView) (n : ℕ) (w : IsLoadable world) (size : length places ≡ length world.objects) (low : n < length world.objects)
    (laid : Laid m.words places world.objects (length world.objects)) (fields : List Value) (i : ℕ) (x : FieldsFilled m t world places n fields i) (less : i < length fields)
    (at : ℕ) (is : (place_at places n).word.content ≡ StructAt at) where
  block : BlockStandsIn m.words places (length fields) n
  block = laid.blocks n low x.code fields x.body

  block_here : block.at ≡ at
  block_here = same_block block.at at (sym block.place_is ∙ is)
    where
      same_block : (a b : ℕ) → StructAt a ≡ StructAt b → a ≡ b
      same_block a b e = cc

  block_final : IsFinal m.words at
  block_final = subst (IsFinal m.words) block_here block.final

  block_name : names_as AsBlock (x.filling.holds.map.role at) ≡ Some n
  block_name = block_named x.filling.holds.map (place_at places n).word.content at n is (x.filling.places_are n low).names

  block_body : (object_at x.filling.objects n).body ≡ Block x.code x.so_far
  block_body = body_here m t world places n (Block x.code x.so_far) x.filling low

  field_low : i < length x.so_far
  field_low = let count = x.length_is in omega arith

  field_next : at + 1 + i ≡ suc at + i
  field_next = omega arith

  pub field_inside : at + 1 + i < length m.words
  field_inside =
      let place = final_is_place m t (loaded world x.filling.holds.map x.filling.objects) x.filling.holds.kept AsBlock at n block_name at (final_itself m.words at block_final) in
      let live = field_live m t (loaded world x.filling.holds.map x.filling.objects) x.filling.holds.kept at n block_name x.code x.so_far block_body i field_low (λ old. x.filling.holds.aims.1 _ old) in
      let inside = live-inside m x.filling.holds.kept.table x.filling.holds.kept.ground.size (subst (λ (a : ℕ). IsLiveWord t (suc a + i)) (sym place) live) in
      omega arith

  code_here : (word_at m.words (at + 1 + i)).cdr ≡ Next
  code_here = ap (λ (a : ℕ). (word_at m.words a).cdr) field_next ∙ ap (λ (a : ℕ). (word_at m.words (suc a + i)).cdr) (sym block_here) ∙ block.codes i less

  -- nothing was stored
  pub field_left : (m' : Store) (t' : Table) → t' ≡ t → StoresNothing m m' → HoldsSome m' t' world
  field_left m' t' same nothing = filling_read m t world places n (Block x.code x.so_far) x.filling low m' t' same nothing

  module _ (written : Parts) (written_is : written ≡ word_of places (get_or fields i V.Nil)) (m' : Store) (word : Parts) (word_is : word ≡ record written { cdr = Next }) (stores : Stores m m' (at + 1 + i) word) where
    field_value : value_of x.filling.holds.map.role word.content ≡ Some (get_or fields i V.Nil)
    field_value = ap (λ (p : Parts). value_of x.filling.holds.map.role p.content) word_is ∙ ap (λ (p : Parts). value_of x.filling.holds.map.role p.content) written_is
        ∙ word_means m t world places n (Block x.code x.so_far) x.filling size (get_or fields i V.Nil) ((parts_below world w n low (Block x.code fields) x.body) i V.Nil less)

    pub field_done : (t' : Table) → t' ≡ t → FieldsFilled m' t' world places n fields (i + 1)
    field_done t' same = subst (λ (u : Table). FieldsFilled m' u world places n fields (i + 1)) (sym same) (
        let st = stands_there m t (loaded world x.filling.holds.map x.filling.objects) x.filling.holds.kept AsBlock at n block_name at (final_itself m.words at block_final) block_final in
        let after = field_stored_on m m' t (loaded world x.filling.holds.map x.filling.objects) at n i x.code x.so_far (get_or fields i V.Nil) x.filling.holds.kept st block_body field_low (record {
          stored = word;
          stores = subst (λ (a : ℕ). Stores m m' a word) field_next stores;
          value_is = field_value;
          code = ap (λ (p : Parts). p.cdr) word_is ∙ sym code_here ∙ ap (λ (a : ℕ). (word_at m.words a).cdr) field_next;
        }) in
        fields_more m m' t t world places n fields i x less (field_filled m t world places n (Block x.code x.so_far) x.filling low m' x.code x.so_far i (get_or fields i V.Nil) after.kept))

    pub field_laid : Laid m'.words places world.objects (length world.objects)
    field_laid = laid_stored m m' places world.objects (length world.objects) (at + 1 + i) word field_inside stores (ap (λ (p : Parts). p.cdr) word_is ∙ sym code_here)
        (value_stays x.filling.holds.map.role word.content (get_or fields i V.Nil) field_value) laid
