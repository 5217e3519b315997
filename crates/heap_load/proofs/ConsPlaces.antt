-- Conses stay in their places while more are made, and while parts are stored.
use Rattle.std.proofs.Common.{◌≡◌, ℕ, suc, ◌+◌, ◌-◌, ◌*◌, ◌<◌, ◌≤◌, ◌⊎◌, inl, inr, refl, sym, ap, ◌∙◌, subst, arith, List, length, zero, Option, Some, None, length-set}
use Rattle.std.specs.Prelude.{slice_set}
use Rattle.std.proofs.lemmas.Bool.{cases_eq, cases_lt}
use Rattle.std.proofs.lemmas.List.{get_or_past, get_or-set_same, get_or-set_other}
use Rattle.store_word.specs.Words.{Parts, null_word}
use Rattle.store_word.specs.declared.word.Content.{Content}
use Rattle.store_word.specs.declared.word.Content.TheVariants.{Null, Nil as NilWord, List as ListAt, Struct as StructAt, Header, HeaderForward, GcForward, Fixnum}
use Rattle.lisp_graph.specs.declared.object.Value.{Value}
use Rattle.lisp_graph.specs.declared.object.Value.TheVariants as V
use Rattle.lisp_graph.specs.declared.object.Body.TheVariants.{Cons, Block}
use Rattle.lisp_graph.specs.declared.object.Object.{Object}
use Rattle.lisp_graph.specs.declared.world.World.{World}
use Rattle.lisp_graph.specs.Graph.{object_at}
use Rattle.mem_port.specs.Store.{Store, Stores}
use Rattle.area_space.specs.Sound.{IsTable}
use Rattle.area_space.specs.Table.{Table}
use Rattle.block_store.specs.obj_layout.Forwards.{word_at, IsFinal, forward_of}
use Rattle.block_store.specs.lisp_meaning.Roles.{AsBlock, AsCons, RoleMap, Role, as_ref, names_as, owner, value_of}
use Rattle.block_store.proofs.lisp_ground.words.FinalAddresses.{final_is_place}
use Rattle.block_store.specs.transporter.LiveWordsUnchanged.{IsLiveWord, LiveWordsUnchanged}
use Rattle.block_store.proofs.transporter.LiveObjects.{still-live}
use Rattle.block_store.proofs.transporter.FetchedWords.{live-inside}
use Rattle.cdr_lists.specs.Lists.{cell_code}
use Rattle.cdr_lists.specs.Pairs.{first_word}
use Rattle.cdr_lists.proofs.LiveParts.{first_live}
use Rattle.cdr_lists.proofs.SettledCell.{final_itself}
use Rattle.block_store.specs.Making.{block_word}
use Rattle.block_store.proofs.BlockReferences.{head_role}
use Rattle.block_store.proofs.LiveFields.{field_live, live_word}
use Rattle.heap_load.specs.Places.{PlaceView, block_place, cell_place, pair_place, place_at}
use Rattle.heap_load.specs.Loading.{BlockStandsIn, Drafted, Laid, StandsIn, code_for, group_from, loaded}
use Rattle.heap_load.specs.Drafts.{header_of}
use Rattle.heap_load.proofs.ObjectParts.{draft_block}
use Rattle.heap_load.proofs.GroupSequences.{code_left, group_along, group_cons}

-- Words

-- a word that is neither a forward nor NULL is in the memory
word_final : (words : List Parts) (at : ℕ) (w : Parts) → word_at words at ≡ w → forward_of w.content ≡ None → (w.content ≡ Null → ⊥) → IsFinal words at
word_final words at w is no_forward some = record { inside = go (cases_lt at (length words)); no_forward = ap (λ (p : Parts). forward_of p.content) is ∙ no_forward }
  where
    go : (at < length words) ⊎ (length words ≤ at) → at < length words
    go (inl low) = low
    go (inr past) =
        let e : word_at words at ≡ null_word = get_or_past words at null_word past in
        absurd (some (sym (ap (λ (p : Parts). p.content) is) ∙ ap (λ (p : Parts). p.content) e))

-- a word of nil
nil_final : (words : List Parts) (at : ℕ) (w : Parts) → word_at words at ≡ w → w.content ≡ NilWord → IsFinal words at
nil_final words at w is nil = word_final words at w is (ap forward_of nil) (λ null. let both : Null ≡ NilWord = sym null ∙ nil in absurd (cc (both)))

-- a header
header_final : (words : List Parts) (at code count : ℕ) → word_at words at ≡ block_word code count 0 → IsFinal words at
header_final words at code count is = word_final words at (block_word code count 0) is refl (λ null. absurd (cc (null)))

-- a content with a value isn't a forward
pub value_stays : (role : ℕ → Role) (c : Content) (v : Value) → value_of role c ≡ Some v → forward_of c ≡ None
value_stays role Null v e = refl
value_stays role NilWord v e = refl
value_stays role (Fixnum i) v e = refl
value_stays role (ListAt a) v e = refl
value_stays role (StructAt a) v e = refl
value_stays role (Header i j) v e = refl
value_stays role (HeaderForward a) v e = absurd (cc (e))
value_stays role (GcForward a) v e = absurd (cc (e))

-- a word with a value
value_final : (words : List Parts) (at : ℕ) (w : Parts) (role : ℕ → Role) (v : Value) → word_at words at ≡ w → value_of role w.content ≡ Some v → IsFinal words at
value_final words at w role v is value = word_final words at w is (value_stays role w.content v value) (λ null. let none : None ≡ Some v = sym (ap (value_of role) null) ∙ value in absurd (cc (none)))

-- the name in a reference
name_in : (o : Option ℕ) (n : ℕ) → as_ref o ≡ Some (V.Ref n) → o ≡ Some n
name_in None n e = absurd (cc (e))
name_in (Some k) n e = let same : k ≡ n = cc (e) in ap (λ (j : ℕ). Some j) same

pub cons_named : (k : RoleMap) (content : Content) (at n : ℕ) → content ≡ ListAt at → value_of k.role content ≡ Some (V.Ref n) → names_as AsCons (k.role at) ≡ Some n
cons_named k content at n is e = name_in (names_as AsCons (k.role at)) n (sym (ap (value_of k.role) is) ∙ e)

pub block_named : (k : RoleMap) (content : Content) (at n : ℕ) → content ≡ StructAt at → value_of k.role content ≡ Some (V.Ref n) → names_as AsBlock (k.role at) ≡ Some n
block_named k content at n is e = name_in (names_as AsBlock (k.role at)) n (sym (ap (value_of k.role) is) ∙ e)

-- More objects are made

module _ (m m' : Store) (t t' : Table) (world : World) (places places' : List PlaceView) (n : ℕ) (x : Drafted m t world places n) (laid : Laid m.words places world.objects n)
    (same : LiveWordsUnchanged m t m' t') (table : IsTable t') (size : length m'.words ≡ 4096 * t'.regions) (before : (i : ℕ) → i < n → place_at places' i ≡ place_at places i) where
  laid_before : (more : ℕ) (i : ℕ) → i < n → (car cdr : Value) → (object_at world.objects i).body ≡ Cons car cdr → StandsIn m'.words places' world.objects (n + more) i
  laid_before more i low car cdr body =
      let s = laid.each i low car cdr body in
      let named = cons_named x.holds.map (place_at places i).word.content s.at i s.place_is (x.places_are i low).names in
      let live = first_live m t (loaded world x.holds.map x.objects) x.holds.kept s.at i named (λ old. x.holds.aims.1 _ old) s.at (final_itself m.words s.at s.final) in
      let word = same.words s.at live in
      record {
        at = s.at;
        place_is = ap (λ (p : PlaceView). p.word.content) (before i low) ∙ s.place_is;
        final = record { inside = live-inside m' table size (still-live same.table live); no_forward = ap (λ (p : Parts). forward_of p.content) word ∙ s.final.no_forward };
        code = ap (λ (p : Parts). p.cdr) word ∙ s.code;
        next = λ two. (let more_of = s.next two in (omega (arith, more_of.0), ap (λ (p : PlaceView). p.word.content) (before (suc i) more_of.0) ∙ more_of.1));
        alone = λ is. s.alone (ap (λ (p : PlaceView). p.cell) (sym (before i low)) ∙ is);
        together = λ is. s.together (ap (λ (p : PlaceView). p.cell) (sym (before i low)) ∙ is);
      }

  block_before : (i : ℕ) → i < n → (code : ℕ) (fields : List Value) → (object_at world.objects i).body ≡ Block code fields → BlockStandsIn m'.words places' (length fields) i
  block_before i low code fields body =
      let s = laid.blocks i low code fields body in
      let map = x.holds.map in
      let kept = x.holds.kept in
      let named = block_named map (place_at places i).word.content s.at i s.place_is (x.places_are i low).names in
      let place : s.at ≡ map.at i = final_is_place m t (loaded world map x.objects) kept AsBlock s.at i named s.at (final_itself m.words s.at s.final) in
      let b = draft_block (object_at x.objects i).body code (length fields) (sym ((x.drafts i low).header ∙ ap header_of body)) in
      let head = live_word m t (loaded world map x.objects) kept s.at i (ap (λ (a : ℕ). owner (map.role a)) place ∙ ap owner (head_role m t (loaded world map x.objects) kept s.at i named)) (λ old. x.holds.aims.1 _ old) in
      let word = same.words s.at head in
      record {
        at = s.at;
        place_is = ap (λ (p : PlaceView). p.word.content) (before i low) ∙ s.place_is;
        final = record { inside = live-inside m' table size (still-live same.table head); no_forward = ap (λ (p : Parts). forward_of p.content) word ∙ s.final.no_forward };
        codes = λ j less. (
            let live = field_live m t (loaded world map x.objects) kept s.at i named code b.0 b.2 j (let count = b.1 in omega arith) (λ old. x.holds.aims.1 _ old) in
            ap (λ (p : Parts). p.cdr) (same.words (suc s.at + j) (subst (λ (a : ℕ). IsLiveWord t (suc a + j)) (sym place) live)) ∙ s.codes j less
            );
      }

  -- one object alone
  laid_one : ((car cdr : Value) → (object_at world.objects n).body ≡ Cons car cdr → StandsIn m'.words places' world.objects (n + 1) n)
      → ((code : ℕ) (fields : List Value) → (object_at world.objects n).body ≡ Block code fields → BlockStandsIn m'.words places' (length fields) n) → Laid m'.words places' world.objects (n + 1)
  laid_one here block = record {
    blocks = λ i low code fields body. elim (cases_eq i n) [
      | inl e ↦ subst (λ (k : ℕ). BlockStandsIn m'.words places' (length fields) k) (sym e) (block code fields (ap (λ (k : ℕ). (object_at world.objects k).body) (sym e) ∙ body))
      | inr ne ↦ block_before i (omega arith) code fields body
    ];
    each = λ i low car cdr body. elim (cases_eq i n) [
      | inl e ↦ subst (λ (k : ℕ). StandsIn m'.words places' world.objects (n + 1) k) (sym e) (here car cdr (ap (λ (k : ℕ). (object_at world.objects k).body) (sym e) ∙ body))
      | inr ne ↦ laid_before 1 i (omega arith) car cdr body
    ];
  }

  -- a block
  pub laid_block : (code : ℕ) (fields : List Value) → (object_at world.objects n).body ≡ Block code fields → (at : ℕ) → place_at places' n ≡ block_place at
      → ((i : ℕ) → i < length fields + 1 → word_at m'.words (at + i) ≡ block_word code (length fields) i) → Laid m'.words places' world.objects (n + 1)
  laid_block code fields body at place words = laid_one (λ car cdr is. (let both = sym is ∙ body in absurd (cc (both)))) (λ other rest is. stands rest (same_fields other rest (sym body ∙ is)))
    where
      same_fields : (other : ℕ) (rest : List Value) → Block code fields ≡ Block other rest → fields ≡ rest
      same_fields other rest e = cc

      stands : (rest : List Value) → fields ≡ rest → BlockStandsIn m'.words places' (length rest) n
      stands rest e = subst (λ (l : List Value). BlockStandsIn m'.words places' (length l) n) e (record {
        at = at;
        place_is = ap (λ (p : PlaceView). p.word.content) place;
        final = (let first : at + 0 ≡ at = omega arith in header_final m'.words at code (length fields) (ap (word_at m'.words) (sym first) ∙ words 0 (omega arith)));
        codes = λ i low. (let next : suc at + i ≡ at + suc i = omega arith in ap (λ (a : ℕ). (word_at m'.words a).cdr) next ∙ ap (λ (p : Parts). p.cdr) (words (suc i) (omega arith)));
      })

  -- a pair
  pub laid_pair : (first_part second_part : Value) → (object_at world.objects n).body ≡ Cons first_part second_part → (at : ℕ) (car : Parts) (value : Value) → value_of x.holds.map.role car.content ≡ Some value → word_at m'.words at ≡ first_word car → place_at places' n ≡ pair_place at → group_from world.objects n ≡ 0
      → Laid m'.words places' world.objects (n + 1)
  laid_pair first_part second_part body at car value means first place alone = laid_one (λ one two is. record {
    at = at;
    place_is = ap (λ (p : PlaceView). p.word.content) place;
    final = value_final m'.words at (first_word car) x.holds.map.role value first means;
    code = ap (λ (p : Parts). p.cdr) first ∙ sym (ap code_for alone);
    next = λ two. absurd (let none = alone in omega (arith, two, none));
    alone = λ cell. alone;
    together = λ cell. (let both = sym (ap (λ (p : PlaceView). p.cell) place) ∙ cell in absurd (cc (both)));
  }) (λ code fields is. (let both = sym is ∙ body in absurd (cc (both))))

  -- the conses of a group
  module _ (count at : ℕ) (group : group_from world.objects n ≡ count) (cells : (i : ℕ) → i < count → place_at places' (n + i) ≡ cell_place (at + i))
      (words : (i : ℕ) → i < count → word_at m'.words (at + i) ≡ record { cdr = cell_code count i; content = NilWord }) where
    laid_cell : (i : ℕ) → i < count → StandsIn m'.words places' world.objects (n + count) (n + i)
    laid_cell i low =
        let left = group_along world.objects n count i group low in
        record {
          at = at + i;
          place_is = ap (λ (p : PlaceView). p.word.content) (cells i low);
          final = nil_final m'.words (at + i) (record { cdr = cell_code count i; content = NilWord }) (words i low) refl;
          code = ap (λ (p : Parts). p.cdr) (words i low) ∙ code_left count i (group_from world.objects (n + i)) left low;
          next = λ two. (let more : suc i < count = further (group_from world.objects (n + i)) left two in
              let step : suc (n + i) ≡ n + suc i = omega arith in
              let there : at + suc i ≡ suc (at + i) = omega arith in
              (omega arith, ap (λ (k : ℕ). (place_at places' k).word.content) step ∙ ap (λ (p : PlaceView). p.word.content) (cells (suc i) more) ∙ ap (λ (a : ℕ). ListAt a) there));
          alone = λ is. (let both = sym (ap (λ (p : PlaceView). p.cell) (cells i low)) ∙ is in absurd (cc (both)));
          together = λ is. some (group_from world.objects (n + i)) left;
        }
      where
        further : (g : ℕ) → g + i ≡ count → 2 ≤ g → suc i < count
        further g sum two = omega arith

        some : (g : ℕ) → g + i ≡ count → 1 ≤ g
        some g sum = omega arith

    -- none of them is a block
    no_block : (i : ℕ) → i < count → (code : ℕ) (fields : List Value) → (object_at world.objects (n + i)).body ≡ Block code fields → ⊥
    no_block i low code fields body = go (group_from world.objects (n + i)) refl (group_along world.objects n count i group low)
      where
        go : (g : ℕ) → group_from world.objects (n + i) ≡ g → g + i ≡ count → ⊥
        go zero is sum = absurd (omega arith)
        go (suc g) is sum =
            let c = group_cons world.objects (n + i) g is in
            let both = sym c.2 ∙ body in
            absurd (cc (both))

    pub laid_group : Laid m'.words places' world.objects (n + count)
    laid_group = record {
      blocks = λ i low code fields body. elim (cases_lt i n) [
        | inl l ↦ block_before i l code fields body
        | inr r ↦ (let e : n + (i - n) ≡ i = omega arith in absurd (no_block (i - n) (omega arith) code fields (ap (λ (k : ℕ). (object_at world.objects k).body) e ∙ body)))
      ];
      each = λ i low car cdr body. elim (cases_lt i n) [
        | inl l ↦ laid_before count i l car cdr body
        | inr r ↦ (let e : n + (i - n) ≡ i = omega arith in subst (λ (k : ℕ). StandsIn m'.words places' world.objects (n + count) k) e (laid_cell (i - n) (omega arith)))
      ];
    }

-- Parts are stored

-- a word was stored, with the cdr code that was there, and it isn't a forward
pub laid_stored : (m m' : Store) (places : List PlaceView) (objects : List Object) (n x : ℕ) (w : Parts) → x < length m.words → Stores m m' x w → w.cdr ≡ (word_at m.words x).cdr → forward_of w.content ≡ None → Laid m.words places objects n → Laid m'.words places objects n
laid_stored m m' places objects n x w x_inside stores code no_forward laid = record { each = again; blocks = block_again }
  where
    here : (a : ℕ) → a ≡ x → word_at m'.words a ≡ w
    here a e = ap (λ (ws : List Parts). word_at ws a) stores.words ∙ ap (λ (b : ℕ). word_at (slice_set m.words x w) b) e ∙ get_or-set_same m.words x w null_word x_inside

    there : (a : ℕ) → (a ≡ x → ⊥) → word_at m'.words a ≡ word_at m.words a
    there a ne = ap (λ (ws : List Parts). word_at ws a) stores.words ∙ get_or-set_other m.words x a w null_word ne

    final_again : (a : ℕ) → IsFinal m.words a → IsFinal m'.words a
    final_again a final = record {
      inside = (let inside = final.inside in let size = ap (λ (ws : List Parts). length ws) stores.words ∙ length-set m.words x w in omega arith);
      no_forward = elim (cases_eq a x) [
        | inl e ↦ ap (λ (p : Parts). forward_of p.content) (here a e) ∙ no_forward
        | inr ne ↦ ap (λ (p : Parts). forward_of p.content) (there a ne) ∙ final.no_forward
      ];
    }

    code_again : (a : ℕ) → (word_at m'.words a).cdr ≡ (word_at m.words a).cdr
    code_again a = elim (cases_eq a x) [
      | inl e ↦ ap (λ (p : Parts). p.cdr) (here a e) ∙ code ∙ ap (λ (b : ℕ). (word_at m.words b).cdr) (sym e)
      | inr ne ↦ ap (λ (p : Parts). p.cdr) (there a ne)
    ]

    again : (i : ℕ) → i < n → (car cdr : Value) → (object_at objects i).body ≡ Cons car cdr → StandsIn m'.words places objects n i
    again i low car cdr body =
        let s = laid.each i low car cdr body in
        record { at = s.at; place_is = s.place_is; final = final_again s.at s.final; code = code_again s.at ∙ s.code; next = s.next; alone = s.alone; together = s.together }

    block_again : (i : ℕ) → i < n → (code : ℕ) (fields : List Value) → (object_at objects i).body ≡ Block code fields → BlockStandsIn m'.words places (length fields) i
    block_again i low code fields body =
        let s = laid.blocks i low code fields body in
        record { at = s.at; place_is = s.place_is; final = final_again s.at s.final; codes = λ j less. code_again (suc s.at + j) ∙ s.codes j less }
