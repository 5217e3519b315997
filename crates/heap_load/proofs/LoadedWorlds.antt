-- A world is loaded.
use Rattle.std.proofs.Common.{◌≡◌, ℕ, zero, suc, ◌+◌, ◌<◌, ◌≤◌, refl, sym, ap, ◌∙◌, subst, arith, List, length, get_or, replicate, Option, Some, None}
use Rattle.std.proofs.lemmas.List.{ext_get_or, get_or-replicate, length-replicate}
use Rattle.store_word.specs.Words.{Parts, null_word}
use Rattle.store_word.specs.declared.word.Content.{Content}
use Rattle.store_word.specs.declared.word.Content.TheVariants.{Null, Nil as NilWord, List as ListAt, Struct as StructAt, Header, HeaderForward, GcForward, Fixnum}
use Rattle.lisp_graph.specs.declared.object.Value.{Value}
use Rattle.lisp_graph.specs.declared.object.Value.TheVariants as V
use Rattle.lisp_graph.specs.declared.object.Object.{Object}
use Rattle.lisp_graph.specs.declared.world.World.{World}
use Rattle.lisp_graph.specs.declared.object.Body.TheVariants.{Cons}
use Rattle.lisp_graph.specs.Graph.{RefersBelow, no_object, object_at}
use Rattle.mem_port.specs.Store.{Store}
use Rattle.area_space.specs.Table.{Table}
use Rattle.block_store.specs.lisp_meaning.Roles.{AsCons, AsBlock, Role, as_ref, names_as, value_of}
use Rattle.block_store.specs.obj_layout.Forwards.{word_at}
use Rattle.block_store.specs.lisp_ground.GroundInvariant.{GroundInvariant}
use Rattle.block_store.proofs.lisp_ground.words.FinalAddresses.{final_is_place}
use Rattle.cdr_lists.specs.Lists.{cell_code}
use Rattle.cdr_lists.proofs.SettledCell.{final_itself}
use Rattle.heap_load.specs.Places.{PlaceView, place_at, word_of}
use Rattle.heap_load.specs.Loading.{RepresentsGroups, RepresentsSome, RepresentsWorld, Filled, HoldsSome, IsLoadable, Laid, code_for, emptied, group_from, loaded}
use Rattle.heap_load.proofs.ConsPlaces.{cons_named}
use Rattle.heap_load.proofs.GroupSequences.{code_left, group_after, group_along, group_begins, group_cons}

-- a word whose value is nil is NIL, by any map
pub nil_always : (role other : ℕ → Role) (c : Content) → value_of role c ≡ Some V.Nil → value_of other c ≡ Some V.Nil
nil_always role other Null e = absurd (cc (e))
nil_always role other NilWord e = refl
nil_always role other (Fixnum i) e = absurd (cc (e))
nil_always role other (ListAt a) e = no_ref (names_as AsCons (role a)) e
  where
    no_ref : (o : Option ℕ) → as_ref o ≡ Some V.Nil → value_of other (ListAt a) ≡ Some V.Nil
    no_ref None is = absurd (cc (is))
    no_ref (Some n) is = absurd (cc (is))
nil_always role other (StructAt a) e = no_ref (names_as AsBlock (role a)) e
  where
    no_ref : (o : Option ℕ) → as_ref o ≡ Some V.Nil → value_of other (StructAt a) ≡ Some V.Nil
    no_ref None is = absurd (cc (is))
    no_ref (Some n) is = absurd (cc (is))
nil_always role other (Header i j) e = absurd (cc (e))
nil_always role other (HeaderForward a) e = absurd (cc (e))
nil_always role other (GcForward a) e = absurd (cc (e))

module _ (m m' : Store) (t t' : Table) (registers : List Parts) (world : World) (x : RepresentsWorld m t registers (emptied world)) where
  -- if it is refused the registers are still nil
  pub represents_left : HoldsSome m' t' world → RepresentsSome m' t' registers world
  represents_left y = record {
    objects = y.objects;
    roots = replicate world.space.registers V.Nil;
    represents = record {
      map = y.holds.map;
      represents = record {
        kept = y.holds.kept;
        count = x.represents.count;
        means = λ r low.
            let here : r < world.space.registers = (let size = length-replicate world.space.registers V.Nil in omega arith) in
            let nil = ap (λ (v : Value). Some v) (get_or-replicate world.space.registers r V.Nil V.Nil here) in
            nil_always x.map.role y.holds.map.role (get_or registers r null_word).content (x.represents.means r low ∙ nil) ∙ sym nil;
        aims = y.holds.aims;
      };
    };
  }

-- a world is some world of its space and areas
pub represents_some : (m : Store) (t : Table) (registers : List Parts) (world : World) → RepresentsWorld m t registers world → RepresentsSome m t registers world
represents_some m t registers world x = record { objects = world.objects; roots = world.roots; represents = x }

-- the word of a value has it
pub root_means : (m : Store) (t : Table) (world : World) (places : List PlaceView) (count : ℕ) (x : Filled m t world places count) (v : Value) → RefersBelow (length world.objects) v → value_of x.holds.map.role (word_of places v).content ≡ Some v
root_means m t world places count x (V.Fix i) below = refl
root_means m t world places count x V.Nil below = refl
root_means m t world places count x (V.Ref name) below = (x.places_are name below).names

-- all objects have their parts, and the registers are the roots
abbrev pub represents_loaded : (m : Store) (t : Table) (registers : List Parts) (world : World) (places : List PlaceView) → IsLoadable world → Filled m t world places (length world.objects) → length registers ≡ length world.roots
    → ((r : ℕ) → r < length world.roots → get_or registers r null_word ≡ word_of places (get_or world.roots r V.Nil)) → RepresentsWorld m t registers world
represents_loaded m t registers world places w x size roots =
    let same : x.objects ≡ world.objects = ext_get_or no_object x.objects world.objects x.count_is (λ i low. x.filled i (let count = x.count_is in omega arith)) in
    record {
      map = x.holds.map;
      represents = record {
        kept = subst (λ (objects : List Object). GroundInvariant m t (loaded world x.holds.map objects)) same x.holds.kept;
        count = size;
        means = λ r low. ap (λ (p : Parts). value_of x.holds.map.role p.content) (roots r low) ∙ root_means m t world places (length world.objects) x (get_or world.roots r V.Nil) (w.is.graph.registers r V.Nil low);
        aims = x.holds.aims;
      };
    }

-- Groups

module _ (m : Store) (t : Table) (world : World) (places : List PlaceView) (x : Filled m t world places (length world.objects)) (laid : Laid m.words places world.objects (length world.objects)) where
  -- the address of a cons is that of its name
  cons_at : (i : ℕ) (low : i < length world.objects) (car cdr : Value) (body : (object_at world.objects i).body ≡ Cons car cdr) → (laid.each i low car cdr body).at ≡ x.holds.map.at i
  cons_at i low car cdr body =
      let s = laid.each i low car cdr body in
      let named = cons_named x.holds.map (place_at places i).word.content s.at i s.place_is (x.places_are i low).names in
      final_is_place m t (loaded world x.holds.map x.objects) x.holds.kept AsCons s.at i named s.at (final_itself m.words s.at s.final)

  code_at : (i : ℕ) (low : i < length world.objects) (car cdr : Value) (body : (object_at world.objects i).body ≡ Cons car cdr) → (word_at m.words (x.holds.map.at i)).cdr ≡ code_for (group_from world.objects i)
  code_at i low car cdr body = ap (λ (a : ℕ). (word_at m.words a).cdr) (sym (cons_at i low car cdr body)) ∙ (laid.each i low car cdr body).code

  -- the next cons of a group is in the next word
  next_at : (i left : ℕ) → group_from world.objects i ≡ suc (suc left) → x.holds.map.at (suc i) ≡ suc (x.holds.map.at i)
  next_at i left group =
      let b = group_begins world.objects i (suc left) group in
      let c = group_cons world.objects i (suc left) group in
      let s = laid.each i b.inside c.0 c.1 c.2 in
      let two : 2 ≤ group_from world.objects i = subst (λ (k : ℕ). 2 ≤ k) (sym group) (omega arith) in
      let n = s.next two in
      let named = cons_named x.holds.map (place_at places (suc i)).word.content (suc s.at) (suc i) n.1 (x.places_are (suc i) n.0).names in
      let d = group_cons world.objects (suc i) left (group_after world.objects i left group) in
      let r = laid.each (suc i) n.0 d.0 d.1 d.2 in
      let there : r.at ≡ suc s.at = same_place r.at (suc s.at) (sym r.place_is ∙ n.1) in
      sym (cons_at (suc i) n.0 d.0 d.1 d.2) ∙ there ∙ ap (λ (a : ℕ). suc a) (cons_at i b.inside c.0 c.1 c.2)
    where
      same_place : (a b : ℕ) → ListAt a ≡ ListAt b → a ≡ b
      same_place a b e = cc

  module _ (number count : ℕ) (group : group_from world.objects number ≡ count) where
    behind : (i : ℕ) → i < count → x.holds.map.at (number + i) ≡ x.holds.map.at number + i
    behind zero low =
        let here : number + 0 ≡ number = omega arith in
        ap x.holds.map.at here ∙ (omega arith)
    behind (suc i) low = go (group_from world.objects (number + i)) refl (group_along world.objects number count i group (omega arith)) (behind i (omega arith))
      where
        go : (k : ℕ) → group_from world.objects (number + i) ≡ k → k + i ≡ count → x.holds.map.at (number + i) ≡ x.holds.map.at number + i → x.holds.map.at (number + suc i) ≡ x.holds.map.at number + suc i
        go zero is sum before = absurd (omega arith)
        go (suc zero) is sum before = absurd (omega arith)
        go (suc (suc left)) is sum before =
            let step : number + suc i ≡ suc (number + i) = omega arith in
            let last : suc (x.holds.map.at number + i) ≡ x.holds.map.at number + suc i = omega arith in
            ap x.holds.map.at step ∙ next_at (number + i) left is ∙ ap (λ (a : ℕ). suc a) before ∙ last

    codes : (i : ℕ) → i < count → (word_at m.words (x.holds.map.at (number + i))).cdr ≡ cell_code count i
    codes i low = go (group_from world.objects (number + i)) refl (group_along world.objects number count i group low)
      where
        go : (k : ℕ) → group_from world.objects (number + i) ≡ k → k + i ≡ count → (word_at m.words (x.holds.map.at (number + i))).cdr ≡ cell_code count i
        go zero is sum = absurd (omega arith)
        go (suc left) is sum =
            let b = group_begins world.objects (number + i) left is in
            let c = group_cons world.objects (number + i) left is in
            code_at (number + i) b.inside c.0 c.1 c.2 ∙ ap code_for is ∙ sym (code_left count i (suc left) sum low)

  pub groups_loaded : (registers : List Parts) (w : IsLoadable world) (size : length registers ≡ length world.roots) (roots : (r : ℕ) → r < length world.roots → get_or registers r null_word ≡ word_of places (get_or world.roots r V.Nil))
      → RepresentsGroups m t registers world
  groups_loaded registers w size roots = record {
    represents = represents_loaded m t registers world places w x size roots;
    grouped = record {
      cells = λ number. record { behind = behind number (group_from world.objects number) refl; codes = codes number (group_from world.objects number) refl };
      pairs = λ number car cdr low body none. code_at number low car cdr body ∙ ap code_for none;
    };
  }
