-- Chains and depths: no chain is shorter than the depth of its object, and one has this length.
use Rattle.std.proofs.Common.{◌≡◌, ℕ, zero, suc, ◌+◌, ◌-◌, ◌<◌, ◌≤◌, inl, inr, true, refl, sym, ◌∙◌, ap, subst, arith, List, [], ◌∷◌, ◌++◌, length, Option, Some, None, length-append}
use Rattle.lisp_graph.specs.declared.object.Object.{Object}
use Rattle.lisp_graph.specs.Graph.{Graph, body_refers, object_at, refers_in}
use Rattle.why_held.specs.declared.chain.Part.{Part}
use Rattle.why_held.specs.declared.chain.Part.TheVariants.{Root}
use Rattle.why_held.specs.declared.chain.Hop.{Hop}
use Rattle.why_held.specs.Chains.{AreDepths, HasDepth, IsChain, IsFree, IsShortest, Leads, depth_at, references}
use Rattle.why_held.specs.Search.{AreBounds, AreLevels, IsWithin}
use Rattle.why_held.proofs.References.{part_refers, refers_part, refers_which, register_refers}
use Rattle.why_held.proofs.SearchSteps.{option_cases}
use Rattle.why_held.proofs.Levels.{depth_below, same_depth, within_from, within_get}

hop_of : Part → ℕ → Hop
hop_of part to = record { part = part; to = to }

-- No chain is shorter

module _ (graph : Graph) (depths : List (Option ℕ)) (bounds : AreBounds graph depths) where
  leads_within : (hops : List Hop) (from to depth : ℕ) → depth_at depths from ≡ Some depth → Leads graph.objects from hops to → IsWithin (depth + length hops) (depth_at depths to)
  leads_within [] from to depth e leads = within_from (depth + 0) depth (depth_at depths to) (ap (depth_at depths) (sym leads) ∙ e) (omega arith)
  leads_within (hop ∷ hops) from to depth e leads =
      let r = part_refers hop.to (object_at graph.objects from).body hop.part leads.0 in
      let x = within_get (suc depth) (depth_at depths hop.to) (bounds.next from hop.to depth e r) in
      let w = leads_within hops hop.to to x.0 x.1 leads.1 in
      let y = within_get (x.0 + length hops) (depth_at depths to) w in
      within_from (depth + suc (length hops)) y.0 (depth_at depths to) y.1 (let a = x.2 in let b = y.2 in omega arith)

  pub chain_within : (hops : List Hop) (object : ℕ) → IsChain graph hops object → IsWithin (references hops) (depth_at depths object)
  chain_within [] object chain = absurd chain
  chain_within (hop ∷ hops) object chain =
      let x = within_get 0 (depth_at depths hop.to) (bounds.roots hop.to (register_refers hop.to graph.registers hop.part chain.0)) in
      let w = leads_within hops hop.to object x.0 x.1 chain.1 in
      let y = within_get (x.0 + length hops) (depth_at depths object) w in
      within_from (suc (length hops) - 1) y.0 (depth_at depths object) y.1 (let a = x.2 in let b = y.2 in omega arith)

  -- a chain as long as the depth is a shortest one
  pub shortest_at : (hops : List Hop) (object depth : ℕ) → depth_at depths object ≡ Some depth → IsChain graph hops object → references hops ≤ depth → IsShortest graph hops object
  shortest_at hops object depth e chain l = record {
    chain = chain;
    least = λ others other. (
        let x = within_get (references others) (depth_at depths object) (chain_within others object other) in
        let same = same_depth (depth_at depths object) depth x.0 e x.1 in
        let a = x.2 in omega arith);
  }

  pub free_at : (object : ℕ) → depth_at depths object ≡ None → IsFree graph object
  free_at object e hops chain = subst (IsWithin (references hops)) e (chain_within hops object chain)

-- One chain has this length

module _ (graph : Graph) (depths : List (Option ℕ)) (levels : AreLevels graph depths) where
  -- references that lead from an object of this depth are the end of a chain
  chain_ending : (depth middle object : ℕ) (hops : List Hop) → depth_at depths middle ≡ Some depth → Leads graph.objects middle hops object
      → (all : List Hop) × IsChain graph all object × (references all ≡ depth + length hops)
  unfolding hop_of
  chain_ending zero middle object hops e leads =
      let r = refers_which middle graph.registers (levels.first middle e) in
      (hop_of (Root r.0) middle ∷ hops, (r.1, leads), omega arith)
  chain_ending (suc depth) middle object hops e leads =
      let b = levels.before middle depth e in
      let p = refers_part middle (object_at graph.objects b.0).body b.2 in
      let c = chain_ending depth b.0 object (hop_of p.0 middle ∷ hops) b.1 (p.1, leads) in
      (c.0, c.1, (let q = c.2 in omega arith))

  pub levels_are_depths : AreDepths graph depths
  levels_are_depths = record {
    each = levels.each;
    right = λ object l. elim (option_cases (depth_at depths object)) [
      | inl e ↦ subst (HasDepth graph object) (sym e) (free_at graph depths levels.bounds object e)
      | inr x ↦ subst (HasDepth graph object) (sym x.1) (
          let c = chain_ending x.0 object object [] x.1 refl in
          (c.0, shortest_at graph depths levels.bounds c.0 object x.0 x.1 c.1 (let q = c.2 in omega arith), (let q = c.2 in omega arith)))
    ];
  }

-- Depths give bounds

leads_append : (objects : List Object) (hops more : List Hop) (from middle to : ℕ) → Leads objects from hops middle → Leads objects middle more to → Leads objects from (hops ++ more) to
leads_append objects [] more from middle to a b = let P : ℕ → Type 0 = λ n. Leads objects n more to in subst P (sym a) b
leads_append objects (hop ∷ hops) more from middle to a b = (a.0, leads_append objects hops more hop.to middle to a.1 b)

chain_append : (graph : Graph) (hops more : List Hop) (middle to : ℕ) → IsChain graph hops middle → Leads graph.objects middle more to → IsChain graph (hops ++ more) to
chain_append graph [] more middle to a b = absurd a
chain_append graph (hop ∷ hops) more middle to a b = (a.0, leads_append graph.objects hops more hop.to middle to a.1 b)

chain_some : (graph : Graph) (hops : List Hop) (object : ℕ) → IsChain graph hops object → 0 < length hops
chain_some graph [] object c = absurd c
chain_some graph (hop ∷ hops) object c = omega arith

depth_within : (graph : Graph) (object : ℕ) (o : Option ℕ) (hops : List Hop) (most : ℕ) → HasDepth graph object o → IsChain graph hops object → references hops ≤ most → IsWithin most o
depth_within graph object None hops most has chain l = absurd (has hops chain)
depth_within graph object (Some depth) hops most has chain l = let a = has.1.least hops chain in let b = has.2 in omega arith

depth_chain : (graph : Graph) (object depth : ℕ) (o : Option ℕ) → o ≡ Some depth → HasDepth graph object o → (hops : List Hop) × IsChain graph hops object × (references hops ≡ depth)
depth_chain graph object depth o e has = let h = subst (HasDepth graph object) e has in (h.0, h.1.chain, h.2)

module _ (graph : Graph) (depths : List (Option ℕ)) (right : AreDepths graph depths)
    (registers : (o : ℕ) → refers_in o graph.registers ≡ true → o < length graph.objects)
    (objects : (from o : ℕ) → body_refers o (object_at graph.objects from).body ≡ true → o < length graph.objects) where
  pub depths_are_bounds : AreBounds graph depths
  unfolding hop_of
  depths_are_bounds = record {
    roots = λ o e. (
        let r = refers_which o graph.registers e in
        depth_within graph o (depth_at depths o) (hop_of (Root r.0) o ∷ []) 0 (right.right o (registers o e)) (r.1, refl) (omega arith));
    next = λ from to depth e r. (
        let l = depth_below depths from depth e in
        let c = depth_chain graph from depth (depth_at depths from) e (right.right from (let q = right.each in omega arith)) in
        let p = refers_part to (object_at graph.objects from).body r in
        let longer : IsChain graph (c.0 ++ hop_of p.0 to ∷ []) to = chain_append graph c.0 (hop_of p.0 to ∷ []) from to c.1 (p.1, refl) in
        depth_within graph to (depth_at depths to) (c.0 ++ hop_of p.0 to ∷ []) (suc depth) (right.right to (objects from to r)) longer
        (let a = length-append c.0 (hop_of p.0 to ∷ []) in let b = c.2 in let s = chain_some graph c.0 from c.1 in omega arith));
  }
