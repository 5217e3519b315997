use Rattle.std.proofs.Common.{List, ◌∙◌, ap, ◌++◌, ◌∷◌, []}
use Rattle.lisp_graph.specs.declared.object.Object.{Object}
use Rattle.lisp_graph.proofs.NumberedMaps.{insert-numbered}
use Rattle.lisp_graph.proofs.object_map.ObjectMap.push.Goals as goal

pub invariant_of-self-2 : goal.invariant_of-self-2
invariant_of-self-2 c = (insert-numbered _ _ _ _ c.self.invariant c.len-name.ensures.len c.in_ok-insert.ensures.entries).0

pub returns-clause-ok : goal.returns-clause-ok
returns-clause-ok c =
    (insert-numbered _ _ _ _ c.self.invariant c.len-name.ensures.len c.in_ok-insert.ensures.entries).1
    ∙ ap (λ (xs : List Object). xs ++ c.args.object ∷ []) c.self.view_is
