use Rattle.page_map.proofs.map.relist.Goals as goal

pub push_back-requires-clause-free : goal.push_back-requires-clause-free
push_back-requires-clause-free c = c.requires.free c.in-true-false.is-0
