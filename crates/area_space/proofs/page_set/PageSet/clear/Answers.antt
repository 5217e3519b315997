use Rattle.std.proofs.Common.{◌≡◌, ℕ, List, length, ap, arith}
use Rattle.std.proofs.lemmas.List.{with_items_is}
use Rattle.area_space.proofs.PageSets.{no_pages}
use Rattle.area_space.proofs.page_set.PageSet.clear.Goals as goal
use Rattle.area_space.specs.PageList.{PageList}

pub returns : goal.returns
returns c =
    let sb : length c.clear_words.new.words ≡ c.self.inside.lower.len = (let s = c.clear_words.ensures.size in let l = c.deref_mut.ensures.len in omega arith) in
    let none = no_pages c.clear_words.new.words c.self.inside.count c.clear_words.ensures.cleared in
    rw (← c.self.view_is, with_items_is c.self.inside.lower c.clear_words.new.words sb)
    (ap (λ (ps : List ℕ). (let w : PageList = record { count = c.self.inside.count; pages = ps } in w)) none)
