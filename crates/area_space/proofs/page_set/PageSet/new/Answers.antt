use Rattle.std.proofs.Common.{◌≡◌, ◌∙◌, ◌+◌, ◌/◌, ℕ, List, ap, slice_index, replicate, rules}
use Rattle.area_space.proofs.PageSets.{no_pages, zeros}
use Rattle.area_space.proofs.page_set.PageSet.new.Goals as goal
use Rattle.area_space.specs.PageList.{PageList}

pub returns : goal.returns
returns c =
    let is : c.in_ok-lower.lower.items ≡ replicate ((c.args.pages + 63) / 64) 0 = search rules in
    let none = no_pages c.in_ok-lower.lower.items c.args.pages (λ k. ap (λ (xs : List ℕ). slice_index xs k) is ∙ zeros ((c.args.pages + 63) / 64) k) in
    ap (λ (ps : List ℕ). (let w : PageList = record { count = c.args.pages; pages = ps } in w)) none
