use Rattle.std.proofs.Common.{◌≡◌, ◌≢◌, ◌<◌, ◌^◌, ◌∙◌, slice_index, sym, arith}
use Rattle.std.specs.Int.{trailing_zeros, w64}
use Rattle.std.proofs.lemmas.List.{get_or_default}
use Rattle.std.proofs.lemmas.Nat.Bits.{bit_at-trailing_zeros}
use Rattle.area_space.proofs.BitLaws.{word_in}
use Rattle.area_space.proofs.PageSets.{first_page, no_first}
use Rattle.area_space.proofs.page_set.PageSet.lowest.Goals as goal

pub returns-in-Some : goal.returns-in-Some
returns-in-Some c =
    let bits = c.self.inside.lower.items in
    let words = c.self.inside.upper.items in
    let p = c.self.invariant in
    let word = c.in-Some.word in
    let some = rw c.deref.ensures.value at c.in-Some.ensures.some in
    let least = rw c.deref.ensures.value at c.in-Some.ensures.lowest in
    let ne : slice_index bits word ≢ 0 = (p.exact word).0 some.0 in
    let low = word_in bits word ne in
    let e : c.index-bits.result.now ≡ slice_index bits word = c.index-bits.ensures ∙ get_or_default bits word c.index-bits.result.now 0 low in
    let fits : slice_index bits word < 2 ^ 64 = omega arith in
    let z = bit_at-trailing_zeros w64 (slice_index bits word) (omega arith) fits in
    rw (← c.self.view_is, e) (sym (first_page bits words c.self.inside.count word (trailing_zeros w64 (slice_index bits word)) p some.0 least z.0 z.1 z.2))

pub returns-in-None : goal.returns-in-None
returns-in-None c =
    let none = rw c.deref.ensures.value at c.in-None.ensures.none in
    rw (← c.self.view_is) (sym (no_first c.self.inside.lower.items c.self.inside.upper.items c.self.inside.count c.self.invariant none))
