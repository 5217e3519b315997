use Rattle.std.proofs.Common.{◌≡◌, ℕ, ◌+◌, ◌++◌, [], ◌∷◌, length, ap, arith, rules, length-append}
use Rattle.world_text.specs.writing.NumberTable.{HasNumbers}
use Rattle.world_text.proofs.writing_laws.Entries.{numbers_added, numbers_same}
use Rattle.world_text.proofs.writing.numbering.KeyNumbers.add.Goals as goal

pub invariant_of-self-2 : goal.invariant_of-self-2
invariant_of-self-2 c =
    let old = c.self.inside.keys.items in
    let room = c.make_room.new.pages.items in
    let count : c.len-number.result ≡ length old = search rules in
    let keys : c.push.new.self.items ≡ old ++ c.args.key ∷ [] = c.in_ok-push.ensures.items in
    let fresh = rw (← c.self.view_is) at c.requires in
    let has : HasNumbers room old = numbers_same c.self.inside.pages.items room old c.self.invariant.1 c.make_room.ensures.unchanged in
    rw keys (
      omega (arith, length-append old (c.args.key ∷ []), count, c.if-number.false),
      numbers_added room c.set_entry.new.pages.items old c.args.key (c.len-number.result + 1) has fresh (ap (λ (n : ℕ). n + 1) count) c.set_entry.ensures,
    )
