use Rattle.std.proofs.Common.{◌≡◌, ◌<◌, inl, inr, sym, ◌∙◌, ap, arith, Bool}
use Rattle.std.proofs.lemmas.Bool.{cases_lt, ne_eqb}
use Rattle.area_space.specs.index_lists.Chains.{first_of}
use Rattle.area_space.specs.PageList.{PageList}
use Rattle.scavenger.specs.Scan.{Scan}
use Rattle.scavenger.specs.Left.{is_none, next_of}
use Rattle.scavenger.proofs.ScanEnd.{over-by-set}
use Rattle.scavenger.proofs.NextUnits.{opened, register-some}
use Rattle.scavenger.proofs.scan_set.ScanSet.close.Goals as goal
use Rattle.scavenger.proofs.scan_set.ScanSet.close.Goals.{then-self, else-self}

pub returns : goal.returns
returns c =
    let s = c.args.self.now in
    let t = c.args.table.now in
    let scanned = ap (λ (x : Scan). x.scanned) c.self.view_is in
    let registers = ap (λ (x : Scan). x.registers) c.self.view_is in
    let within = c.self.invariant.within in
    let over : c.if-self.self ≡ is_none (next_of (opened s) t) = elim c.if-self.branch [
      | then-self w ↦
          let done = w.if-self.true in
          w.self-is ∙ over-by-set s t w.scan_pages.ensures.sound.used_size c.requires w.lowest.result (w.lowest.ensures ∙ ap (λ (l : PageList). first_of l.pages) w.scan_pages.ensures.value)
          (omega arith) w.is_none-self-inside.result w.is_none-self-inside.ensures
      | else-self w ↦
          let low : s.scanned < s.registers = elim (cases_lt s.scanned s.registers) [ inl l ↦ l | inr h ↦ absurd (w.if-self.false (omega arith)) ] in
          w.self-is ∙ ne_eqb c.self.inside.scanned c.self.inside.registers w.if-self.false ∙ sym (register-some s t low)
    ] in
    ap (λ (x : Scan). (let r : Scan = record x { over = c.if-self.self } in r)) c.self.view_is
    ∙ ap (λ (b : Bool). (let r : Scan = record s { over = b } in r)) over
