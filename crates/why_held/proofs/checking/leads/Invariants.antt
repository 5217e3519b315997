use Rattle.std.proofs.Common.{◌↔◌, drop}
use Rattle.why_held.specs.Chains.{Leads}
use Rattle.why_held.proofs.checking.leads.Given as goal

abbrev pub invariant-loop-hop : goal.invariant-loop-hop
invariant-loop-hop l = Leads l.objects l.from l.hops l.to ↔ Leads l.objects l.at (drop l.hop-index l.hops) l.to
