use Rattle.gf_ops.proofs.SiteWalkLemmas.{IsWalked}
use Rattle.gf_ops.proofs.history.History.are_parted.Given as goal

abbrev pub invariant-loop-id : goal.invariant-loop-id
invariant-loop-id l = IsWalked l.self.ops l.ids l.site l.other l.id-index l.noted l.table
