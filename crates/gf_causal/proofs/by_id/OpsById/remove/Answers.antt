use Rattle.std.proofs.Common.{◌<◌, length, subst}
use Rattle.gf_causal.proofs.BoxLemmas.{some_rising}
use Rattle.gf_causal.proofs.by_id.OpsById.remove.Goals as goal

pub returns-then-not-is_under-clause-rising : goal.returns-then-not-is_under-clause-rising
returns-then-not-is_under-clause-rising c =
    let l = subst (λ ops. 0 < length ops) c.deref.ensures.value c.in-Some.ensures.item.3.0 in
    rw (← c.self.view_is) (some_rising c.self.inside.alone.items c.self.inside.many l)
