use Rattle.gf_causal.specs.HeldOperations.{AreHeld}
use Rattle.std.proofs.Common.{rules}
use Rattle.gf_causal.proofs.HeldLemmas.{one_held}
use Rattle.gf_causal.proofs.ReadyLemmas.{none_ready, site_found, ready_found, not_ready_found}
use Rattle.gf_causal.proofs.buffer.Buffer.ready_of.Goals as goal

pub returns-in-None-clause-none : goal.returns-in-None-clause-none
returns-in-None-clause-none c =
    let held : AreHeld c.args.self.now = rw (← c.self.view_is) c.self.invariant.held in
    none_ready _ _ held c.args.site c.saturating_add-seq.result (search rules)
    c.in-None.ensures.none

pub returns-then-knows_no_more-clause-found : goal.returns-then-knows_no_more-clause-found
returns-then-knows_no_more-clause-found c =
    let held : AreHeld c.args.self.now = rw (← c.self.view_is) c.self.invariant.held in
    let f = c.in-Some.ensures.found in (
      f.0,
      ready_found _ _ held c.args.site c.saturating_add-seq.result (search rules) c.in-Some.op.now
          f.0 f.1 (c.knows_no_more.ensures.0 c.if-knows_no_more.true),
      site_found _ c.args.history.now.ops held c.args.site c.saturating_add-seq.result
          (search rules) c.in-Some.op.now f.0 f.1,
    )

pub returns-else-knows_no_more-clause-none : goal.returns-else-knows_no_more-clause-none
returns-else-knows_no_more-clause-none c =
    let held : AreHeld c.args.self.now = rw (← c.self.view_is) c.self.invariant.held in
    let f = c.in-Some.ensures.found in
    not_ready_found _ _ held c.args.site c.saturating_add-seq.result (search rules) c.in-Some.op.now
    f.0 f.1
    (rw (← c.self.view_is) (one_held _ c.self.invariant))
    (λ k. let t = c.knows_no_more.ensures.1 k in let n = c.if-knows_no_more.false in absurd cc)
