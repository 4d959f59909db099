use Rattle.gf_causal.specs.HeldOperations.{AreHeld}
use Rattle.std.proofs.Common.{◌≢◌, ◌≤◌, rules, arith}
use Rattle.gf_ops.proofs.HistoryLemmas.{site_in_range}
use Rattle.gf_causal.proofs.ReadyLemmas.{least_ready}
use Rattle.gf_causal.proofs.buffer.Buffer.first_ready.Goals as goal

pub loop-site-init : goal.loop-site-init
loop-site-init c = λ a h r.
    let held : AreHeld c.args.self.now = rw (← c.self.view_is) c.self.invariant.held in
    (site_in_range a (held.in_range a h)).0

pub returns-in-Some-clause-found : goal.returns-in-Some-clause-found
returns-in-Some-clause-found c =
    let f = c.in-Some.ensures.found in
    record {
      contained = f.0;
      ready = f.1;
      least = λ b h r. let i = c.loop-site.invariant b h r in let s = f.2 in
          least_ready _ c.in-Some.op.now b f.1 r (omega arith);
    }

pub loop-site-preserved : goal.loop-site-preserved
loop-site-preserved c = λ a h r.
    let i = c.loop-site.invariant a h r in
    let n : a.id.site ≢ c.loop-site.site = λ e. c.in_default.ensures.none a h e r in omega arith

pub returns-clause-none : goal.returns-clause-none
returns-clause-none c = λ a h r.
    let i = c.loop-site.invariant a h r in
    let held : AreHeld c.args.self.now = rw (← c.self.view_is) c.self.invariant.held in
    let w = (site_in_range a (held.in_range a h)).1 in
    let t : 9 ≤ c.loop-site.site = search rules in absurd (omega arith)

pub returns-in-Some-clause-in_range : goal.returns-in-Some-clause-in_range
returns-in-Some-clause-in_range c =
    let held : AreHeld c.args.self.now = rw (← c.self.view_is) c.self.invariant.held in
    held.in_range c.in-Some.op.now c.in-Some.ensures.found.0
