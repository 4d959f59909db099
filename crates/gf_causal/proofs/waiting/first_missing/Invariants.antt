use Rattle.std.proofs.Common.{◌≡◌, drop}
use Rattle.gf_causal.specs.Waiting.{first_missing}
use Rattle.gf_causal.proofs.waiting.first_missing.Given as goal

abbrev pub invariant-loop-site : goal.invariant-loop-site
invariant-loop-site l =
    first_missing l.history.ops l.op (drop l.site-index l.sites)
    ≡ first_missing l.history.ops l.op l.sites
