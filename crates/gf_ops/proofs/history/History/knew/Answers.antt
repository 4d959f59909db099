use Rattle.std.proofs.Common.{rules, ◌≡◌}
use Rattle.gf_ops.proofs.AimLemmas.{never}
use Rattle.gf_ops.proofs.AimWalkLemmas.{knew_told}
use Rattle.gf_ops.proofs.history.History.knew.Goals as goal

pub returns-in-Some : goal.returns-in-Some
returns-in-Some c =
    let site : c.args.by.site ≡ c.args.site = search rules in
    let found = c.in-Some.ensures.found in
    knew_told c.args.self.now.ops c.recall_valid.ensures c.in-Some.op.now found.0 c.args.by found.1
    c.args.site site c.args.id c.from.result c.from.ensures

pub returns-in-None : goal.returns-in-None
returns-in-None c = never (λ k. c.in-None.ensures.none k.op k.contained k.id)
