use Rattle.std.proofs.Common.{rules}
use Rattle.gf_maximal.proofs.UnitedLemmas.{none_told}
use Rattle.gf_maximal.proofs.numbers.Numbers.is_empty.Goals as goal

pub returns : goal.returns
returns c =
    let t = none_told c.self.inside.runs.items c.args.self.now c.self.invariant c.self.view_is in
    (λ h. t.0 (search rules), λ h. let e = t.1 h in search rules)
