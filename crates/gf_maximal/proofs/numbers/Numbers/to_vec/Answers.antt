use Rattle.std.proofs.Common.{◌≡◌, ℕ, Vec, Global, ap, subst, sym, ◌∙◌}
use Rattle.std.proofs.lemmas.Result.{IfOk-weaker}
use Rattle.gf_maximal.specs.Runs.{members}
use Rattle.gf_maximal.specs.LargestSets.{IsRising}
use Rattle.gf_maximal.proofs.RunSetLemmas.{members_rise}
use Rattle.gf_maximal.proofs.numbers.Numbers.to_vec.Goals as goal

pub returns-clause-rising : goal.returns-clause-rising
returns-clause-rising c =
    let rises = members_rise c.self.inside.runs.items c.self.invariant in
    IfOk-weaker c.numbers_in.result (λ (found : Vec ℕ Global). found.items ≡ members
    c.deref.result.now) (λ (found : Vec ℕ Global). IsRising found.items)
    (λ found e. subst IsRising (sym (e ∙ ap members c.deref.ensures.value)) rises)
    c.numbers_in.ensures
