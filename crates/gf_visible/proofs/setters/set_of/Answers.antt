use Rattle.std.proofs.lemmas.Result.{IfOk-weaker}
use Rattle.std.proofs.Common.{◌≡◌, ◌∙◌}
use Rattle.gf_visible.proofs.ShowingLemmas.{set_same}
use Rattle.gf_visible.proofs.setters.set_of.Goals as goal

pub returns : goal.returns
returns c = IfOk-weaker c.of.result _ (λ set. set ≡ c.args.positions.now) (λ set e. e
    ∙ set_same c.args.positions.now c.requires.rising) c.of.ensures
