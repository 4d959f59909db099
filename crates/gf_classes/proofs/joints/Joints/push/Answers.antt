use Rattle.std.proofs.Common.{ap, ◌++◌, ◌∷◌, [], ◌∙◌}
use Rattle.gf_classes.specs.ClassSlots.{JointsState}
use Rattle.gf_classes.proofs.ClassSlotLemmas.{calm_more}
use Rattle.gf_classes.proofs.joints.Joints.push.Goals as goal

pub returns-clause-calm : goal.returns-clause-calm
returns-clause-calm c = λ rows calm all.
    calm_more rows c.args.self.now.owns c.push_reserved.new.self.items c.args.own
    (c.push_reserved.ensures.items ∙ ap (λ z. z ++ c.args.own ∷ [])
    (c.in_ok-reserve.ensures.items ∙ ap (λ (j : JointsState). j.owns) c.self.view_is)) calm all
