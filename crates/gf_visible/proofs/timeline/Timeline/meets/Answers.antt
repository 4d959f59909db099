use Rattle.std.proofs.Common.{◌≤◌, [], ap, length, subst, sym, ◌∙◌}
use Rattle.std.proofs.lemmas.List.{get_or_past}
use Rattle.gf_maximal.specs.Growing.{intersects}
use Rattle.gf_visible.specs.ClassSays.{TimelineState}
use Rattle.gf_visible.proofs.TimelineLemmas.{none_meets}
use Rattle.gf_visible.proofs.timeline.Timeline.meets.Goals as goal

pub returns-in-None : goal.returns-in-None
returns-in-None c =
    let past = subst (λ (t : TimelineState). length t.rows ≤ c.args.class) c.self.view_is
    c.in-None.ensures.lookup.3 in
    sym (ap (λ z. intersects z c.args.others.now)
    (get_or_past c.args.self.now.rows c.args.class [] past)
    ∙ none_meets c.args.others.now)
