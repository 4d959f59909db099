use Rattle.std.proofs.Common.{ap, ◌∙◌}
use Rattle.gf_visible.specs.ClassSays.{TimelineState, known_in}
use Rattle.gf_visible.proofs.TimelineLemmas.{seen_told}
use Rattle.gf_visible.proofs.timeline.Timeline.is_seen.Goals as goal

pub returns : goal.returns
returns c =
    let t : TimelineState = c.args.self.now in
    let known = c.known_in-known.ensures
    ∙ (ap (λ (t : TimelineState). known_in t.says c.deref.result.now) c.self.view_is
    ∙ ap (known_in t.says) (c.deref.ensures.value ∙ c.in_ok-classes.ensures.value)) in
    c.all_stand.ensures ∙ seen_told t.rows t.says c.args.hiders.now c.args.set.now
    c.known_in-known.result known c.requires
