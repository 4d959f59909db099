use Rattle.std.proofs.Common.{◌<◌, ap, filter, length, subst, ◌∙◌}
use Rattle.std.specs.Prelude.{Contains}
use Rattle.gf_maximal.specs.LargestSets.{IsRising}
use Rattle.gf_visible.specs.ClassSays.{TimelineState, hides, is_other}
use Rattle.gf_visible.proofs.ClassListingLemmas.{are_hiders, fitting, some_rise, some_within}
use Rattle.gf_visible.proofs.listing.shown_classes.Goals as goal

pub set_of-requires-clause-rising : goal.set_of-requires-clause-rising
set_of-requires-clause-rising c =
    let t : TimelineState = c.args.timeline.now in
    let used = c.args.used.now in
    let at = c.deref.ensures.value ∙ c.in_ok-classes.ensures.value in
    let rises = subst IsRising c.in_ok-classes.ensures.value c.in_ok-classes.ensures.rising in
    let hidden = c.in_ok-hiders.ensures ∙ ap (filter (hides t.says)) at in
    some_rise (hides t.says) used c.deref-2.result.now (c.deref-2.ensures.value ∙ hidden) rises

pub set_of-requires-clause-bounded : goal.set_of-requires-clause-bounded
set_of-requires-clause-bounded c =
    let t : TimelineState = c.args.timeline.now in
    let used = c.args.used.now in
    let at = c.deref.ensures.value ∙ c.in_ok-classes.ensures.value in
    let hidden = c.in_ok-hiders.ensures ∙ ap (filter (hides t.says)) at in
    let fits : length t.rows < 18446744073709551616 = c.recall_rows.ensures.few in
    fitting (length t.rows) 18446744073709551616 fits c.deref-2.result.now
    (λ a i. c.requires.below a (some_within (hides t.says) used c.deref-2.result.now
    (c.deref-2.ensures.value ∙ hidden) a i))

pub others-requires : goal.others-requires
others-requires c =
    let t : TimelineState = c.args.timeline.now in
    let used = c.args.used.now in
    let fits : length t.rows < 18446744073709551616 = c.recall_rows.ensures.few in
    fitting (length t.rows) 18446744073709551616 fits c.deref-3.result.now
    (λ a i. c.requires.below a (subst (λ z. Contains z a)
    (c.deref-3.ensures.value ∙ c.in_ok-classes.ensures.value) i))

pub set_of-requires-2-clause-rising : goal.set_of-requires-2-clause-rising
set_of-requires-2-clause-rising c =
    let t : TimelineState = c.args.timeline.now in
    let used = c.args.used.now in
    let rises = subst IsRising c.in_ok-classes.ensures.value c.in_ok-classes.ensures.rising in
    let at = c.deref-3.ensures.value ∙ c.in_ok-classes.ensures.value in
    let is = c.deref-4.ensures.value ∙ (c.in_ok-others.ensures
    ∙ ap (filter (is_other t.rows t.says c.in_ok-hiding.hiding)) at) in
    some_rise (is_other t.rows t.says c.in_ok-hiding.hiding) used c.deref-4.result.now is rises

pub set_of-requires-2-clause-bounded : goal.set_of-requires-2-clause-bounded
set_of-requires-2-clause-bounded c =
    let t : TimelineState = c.args.timeline.now in
    let used = c.args.used.now in
    let fits : length t.rows < 18446744073709551616 = c.recall_rows.ensures.few in
    let at = c.deref-3.ensures.value ∙ c.in_ok-classes.ensures.value in
    let is = c.deref-4.ensures.value ∙ (c.in_ok-others.ensures
    ∙ ap (filter (is_other t.rows t.says c.in_ok-hiding.hiding)) at) in
    fitting (length t.rows) 18446744073709551616 fits c.deref-4.result.now
    (λ a i. c.requires.below a (some_within (is_other t.rows t.says c.in_ok-hiding.hiding) used
    c.deref-4.result.now is a i))

pub by_sides-requires-clause-hiders : goal.by_sides-requires-clause-hiders
by_sides-requires-clause-hiders c =
    let t : TimelineState = c.args.timeline.now in
    let used = c.args.used.now in
    let at = c.deref.ensures.value ∙ c.in_ok-classes.ensures.value in
    let rises = subst IsRising c.in_ok-classes.ensures.value c.in_ok-classes.ensures.rising in
    let hidden = c.in_ok-hiders.ensures ∙ ap (filter (hides t.says)) at in
    are_hiders t used c.deref-then-are_sides.result.now rises c.requires.below c.requires.sites
    (c.deref-then-are_sides.ensures.value ∙ hidden)

pub by_search-requires-clause-hiders : goal.by_search-requires-clause-hiders
by_search-requires-clause-hiders c =
    let t : TimelineState = c.args.timeline.now in
    let used = c.args.used.now in
    let at = c.deref.ensures.value ∙ c.in_ok-classes.ensures.value in
    let rises = subst IsRising c.in_ok-classes.ensures.value c.in_ok-classes.ensures.rising in
    let hidden = c.in_ok-hiders.ensures ∙ ap (filter (hides t.says)) at in
    are_hiders t used c.deref-else-are_sides.result.now rises c.requires.below c.requires.sites
    (c.deref-else-are_sides.ensures.value ∙ hidden)
