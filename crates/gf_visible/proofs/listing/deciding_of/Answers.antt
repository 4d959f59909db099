use Rattle.std.proofs.Common.{◌<◌, ap, filter, length, subst, ◌∙◌}
use Rattle.std.specs.Prelude.{Contains}
use Rattle.std.proofs.lemmas.Result.{IfOk-weaker}
use Rattle.gf_visible.specs.ClassSays.{TimelineState, is_deciding}
use Rattle.gf_visible.proofs.ClassListingLemmas.{are_deciding, fitting}
use Rattle.gf_visible.proofs.listing.deciding_of.Goals as goal

pub deciding-requires : goal.deciding-requires
deciding-requires c =
    let t : TimelineState = c.args.timeline.now in
    let fits : length t.rows < 18446744073709551616 = c.recall_rows.ensures.few in
    fitting (length t.rows) 18446744073709551616 fits c.deref.result.now
    (λ a i. c.requires.hiders.below a (subst (λ z. Contains z a)
    (c.deref.ensures.value ∙ c.in_ok-classes.ensures.value) i))

pub returns : goal.returns
returns c =
    let t : TimelineState = c.args.timeline.now in
    let hs = c.args.hiders.now in
    let same = ap (λ z. filter (is_deciding t.rows t.says z) c.deref.result.now) c.requires.hiding
    ∙ ap (filter (is_deciding t.rows t.says hs))
    (c.deref.ensures.value ∙ c.in_ok-classes.ensures.value) in
    IfOk-weaker c.deciding.result _ _ (λ found is. are_deciding t c.recall_rows.ensures.known
    c.args.used.now hs c.requires.hiders found.items (is ∙ same) c.recall_rows.ensures.few)
    c.deciding.ensures
