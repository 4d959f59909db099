use Rattle.std.proofs.Common.{[], ◌∷◌, ◌++◌, ap, filter, subst, sym, ◌∙◌}
use Rattle.gf_maximal.specs.Rows.{conflict}
use Rattle.gf_visible.specs.ClassListing.{IsLead}
use Rattle.gf_visible.specs.ClassSays.{TimelineState, covers}
use Rattle.gf_visible.specs.Seen.{PartialState, seen}
use Rattle.gf_visible.proofs.ClassListingLemmas.{lead_of_sides}
use Rattle.gf_visible.proofs.listing.by_sides.Goals as goal

pub listed-requires-clause-lead : goal.listed-requires-clause-lead
listed-requires-clause-lead c =
    let t : TimelineState = c.args.timeline.now in
    let hs = c.args.hiders.now in
    let used = c.args.used.now in
    let one = c.in_ok-push.ensures.items ∙ (ap (λ z. z ++ c.in_ok-copy.field-0 ∷ [])
    c.new-sets.ensures.items ∙ ap (λ z. z ∷ []) c.in_ok-copy.ensures) in
    subst (λ (p : PartialState). IsLead t used hs p.met p.sets) (sym c.new.ensures)
    (lead_of_sides t c.recall_rows.ensures.known used hs c.requires.hiders c.args.others
    c.requires.others
    c.requires.sides c.in_ok-sets.sets.items (c.in_ok-sets.ensures
    ∙ ap (filter (seen (covers t.says) (conflict t.rows) hs)) one))
