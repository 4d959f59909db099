use Rattle.std.proofs.Common.{ap, subst, sym, ◌∙◌}
use Rattle.std.specs.Prelude.{option_map}
use Rattle.std.proofs.lemmas.Result.{IfOk-weaker}
use Rattle.gf_maximal.specs.Growing.{without}
use Rattle.gf_maximal.specs.LargestSets.{IsRising}
use Rattle.gf_visible.proofs.ClassListingLemmas.{listing_told, rest_may}
use Rattle.gf_visible.proofs.listing.listed.Goals as goal

pub grown-requires-clause-rest : goal.grown-requires-clause-rest
grown-requires-clause-rest c =
    let used = c.args.used.now in
    let rest = c.deref.ensures.value ∙ (c.in_ok-rest.ensures.value ∙ (c.in_ok-without.ensures
    ∙ ap (λ z. without z used) c.met.ensures)) in
    rest_may c.args.timeline.now c.recall_rows.ensures.known used c.args.hiders.now
    c.requires.hiders
    c.args.partial.met c.args.partial.sets c.requires.lead c.deref.result.now rest
    (subst IsRising (sym c.deref.ensures.value) c.in_ok-rest.ensures.rising)

pub returns : goal.returns
returns c =
    let used = c.args.used.now in
    let rest = c.deref.ensures.value ∙ (c.in_ok-rest.ensures.value ∙ (c.in_ok-without.ensures
    ∙ ap (λ z. without z used) c.met.ensures)) in
    IfOk-weaker c.grown.result _ _ (λ found w.
    listing_told c.args.timeline.now c.recall_rows.ensures.known used c.args.hiders.now
    c.requires.hiders
    c.args.partial.met c.args.partial.sets c.requires.lead c.deref.result.now rest c.args.most
    (option_map (λ v. v.items) found) w) c.grown.ensures
