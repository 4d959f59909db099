use Rattle.std.proofs.Common.{subst, sym, rules, ◌∙◌}
use Rattle.gf_visible.specs.ClassListing.{AreDeciding, IsLead}
use Rattle.gf_visible.specs.ClassSays.{TimelineState}
use Rattle.gf_visible.specs.Seen.{PartialState}
use Rattle.gf_visible.proofs.ClassListingLemmas.{search_lead, search_more}
use Rattle.gf_visible.proofs.listing.by_search.Goals as goal

pub returns-then-len-most : goal.returns-then-len-most
returns-then-len-most c =
    let t : TimelineState = c.args.timeline.now in
    let hs = c.args.hiders.now in
    let used = c.args.used.now in
    let decide = subst (AreDeciding t used hs) (sym c.deref.ensures.value) c.in_ok-deciding.ensures
    in
    search_more t c.recall_rows.ensures.known used hs c.requires.hiders c.deref.result.now decide
    c.requires.hidden c.args.most c.in_ok-found.found.items c.in_ok-found.ensures (search rules)

pub listed-requires-clause-lead : goal.listed-requires-clause-lead
listed-requires-clause-lead c =
    let t : TimelineState = c.args.timeline.now in
    let hs = c.args.hiders.now in
    let used = c.args.used.now in
    let ds = c.deref.result.now in
    let decide = subst (AreDeciding t used hs) (sym c.deref.ensures.value) c.in_ok-deciding.ensures
    in
    let lead = search_lead t c.recall_rows.ensures.known used hs c.requires.hiders ds decide
    c.requires.hidden c.args.most c.in_ok-found.found.items c.in_ok-found.ensures (search rules) in
    let met = c.in_ok-met.ensures ∙ (c.deref-2.ensures.value ∙ sym c.deref.ensures.value) in
    subst (λ (p : PartialState). IsLead t used hs p.met p.sets) (sym c.new.ensures)
    (subst (λ z. IsLead t used hs z c.in_ok-found.found.items) (sym met) lead)
