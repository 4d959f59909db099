use Rattle.std.proofs.Common.{◌≡◌, ◌<◌, true, ap, length, map, subst, sym, ◌∙◌}
use Rattle.std.specs.Prelude.{Contains, option_map}
use Rattle.std.proofs.lemmas.Result.{IfOk-weaker}
use Rattle.gf_table.specs.Positions.{positions_on}
use Rattle.gf_maximal.proofs.ClassLemmas.{used_below}
use Rattle.gf_ops.specs.OperationOrder.{IsSite}
use Rattle.gf_visible.specs.ClassSays.{TimelineState, hides, said, says_of}
use Rattle.gf_visible.specs.ShownSets.{IsSetListing}
use Rattle.gf_visible.proofs.ClassShowingLemmas.{class_site, listing_spread}
use Rattle.gf_visible.proofs.listing.shown_sets.Goals as goal

pub shown_classes-requires-clause-sites : goal.shown_classes-requires-clause-sites
shown_classes-requires-clause-sites c =
    let h = c.args.history.now.ops in
    let s = c.args.classes.now in
    let says = ap (λ (t : TimelineState). t.says) c.new-timeline.ensures
    ∙ (c.deref.ensures.value ∙ (c.in_ok-says.ensures
    ∙ (ap (λ ops. map (says_of ops) c.members.result.now) c.ops.ensures.ops
    ∙ ap (map (says_of h)) c.members.ensures))) in
    λ k i y. subst (λ t. IsSite (said t k).site) (sym says)
    (class_site h c.ops.ensures.valid (positions_on h c.args.object) s c.requires.classes k
    (subst (λ t. hides t k ≡ true) says y))

pub shown_classes-requires-clause-below : goal.shown_classes-requires-clause-below
shown_classes-requires-clause-below c =
    let s = c.args.classes.now in
    let rows = ap (λ (t : TimelineState). t.rows) c.new-timeline.ensures ∙ c.rows.ensures in
    λ k i. subst (λ z. k < length z) (sym rows)
    (subst (λ n. k < n) (sym c.requires.classes.classes.count)
    (used_below s k (subst (λ z. Contains z k) c.in_ok-used.ensures i)))

pub returns : goal.returns
returns c =
    let h = c.args.history.now.ops in
    let s = c.args.classes.now in
    let m = c.args.most in
    let f = option_map (λ v. v.items) c.in_ok-found.found in
    let says = ap (λ (t : TimelineState). t.says) c.new-timeline.ensures
    ∙ (c.deref.ensures.value ∙ (c.in_ok-says.ensures
    ∙ (ap (λ ops. map (says_of ops) c.members.result.now) c.ops.ensures.ops
    ∙ ap (map (says_of h)) c.members.ensures))) in
    let rows = ap (λ (t : TimelineState). t.rows) c.new-timeline.ensures ∙ c.rows.ensures in
    let told = rw (rows, says, c.in_ok-used.ensures) at c.in_ok-found.ensures in
    IfOk-weaker c.spread_found.result _ _ (λ sets e. subst (IsSetListing h
    (positions_on h c.args.object) m) (sym e) (listing_spread h c.ops.ensures.valid c.args.object
    c.requires.made s c.requires.classes m f told)) c.spread_found.ensures
