use Rattle.std.proofs.Common.{List, ap, length, refl, subst, sym, ◌∙◌}
use Rattle.std.specs.Prelude.{All}
use Rattle.std.specs.List.{AllZip}
use Rattle.std.proofs.lemmas.Result.{err_from_is_err_and}
use Rattle.std.proofs.lemmas.Slice.Zip.{AllZip-long}
use Rattle.gf_ops.specs.declared.op.Op.{Op}
use Rattle.gf_shape.specs.declared.any_shape.AnyShape.{AnyShape}
use Rattle.gf_versions.specs.declared.placed.Placed.{Placed}
use Rattle.gf_versions.specs.Ranking.{AreRanked}
use Rattle.gf_fig_named.specs.NamedText.{IsNameOf}
use Rattle.gf_fig_named.specs.Places.{ArePlaces}
use Rattle.gf_fig_named.specs.declared.naming.Name.{Name}
use Rattle.gf_fig_read.proofs.LawfulLemmas.{lawful_read}
use Rattle.gf_take_run.specs.ChangedObjects.{MayChange}
use Rattle.gf_take_run.specs.LeftObjects.{LeavesStanding}
use Rattle.gf_take_run.proofs.MakingLemmas.{listed_last, makes_other, making_first}
use Rattle.gf_take_run.proofs.making.make_shown.Goals as goal

pub leave_standing-requires-clause-lawful : goal.leave_standing-requires-clause-lawful
leave_standing-requires-clause-lawful c =
    lawful_read c.args.fig.now c.args.drawn.now.drawing c.requires.drawn.reads

pub are_on_shown-requires : goal.are_on_shown-requires
are_on_shown-requires c =
    subst (λ (is : List (Placed AnyShape)). ArePlaces is (length is) c.in_ok-places.places)
    (c.deref-2.ensures.value ∙ sym c.deref-6.ensures.value) c.in_ok-places.ensures

pub leave_standing-requires-clause-places : goal.leave_standing-requires-clause-places
leave_standing-requires-clause-places c =
    subst (λ (is : List (Placed AnyShape)). ArePlaces is (length is) c.in_ok-places.places)
    (c.deref-2.ensures.value ∙ sym c.deref-7.ensures.value) c.in_ok-places.ensures

pub leave_standing-requires-clause-long : goal.leave_standing-requires-clause-long
leave_standing-requires-clause-long c =
    ap length c.deref-8.ensures.value
    ∙ (AllZip-long (IsNameOf c.history.result.now.ops c.deref.result.now) c.deref.result.now
    c.in_ok-names.names.items c.in_ok-names.ensures
    ∙ (ap length c.deref.ensures.value ∙ sym (ap length c.deref-7.ensures.value)))

pub returns-in_err-last-clause-refused : goal.returns-in_err-last-clause-refused
returns-in_err-last-clause-refused c =
    let p = err_from_is_err_and c.from_residual-in_err-last.result
    c.from_residual-in_err-last.ensures.1 in
    let s = c.args.making.now.site.number in
    let b = c.args.making.now.site.ops in
    rw (p.1, p.2) (c.in_err-last.ensures.refused s b (making_first s b _ refl refl c.requires.none))

pub returns-clause-ok : goal.returns-clause-ok
returns-clause-ok c made site ops shown =
    let s = c.args.making.now.site.number in
    let b = c.args.making.now.site.ops in
    let fig = c.args.fig.now in
    let d = c.args.drawn.now.drawing in
    let m = c.make_planned.new.making in
    let last = c.in_ok-last.last in
    let names = c.in_ok-names.names.items in
    let first = making_first s b _ refl refl c.requires.none in
    let listed = listed_last _ m last c.args.shown.now made.shown c.in_ok-last.ensures.listed
    c.requires.listed shown in
    let now_listed = listed_last _ m last c.args.shown.now c.shown_last.result.now
    c.in_ok-last.ensures.listed c.requires.listed c.shown_last.ensures in
    let now = subst (AreRanked m.site.ops) (sym c.deref-10.ensures.value) now_listed.ranked in
    let valid = c.recall_history.ensures.valid in
    let on = subst (AreRanked b) (sym c.deref-6.ensures.value) c.requires.listed.ranked in
    let may = subst (All (λ (a : Op). MayChange b fig a.change)) c.deref-5.ensures.value
    (c.in_ok-are_on_shown.ensures b on c.if-not-branch.false) in
    let beside = subst (AreRanked b) (sym c.deref-7.ensures.value) c.requires.listed.ranked in
    let items = c.deref-7.result.now in
    let named =
    subst (λ (ns : List Name). AllZip (IsNameOf b items) items ns) (sym c.deref-8.ensures.value)
    (subst (λ (is : List (Placed AnyShape)). AllZip (IsNameOf b is) is names)
    (c.deref.ensures.value ∙ sym c.deref-7.ensures.value)
    (subst (λ (h : List Op). AllZip (IsNameOf h c.deref.result.now) c.deref.result.now names)
    c.history.ensures.ops c.in_ok-names.ensures)) in
    let standing = subst (All (λ (a : Op). LeavesStanding b fig d a.change)) c.deref-9.ensures.value
    (c.in_ok-leave_standing.ensures b fig beside named c.requires.named c.if-not-branch-2.false) in
    makes_other s b fig d m made (c.in_ok-last.ensures.made s b first) site ops
    c.recall_history.ensures.accepted valid
    (c.in_ok-shows.ensures.shows m.site.ops valid now c.if-not-branch-3.false)
    (c.in_ok-shows.ensures.paints m.site.ops valid now c.if-not-branch-3.false) may standing listed
