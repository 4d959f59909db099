use Rattle.std.proofs.Common.{◌≤◌, ap, subst, sym}
use Rattle.std.specs.Prelude.{IfErr, IfOk, IfSome}
use Rattle.std.proofs.lemmas.Result.{err_from_is_err_and}
use Rattle.gf_ops.specs.OperationOrder.{count_of}
use Rattle.gf_site.specs.SiteState.{SiteState}
use Rattle.gf_versions.specs.Ranking.{AreRanked}
use Rattle.gf_fig_read.proofs.LawfulLemmas.{lawful_read}
use Rattle.gf_take_run.specs.TakeSteps.{IsBeyondMost, MakesOther, RefusesPlan}
use Rattle.gf_take_run.proofs.TakeLemmas.{behind_refuses, other_refused, other_taken}
use Rattle.gf_take_run.proofs.TakeLemmas.{takes_nothing}
use Rattle.gf_take_run.proofs.making.make_from.Goals as goal

pub returns-in_err-shown-clause-refused : goal.returns-in_err-shown-clause-refused
returns-in_err-shown-clause-refused c =
    let p = err_from_is_err_and c.from_residual.result c.from_residual.ensures.1 in
    rw (p.1, p.2) (c.in_err-shown.ensures.refused c.args.after c.args.fig.now
    c.args.drawn.now.drawing)

pub returns-then-branch-clause-ok : goal.returns-then-branch-clause-ok
returns-then-branch-clause-ok c =
    let b = c.args.base.ops in
    let listed = c.in_ok-shown.ensures.versions in
    let ranked = subst (AreRanked b) (sym c.deref.ensures.value) listed.ranked in
    let like = c.in_ok-looks_like.ensures.alike b c.recall_history.ensures.valid ranked c.if-branch.true in
    takes_nothing c.args.base.number c.args.after b c.args.fig.now c.args.drawn.now.drawing _
    c.recall_history.ensures.accepted c.recall_history.ensures.valid like c.requires.drawn.reads
    c.new.ensures.items (ap (λ (s : SiteState). s.ops) c.in_ok-shown.ensures.same) listed
    c.in_ok-shown.ensures.thin

pub returns-in-Some-clause-refused : goal.returns-in-Some-clause-refused
returns-in-Some-clause-refused c =
    let b = c.args.base.ops in
    let d = c.args.drawn.now.drawing in
    let ranked = subst (AreRanked b) (sym c.deref.ensures.value)
    c.in_ok-shown.ensures.versions.ranked in
    let other = c.in_ok-looks_like.ensures.other b ranked
    (lawful_read c.args.fig.now d c.requires.drawn.reads) c.if-branch.false in
    behind_refuses c.args.base.number c.args.after b d c.in-Some.last other
    (subst (λ (s : SiteState). IsBeyondMost s.number c.args.after s.ops c.in-Some.last)
    c.in_ok-shown.ensures.same (rw c.in-Some.is at c.beyond.ensures.some))

pub returns-clause-ok : goal.returns-clause-ok
returns-clause-ok c =
    let b = c.args.base.ops in
    let d = c.args.drawn.now.drawing in
    let ranked = subst (AreRanked b) (sym c.deref.ensures.value)
    c.in_ok-shown.ensures.versions.ranked in
    let other = c.in_ok-looks_like.ensures.other b ranked
    (lawful_read c.args.fig.now d c.requires.drawn.reads) c.if-branch.false in
    other_taken c.args.base.number c.args.after b c.args.fig.now d c.in_ok-shown.shown.thin
    c.make_other.result other
    (subst (λ (s : SiteState). IfSome c.args.after (λ n. count_of s.ops s.number ≤ n))
    c.in_ok-shown.ensures.same (rw c.in_default.is at c.beyond.ensures.none))
    c.in_ok-shown.ensures.thin
    (subst (λ (s : SiteState). IfOk c.make_other.result (MakesOther s.number s.ops c.args.fig.now d))
    c.in_ok-shown.ensures.same c.make_other.ensures.ok) c.make_other.ensures.thin

pub returns-clause-refused : goal.returns-clause-refused
returns-clause-refused c =
    let b = c.args.base.ops in
    let d = c.args.drawn.now.drawing in
    let ranked = subst (AreRanked b) (sym c.deref.ensures.value)
    c.in_ok-shown.ensures.versions.ranked in
    let other = c.in_ok-looks_like.ensures.other b ranked
    (lawful_read c.args.fig.now d c.requires.drawn.reads) c.if-branch.false in
    other_refused c.args.base.number c.args.after b c.args.fig.now d c.make_other.result other
    (subst (λ (s : SiteState). IfErr c.make_other.result (RefusesPlan s.number s.ops c.args.fig.now d))
    c.in_ok-shown.ensures.same c.make_other.ensures.refused)
