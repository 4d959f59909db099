use Rattle.std.proofs.Common.{◌≡◌, List, ◌++◌, ◌∙◌, ap, inl, refl, subst, sym}
use Rattle.std.specs.Prelude.{Contains}
use Rattle.std.proofs.lemmas.List.Elements.{Contains-append_right}
use Rattle.std.proofs.lemmas.Result.{err_from_is_err_and}
use Rattle.gf_ops.specs.declared.op.Op.{Op}
use Rattle.gf_ops.specs.declared.op.ObjectId.{ObjectId}
use Rattle.gf_ops.specs.Accepted.{AreAccepted}
use Rattle.gf_kept.specs.SameOn.{HaveSameBut}
use Rattle.gf_site.specs.MadeEach.{MakesEach}
use Rattle.gf_site.specs.SiteState.{SiteState}
use Rattle.gf_take.specs.Bases.{IsBase}
use Rattle.gf_take.proofs.JoinLemmas.{makes_accepted}
use Rattle.gf_take_run.proofs.JoinedLemmas.{same_behind}
use Rattle.gf_take_run.proofs.behind.make_behind.Goals as goal

pub objects_apart-requires : goal.objects_apart-requires
objects_apart-requires c = λ a there.
    let inside = subst (λ (l : List Op). Contains l a) c.history-4.ensures.ops there in
    let known = (c.in_ok-base.ensures.base.exactly a).0 inside in
    subst (λ (l : List Op). Contains l a) (c.history-2.ensures.ops ∙ sym c.history-3.ensures.ops)
    known.contained

pub with_kept-base-requires-clause-same : goal.with_kept-base-requires-clause-same
with_kept-base-requires-clause-same c =
    let objects = c.in_ok-apart.apart.items in
    let base = c.in_ok-base.base.ops in
    let whole : c.history-5.result.now.ops ≡ c.history-3.result.now.ops = c.history-5.ensures.ops
    ∙ (ap (λ (x : SiteState). x.ops) c.into_parts-whole.ensures.site ∙ sym c.history-3.ensures.ops) in
    subst (λ (os : List ObjectId). HaveSameBut os c.history-5.result.now.ops base)
    (sym c.deref.ensures.value) (subst (λ (h : List Op). HaveSameBut objects h base) (sym whole)
    (subst (HaveSameBut objects c.history-3.result.now.ops) c.history-4.ensures.ops
    c.in_ok-apart.ensures))

pub joined-requires-clause-in_range : goal.joined-requires-clause-in_range
joined-requires-clause-in_range c = λ a there.
    let made = c.in_ok-made-2.made in
    c.in_ok-made-2.ensures.ok.taken.takes.valid.in_range a (Contains-append_right
    c.with_kept-base.result.ops made.ops.items a
    (subst (λ (os : List Op). Contains os a) c.deref-2.ensures.value there))

pub joined-requires-clause-accepted : goal.joined-requires-clause-accepted
joined-requires-clause-accepted c =
    let s = c.args.request.site in
    let knew = c.args.drawn.now.knew in
    let h = c.args.site.ops in
    let base = c.with_kept-base.result in
    let from = c.in_ok-made-2.ensures.ok.taken in
    let new = c.in_ok-made-2.made.ops.items in
    let number = subst (λ (x : SiteState). x.number ≡ s) (sym c.with_kept-base.ensures)
    c.in_ok-base.ensures.number in
    let made = subst (λ i. MakesEach i base.ops from.changes new) number from.takes.makes in
    let is_base = subst (λ (x : SiteState). IsBase s knew h x.ops) (sym c.with_kept-base.ensures)
    (subst (λ (l : List Op). IsBase s knew l c.in_ok-base.base.ops) c.history-2.ensures.ops
    c.in_ok-base.ensures.base) in
    subst (λ (x : SiteState). AreAccepted (x.ops ++ c.deref-2.result.now))
    (sym c.into_parts-whole.ensures.site)
    (subst (λ (os : List Op). AreAccepted (h ++ os)) (sym c.deref-2.ensures.value)
    (makes_accepted s knew h base.ops from.changes new c.history-2.ensures.valid
    c.history-2.ensures.accepted is_base made))

pub joined-requires-clause-same : goal.joined-requires-clause-same
joined-requires-clause-same c =
    let h = c.args.site.ops in
    let base = c.in_ok-base.base.ops in
    let made = c.in_ok-made-2.made in
    let new = made.ops.items in
    let objects = c.in_ok-apart.apart.items in
    let apart = subst (λ (l : List Op). HaveSameBut objects l base) c.history-3.ensures.ops
    (subst (HaveSameBut objects c.history-3.result.now.ops) c.history-4.ensures.ops
    c.in_ok-apart.ensures) in
    let site : made.site.ops ≡ base ++ new = c.in_ok-made-2.ensures.ok.site
    ∙ ap (λ (x : SiteState). x.ops ++ new) c.with_kept-base.ensures in
    let whole : c.into_parts-whole.result.0.ops ++ c.deref-2.result.now ≡ h ++ new =
    ap (λ (x : SiteState). x.ops ++ c.deref-2.result.now) c.into_parts-whole.ensures.site
    ∙ ap (λ (os : List Op). h ++ os) c.deref-2.ensures.value in
    let all = c.into_parts-whole.result.0.ops ++ c.deref-2.result.now in
    subst (λ (os : List ObjectId). HaveSameBut os made.site.ops all) (sym c.deref-3.ensures.value)
    (subst (HaveSameBut objects made.site.ops) (sym whole)
    (subst (λ (l : List Op). HaveSameBut objects l (h ++ new)) (sym site)
    (same_behind objects h base new apart)))

pub returns-in_err-text-clause-refused : goal.returns-in_err-text-clause-refused
returns-in_err-text-clause-refused c =
    let p = err_from_is_err_and c.from_residual-in_err-text.result
    c.from_residual-in_err-text.ensures.1 in
    rw (p.1, p.2) (inl refl)
