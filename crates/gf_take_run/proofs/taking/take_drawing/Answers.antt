use Rattle.std.proofs.Common.{List, ◌++◌, ◌∙◌, ap, refl, subst, sym}
use Rattle.std.specs.Prelude.{Contains}
use Rattle.std.proofs.lemmas.Result.{err_from_is_err_and}
use Rattle.std.proofs.lemmas.List.Elements.{Contains-append_right}
use Rattle.gf_ops.specs.declared.op.Op.{Op}
use Rattle.gf_edit.specs.MadeOperations.{made_of}
use Rattle.gf_take_run.specs.KnownHistory.{AreThere, IsNewer, since_drawing}
use Rattle.gf_take_run.specs.ShownText.{IsShownText}
use Rattle.gf_take_run.specs.TakeSteps.{AreCounted, RefusesBehind}
use Rattle.gf_take_run.specs.TakenBehind.{IsWrittenText}
use Rattle.gf_take_run.proofs.TakeLemmas.{behind_refused, takes_so}
use Rattle.gf_take_run.proofs.taking.take_drawing.Goals as goal

pub returns-in_err-made-clause-refused : goal.returns-in_err-made-clause-refused
returns-in_err-made-clause-refused c =
    let p = err_from_is_err_and c.from_residual-in_err-made.result
    c.from_residual-in_err-made.ensures.1 in
    let q = c.args.request in
    let fig = c.args.fig.now in
    let d = c.args.drawn.now.drawing in
    let knew = c.args.drawn.now.knew in
    let there = subst (AreThere knew) c.history.ensures.ops c.in_ok-check_known.ensures.ok in
    let young = subst (λ (h : List Op). (a x : Op) → ¬ (IsNewer q.site knew h a x))
    c.history-2.ensures.ops c.in_ok-check_age.ensures.ok in
    rw p.1 (behind_refused q c.args.site.ops fig d knew p.0 there young
    (subst (RefusesBehind q c.args.site.ops fig d knew) (sym p.2) c.in_err-made.ensures.refused))

pub text_of-requires : goal.text_of-requires
text_of-requires c = λ a m.
    let made = c.in_ok-made.ensures.ok in
    made.taken.takes.valid.in_range a (Contains-append_right made.base
    c.in_ok-made.made.ops.items a
    (subst (λ (os : List Op). Contains os a) c.deref-2.ensures.value m))

pub returns-clause-ok : goal.returns-clause-ok
returns-clause-ok c =
    let q = c.args.request in
    let h = c.args.site.ops in
    let knew = c.args.drawn.now.knew in
    let made = c.in_ok-made.made in
    let new = made.ops.items in
    let text = c.in_ok-text.text.items in
    let there = subst (AreThere knew) c.history.ensures.ops c.in_ok-check_known.ensures.ok in
    let young = subst (λ (l : List Op). (a x : Op) → ¬ (IsNewer q.site knew l a x))
    c.history-2.ensures.ops c.in_ok-check_age.ensures.ok in
    let lent = c.deref-2.result.now in
    let shown = subst (λ t. IsShownText q.named (h ++ lent) t) (sym c.deref-3.ensures.value)
    (subst (λ (os : List Op). IsShownText q.named (h ++ os) made.text.items)
    (sym c.deref-2.ensures.value) c.in_ok-made.ensures.ok.text) in
    let written = subst (λ (os : List Op). IsWrittenText q.named h os text) c.deref-2.ensures.value
    (c.in_ok-text.ensures q.named h shown) in
    let counted = subst (λ (os : List Op). AreCounted os c.in_ok-counts.counts)
    c.deref.ensures.value c.in_ok-counts.ensures in
    takes_so q h c.args.fig.now c.args.drawn.now.drawing knew made _ there young
    c.in_ok-made.ensures.ok written (c.made_of.ensures ∙ ap made_of c.deref-4.ensures.value)
    counted.changed counted.hidden counted.drawn
    (c.made_since-since.ensures ∙ ap (since_drawing q.site knew) c.history-3.ensures.ops) refl
