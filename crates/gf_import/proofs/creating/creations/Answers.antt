use Rattle.std.proofs.Common.{rules, ◌≡◌, ◌+◌, ◌≤◌, ◌<◌, ◌∙◌, List, length, sym, ap, subst, arith}
use Rattle.std.proofs.Common.{get_or}
use Rattle.std.specs.Prelude.{IsTrue, Ok, Err}
use Rattle.gf_shape.specs.declared.outline.Outline.{Outline}
use Rattle.gf_shape.specs.ShapeLaws.{IsLawful}
use Rattle.gf_figures.specs.declared.figure.Figure.{Figure}
use Rattle.gf_ops.specs.Limits.{is_colour}
use Rattle.gf_figures.specs.DrawingColour.{figure_colour}
use Rattle.gf_drawing.specs.CanonicalDrawing.{PaintsAsFig}
use Rattle.gf_import.specs.Imported.{history_of}
use Rattle.gf_import.proofs.PictureLemmas.{creations_paint}
use Rattle.gf_import.specs.CreationFaults.{IsFirstFault, made}
use Rattle.gf_import.proofs.CreatingLemmas.{AreCreated, all_created, created_more, first_fault}
use Rattle.gf_import.proofs.CreatingLemmas.{importable}
use Rattle.gf_import.proofs.creating.creations.Goals as goal

pub returns-in-Err-clause-refused : goal.returns-in-Err-clause-refused
returns-in-Err-clause-refused c =
    let d = c.args.drawing.now in
    let k = c.loop-figure.figure-index in
    let f = c.figure-item.result in
    let changes = c.loop-figure.changes.items in
    let figures = c.figures-figures.ensures.figures in
    let within : k < length d.figures = subst (λ (fs : List (Figure Outline)). k < length fs)
    figures c.loop-figure-test.true in
    let item : f ≡ get_or d.figures k f = subst (λ (fs : List (Figure Outline)). f ≡ get_or fs k f)
    figures c.figure-item.is in
    let told : made d.table f ≡ Err c.in-Err.fault = sym c.in_ok-change.ensures.made
    ∙ c.in-Err.is in
    let created = subst (λ fs. AreCreated d.table fs k changes) figures c.loop-figure.invariant in
    let first = first_fault d changes k f c.in-Err.fault created within
    (subst (λ g. made d.table g ≡ Err c.in-Err.fault) item told) in
    let len : c.len.result ≡ length changes = search rules in
    let number : length d.table + length changes + 1
    ≡ c.object_of-object.result = ap (λ n. length d.table + n + 1) (sym len)
    ∙ sym c.object_of-object.ensures in
    let few : length d.figures ≤ 10000 = search (rules, arith) in
    (few, subst (λ n. IsFirstFault d n c.in-Err.fault) number first)

pub loop-figure-preserved : goal.loop-figure-preserved
loop-figure-preserved c =
    let table = c.args.drawing.now.table in
    let fs = c.figures-figures.result.now in
    let i = c.loop-figure.figure-index in
    let f = c.figure-item.result in
    let item : f ≡ get_or fs i f = c.figure-item.is in
    let told : made table f ≡ Ok c.in-Ok.change = sym c.in_ok-change.ensures.made ∙ c.in-Ok.is in
    created_more table fs c.loop-figure.changes.items c.push_change.new.changes.items c.in-Ok.change
    i f c.loop-figure-test.true c.loop-figure.invariant
    (subst (λ (g : Figure Outline). IsLawful g.shape) item c.in_ok-change.ensures.lawful)
    (subst (λ g. IsTrue (is_colour (figure_colour table g))) item c.in_ok-change.ensures.colour)
    (subst (λ g. made table g ≡ Ok c.in-Ok.change) item told) c.in_ok-push_change-in-Ok.ensures

pub returns-clause-importable : goal.returns-clause-importable
returns-clause-importable c =
    let same = c.figures-figures.ensures.figures in
    let few : length c.args.drawing.now.figures ≤ 10000 = search (rules, arith) in
    importable c.args.drawing.now c.loop-figure.changes.items c.loop-figure.figure-index
    (subst (λ fs. AreCreated c.args.drawing.now.table fs c.loop-figure.figure-index
    c.loop-figure.changes.items) same c.loop-figure.invariant)
    (subst (λ (fs : List (Figure Outline)). length fs ≤ c.loop-figure.figure-index) same
    c.loop-figure-test.false) c.figures-figures.ensures.lawful few

pub returns-clause-paints : goal.returns-clause-paints
returns-clause-paints c = λ s site.
    let same = c.figures-figures.ensures.figures in
    let d = c.args.drawing.now in
    let i = c.loop-figure.figure-index in
    let changes = c.loop-figure.changes.items in
    let few : length d.figures ≤ 10000 = search (rules, arith) in
    let created = subst (λ fs. AreCreated d.table fs i changes) same c.loop-figure.invariant in
    let end = subst (λ (fs : List (Figure Outline)). length fs ≤ i) same c.loop-figure-test.false in
    let fit = importable d changes i created end c.figures-figures.ensures.lawful few in
    subst (λ cs. PaintsAsFig (history_of s cs) d) (sym (all_created d changes i created end))
    (creations_paint s d site fit)
