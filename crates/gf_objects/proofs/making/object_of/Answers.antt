use Rattle.std.proofs.Common.{arith, ◌≡◌, ◌≤◌, length, ap, ◌∙◌}
use Rattle.gf_figures.specs.Colours.{Table}
use Rattle.gf_objects.proofs.TableLemmas.{few_colours}
use Rattle.gf_objects.proofs.making.object_of.Goals as goal

pub overflow_add-result : goal.overflow_add-result
overflow_add-result c =
    let lawful = c.colours.ensures.lawful in
    let few = few_colours c.args.drawing.now.table lawful.numbers lawful.distinct in
    let long : c.len.result ≡ length c.args.drawing.now.table = c.len.ensures
    ∙ ap (λ (t : Table). length t) c.colours.ensures.table in
    let within : c.args.index ≤ 10000 = c.requires in
    omega arith

pub overflow_add-result-2 : goal.overflow_add-result-2
overflow_add-result-2 c =
    let lawful = c.colours.ensures.lawful in
    let few = few_colours c.args.drawing.now.table lawful.numbers lawful.distinct in
    let long : c.len.result ≡ length c.args.drawing.now.table = c.len.ensures
    ∙ ap (λ (t : Table). length t) c.colours.ensures.table in
    let within : c.args.index ≤ 10000 = c.requires in
    omega arith
