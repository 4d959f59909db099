use Rattle.std.proofs.Common.{◌∷◌, [], ◌++◌, ap, subst, sym, take, ◌∙◌}
use Rattle.std.proofs.lemmas.List.{take_all, take_more}
use Rattle.gf_groups.specs.declared.group.Group.{Group}
use Rattle.gf_status.proofs.LastLemmas.{now}
use Rattle.gf_status.proofs.SetterLemmas.{AreLasts, lasts_more}
use Rattle.gf_status.proofs.differing.giving.Goals as goal

pub loop-group-preserved : goal.loop-group-preserved
loop-group-preserved c =
    let h = c.args.history.now.ops in
    let groups = c.args.groups.now in
    let n = c.loop-group.group-index in
    let g = c.group-item.result in
    let grown = take_more groups n g c.loop-group-test.true
    ∙ ap (λ (k : Group). take n groups ++ k ∷ []) (sym c.group-item.is) in
    rw (grown, c.in_ok-append.ensures.items) (lasts_more now h c.args.attribute (take n groups)
    c.loop-group.found.items c.in_ok-more.more.items g c.loop-group.invariant c.in_ok-more.ensures)

pub returns : goal.returns
returns c = subst (λ groups. AreLasts now c.args.history.now.ops c.args.attribute groups
    c.loop-group.found.items) (take_all c.loop-group.group-index c.args.groups.now
    c.loop-group-test.false) c.loop-group.invariant
