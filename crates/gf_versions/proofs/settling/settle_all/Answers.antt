use Rattle.std.proofs.Common.{◌≡◌, [], ◌∷◌, ◌++◌, rules, ap, sym, take, ◌∙◌}
use Rattle.std.proofs.lemmas.List.{take_more}
use Rattle.gf_groups.specs.declared.group.Group.{Group}
use Rattle.gf_versions.specs.Ranking.{group_of}
use Rattle.gf_versions.proofs.RankingLemmas.{settled_more}
use Rattle.gf_versions.proofs.settling.settle_all.Goals as goal

pub settle-requires : goal.settle-requires
settle-requires c = c.requires c.group-item.result (search rules)

pub loop-group-preserved : goal.loop-group-preserved
loop-group-preserved c =
    let h = c.args.history.now.ops in
    let groups = c.args.groups.now in
    let n = c.loop-group.group-index in
    let g = c.group-item.result in
    let v = c.in_ok-settle.field-0 in
    let is = c.in_ok-settle.ensures in
    let e : group_of v ≡ g = λ i. record { object = is.object i; ops = is.ops i } in
    let grown = take_more groups n g c.loop-group-test.true
    ∙ ap (λ (k : Group). take n groups ++ k ∷ []) (sym c.group-item.is) in
    rw (grown, c.in_ok-push.ensures.items)
    (settled_more h (take n groups) c.loop-group.versions.items c.loop-group.invariant g v
    is.version e)
