use Rattle.std.proofs.Common.{◌≡◌, [], ◌∷◌, ◌++◌, rules, ap, sym, take, ◌∙◌}
use Rattle.std.proofs.lemmas.List.{take_more}
use Rattle.gf_groups.specs.declared.group.Group.{Group}
use Rattle.gf_versions.specs.Ranking.{group_of}
use Rattle.gf_versions.proofs.LimitLemmas.{version_fits}
use Rattle.gf_versions.proofs.RankingLemmas.{shown_none, shown_more, hidden_more}
use Rattle.gf_versions.proofs.ranking.shown.Goals as goal
use Rattle.gf_versions.proofs.ranking.shown.Goals.{then-version+in_ok-placed+in_ok-push}
use Rattle.gf_versions.proofs.ranking.shown.Goals.{else-version+in-Polygon-1}
use Rattle.gf_versions.proofs.ranking.shown.Goals.{else-version+in-Rect-1}

pub settle-requires : goal.settle-requires
settle-requires c = c.requires c.group-item.result (search rules)

pub placed-requires : goal.placed-requires
placed-requires c =
    version_fits c.args.history.now.ops c.recall_valid.ensures c.in_ok-version.version
    c.in_ok-version.ensures.version

pub loop-group-init : goal.loop-group-init
loop-group-init c = rw c.new-items.ensures.items (shown_none c.args.history.now.ops)

pub loop-group-preserved : goal.loop-group-preserved
loop-group-preserved c =
    let h = c.args.history.now.ops in
    let groups = c.args.groups.now in
    let n = c.loop-group.group-index in
    let g = c.group-item.result in
    let v = c.in_ok-version.version in
    let is = c.in_ok-version.ensures in
    let e : group_of v ≡ g = λ i. record { object = is.object i; ops = is.ops i } in
    let grown = take_more groups n g c.loop-group-test.true
    ∙ ap (λ (k : Group). take n groups ++ k ∷ []) (sym c.group-item.is) in
    rw grown (elim c.if-version.branch [
      | then-version+in_ok-placed+in_ok-push w ↦
          rw (w.items-is, w.in_ok-push.ensures.items, w.in_ok-placed.ensures)
          (shown_more h (take n groups) c.loop-group.items.items c.loop-group.invariant g v
          is.version e w.if-version.true)
      | else-version+in-Polygon-1 w ↦
          rw w.items-is (hidden_more h (take n groups) c.loop-group.items.items
          c.loop-group.invariant g v is.version e w.if-version.false)
      | else-version+in-Rect-1 w ↦
          rw w.items-is (hidden_more h (take n groups) c.loop-group.items.items
          c.loop-group.invariant g v is.version e w.if-version.false)
    ])
