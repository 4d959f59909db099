use Rattle.std.proofs.Common.{◌≡◌, rules, subst}
use Rattle.gf_import.specs.ImportSteps.{HasCreations}
use Rattle.gf_import.proofs.CommandLemmas.{imported}
use Rattle.gf_import.proofs.importing.import.Goals as goal

pub returns-clause-ok : goal.returns-clause-ok
returns-clause-ok c =
    let fig = c.args.fig.items in
    let changes = c.in_ok-changes.changes.items in
    let same : c.deref.result.now ≡ fig = search rules in
    let has = subst (λ f. HasCreations f changes) same c.in_ok-changes.ensures.ok in
    imported c.args.site fig c.in_ok-text.text.items changes c.requires has c.in_ok-text.ensures
