use Rattle.std.proofs.Common.{length, ap, sym, subst}
use Rattle.std.proofs.lemmas.Result.{on_ok_weaker}
use Rattle.gf_table.specs.Standing.{StandsFor}
use Rattle.gf_table.proofs.StandsLemmas.{stands_after}
use Rattle.gf_table.proofs.table.GroupTable.add.Goals as goal

pub returns-clause-ok : goal.returns-clause-ok
returns-clause-ok c =
    let h = c.args.history.now.ops in
    let a = c.args.op.now in
    on_ok_weaker c.push_position.result (λ puts.
    stands_after h a (length c.ops-position.result.now) (ap length c.ops-position.ensures.ops)
    c.object.result c.object.ensures c.self.inside.objects.entries c.push_position.new.objects.entries
    (subst (StandsFor h) (sym c.self.view_is) c.requires.stands) puts) c.push_position.ensures.ok
