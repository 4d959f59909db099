use Rattle.std.proofs.lemmas.Result.{IfOk-weaker}
use Rattle.gf_listing.proofs.CountingLemmas.{count_told}
use Rattle.gf_listing.proofs.versions.Versions.count.Goals as goal

pub returns : goal.returns
returns c = IfOk-weaker c.count.result _ _
    (λ n counted. count_told c.args.self.now c.args.object c.in_ok-classes.classes
    c.in_ok-classes.ensures c.recall_valid.ensures c.requires n counted) c.count.ensures
