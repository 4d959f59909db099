use Rattle.std.proofs.Common.{sym}
use Rattle.std.proofs.lemmas.Result.{IfOk-weaker}
use Rattle.gf_classes.proofs.RivalLemmas.{rivals_none, rivals_compared}
use Rattle.gf_classes.proofs.rivals.rivals.Goals as goal

pub returns-in_default : goal.returns-in_default
returns-in_default c = λ us o valid setters index there. rivals_none c.args.ops.now valid us o
    c.args.setters.now setters c.args.index.now index c.args.x.now there c.in_ok-near.near
    c.in_ok-near.ensures (sym c.in_default.ensures)

pub returns : goal.returns
returns c = IfOk-weaker c.without.result _ _ (λ d e us o valid setters index there.
    rivals_compared c.args.ops.now valid us o
    c.args.setters.now setters c.args.index.now index c.args.x.now there c.in_ok-near.near
    c.in_ok-near.ensures c.in-Some.same.now (sym c.in-Some.ensures)
    c.in_ok-may.may c.in_ok-equal.equal d c.in_ok-may.ensures
    c.in_ok-equal.ensures e) c.without.ensures
