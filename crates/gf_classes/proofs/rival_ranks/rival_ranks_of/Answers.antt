use Rattle.std.proofs.Common.{sym}
use Rattle.gf_classes.proofs.RivalLemmas.{rival_ranks_own}
use Rattle.gf_classes.proofs.rival_ranks.rival_ranks_of.Goals as goal

pub returns-in_ok-found-in-Some : goal.returns-in_ok-found-in-Some
returns-in_ok-found-in-Some c = λ us o valid setters index there.
    let found = c.in_ok-found-in-Some.found in
    rival_ranks_own c.args.ops.now valid us o c.args.setters.now setters c.args.x.now there
    c.args.index.now index c.if-x.true c.in-Some.same.now (sym c.in-Some.ensures) found.ranks
    found.except c.in_ok-found-in-Some.ensures.cut c.in_ok-found-in-Some.ensures.except
