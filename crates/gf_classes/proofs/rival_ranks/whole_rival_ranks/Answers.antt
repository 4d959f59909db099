use Rattle.gf_classes.proofs.RivalLemmas.{rival_ranks_whole}
use Rattle.gf_classes.proofs.rival_ranks.whole_rival_ranks.Goals as goal

pub returns : goal.returns
returns c = λ us o valid setters index there. rival_ranks_whole c.args.ops.now valid us o
    c.args.setters.now setters c.args.x.now there c.in_ok-ranks.ranks
    (c.in_ok-ranks.ensures us o valid setters index there)
