use Rattle.gf_fig_named.proofs.CountedLemmas.{counted_read}
use Rattle.gf_fig_named.proofs.reading.read_names.Goals as goal

pub returns-clause-counted : goal.returns-clause-counted
returns-clause-counted c = λ h valid named. counted_read h c.args.fig.now valid named
    c.in_ok-known.known c.in_ok-known.ensures.counted c.in_ok-known.ensures.none
