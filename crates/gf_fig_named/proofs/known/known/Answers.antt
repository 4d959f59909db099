use Rattle.gf_fig_named.proofs.KnownLemmas.{nothing_told}
use Rattle.gf_fig_named.proofs.known.known.Goals as goal

pub returns-in-Some-clause-none : goal.returns-in-Some-clause-none
returns-in-Some-clause-none c = nothing_told c.args.fig.now c.in-Some.line.now c.known_by.result
    (c.in-Some.ensures.some) c.known_by.ensures.none
