use Rattle.gf_command.proofs.SpellingLemmas.{spelt_id, unspelt_id}
use Rattle.gf_command.proofs.querying.spelt_id.Goals as goal

pub returns-in_err-site : goal.returns-in_err-site
returns-in_err-site c = rw c.from_residual.ensures
    (unspelt_id c.args.text.now c.in_err-site.ensures.cases)

pub returns : goal.returns
returns c = spelt_id c.args.text.now (c.in_ok-site.site, c.in_ok-site.seq)
    c.in_ok-site.ensures.cases c.id_of.result c.id_of.ensures
