use Rattle.gf_serve.proofs.InboxLemmas.{body_taken}
use Rattle.gf_serve.proofs.inbox.read_body.Goals as goal

pub returns-clause-takes : goal.returns-clause-takes
returns-clause-takes g c =
    body_taken _ _ c.loop-source.held.items _ c.args.count c.cut.result c.loop-source.invariant.keeps
    c.cut.ensures.front c.cut.ensures.rest
