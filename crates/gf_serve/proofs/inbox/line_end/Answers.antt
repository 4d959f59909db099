use Rattle.gf_streams.specs.TextLines.{is_line_end}
use Rattle.gf_streams.proofs.FirstByteLemmas.{position-from_first}
use Rattle.gf_serve.proofs.inbox.line_end.Goals as goal

pub returns : goal.returns
returns c = position-from_first is_line_end c.args.held.now c.memchr.result c.memchr.ensures
