use Rattle.std.proofs.Common.{refl}
use Rattle.gf_take_run.proofs.TakeLemmas.{lines_divided, lines_read, lines_unread}
use Rattle.gf_take_run.proofs.reading.read_lines.Goals as goal

pub returns-clause-ok : goal.returns-clause-ok
returns-clause-ok g c =
    let r = c.in-Ok.replica in
    let d = c.in-Ok.ensures.held in
    lines_read c.args.lines.items r.ops r.held d c.args.request.site c.site_of.result
    (c.site_of.ensures.ok d.ops (lines_divided c.args.lines.items r.ops r.held d))

pub returns-clause-refused : goal.returns-clause-refused
returns-clause-refused g c = λ fig.
    let r = c.in-Ok.replica in
    let d = c.in-Ok.ensures.held in
    lines_unread c.args.lines.items r.ops r.held d c.args.request fig c.site_of.result
    (c.site_of.ensures.refused c.args.request d.ops fig refl
    (lines_divided c.args.lines.items r.ops r.held d))
