use Rattle.std.proofs.Common.{subst}
use Rattle.gf_fig_read.specs.Stepping.{Finds}
use Rattle.gf_fig_read.proofs.LineLemmas.{on_its_line, none_on_a_line}
use Rattle.gf_fig_read.proofs.lines.object_line.Goals as goal

pub returns-in-Some : goal.returns-in-Some
returns-in-Some c =
    on_its_line c.args.text.now c.in-Ok.tokens c.args.object c.in-Some.left c.line_from.result
    c.in-Ok.ensures.ok
    (subst (λ found. Finds found c.in-Ok.tokens c.args.object) c.in-Some.is c.in_ok-left.ensures)
    (c.line_from.ensures c.in-Ok.tokens c.in-Ok.ensures.ok)

pub returns-in-None : goal.returns-in-None
returns-in-None c = λ line.
    none_on_a_line c.args.text.now c.in-Ok.tokens c.args.object line c.in-Ok.ensures.ok
    (subst (λ found. Finds found c.in-Ok.tokens c.args.object) c.in-None.is c.in_ok-left.ensures)
