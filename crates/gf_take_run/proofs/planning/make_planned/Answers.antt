use Rattle.std.proofs.lemmas.Result.{err_from_is_err_and}
use Rattle.gf_take_run.proofs.planning.make_planned.Goals as goal

pub returns-in_err-shown-clause-refused : goal.returns-in_err-shown-clause-refused
returns-in_err-shown-clause-refused c = λ s b m.
    let p = err_from_is_err_and c.from_residual-in_err-shown.result
    c.from_residual-in_err-shown.ensures.1 in
    rw (p.1, p.2)
    (c.in_err-shown.ensures.refused s b c.args.fig.now c.args.drawn.now.drawing m)

pub returns-in_err-last-clause-refused : goal.returns-in_err-last-clause-refused
returns-in_err-last-clause-refused c = λ s b m.
    let p = err_from_is_err_and c.from_residual-in_err-last.result
    c.from_residual-in_err-last.ensures.1 in
    rw (p.1, p.2) (c.in_err-last.ensures.refused s b (c.in_ok-shown.ensures.made s b m))
