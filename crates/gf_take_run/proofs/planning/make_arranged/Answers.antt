use Rattle.std.proofs.lemmas.Result.{err_from_is_err_and}
use Rattle.gf_take_run.proofs.planning.make_arranged.Goals as goal

pub returns-in_err-shown-clause-refused : goal.returns-in_err-shown-clause-refused
returns-in_err-shown-clause-refused c = λ s b fig d m.
    let p = err_from_is_err_and c.from_residual-in_err-shown.result
    c.from_residual-in_err-shown.ensures.1 in
    rw (p.1, p.2) (c.in_err-shown.ensures.refused s b fig d m)
