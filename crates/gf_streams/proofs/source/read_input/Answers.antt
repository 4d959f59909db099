use Rattle.std.proofs.Common.{ℕ, rules, arith, length-take}
use Rattle.std.proofs.lemmas.Result.{err_from_is_err_and}
use Rattle.gf_streams.proofs.ReadsLemmas.{consumes_at_most_more, consumes_some_more}
use Rattle.gf_streams.proofs.source.read_input.Goals as goal

pub returns-in_err-read_onto-clause-out_of_memory :
    goal.returns-in_err-read_onto-clause-out_of_memory
returns-in_err-read_onto-clause-out_of_memory g c =
    let p = err_from_is_err_and c.from_residual.result c.from_residual.ensures.1 in
    rw (p.1, p.2) (λ e. consumes_some_more _ _ _ _ _ _ c.loop-chunk.invariant.takes
    (omega (arith, length-take {A = ℕ})) (c.in_err-read_onto.ensures.memory (search (rules, e))))

pub returns-in_err-read_onto-clause-takes : goal.returns-in_err-read_onto-clause-takes
returns-in_err-read_onto-clause-takes g c =
    consumes_at_most_more _ _ _ _ _ _ c.loop-chunk.invariant.takes
    (omega (arith, length-take {A = ℕ})) c.in_err-read_onto.ensures.takes

pub returns-then-branch-eq0-clause-takes : goal.returns-then-branch-eq0-clause-takes
returns-then-branch-eq0-clause-takes g c =
    consumes_at_most_more _ _ _ _ _ _ c.loop-chunk.invariant.takes
    (omega (arith, length-take {A = ℕ})) c.in_ok-read_onto.ensures.takes
