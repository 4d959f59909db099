use Rattle.std.proofs.Common.{refl, ◌+◌, get_or}
use Rattle.gf_maximal.specs.declared.run.Run.{Run}
use Rattle.gf_maximal.proofs.RunTestLemmas.{any_found, any_passed}
use Rattle.gf_maximal.proofs.run.any_touches.Goals as goal

pub returns-then-touches_front : goal.returns-then-touches_front
returns-then-touches_front c =
    let i = c.loop-run.run-index in
    let runs = c.args.runs.now in
    let none : Run = record { start = 0; end = 0 } in
    any_found c.args.others.now runs c.loop-run.rest.now c.after-rest.result.now i (i + 1)
    (get_or runs i none) none refl c.loop-run-test.true refl c.requires.runs c.loop-run.invariant.1
    c.after-rest.ensures
    c.touches_front.result c.touches_front.ensures c.if-touches_front.true c.loop-run.invariant.0

pub loop-run-preserved : goal.loop-run-preserved
loop-run-preserved c =
    let i = c.loop-run.run-index in
    let runs = c.args.runs.now in
    let none : Run = record { start = 0; end = 0 } in
    any_passed c.args.others.now runs c.loop-run.rest.now c.after-rest.result.now i (i + 1)
    (get_or runs i none) none refl c.loop-run-test.true refl c.requires.runs c.loop-run.invariant.1
    c.after-rest.ensures
    c.touches_front.result c.touches_front.ensures c.if-touches_front.false c.loop-run.invariant.0
