use Rattle.std.proofs.Common.{refl, ◌+◌, get_or}
use Rattle.gf_maximal.specs.declared.run.Run.{Run}
use Rattle.gf_maximal.proofs.PutLemmas.{cut_step}
use Rattle.gf_maximal.proofs.run.all_cut.Goals as goal

pub loop-run-preserved : goal.loop-run-preserved
loop-run-preserved c =
    let i = c.loop-run.run-index in
    let runs = c.args.runs.now in
    let none : Run = record { start = 0; end = 0 } in
    cut_step c.args.others.now runs c.loop-run.rest.now c.after-rest.result.now i (i + 1)
    (get_or runs i none) none c.loop-run.pieces.items c.cut.new.pieces.items
    refl c.loop-run-test.true refl c.requires.runs c.loop-run.invariant c.after-rest.ensures
    c.in_ok-cut.ensures
