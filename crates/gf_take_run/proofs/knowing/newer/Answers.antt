use Rattle.std.proofs.Common.{rules, arith, ◌≡◌, ◌<◌}
use Rattle.gf_ops.specs.OperationOrder.{entry}
use Rattle.gf_take_run.specs.TakeSteps.{IsBeyond, IsNewerThan}
use Rattle.gf_take_run.proofs.NewerLemmas.{beyond_newer, none_lifted, some_lifted, within_not_newer}
use Rattle.gf_take_run.proofs.knowing.newer.Goals as goal

pub returns-clause-some : goal.returns-clause-some
returns-clause-some c =
    let s = c.args.site in
    let knew = c.args.knew.now in
    let h = c.args.history.now.ops in
    let a = c.args.op.now in
    let own : a.id.site ≡ s = search rules in
    let after : entry knew s < a.id.seq = search (rules, arith) in
    some_lifted (IsBeyond s a.past c.args.known.now) (IsNewerThan s knew h a) c.first_beyond.result
    (beyond_newer s knew h c.requires.valid c.args.known.now c.requires.reached a
    c.requires.contained own after)
    c.first_beyond.ensures.some

pub returns-clause-none : goal.returns-clause-none
returns-clause-none c =
    none_lifted _ _ c.first_beyond.result
    (within_not_newer c.args.site c.args.knew.now c.args.history.now.ops c.requires.valid
    c.args.known.now c.requires.reached c.args.op.now)
    c.first_beyond.ensures.none
