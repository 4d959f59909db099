use Rattle.gf_maximal.proofs.PutLemmas.{piece_kept, piece_told}
use Rattle.gf_maximal.proofs.numbers.Numbers.between.Goals as goal

pub invariant_of-result : goal.invariant_of-result
invariant_of-result c = piece_kept (record { start = c.args.start; end = c.args.end })
    c.in_ok-one_run.field-0.items c.in_ok-one_run.ensures

pub returns : goal.returns
returns c = piece_told (record { start = c.args.start; end = c.args.end })
    c.in_ok-one_run.field-0.items c.in_ok-one_run.ensures
