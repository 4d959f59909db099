use Rattle.gf_maximal.specs.Runs.{numbers_of}
use Rattle.gf_maximal.proofs.RunEditLemmas.{range_pushed, range_done}
use Rattle.std.proofs.Common.{◌++◌}
use Rattle.gf_maximal.proofs.run.push_numbers.Goals as goal

pub loop-number-preserved : goal.loop-number-preserved
loop-number-preserved c =
    range_pushed c.loop-number.numbers.items c.push.new.self.items
    (c.args.numbers.now.items ++ numbers_of c.args.run) c.loop-number.number c.args.run.end
    c.loop-number-test.true c.in_ok-push.ensures.items c.loop-number.invariant

pub returns : goal.returns
returns c = range_done c.loop-number.numbers.items
    (c.args.numbers.now.items ++ numbers_of c.args.run) c.loop-number.number c.args.run.end
    c.loop-number-test.false c.loop-number.invariant
