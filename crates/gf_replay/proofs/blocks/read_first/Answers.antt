use Rattle.std.proofs.Common.{◌≡◌, arith, length}
use Rattle.gf_replay.proofs.BlockLemmas.{first_from_block, given_back, none_from_block}
use Rattle.gf_replay.proofs.blocks.read_first.Goals as goal

pub returns-clause-first : goal.returns-clause-first
returns-clause-first g c =
    let reads = rw (c.deref.ensures.value, c.in_ok-block.ensures) at c.read_each.ensures in
    let long : c.in_ok-readings.readings.len ≡ length c.read_each.new.readings =
    omega (arith, c.read_each.auto.readings, c.deref_mut.ensures.len) in
    rw (given_back c.in_ok-readings.readings.len c.read_each.new.readings _ long)
    (first_from_block 4096 c.args.lines.now c.read_each.new.readings reads)

pub returns-clause-none : goal.returns-clause-none
returns-clause-none g c = λ empty.
    let reads = rw (c.deref.ensures.value, c.in_ok-block.ensures) at c.read_each.ensures in
    let long : length c.read_each.new.readings ≡ 0 =
    omega (arith, c.read_each.auto.readings, c.deref_mut.ensures.len, empty) in
    none_from_block 4096 c.args.lines.now c.read_each.new.readings (omega arith) long reads
