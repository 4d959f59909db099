use Rattle.std.proofs.Common.{arith, get_or, subst}
use Rattle.gf_replay.specs.Blocks.{IsReading}
use Rattle.gf_replay.proofs.BlockLemmas.{zip_from_places}
use Rattle.gf_replay.proofs.blocks.read_each.Goals as goal

pub returns : goal.returns
returns g c =
    zip_from_places IsReading (λ line. (line.0, line.1.now)) c.args.lines.now c.for_each_mut.new.s
    (omega (arith, c.for_each_mut.auto.s, c.requires.places))
    (λ i within d e.
    let at = (c.for_each_mut.ensures i e (omega (arith, within, c.for_each_mut.auto.s))).1 in
    subst (λ r. let line = get_or c.args.lines.now i d in IsReading (line.0, line.1.now) r) at.left
    (at.call d))
