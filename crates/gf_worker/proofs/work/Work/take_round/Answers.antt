use Rattle.std.proofs.Common.{◌∙◌}
use Rattle.gf_worker.proofs.HearLemmas.{continues_trans}
use Rattle.gf_worker.proofs.work.Work.take_round.Goals as goal

pub loop-k-preserved : goal.loop-k-preserved
loop-k-preserved g c = record {
  continues = continues_trans c.args.self.now c.loop-k.self c.take_one.new.self
      c.loop-k.invariant.continues c.take_one.ensures.continues;
  within = c.take_one.ensures.within ∙ c.loop-k.invariant.within;
}
