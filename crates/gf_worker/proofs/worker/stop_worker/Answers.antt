use Rattle.std.proofs.Common.{true, refl}
use Rattle.gf_worker.proofs.EndLemmas.{last_items}
use Rattle.gf_worker.proofs.worker.stop_worker.Goals as goal

pub returns : goal.returns
returns g c = record {
  site = refl;
  seats = last_items c.args.ends.peers true c.deref_mut.result.now c.send_last.new.peers
      c.deref_mut.ensures.value c.send_last.ensures;
  accepted = c.new.ensures.items;
  refused = c.new-2.ensures.items;
  short = refl;
}
