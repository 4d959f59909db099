use Rattle.gf_maximal.proofs.ListingLemmas.{grown_first}
use Rattle.gf_maximal.proofs.listing.all_sets.Goals as goal

pub loop-place-init : goal.loop-place-init
loop-place-init c = record {
  front = c.new-met.ensures;
  grown = grown_first c.args.rows.now c.new-met.result c.in_ok-sets.sets.items c.new-met.ensures
      c.in_ok-sets.ensures;
}
