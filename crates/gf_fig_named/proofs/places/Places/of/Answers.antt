use Rattle.gf_fig_named.proofs.PlaceLemmas.{placed_more}
use Rattle.gf_fig_named.proofs.places.Places.of.Goals as goal

pub loop-place-preserved : goal.loop-place-preserved
loop-place-preserved c =
    placed_more c.args.items.now c.loop-place.place c.index-items-place.result
    c.loop-place-test.true c.index-items-place.is c.loop-place.objects.entries
    c.push_position.new.objects.entries c.loop-place.invariant c.in_ok-push_position.ensures.ok
