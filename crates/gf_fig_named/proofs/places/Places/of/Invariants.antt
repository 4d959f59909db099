use Rattle.gf_fig_named.specs.Places.{ArePlaces}
use Rattle.gf_fig_named.proofs.places.Places.of.Given as goal

abbrev pub invariant-loop-place : goal.invariant-loop-place
invariant-loop-place l = ArePlaces l.items l.place l.objects.entries
