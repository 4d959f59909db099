use Rattle.std.proofs.Common.{◌≡◌, take, map}
use Rattle.gf_plane.specs.Moving.{minus}
use Rattle.gf_objects.proofs.making.all_seen.Given as goal

abbrev pub invariant-loop-p : goal.invariant-loop-p
invariant-loop-p l = l.seen.items ≡ map (λ p. minus p l.o) (take l.p-index l.points)
