use Rattle.std.proofs.Common.{ap}
use Rattle.gf_link.proofs.RuleLemmas.{pops}
use Rattle.gf_link.proofs.SeatLemmas.{taker_more}
use Rattle.gf_link.proofs.link.Link.take.Goals as goal

pub pop_as-requires-clause-rule : goal.pop_as-requires-clause-rule
pop_as-requires-clause-rule g c = (
  pops _ _ (ap (λ v. v.takes) c.seat.invariant.role),
  λ items views h at. tt,
)

pub invariant_of-seat-2 : goal.invariant_of-seat-2
invariant_of-seat-2 g c = rw c.is_end-seat-inside.ensures
    (taker_more c.seat.inside c.pop_as.new.pass c.in-Some.message c.seat.invariant
    c.pop_as.ensures.queue.2 c.in-Some.ensures.rule)
