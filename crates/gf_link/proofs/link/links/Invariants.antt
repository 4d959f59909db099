use Rattle.std.proofs.Common.{◌≡◌, vec_len}
use Rattle.std.specs.Prelude.{All}
use Rattle.gf_link.specs.Fresh.{IsNewLink}
use Rattle.gf_link.proofs.link.links.Given as goal

-- the links so far are new
abbrev pub invariant-loop : goal.invariant-loop
invariant-loop g l = (vec_len l.links ≡ l.counter) × All (λ x. IsNewLink x.0 x.1 x.2) l.links.items
