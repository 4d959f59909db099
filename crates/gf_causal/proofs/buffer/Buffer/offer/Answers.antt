use Rattle.gf_causal.proofs.StandingLemmas.{not_clash, not_known}
use Rattle.gf_causal.proofs.buffer.Buffer.offer.Goals as goal

pub returns-then-is_err-clause-clash : goal.returns-then-is_err-clause-clash
returns-then-is_err-clause-clash c = (
  λ e. absurd cc,
  λ p. absurd (not_clash _ _ _ c.in-Free.ensures p.1),
)

pub returns-then-is_err-clause-already : goal.returns-then-is_err-clause-already
returns-then-is_err-clause-already c = (
  λ e. absurd cc,
  λ p. absurd (not_known _ _ _ c.in-Free.ensures p.1),
)

pub returns-else-is_err-clause-clash : goal.returns-else-is_err-clause-clash
returns-else-is_err-clause-clash c = (
  λ e. absurd cc,
  λ p. absurd (not_clash _ _ _ c.in-Free.ensures p.1),
)

pub returns-else-is_err-clause-already : goal.returns-else-is_err-clause-already
returns-else-is_err-clause-already c = (
  λ e. absurd cc,
  λ p. absurd (not_known _ _ _ c.in-Free.ensures p.1),
)
