use Rattle.std.proofs.Common.{◌≡◌, ◌-◌, length}
use Rattle.std.specs.Prelude.{All, IsTrue}
use Rattle.gf_plane.specs.Reach.{is_within_reach}
use Rattle.gf_fig_tokens.specs.Fields.{points}
use Rattle.gf_fig_read.proofs.Loop.{with_front}
use Rattle.gf_fig_read.proofs.outlines.points.Given as goal

abbrev pub invariant-loop : goal.invariant-loop
invariant-loop l = record {
  read : with_front l.points.items (points (l.count - l.counter) l.tokens) ≡ points l.count
      l.initial.tokens;
  len : length l.points.items ≡ l.counter;
  within : All (λ p. IsTrue (is_within_reach p)) l.points.items;
}
