use Rattle.std.proofs.Common.{arith, subst, sym, IsTrue, length, drop, ◌-◌}
use Rattle.std.proofs.lemmas.List.Elements.{All-drop, All-get_or, All-take}
use Rattle.gf_plane.specs.Reach.{is_within_reach}
use Rattle.gf_shape.proofs.RowShapes.{end_of-ring}
use Rattle.gf_shape.proofs.chain.Chain.row_into.Goals as goal

pub set_path-requires-clause-first : goal.set_path-requires-clause-first
set_path-requires-clause-first c =
    let least = c.self.invariant.least in
    subst (λ p. IsTrue (is_within_reach p)) (sym c.index.ensures)
    (All-get_or (λ p. IsTrue (is_within_reach p)) c.self.inside.points.items 0 c.index.result.now
    (omega arith) c.self.invariant.reach)

pub set_path-requires-clause-rest : goal.set_path-requires-clause-rest
set_path-requires-clause-rest c =
    let points = c.self.inside.points.items in
    let reach = All-take (λ p. IsTrue (is_within_reach p)) (length points - 1) (drop 1 points)
    (All-drop (λ p. IsTrue (is_within_reach p)) 1 points c.self.invariant.reach) in
    rw c.deref.ensures.value reach

pub set_path-requires-clause-closed : goal.set_path-requires-clause-closed
set_path-requires-clause-closed c = end_of-ring _ _ _ c.self.invariant c.index.ensures
    c.deref.ensures.value
