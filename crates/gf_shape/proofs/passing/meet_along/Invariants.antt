use Rattle.std.proofs.Common.{◌≡◌, ◌++◌, drop, IsTrue}
use Rattle.gf_plane.specs.Reach.{is_within_reach}
use Rattle.gf_shape.specs.RowParts.{contacts_along, crossings_along}
use Rattle.gf_shape.proofs.passing.meet_along.Given as goal

abbrev pub invariant-loop-to : goal.invariant-loop-to
invariant-loop-to l = record {
  reach : IsTrue (is_within_reach l.from);
  crossings : l.meetings.crossings.items ++ crossings_along l.y l.from
      (drop l.to-index l.rest) ≡ l.initial.meetings.crossings.items ++ crossings_along l.y
      l.fn.first l.rest;
  contacts : l.meetings.contacts.items ++ contacts_along l.y l.from
      (drop l.to-index l.rest) ≡ l.initial.meetings.contacts.items ++ contacts_along l.y l.fn.first
      l.rest;
}
