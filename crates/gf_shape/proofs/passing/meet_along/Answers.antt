use Rattle.std.proofs.Common.{refl, IsTrue, pos}
use Rattle.std.proofs.lemmas.Int.{to_z-of_z}
use Rattle.std.proofs.lemmas.List.Elements.{All-get_or}
use Rattle.gf_plane.specs.declared.point.Point.{Point}
use Rattle.gf_plane.specs.Reach.{is_within_reach}
use Rattle.gf_shape.specs.RowParts.{contacts_along, contacts_of, crossings_along, crossings_of}
use Rattle.gf_shape.proofs.RowPaths.{gathers_all, gathers_more}
use Rattle.gf_shape.proofs.passing.meet_along.Goals as goal

abbrev none : Point
none = record { x = pos 0; y = pos 0 }

pub loop-to-preserved : goal.loop-to-preserved
loop-to-preserved c =
    let f = c.ranges.y in
    let is = simp to_z-of_z at c.loop-to.invariant.crossings in
    let has = simp to_z-of_z at c.loop-to.invariant.contacts in
    let crossed = simp to_z-of_z at c.in_ok-meet.ensures.crossings in
    let met = simp to_z-of_z at c.in_ok-meet.ensures.contacts in
    simp to_z-of_z (record {
      reach = All-get_or (λ p. IsTrue (is_within_reach p)) c.args.rest.now c.loop-to.to-index none
          c.loop-to-test.true c.requires.rest;
      crossings = gathers_more (crossings_along c.args.y) (λ a b. crossings_of c.args.y (a, b))
          (λ a b ps. refl) _ _ _ c.loop-to.from none c.args.rest.now c.loop-to.to-index
          c.loop-to-test.true crossed is;
      contacts = gathers_more (contacts_along c.args.y) (λ a b. contacts_of c.args.y (a, b))
          (λ a b ps. refl) _ _ _ c.loop-to.from none c.args.rest.now c.loop-to.to-index
          c.loop-to-test.true met has;
    })

pub meet-requires-clause-b : goal.meet-requires-clause-b
meet-requires-clause-b c = All-get_or (λ p. IsTrue (is_within_reach p)) c.args.rest.now
    c.loop-to.to-index none c.loop-to-test.true c.requires.rest

pub returns-clause-crossings : goal.returns-clause-crossings
returns-clause-crossings c =
    let f = c.ranges.y in
    let is = simp to_z-of_z at c.loop-to.invariant.crossings in
    gathers_all (crossings_along c.args.y) (λ a. refl) _ _ c.loop-to.from c.args.rest.now
    c.loop-to.to-index c.loop-to-test.false is

pub returns-clause-contacts : goal.returns-clause-contacts
returns-clause-contacts c =
    let f = c.ranges.y in
    let is = simp to_z-of_z at c.loop-to.invariant.contacts in
    gathers_all (contacts_along c.args.y) (λ a. refl) _ _ c.loop-to.from c.args.rest.now
    c.loop-to.to-index c.loop-to-test.false is
