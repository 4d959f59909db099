use Rattle.std.proofs.Common.{pos}
use Rattle.gf_plane.specs.declared.point.Point.{Point}
use Rattle.gf_shape.proofs.RingLemmas.{movable_at, moved_all, moved_more}
use Rattle.gf_shape.proofs.points.all_moved.Goals as goal

abbrev none : Point
none = record { x = pos 0; y = pos 0 }

pub loop-p-init : goal.loop-p-init
loop-p-init c = c.in_ok-moved.ensures.items

pub moved-requires : goal.moved-requires
moved-requires c = movable_at c.args.points.now c.loop-p.p-index none c.args.d c.loop-p-test.true
    c.requires

pub loop-p-preserved : goal.loop-p-preserved
loop-p-preserved c = moved_more c.loop-p.moved.items c.push.new.self.items c.moved.result c.args.d
    none c.args.points.now c.loop-p.p-index c.loop-p-test.true c.in_ok-push.ensures.items
    c.loop-p.invariant c.moved.ensures

pub returns : goal.returns
returns c = moved_all c.loop-p.moved.items c.args.points.now c.args.d c.loop-p.p-index
    c.loop-p-test.false c.loop-p.invariant
