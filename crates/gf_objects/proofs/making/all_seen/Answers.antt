use Rattle.std.proofs.Common.{pos}
use Rattle.gf_plane.specs.declared.point.Point.{Point}
use Rattle.gf_objects.proofs.SeenLemmas.{seen_more, seen_all}
use Rattle.gf_objects.proofs.making.all_seen.Goals as goal

abbrev none : Point
none = record { x = pos 0; y = pos 0 }

pub loop-p-init : goal.loop-p-init
loop-p-init c = c.in_ok-seen.ensures.items

pub loop-p-preserved : goal.loop-p-preserved
loop-p-preserved c = seen_more c.loop-p.seen.items c.push.new.self.items c.seen_at.result c.args.o
    none c.args.points.now c.loop-p.p-index c.loop-p-test.true c.in_ok-push.ensures.items
    c.loop-p.invariant c.seen_at.ensures

pub returns : goal.returns
returns c = seen_all c.loop-p.seen.items c.args.points.now c.args.o c.loop-p.p-index
    c.loop-p-test.false c.loop-p.invariant
