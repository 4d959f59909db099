use Rattle.std.proofs.Common.{◌≡◌, filter, take}
use Rattle.gf_visible.specs.ClassSays.{hides}
use Rattle.gf_visible.proofs.timeline.Timeline.hiders.Given as goal

abbrev pub invariant-loop-class : goal.invariant-loop-class
invariant-loop-class l = l.found.items
    ≡ filter (hides l.self.says) (take l.class-index l.classes)
