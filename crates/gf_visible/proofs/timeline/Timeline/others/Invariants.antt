use Rattle.std.proofs.Common.{◌≡◌, filter, take}
use Rattle.gf_visible.specs.ClassSays.{is_other}
use Rattle.gf_visible.proofs.timeline.Timeline.others.Given as goal

abbrev pub invariant-loop-class : goal.invariant-loop-class
invariant-loop-class l = l.found.items
    ≡ filter (is_other l.self.rows l.self.says l.hiders) (take l.class-index l.classes)
