use Rattle.std.proofs.Common.{ap, subst, sym, ◌≡◌}
use Rattle.std.proofs.lemmas.List.Sorted.{IsPermutation-map}
use Rattle.gf_scanline.specs.declared.segment.Segment.{Segment}
use Rattle.gf_scanline.specs.Columns.{is_among}
use Rattle.gf_scanline.specs.Segments.{AreSegmentsOf, views}
use Rattle.gf_scanline.specs.Strips.{SegmentView, Shown}
use Rattle.gf_scanline.proofs.PaintedLemmas.{finished, ground_over, moved}
use Rattle.gf_scanline.proofs.strip.Strip.finish.Goals as goal

pub returns : goal.returns
returns c = λ target h.
    let ground = c.args.ground.now in
    let n = c.args.window.width in
    let sorted = c.sort.new.segments.items in
    let view : Segment → SegmentView = λ s. record { columns = s.columns; colour = s.brush.now } in
    let free = rw c.width.ensures.width at c.in_ok-paint.ensures.free in
    let painted = c.in_ok-paint.ensures.painted target (λ _. ground) n
    (ground_over target (is_among (record { from = 0; to = c.width.result })) ground n
    c.args.self.now h) in
    let whole = finished target ground n c.args.self.now c.paint.new.self painted free in
    let kept : views c.self.inside.segments.items ≡ c.paint.new.self.segments = ap
    (λ (s : Shown). s.segments) c.self.view_is in
    let ordered = moved target n (views c.self.inside.segments.items) (views sorted)
    (IsPermutation-map view c.self.inside.segments.items sorted c.in_ok-sort.ensures.permutation)
    (subst (AreSegmentsOf target n) (sym kept) whole) in
    c.in_ok-strokes.ensures target n (subst (λ z. AreSegmentsOf target n (views z))
    (sym c.deref.ensures.value) ordered)
