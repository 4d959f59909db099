use Rattle.std.proofs.Common.{◌≡◌, ◌∙◌, ◌++◌, ◌∷◌, [], ap, arith, inr}
use Rattle.std.proofs.lemmas.List.{map-append}
use Rattle.gf_scanline.specs.declared.segment.Segment.{Segment}
use Rattle.gf_scanline.specs.Segments.{views}
use Rattle.gf_scanline.specs.Strips.{SegmentView, Shown}
use Rattle.gf_scanline.proofs.PaintedLemmas.{free_behind, painted_run}
use Rattle.gf_scanline.proofs.strip.Strip.paint.Goals as goal

pub loop-run-preserved : goal.loop-run-preserved
loop-run-preserved c =
    let i = c.loop-run.invariant in
    let rest = c.loop-run.rest in
    let run = c.in-Some.run' in
    let taken = c.in-Some.ensures.some in
    let old : Shown = record {
      segments = views c.loop-run.self-inside.segments.items;
      free = c.loop-run.self-inside.free;
    } in
    let new : Shown = record { segments = views c.push.new.self.items; free = c.take.new.self } in
    let view : Segment → SegmentView = λ s. record { columns = s.columns; colour = s.brush.now } in
    let longer : new.segments ≡ old.segments ++ record { columns = run; colour = c.args.brush.now }
    ∷ [] =
    ap views c.in_ok-push.ensures.items ∙ map-append view c.loop-run.self-inside.segments.items
    (record { columns = run; brush = c.args.brush } ∷ []) in
    record {
      from = let a = i.from in let b = taken.from in let d = taken.some in omega (arith, a, b, d);
      to = i.to;
      bound = inr (let a = taken.to in let b = i.to in omega (arith, a, b));
      free = free_behind c.args.self.now.free c.loop-run.self-inside.free c.args.columns rest i.from
          i.free c.take.new.self run taken;
      painted = λ target behind n h. painted_run target behind n old new rest run c.args.brush.now
          taken longer (i.painted target behind n h);
    }
