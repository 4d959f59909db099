use Rattle.std.proofs.Common.{◌<◌, ◌≤◌, ◌∷◌, [], append_assoc, arith, length, refl, rules, sym}
use Rattle.std.proofs.lemmas.List.{append-nil}
use Rattle.gf_scanline.specs.declared.stroke.Stroke.{Stroke}
use Rattle.gf_scanline.proofs.StrokeLemmas.{no_later, seen_more, stroke_more}
use Rattle.gf_scanline.proofs.segment.strokes_of.Goals.{then-at-segment+in_ok-push, else-at-segment}
use Rattle.gf_scanline.proofs.segment.strokes_of.Goals as goal

pub loop-segment-preserved : goal.loop-segment-preserved
loop-segment-preserved c =
    let ss = c.args.segments.now in
    let i = c.loop-segment.segment-index in
    let at = c.loop-segment.at in
    let s = c.segment-item.result in
    let l : i < length ss = search rules in
    let e = sym c.segment-item.is in
    elim c.if-at-segment.branch [
      | then-at-segment+in_ok-push w ↦
          let d : Stroke = record { to = s.columns.to; brush = s.brush } in
          let past = w.if-at-segment.true in
          rw (w.at-is, w.strokes-is) (record {
            seen = seen_more ss i at s.columns.to s c.loop-segment.invariant.seen l e
                (omega (arith, past)) (omega arith);
            strokes = λ target n h rest r.
                let more = stroke_more target n ss i at s d rest c.requires h
                c.loop-segment.invariant.seen l e refl refl past r in
                rw (
                  w.in_ok-push.ensures.items,
                  append_assoc c.loop-segment.strokes.items (d ∷ []) rest,
                ) (c.loop-segment.invariant.strokes target n h (d ∷ rest) more);
          })
      | else-at-segment w ↦
          let short = w.if-at-segment.false in
          rw (w.at-is, w.strokes-is) (record {
            seen = seen_more ss i at at s c.loop-segment.invariant.seen l e (omega arith) short;
            strokes = c.loop-segment.invariant.strokes;
          })
    ]

pub returns : goal.returns
returns c = λ target n h.
    let ss = c.args.segments.now in
    let l : length ss ≤ c.loop-segment.segment-index = search (rules, arith) in
    rw (append-nil c.loop-segment.strokes.items) at (c.loop-segment.invariant.strokes target n h []
    (no_later target n ss c.loop-segment.segment-index c.loop-segment.at h
    c.loop-segment.invariant.seen l))
