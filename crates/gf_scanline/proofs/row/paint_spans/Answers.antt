use Rattle.std.proofs.Common.{◌+◌, ◌<◌, ◌≤◌, pos, drop, length, get_or, rules, arith}
use Rattle.std.specs.List.{list_any}
use Rattle.gf_spans.specs.declared.span.Span.{Span}
use Rattle.gf_spans.specs.Spans.{is_in_span}
use Rattle.gf_scanline.specs.Strips.{over}
use Rattle.gf_scanline.specs.Windows.{column}
use Rattle.gf_scanline.proofs.RowLemmas.{any_drop, spans_painted, spans_done}
use Rattle.gf_scanline.proofs.row.paint_spans.Goals as goal

pub loop-span-preserved : goal.loop-span-preserved
loop-span-preserved c =
    let none : Span = record { first = pos 0; last = pos 0 } in
    let ss = c.args.spans.now in
    let i = c.loop-span.span-index in
    let l : i < length ss = search rules in
    λ target behind h. c.in_ok-paint_span.ensures target
    (over (λ k. list_any (is_in_span (column c.args.window k)) (drop (i + 1) ss)) c.args.brush.now
    behind)
    (spans_painted target behind c.args.brush.now
    (λ k. is_in_span (column c.args.window k) (get_or ss i none))
    (λ k. list_any (is_in_span (column c.args.window k)) (drop (i + 1) ss))
    (λ k. list_any (is_in_span (column c.args.window k)) (drop i ss)) c.args.window.width
    c.loop-span.strip (λ k. any_drop (is_in_span (column c.args.window k)) ss i none l)
    (c.loop-span.invariant target behind h))

pub returns : goal.returns
returns c = λ target behind h.
    let l : length c.args.spans.now ≤ c.loop-span.span-index = search (rules, arith) in
    spans_done target behind c.args.brush.now (λ k. column c.args.window k) c.args.spans.now
    c.loop-span.span-index c.args.window.width c.loop-span.strip l
    (c.loop-span.invariant target behind h)
