use Rattle.std.proofs.Common.{sym, ap, if◌then◌else◌}
use Rattle.gf_spans.specs.Spans.{is_in_span}
use Rattle.gf_scanline.specs.Columns.{is_among}
use Rattle.gf_scanline.specs.Strips.{over}
use Rattle.gf_scanline.specs.Windows.{column}
use Rattle.gf_scanline.proofs.RowLemmas.{painted_same}
use Rattle.gf_scanline.proofs.row.paint_span.Goals as goal

pub returns : goal.returns
returns c = λ target behind h.
    c.in_ok-paint.ensures.painted target behind c.args.window.width
    (painted_same target (over (λ k. is_in_span (column c.args.window k) c.args.span)
    c.args.brush.now behind) (over (is_among c.columns.result) c.args.brush.now behind)
    c.args.window.width c.args.strip.now (λ k l. ap (λ t. if t then c.args.brush.now else behind k)
    (sym (c.columns.ensures k l))) h)
