use Rattle.std.proofs.Common.{ap, drop, ◌∙◌}
use Rattle.std.proofs.lemmas.List.{drop-drop}
use Rattle.gf_streams.proofs.text_lines.TextLines.advance_by.Goals as goal

pub loop-preserved : goal.loop-preserved
loop-preserved c = c.advance.ensures
    ∙ (ap (drop 1) c.loop.invariant ∙ drop-drop 1 c.loop.counter c.args.self.now)
