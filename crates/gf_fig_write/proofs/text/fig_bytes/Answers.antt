use Rattle.std.proofs.Common.{arith, ◌≡◌, subst, sym, List, ℕ}
use Rattle.std.proofs.lemmas.Grind.{common_steps}
use Rattle.gf_figures.specs.Outlined.{outlined}
use Rattle.gf_fig_read.specs.FigGrammar.{Reads}
use Rattle.gf_fig_write.specs.FigText.{fig_text}
use Rattle.gf_fig_write.proofs.ReadingBack.{text_reads}
use Rattle.gf_fig_write.proofs.text.fig_bytes.Goals as goal

pub returns-clause-reads : goal.returns-clause-reads
returns-clause-reads g c =
    let outline = g.S.Shape.outline in
    let d = c.args.drawing.now in
    let is : c.push_figures.new.out.items ≡ fig_text outline d = grind (arith, common_steps) in
    subst (λ (bytes : List ℕ). Reads bytes (outlined outline d)) (sym is)
    (text_reads outline d c.colours.ensures.lawful
    (rw c.colours.ensures.table at c.in_ok-push_table.ensures.bytes)
    (rw c.figures.ensures.figures at c.in_ok-push_figures.ensures.lawful))
