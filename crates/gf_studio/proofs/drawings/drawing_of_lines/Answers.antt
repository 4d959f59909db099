use Rattle.gf_studio.specs.declared.drawings.DrawnLines.{DrawnLines}
use Rattle.gf_studio.specs.FigRun.{Draws, HoldsBack}
use Rattle.gf_studio.specs.RefusedRuns.{RefusesLines}
use Rattle.gf_studio.proofs.AnswerLemmas.{left_ok, left_refuses, reads_on, unwritten}
use Rattle.gf_studio.proofs.PaintingLemmas.{left_meant}
use Rattle.gf_studio.proofs.drawings.drawing_of_lines.Goals as goal

pub returns-clause-ok : goal.returns-clause-ok
returns-clause-ok g c = left_ok _ c.in_ok-bytes.bytes.items
    (λ bytes (d : DrawnLines). Draws bytes d.drawing) c.draw.result c.in_ok-bytes.ensures.ok
    c.draw.ensures.ok

pub returns-clause-waiting : goal.returns-clause-waiting
returns-clause-waiting g c = left_ok _ c.in_ok-bytes.bytes.items
    (λ bytes (d : DrawnLines). HoldsBack bytes d.waiting) c.draw.result c.in_ok-bytes.ensures.ok
    c.draw.ensures.waiting

pub returns-clause-meant : goal.returns-clause-meant
returns-clause-meant g c = left_meant _ c.draw.result (returns-clause-ok g c)

pub returns-clause-refused : goal.returns-clause-refused
returns-clause-refused g c = left_refuses _ c.in_ok-bytes.bytes.items RefusesLines c.draw.result
    c.in_ok-bytes.ensures.ok c.draw.ensures.refused

pub returns-clause-source : goal.returns-clause-source
returns-clause-source g c = reads_on _ _ _ c.in_ok-bytes.bytes c.draw.result
    c.in_ok-bytes.ensures.source c.draw.ensures.between

pub returns-clause-no_write : goal.returns-clause-no_write
returns-clause-no_write g c = unwritten c.draw.result c.draw.ensures.between
