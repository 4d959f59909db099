use Rattle.std.proofs.Common.{rules, inr, codes}
use Rattle.serde_json.specs.Find.{as_bool}
use Rattle.serde_json.specs.View.{view}
use Rattle.gf_json.specs.LineForms.{◌&◌, hex_colour, natural, point}
use Rattle.gf_json.specs.LineChanges.{at}
use Rattle.gf_json.specs.ReadLines.{named_form}
use Rattle.gf_json.proofs.PartLemmas.{create_limited, served}
use Rattle.gf_json.proofs.reading.changes.created.Goals as goal

pub returns : goal.returns
returns c =
    let d = view c.args.line.now in
    inr (rw c.creation.ensures (create_limited (named_form d) c.in_ok-form.form
    (at (codes "place") point d) c.in_ok-place.place
    (at (codes "colour") hex_colour d & at (codes "layer") natural d & at (codes "shown") as_bool d)
    c.in_ok-look.look (served _ _ _ c.in_ok-form.ensures) (search rules) (search rules)))
