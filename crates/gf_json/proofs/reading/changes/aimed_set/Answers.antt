use Rattle.std.proofs.Common.{rules, inr, codes}
use Rattle.serde_json.specs.View.{view}
use Rattle.gf_json.specs.LineForms.{ids, name}
use Rattle.gf_json.specs.LineChanges.{at, named_value}
use Rattle.gf_json.proofs.PartLemmas.{served, set_limited}
use Rattle.gf_json.proofs.reading.changes.aimed_set.Goals as goal

pub returns : goal.returns
returns c =
    let d = view c.args.line.now in
    inr (rw c.setting.ensures (set_limited (at (codes "object") name d) c.in_ok-object.object
    (at (codes "to") (named_value d) d) c.in_ok-value.value (at (codes "aim") ids d)
    c.in_ok-aim.aim (search rules) (served _ _ _ c.in_ok-value.ensures)
    (rw c.get-2.ensures at (served _ _ _ c.in_ok-aim.ensures))))
