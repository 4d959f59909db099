use Rattle.std.proofs.Common.{rules, inr, codes}
use Rattle.serde_json.specs.View.{view}
use Rattle.gf_json.specs.LineForms.{ids, name, natural}
use Rattle.gf_json.specs.LineChanges.{at}
use Rattle.gf_json.proofs.PartLemmas.{keep_limited, served}
use Rattle.gf_json.proofs.reading.kept.Goals as goal

pub returns : goal.returns
returns c =
    let d = view c.args.line.now in
    inr (rw c.keep.ensures (keep_limited (at (codes "site") natural d) c.in_ok-site.site
    (at (codes "object") name d) c.in_ok-object.object (at (codes "with") ids d) c.in_ok-with.with
    (search rules) (search rules) (rw c.get-3.ensures at (served _ _ _ c.in_ok-with.ensures))))
