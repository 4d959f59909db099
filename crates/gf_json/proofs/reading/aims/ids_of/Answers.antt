use Rattle.std.proofs.Common.{rules, inr, length, sym, ◌∙◌}
use Rattle.std.specs.Prelude.{◌&&◌, nat_le}
use Rattle.std.specs.List.{list_all}
use Rattle.std.proofs.lemmas.Bool.{and_parts}
use Rattle.serde_json.specs.View.{items_view}
use Rattle.gf_ops.specs.Limits.{is_aim, is_id}
use Rattle.gf_ops.specs.OperationOrder.{id_cmp, rises}
use Rattle.gf_json.specs.LineForms.{elements, name}
use Rattle.gf_json.specs.ReadLists.{ids_of}
use Rattle.gf_json.proofs.ElementLemmas.{each_kept, each_read, keeps, keeps_as}
use Rattle.gf_json.proofs.IdLemmas.{aim_named}
use Rattle.gf_json.proofs.reading.aims.ids_of.Goals as goal

pub names-requires : goal.names-requires
names-requires c =
    let vs = c.args.values.now in
    let ds = elements (items_view vs) in
    let (is, form, within) = keeps is_aim (ids_of ds) (search rules) in
    let first = and_parts (nat_le (length is) 1000 && list_all is_id is) (rises id_cmp is) within in
    each_kept name is_id vs is (aim_named ds is form)
    (and_parts (nat_le (length is) 1000) (list_all is_id is) first.0).1

pub returns-in-Ok : goal.returns-in-Ok
returns-in-Ok c =
    let vs = c.args.values.now in
    let ds = elements (items_view vs) in
    let (is, form, within) = keeps is_aim (ids_of ds) (search rules) in
    let read = each_read name vs c.in-Ok.ids.items c.in-Ok.ensures in
    inr (rw c.new.ensures (keeps_as is_aim (ids_of ds) c.in-Ok.ids.items (search rules)
    (form ∙ (sym (aim_named ds is form) ∙ read))))
