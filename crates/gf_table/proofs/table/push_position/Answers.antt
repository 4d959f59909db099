use Rattle.std.proofs.Common.{ℕ, List, ap, sym, ◌∙◌}
use Rattle.std.specs.BTreeMap.{is_at}
use Rattle.std.specs.Prelude.{Some}
use Rattle.std.proofs.lemmas.Map.Steps.{set_value_same}
use Rattle.std.proofs.lemmas.Result.{on_err_weaker}
use Rattle.gf_table.specs.Positions.{object_cmp}
use Rattle.gf_table.proofs.table.push_position.Goals as goal

pub returns-in-Some-clause-err : goal.returns-in-Some-clause-err
returns-in-Some-clause-err c =
    let o = c.args.object in
    let t = c.args.objects.now.entries in
    let w = c.push.new.self in
    on_err_weaker c.push.result (λ same.
    (c.get_mut.follows.holds w).0 ∙ set_value_same (is_at (object_cmp o)) t w
    (sym c.in-Some.ensures.value ∙ ap (λ (z : List ℕ). Some z) (sym same))) c.push.ensures.err
