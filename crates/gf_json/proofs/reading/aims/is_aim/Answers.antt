use Rattle.std.proofs.Common.{refl, rules}
use Rattle.gf_json.proofs.IdLemmas.{aim_few, aim_many}
use Rattle.gf_json.proofs.reading.aims.is_aim.Goals as goal

pub returns-then-values-gt1000 : goal.returns-then-values-gt1000
returns-then-values-gt1000 c = aim_many c.args.values.now (search rules) c.if-values-gt1000.true

pub returns : goal.returns
returns c =
    rw (c.are_ids.ensures, aim_few c.args.values.now (search rules) c.if-values-gt1000.false) refl
