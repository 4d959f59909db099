use Rattle.std.proofs.Common.{◌<◌, ◌≤◌, arith, min}
use Rattle.std.proofs.lemmas.Bool.Decides.{nat_tests}
use Rattle.gf_scanline.proofs.FreeLemmas.{none_free, some_free}
use Rattle.gf_scanline.proofs.free_columns.FreeColumns.has.Goals as goal

pub returns-clause-some : goal.returns-clause-some
returns-clause-some c = λ t.
    let least = c.min.ensures in
    let l : c.first_free.result < min c.args.columns.to 4096 = grind (arith, nat_tests) in (
      c.first_free.result,
      some_free c.args.self.now c.args.columns c.first_free.result c.first_free.ensures.first l,
    )

pub returns-clause-none : goal.returns-clause-none
returns-clause-none c = λ t.
    let least = c.min.ensures in
    let l : min c.args.columns.to 4096 ≤ c.first_free.result = grind (arith, nat_tests) in
    none_free c.args.self.now c.args.columns c.first_free.result c.first_free.ensures.first
    c.first_free.ensures.beyond l
