use Rattle.std.proofs.Common.{arith}
use Rattle.gf_scanline.specs.Free.{IsFirst, is_free}
use Rattle.gf_scanline.proofs.FreeLemmas.{run_fits, run_taken}
use Rattle.gf_scanline.proofs.free_columns.FreeColumns.take_from_word.Goals as goal

pub remove-requires-clause-bits : goal.remove-requires-clause-bits
remove-requires-clause-bits c =
    let first : IsFirst (is_free c.self.inside.words) 4096 c.args.columns.from
    c.first_free-from.result = rw c.self.view_is c.first_free-from.ensures.first in
    let least = c.min.ensures in
    let l = c.if-min-from.false in
    run_fits c.self.inside.words c.args.columns c.first_free-from.result c.first_clear.result
    c.min-to.result first (omega (arith, least, l)) c.first_clear.ensures c.min-to.ensures

pub returns-clause-some : goal.returns-clause-some
returns-clause-some c =
    let first : IsFirst (is_free c.self.inside.words) 4096 c.args.columns.from
    c.first_free-from.result = rw c.self.view_is c.first_free-from.ensures.first in
    let least = c.min.ensures in
    let l = c.if-min-from.false in
    rw (← c.self.view_is) (run_taken c.self.inside.words c.args.columns c.first_free-from.result
    c.first_clear.result c.min-to.result first (omega (arith, least, l)) c.first_clear.ensures
    c.min-to.ensures c.remove.new.self (rw c.self.view_is c.remove.ensures))
