use Rattle.std.proofs.Common.{arith}
use Rattle.gf_scanline.proofs.FreeLemmas.{removed, summed_still}
use Rattle.gf_scanline.proofs.free_columns.FreeColumns.remove.Goals as goal

pub invariant_of-self-else-word-eq0 : goal.invariant_of-self-else-word-eq0
invariant_of-self-else-word-eq0 c =
    let some = c.if-word-eq0.false in
    summed_still c.self.inside.words c.self.inside.summary c.args.index c.without-word.result
    c.args.low c.args.high c.self.invariant c.requires.index c.without-word.type_inv
    (omega (arith, some)) c.without-word.ensures

pub returns-then-word-eq0 : goal.returns-then-word-eq0
returns-then-word-eq0 c = rw (← c.self.view_is) (removed c.self.inside.words c.args.index c.args.low
    c.args.high c.without-word.result c.self.told c.requires.index c.requires.bits.1
    c.without-word.ensures)

pub returns-else-word-eq0 : goal.returns-else-word-eq0
returns-else-word-eq0 c = rw (← c.self.view_is) (removed c.self.inside.words c.args.index c.args.low
    c.args.high c.without-word.result c.self.told c.requires.index c.requires.bits.1
    c.without-word.ensures)
