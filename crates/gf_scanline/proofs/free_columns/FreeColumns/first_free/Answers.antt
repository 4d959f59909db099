use Rattle.gf_scanline.proofs.FreeLemmas.{first_here, first_later, first_nowhere}
use Rattle.gf_scanline.proofs.free_columns.FreeColumns.first_free.Goals as goal

pub returns-then-bit-lt-BITS-clause-first : goal.returns-then-bit-lt-BITS-clause-first
returns-then-bit-lt-BITS-clause-first c = rw (← c.self.view_is) (
    first_here c.self.inside.words c.args.start c.if-start-ge-COLUMNS.false c.first_set-bit.result
    c.first_set-bit.ensures c.if-bit-lt-BITS.true)

pub returns-then-next-ge-BITS-clause-first : goal.returns-then-next-ge-BITS-clause-first
returns-then-next-ge-BITS-clause-first c = rw (← c.self.view_is) (
    first_nowhere c.self.inside.words c.args.start c.if-start-ge-COLUMNS.false
    c.first_set-bit.result c.first_set-bit.ensures c.self.inside.summary c.first_set-next.result
    c.self.invariant c.first_set-next.ensures c.if-bit-lt-BITS.false c.if-next-ge-BITS.true)

pub returns-clause-first : goal.returns-clause-first
returns-clause-first c = rw (← c.self.view_is) (
    first_later c.self.inside.words c.args.start c.if-start-ge-COLUMNS.false c.first_set-bit.result
    c.first_set-bit.ensures c.self.inside.summary c.first_set-next.result c.self.invariant
    c.first_set-next.ensures c.if-bit-lt-BITS.false c.if-next-ge-BITS.false c.first_set.result
    c.first_set.ensures)
