use Rattle.std.proofs.Common.{◌∙◌, sym, true≢false}
use Rattle.gf_ops.proofs.SiteWalkLemmas.{noted_more}
use Rattle.gf_ops.proofs.history.History.note_unknowing.Goals as goal

pub loop-noted-preserved : goal.loop-noted-preserved
loop-noted-preserved c =
    noted_more c.args.self.now.ops c.recall_valid.ensures c.args.ids.now c.requires.rising
    c.args.site
    c.loop-noted.noted c.args.id (record { site = 0; seq = 0 }) c.loop-noted.table c.note.new.table
    c.loop-noted-test.true (λ k. true≢false (sym (c.knew.ensures.1 k) ∙ c.if-not-knew.true))
    c.note.ensures c.loop-noted.invariant
