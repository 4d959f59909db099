use Rattle.std.proofs.Common.{◌∙◌, sym, refl, true≢false}
use Rattle.gf_ops.proofs.AimLemmas.{never}
use Rattle.gf_ops.proofs.SiteWalkLemmas.{walk_skips, walk_goes, walk_conflicts, walk_ends}
use Rattle.gf_ops.proofs.history.History.are_parted.Goals.{then-id-site+else-conflicts_with_table}
use Rattle.gf_ops.proofs.history.History.are_parted.Goals.{else-id-site}
use Rattle.gf_ops.proofs.history.History.are_parted.Goals as goal

pub returns-then-conflicts_with_table : goal.returns-then-conflicts_with_table
returns-then-conflicts_with_table c =
    let seen = c.note_unknowing-noted in
    never (walk_conflicts c.args.self.now.ops c.recall_valid.ensures c.args.ids.now
    c.requires.rising
    c.args.site c.args.other c.loop-id.id-index c.loop-id.noted c.loop-id.table c.loop-id.invariant
    (record { site = 0; seq = 0 }) c.loop-id-test.true c.requires.object c.requires.site
    c.if-id-site.true seen.result seen.new.table seen.ensures.noted
    (c.conflicts_with_table.ensures.0 c.if-conflicts_with_table.true))

pub loop-id-preserved : goal.loop-id-preserved
loop-id-preserved c = elim c.if-id-site.branch [
  | then-id-site+else-conflicts_with_table w ↦
      let seen = w.note_unknowing-noted in
      rw (w.noted-is, w.table-is) (walk_goes c.args.self.now.ops c.recall_valid.ensures
      c.args.ids.now
      c.requires.rising c.args.site c.args.other c.loop-id.id-index c.loop-id.noted c.loop-id.table
      c.loop-id.invariant (record { site = 0; seq = 0 }) c.loop-id-test.true c.requires.object
      c.requires.site w.if-id-site.true seen.result seen.new.table seen.ensures.noted
      seen.ensures.stop (λ q. true≢false (sym (w.conflicts_with_table.ensures.1 q)
      ∙ w.if-conflicts_with_table.false)))
  | else-id-site w ↦
      rw (w.noted-is, w.table-is) (walk_skips c.args.self.now.ops c.recall_valid.ensures
      c.args.ids.now
      c.requires.rising c.args.site c.args.other c.loop-id.id-index c.loop-id.noted c.loop-id.table
      c.loop-id.invariant (record { site = 0; seq = 0 }) c.loop-id-test.true w.if-id-site.false)
]

pub returns : goal.returns
returns c = (
  λ t. walk_ends c.args.self.now.ops c.recall_valid.ensures c.args.ids.now c.requires.rising
      c.args.site c.args.other c.loop-id.id-index c.loop-id.noted c.loop-id.table
      c.loop-id.invariant c.loop-id-test.false,
  λ p. refl,
)
