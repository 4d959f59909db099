use Rattle.std.proofs.Common.{sym, arith}
use Rattle.gf_ops.proofs.HistoryLemmas.{count_beyond}
use Rattle.gf_ops.proofs.history.History.count.Goals.{else-site-ge1-via-then-site-ge1+else-site-le8}
use Rattle.gf_ops.proofs.history.History.count.Goals.{else-site-ge1-via-else-site-ge1}
use Rattle.gf_ops.proofs.history.History.count.Goals as goal

pub returns-else-site-ge1 : goal.returns-else-site-ge1
returns-else-site-ge1 c = rw (← c.self.view_is)
    (sym (count_beyond _ c.args.site c.self.invariant.valid (elim c.else-site-ge1.branch [
      | else-site-ge1-via-then-site-ge1+else-site-le8 w ↦ λ s. let l = s.1 in
          let n = w.if-site-le8.false in absurd (omega arith)
      | else-site-ge1-via-else-site-ge1 w ↦ λ s. let l = s.0 in let n = w.if-site-ge1.false in
          absurd (omega arith)
    ])))
