use Rattle.std.proofs.Common.{rules, ◌≡◌, ◌<◌, ◌-◌, length, arith}
use Rattle.std.specs.Prelude.{vec_len}
use Rattle.gf_ops.specs.Accepted.{IsAccepted}
use Rattle.gf_ops.specs.HistoryIndex.{IsHistory}
use Rattle.gf_ops.proofs.HistoryLemmas.{site_in_range}
use Rattle.gf_ops.proofs.IndexLemmas.{IsHistory-row, IsHistory-push, rows_reach}
use Rattle.gf_ops.proofs.history.History.push.Goals.{then-row-len, else-row-len}
use Rattle.gf_ops.proofs.history.History.push.Goals as goal

pub index_mut-requires : goal.index_mut-requires
index_mut-requires c =
    let seq = rw (← c.self.view_is) at c.requires.accepted.next.numbered.seq in
    let reach = rows_reach _ _ _ c.args.op.id.site c.self.invariant
    (site_in_range c.args.op c.requires.in_range) in
    let len = c.len.ensures in
    elim c.if-row-len.branch [
      | then-row-len w ↦
          let n = w.push_reserved.ensures.len in
          let at = w.if-row-len.true in
          rw w.self-inside-is (omega (arith, n, at, len))
      | else-row-len w ↦
          let off = w.if-row-len.false in
          let count : vec_len c.self.inside.positions ≡ length c.self.inside.positions.items =
          search rules in
          rw w.self-inside-is (omega (arith, off, reach, seq, len, count))
    ]

pub invariant_of-self : goal.invariant_of-self
invariant_of-self c =
    let inside = c.if-row-len.self-inside in
    let told = rw (← c.self.view_is) at c.requires.accepted in
    let seq = told.next.numbered.seq in
    let reach = rows_reach _ _ _ c.args.op.id.site c.self.invariant
    (site_in_range c.args.op c.requires.in_range) in
    let history : IsHistory inside.ops.items inside.positions.items
    inside.counts = elim c.if-row-len.branch [
      | then-row-len w ↦ rw (w.self-inside-is, w.push_reserved.ensures.items)
          (IsHistory-row _ _ _ c.self.invariant)
      | else-row-len w ↦ rw w.self-inside-is c.self.invariant
    ] in
    let accepted : IsAccepted inside.ops.items c.args.op = elim c.if-row-len.branch [
      | then-row-len w ↦ rw w.self-inside-is told
      | else-row-len w ↦ rw w.self-inside-is told
    ] in
    let eight : length inside.counts.0 ≡ 8 = elim c.if-row-len.branch [
      | then-row-len w ↦ rw w.self-inside-is (search rules)
      | else-row-len w ↦ rw w.self-inside-is (search rules)
    ] in
    let last : c.len-2.result ≡ length inside.ops.items = search rules in
    let row : c.args.op.id.seq - 1 < vec_len inside.positions = elim c.if-row-len.branch [
      | then-row-len w ↦ let n = w.push_reserved.ensures.len in let at = w.if-row-len.true in
          let len = c.len.ensures in rw w.self-inside-is (omega (arith, n, at, len))
      | else-row-len w ↦
          let off = w.if-row-len.false in let len = c.len.ensures in
          let count : vec_len c.self.inside.positions ≡ length c.self.inside.positions.items =
          search rules in
          rw w.self-inside-is (omega (arith, off, reach, seq, len, count))
    ] in
    let count : vec_len inside.positions ≡ length inside.positions.items = search rules in
    rw (c.push_reserved-2.ensures.items, c.from-site.ensures, last)
    (IsHistory-push _ _ _ c.args.op c.index_mut.result.now history c.requires.in_range accepted
    eight (omega (arith, row, count)) c.index_mut.ensures.value)

pub returns-clause-valid : goal.returns-clause-valid
returns-clause-valid c = (invariant_of-self c).valid
