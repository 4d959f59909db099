use Rattle.std.proofs.Common.{rules, ◌≡◌, ◌∙◌, ◌<◌, ◌+◌, length}
use Rattle.gf_maximal.proofs.RunEditLemmas.{longer_alone, longer_apart, longer_joined, one_read}
use Rattle.gf_maximal.proofs.run.lengthen.Goals as goal
use Rattle.gf_maximal.proofs.run.lengthen.Goals.{else-index-len-via-then-index-len+else-index-number}
use Rattle.gf_maximal.proofs.run.lengthen.Goals.{else-index-len-via-else-index-len}

pub returns-else-index-len : goal.returns-else-index-len
returns-else-index-len c = λ d. elim c.else-index-len.branch [
  | else-index-len-via-then-index-len+else-index-number w ↦
      longer_apart c.args.number c.args.runs.now.items c.args.index c.index.result.now
      w.index-then-index-len.result.now d (search rules) c.index.ensures
      w.index-then-index-len.ensures w.if-index-number.false
  | else-index-len-via-else-index-len w ↦
      longer_alone c.args.number c.args.runs.now.items c.args.index c.index.result.now d
      c.requires.index c.index.ensures (search rules)
]

pub returns-then-index-number : goal.returns-then-index-number
returns-then-index-number c = λ d.
    let rs = c.args.runs.now.items in
    let l : c.args.index + 1 < length rs = search rules in
    let e : c.index-then-index-len.result.now.start ≡ c.args.number + 1 = c.if-index-number.true in
    let q = c.index-then-index-number.result.now in
    c.remove.ensures.items ∙ longer_joined c.args.number rs c.args.index c.index.result.now q d l
    c.index.ensures c.index-then-index-number.ensures
    (one_read rs (c.args.index + 1) q c.index-then-index-len.result.now l
    c.index-then-index-number.ensures c.index-then-index-len.ensures ∙ e)
