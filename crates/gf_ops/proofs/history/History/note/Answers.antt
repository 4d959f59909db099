use Rattle.std.proofs.Common.{subst, None}
use Rattle.std.specs.Prelude.{slice_index_or}
use Rattle.gf_ops.specs.AimWalk.{TellsOne}
use Rattle.gf_ops.proofs.AimWalkLemmas.{tells_stay, tells_more}
use Rattle.gf_ops.proofs.history.History.note.Goals as goal

pub returns-in-Some : goal.returns-in-Some
returns-in-Some c = λ ids above tells.
    let new = c.next_latest.ensures ids c.args.site above
    (subst (λ k. TellsOne c.args.self.now.ops ids c.args.site k
    (slice_index_or c.args.table.now c.index_of-index.result None)) c.index_of-index.ensures.value
    (tells.each c.index_of-index.result c.index_of-index.ensures.below)) c.in-Some.ensures.found in
    rw c.index_of-index.ensures.value (tells_more c.args.self.now.ops c.recall_valid.ensures ids
    c.args.site c.args.id c.in-Some.value.now c.in-Some.ensures.found c.args.table.now
    c.next_latest.result tells new)

pub returns-in_default : goal.returns-in_default
returns-in_default c = λ ids above tells. tells_stay c.args.self.now.ops c.recall_valid.ensures ids
    c.args.site c.args.id c.args.table.now c.in_default.ensures.none tells
