use Rattle.std.proofs.Common.{sym, ◌∙◌, subst, true≢false}
use Rattle.gf_ops.specs.AimWalk.{TellsOne, index_of}
use Rattle.gf_ops.proofs.AimWalkLemmas.{latest_first, latest_turns, latest_keeps}
use Rattle.gf_ops.proofs.history.History.next_latest.Goals as goal

pub returns-then-gives_another : goal.returns-then-gives_another
returns-then-gives_another c = λ ids site above told at.
    latest_turns c.args.self.now.ops c.recall_valid.ensures ids site c.args.id c.args.value.now
    at above c.in-Some.field-0
    (subst (TellsOne c.args.self.now.ops ids site (index_of c.args.value.now)) c.in-Some.is told)
    (c.gives_another.ensures.0 c.if-gives_another.true)

pub returns-else-gives_another : goal.returns-else-gives_another
returns-else-gives_another c = λ ids site above told at.
    latest_keeps c.args.self.now.ops c.recall_valid.ensures ids site c.args.id c.args.value.now
    at above c.in-Some.field-0
    (subst (TellsOne c.args.self.now.ops ids site (index_of c.args.value.now)) c.in-Some.is told)
    (λ g. true≢false (sym (c.gives_another.ensures.1 g) ∙ c.if-gives_another.false))

pub returns-in-None : goal.returns-in-None
returns-in-None c = λ ids site above told at.
    latest_first c.args.self.now.ops c.recall_valid.ensures ids site c.args.id c.args.value.now
    at above (subst (TellsOne c.args.self.now.ops ids site (index_of c.args.value.now)) c.in-None.is
    told)
