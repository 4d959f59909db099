use Rattle.std.proofs.Common.{◌∙◌, sym, true≢false, inl, inr}
use Rattle.gf_ops.proofs.AimLemmas.{never}
use Rattle.gf_ops.proofs.AimWalkLemmas.{made_conflicts, none_conflicts, some_conflicts}
use Rattle.gf_ops.proofs.history.History.conflicts_with_table.Goals as goal

pub returns-in_default : goal.returns-in_default
returns-in_default c = never (λ q. c.in_default.ensures.none q.op q.contained q.id)

pub returns-in_default-change : goal.returns-in_default-change
returns-in_default-change c =
    let found = c.in-Some.ensures.found in
    never (made_conflicts c.args.self.now.ops c.recall_valid.ensures c.args.table.now
    c.in-Some.op.now found.0 c.args.id found.1 c.in_default-change.field-0 c.in_default-change.is)

pub returns-then-conflicts_with_one : goal.returns-then-conflicts_with_one
returns-then-conflicts_with_one c =
    let found = c.in-Some.ensures.found in
    let told = some_conflicts c.args.self.now.ops c.recall_valid.ensures c.args.table.now
    c.in-Some.op.now
    found.0 c.args.id found.1 c.in-Set.object c.in-Set.value c.in-Set.aim c.in-Set.is
    c.index_of.result c.index_of.ensures.value c.in-Some-table.latest c.in-Some-table.is in
    (λ t. told.0 (inl (c.conflicts_with_one.ensures.0 t)), λ q. c.if-conflicts_with_one.true)

pub returns-else-conflicts_with_one : goal.returns-else-conflicts_with_one
returns-else-conflicts_with_one c =
    let found = c.in-Some.ensures.found in
    let told = some_conflicts c.args.self.now.ops c.recall_valid.ensures c.args.table.now
    c.in-Some.op.now
    found.0 c.args.id found.1 c.in-Set.object c.in-Set.value c.in-Set.aim c.in-Set.is
    c.index_of.result c.index_of.ensures.value c.in-Some-table.latest c.in-Some-table.is in (
      λ t. told.0 (inr (c.conflicts_with_one-else-conflicts_with_one.ensures.0 t)),
      λ q. elim (told.1 q) [
        | inl a ↦ absurd (true≢false
            (sym (c.conflicts_with_one.ensures.1 a) ∙ c.if-conflicts_with_one.false))
        | inr a ↦ c.conflicts_with_one-else-conflicts_with_one.ensures.1 a
      ],
    )

pub returns-in-None : goal.returns-in-None
returns-in-None c =
    let found = c.in-Some.ensures.found in
    never (none_conflicts c.args.self.now.ops c.recall_valid.ensures c.args.table.now
    c.in-Some.op.now
    found.0 c.args.id found.1 c.in-Set.object c.in-Set.value c.in-Set.aim c.in-Set.is
    c.index_of.result c.index_of.ensures.value c.in-None.is)
