use Rattle.std.proofs.Common.{◌≡◌, ◌∙◌, [], sym, subst}
use Rattle.std.specs.Prelude.{Contains}
use Rattle.gf_ops.specs.Attribute.{aim_of}
use Rattle.gf_ops.proofs.AimLemmas.{aim_rises, empty_told}
use Rattle.gf_base.proofs.ListLemmas.{not_Contains-nil}
use Rattle.gf_ops.proofs.aims.aims_within.Goals as goal

pub is_within_aim-requires-clause-ids : goal.is_within_aim-requires-clause-ids
is_within_aim-requires-clause-ids c = rw c.aim-ids.ensures
    (aim_rises c.args.member.now c.requires.member)

pub is_within_aim-requires-clause-aim : goal.is_within_aim-requires-clause-aim
is_within_aim-requires-clause-aim c = rw c.aim.ensures (aim_rises c.args.op.now c.requires.op)

pub returns-then-is_empty : goal.returns-then-is_empty
returns-then-is_empty c =
    let none : aim_of c.args.member.now ≡ [] = sym c.aim-ids.ensures
    ∙ (empty_told c.is_empty.result c.aim-ids.result.now c.is_empty.ensures).0 c.if-is_empty.true
    in (
      λ t j m. absurd (not_Contains-nil j (subst (λ is. Contains is j) none m)),
      λ w. c.if-is_empty.true,
    )

pub returns-else-is_empty : goal.returns-else-is_empty
returns-else-is_empty c = rw (c.aim-ids.ensures, c.aim.ensures) at c.is_within_aim.ensures
