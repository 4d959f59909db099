use Rattle.std.proofs.Common.{◌↔◌, IsTrue}
use Rattle.gf_ops.specs.AimTests.{AreDirectlyCompatible}
use Rattle.gf_ops.specs.Attribute.{aim_of}
use Rattle.gf_ops.proofs.AimLemmas.{aim_rises}
use Rattle.gf_ops.proofs.SiteWalkLemmas.{aimed_on_one}
use Rattle.gf_ops.proofs.history.History.is_aimed.Goals as goal

pub are_directly_compatible-requires-clause-rising :
    goal.are_directly_compatible-requires-clause-rising
are_directly_compatible-requires-clause-rising c = rw c.aim.ensures
    (aim_rises c.args.op.now c.requires)

pub are_directly_compatible-requires-clause-object :
    goal.are_directly_compatible-requires-clause-object
are_directly_compatible-requires-clause-object c = rw c.aim.ensures
    (aimed_on_one c.args.self.now.ops c.recall_valid.ensures c.args.op.now
    (c.may_aim.ensures.0 c.if-may_aim.true))

pub returns-then-may_aim : goal.returns-then-may_aim
returns-then-may_aim c =
    let calm : IsTrue c.are_directly_compatible.result
    ↔ AreDirectlyCompatible c.args.self.now.ops (aim_of c.args.op.now) =
    rw c.aim.ensures at c.are_directly_compatible.ensures in (
      λ t. record {
        each = c.may_aim.ensures.0 c.if-may_aim.true;
        compatible = λ x y m n. calm.0 t x y m.contained n.contained m.aimed n.aimed;
      },
      λ a. calm.1 (λ x y i j m n. a.compatible x y (record { contained = i; aimed = m })
          (record { contained = j; aimed = n })),
    )
