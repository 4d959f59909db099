use Rattle.std.proofs.Common.{rules, refl}
use Rattle.gf_maximal.specs.Growing.{without, common}
use Rattle.gf_maximal.specs.Rows.{conflict}
use Rattle.gf_maximal.proofs.CuttingLemmas.{beyond_within, others_within, asked}
use Rattle.gf_maximal.proofs.cutting.untold.Goals as goal

pub first_untold-requires-clause-numbers : goal.first_untold-requires-clause-numbers
first_untold-requires-clause-numbers c = λ a h.
    let xs = c.in_ok-doubtful.doubtful in
    let d = c.args.rivals.now in
    c.requires.met a (beyond_within (conflict c.args.rows.now) c.args.met.now d c.args.set.now xs
    c.deref.result.now (common d xs) c.in_ok-doubtful.ensures (search rules) refl a h)

pub returns-in-Some : goal.returns-in-Some
returns-in-Some c =
    let xs = c.in_ok-doubtful.doubtful in
    let d = c.args.rivals.now in (
      beyond_within (conflict c.args.rows.now) c.args.met.now d c.args.set.now xs
          c.deref.result.now (common d xs) c.in_ok-doubtful.ensures (search rules) refl
          c.in-Some.number c.in-Some.ensures.0,
      c.in-Some.ensures.1,
    )

pub first_untold-requires-2-clause-numbers : goal.first_untold-requires-2-clause-numbers
first_untold-requires-2-clause-numbers c = λ a h.
    let xs = c.in_ok-doubtful.doubtful in
    let d = c.args.rivals.now in
    c.requires.met a (others_within (conflict c.args.rows.now) c.args.met.now d c.args.set.now xs
    (without d xs) c.deref-2.result.now c.in_ok-doubtful.ensures refl (search rules) a h)

pub returns : goal.returns
returns c =
    let xs = c.in_ok-doubtful.doubtful in
    let d = c.args.rivals.now in
    asked (conflict c.args.rows.now) c.args.met.now d c.args.set.now xs c.deref.result.now
    c.deref-2.result.now c.in_ok-doubtful.ensures (search rules) (search rules)
    c.first_untold-2.result c.in_default.ensures c.first_untold-2.ensures
