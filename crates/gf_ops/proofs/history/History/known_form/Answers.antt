use Rattle.std.proofs.Common.{rules, ap}
use Rattle.gf_ops.specs.Attribute.{made_kind}
use Rattle.gf_ops.proofs.HistoryLemmas.{not_made, not_there, none_told}
use Rattle.gf_ops.proofs.history.History.known_form.Goals as goal

pub returns-in_err-maker-clause-none : goal.returns-in_err-maker-clause-none
returns-in_err-maker-clause-none c = none_told _ c.from_residual.result
    (not_there c.args.self.now.ops c.args.op.now c.args.object (search rules))

pub returns-in-Set-clause-none : goal.returns-in-Set-clause-none
returns-in-Set-clause-none c =
    let found = c.in_ok-maker.ensures.found in
    let there = rw (← c.self.view_is) at found.0 in
    rw (← c.self.view_is) (not_made _ c.self.invariant.valid c.args.op.now c.in_ok-maker.maker.now
    c.args.object c.in-Set.object c.in-Set.value c.in-Set.aim there found.1 c.in-Set.is)

pub returns-in-Create-clause-found : goal.returns-in-Create-clause-found
returns-in-Create-clause-found c =
    let found = c.in_ok-maker.ensures.found in
    record {
      made = record {
        op = c.in_ok-maker.maker.now;
        contained = found.0;
        id = found.1;
        such = ap made_kind c.in-Create.is;
      };
      before = search rules;
    }
