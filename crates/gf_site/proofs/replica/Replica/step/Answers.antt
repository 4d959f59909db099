use Rattle.std.proofs.Common.{◌++◌, ◌∷◌, [], refl, subst, ◌∙◌, ap}
use Rattle.std.proofs.lemmas.Result.{err_from_is_err_and}
use Rattle.gf_ops.specs.Accepted.{IsAccepted, IsRefused}
use Rattle.gf_causal.specs.HeldOperations.{IsFirstReady}
use Rattle.gf_causal.specs.Ready.{NoneIsReady}
use Rattle.gf_site.proofs.StepLemmas.{refused_by}
use Rattle.gf_site.proofs.replica.Replica.step.Goals as goal

pub returns-in_default-clause-ok : goal.returns-in_default-clause-ok
returns-in_default-clause-ok c = rw (← c.self.view_is) (
  subst (λ h. NoneIsReady h c.self.inside.buffer) c.history-history.ensures.ops
      c.in_default.ensures.none,
  refl,
)

pub returns-in-Err-clause-ok : goal.returns-in-Err-clause-ok
returns-in-Err-clause-ok c =
    let h = c.history-history.result.now.ops in
    let same = c.history-history.ensures.ops in
    let a = c.in-Some.op.now in
    let first = c.in-Some.ensures.found in
    let taken = c.take.ensures.held a first.contained refl in
    let refused = refused_by h a c.check.result c.in-Err.fault c.in-Err.is
    c.check.ensures.bad_clock c.check.ensures.no_object c.check.ensures.wrong_kind
    c.check.ensures.bad_aim in
    rw (← c.self.view_is) (record {
      op = a;
      id = refl;
      takes = record {
        first = subst (λ h. IsFirstReady c.self.inside.buffer h a) same first;
        in_range = c.in-Some.ensures.in_range;
        taken = taken.1;
      };
      refused = subst (λ h. IsRefused h a c.in-Err.fault) same refused;
      ops = refl;
    })

pub returns-in_err-copy-clause-out_of_memory : goal.returns-in_err-copy-clause-out_of_memory
returns-in_err-copy-clause-out_of_memory c =
    let p = err_from_is_err_and c.from_residual.result c.from_residual.ensures.1 in
    let a = c.in-Some.op.now in
    let same = c.history-history.ensures.ops in
    rw (p.1, ← c.self.view_is)
    (record {
      op = a;
      first = subst (λ h. IsFirstReady c.self.inside.buffer h a) same c.in-Some.ensures.found;
      accepted = subst (λ h. IsAccepted h a) same (c.in_default-check.ensures.ok.0 refl);
    })

pub returns-clause-ok : goal.returns-clause-ok
returns-clause-ok c =
    let h = c.self.inside.history in
    let same = c.history-history.ensures.ops in
    let a = c.in-Some.op.now in
    let first = c.in-Some.ensures.found in
    let taken = c.take-2.ensures.held a first.contained refl in
    rw (← c.self.view_is) (record {
      op = a;
      id = refl;
      takes = record {
        first = subst (λ h. IsFirstReady c.self.inside.buffer h a) same first;
        in_range = c.in-Some.ensures.in_range;
        taken = taken.1;
      };
      accepted = subst (λ h. IsAccepted h a) same (c.in_default-check.ensures.ok.0 refl);
      ops = c.in_ok-add.ensures.ok ∙ ap (λ b. h ++ b ∷ []) c.in_ok-copy.ensures;
    })
