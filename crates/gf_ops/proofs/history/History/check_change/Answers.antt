use Rattle.std.proofs.Common.{◌≡◌, false, refl, sym, ◌∙◌, true≢false}
use Rattle.gf_ops.specs.Attribute.{kind_of, suits}
use Rattle.gf_ops.specs.ValidHistory.{IsValid}
use Rattle.gf_ops.proofs.HistoryLemmas.{not_suited}
use Rattle.gf_ops.proofs.history.History.check_change.Goals as goal

pub returns-in-Some-2-clause-ok : goal.returns-in-Some-2-clause-ok
returns-in-Some-2-clause-ok c =
    let valid : IsValid c.args.self.now.ops = rw (← c.self.view_is) c.self.invariant.valid in
    let off : suits (kind_of c.in-Some.form.now) c.in-Set.value ≡ false = sym c.suits.ensures
    ∙ c.if-suits.false in (
      λ e. absurd (true≢false (sym e)),
      λ s. absurd (not_suited _ valid c.args.op.now c.in-Set.object _ c.in-Set.value
          c.in-Some.ensures.found off (rw c.in-Set.is at s)),
    )

pub returns-in-Some-2-clause-wrong_kind : goal.returns-in-Some-2-clause-wrong_kind
returns-in-Some-2-clause-wrong_kind c =
    let valid : IsValid c.args.self.now.ops = rw (← c.self.view_is) c.self.invariant.valid in
    let off : suits (kind_of c.in-Some.form.now) c.in-Set.value ≡ false = sym c.suits.ensures
    ∙ c.if-suits.false in (
      λ _. (
        rw c.in-Set.is (record { kind = _; known = c.in-Some.ensures.found }),
        λ s. absurd (not_suited _ valid c.args.op.now c.in-Set.object _ c.in-Set.value
            c.in-Some.ensures.found off (rw c.in-Set.is at s)),
      ),
      λ _. refl,
    )

pub returns-in-Some-clause-no_object : goal.returns-in-Some-clause-no_object
returns-in-Some-clause-no_object c = (
  λ e. absurd cc,
  λ none. absurd (none (rw c.in-Set.is (record { kind = _; known = c.in-Some.ensures.found }))),
)

pub returns-in-Some-clause-wrong_kind : goal.returns-in-Some-clause-wrong_kind
returns-in-Some-clause-wrong_kind c = (
  λ e. absurd cc,
  λ wrong. absurd (wrong.1
      (rw c.in-Set.is (record {
        kind = _;
        known = c.in-Some.ensures.found;
        suited = sym c.suits.ensures ∙ c.if-suits.true;
      }))),
)

pub returns-in-Some-2-clause-no_object : goal.returns-in-Some-2-clause-no_object
returns-in-Some-2-clause-no_object c = (
  λ e. absurd cc,
  λ none. absurd (none (rw c.in-Set.is (record { kind = _; known = c.in-Some.ensures.found }))),
)
