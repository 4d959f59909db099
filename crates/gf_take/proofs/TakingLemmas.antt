-- How what a site made grows by a change, and what it then shows.
use Rattle.std.proofs.Common.{◌≡◌, ℕ, List, [], ◌∷◌, ◌++◌, sym, ap, subst, ◌∙◌, inl, inr}
use Rattle.std.proofs.Common.{append_assoc}
use Rattle.std.proofs.lemmas.List.{append-nil}
use Rattle.gf_ops.specs.declared.op.Op.{Op}
use Rattle.gf_ops.specs.declared.change.Change.{Change}
use Rattle.gf_ops.specs.Accepted.{IsAccepted}
use Rattle.gf_ops.specs.Limits.{IsInRange}
use Rattle.gf_site.specs.SiteState.{SiteState, authored}
use Rattle.gf_site.specs.Events.{Refuses}
use Rattle.gf_site.specs.MadeEach.{none}
use Rattle.gf_site.proofs.EachLemmas.{each_push}
use Rattle.gf_site.specs.declared.faults.AuthorFault.{AuthorFault}
use Rattle.gf_take.specs.Taking.{HasMade, RefusesMaking}
use Rattle.gf_take.specs.TakingSteps.{MakesOne, RefusesOne}

-- before the first change nothing was made
pub made_none : (s : ℕ) (h : List Op) (x : SiteState) (ops : List Op) → x.number ≡ s → x.ops ≡ h
    → ops ≡ [] → HasMade s h [] x ops
made_none s h x ops number is e =
    subst (HasMade s h [] x) (sym e)
    (record { makes = none; ops = is ∙ sym (append-nil h); number = number })

module _ (s : ℕ) (h : List Op) (done : List Change) (x : SiteState) (new : List Op)
    (has : HasMade s h done x new) where
  pub made_more : (c : Change) (y : SiteState) (more : List Op) → MakesOne c x y new more
      → HasMade s h (done ++ c ∷ []) y more
  made_more c y more w =
      let o = authored s (h ++ new) c in
      let a : w.op ≡ o = w.authors.is ∙ (λ i. authored (has.number i) (has.ops i) c) in
      let accepted = subst (λ l. IsAccepted l w.op) has.ops w.authors.accepted in
      let makes = each_push s h done new has.makes c (subst IsInRange a w.authors.in_range)
      (subst (IsAccepted (h ++ new)) a accepted) in
      let all : more ≡ new ++ o ∷ [] = w.is ∙ ap (λ (b : Op). new ++ b ∷ []) a in
      subst (HasMade s h (done ++ c ∷ []) y) (sym all) (record {
        makes = makes;
        ops = ap (λ (z : SiteState). z.ops) w.authors.state
            ∙ (ap (λ l. l ++ w.op ∷ []) has.ops
            ∙ (ap (λ (b : Op). (h ++ new) ++ b ∷ []) a ∙ append_assoc h new (o ∷ [])));
        number = ap (λ (z : SiteState). z.number) w.authors.state ∙ has.number;
      })

  -- what a change is refused for, they all are
  pub refused_there : (c : Change) (rest changes : List Change) → changes ≡ done ++ c ∷ rest
      → (why : AuthorFault) → RefusesOne c x why → RefusesMaking s h changes why
  refused_there c rest changes whole why (inl e) = inl e
  refused_there c rest changes whole why (inr r) = inr (record {
    before = done;
    change = c;
    after = rest;
    whole = whole;
    new = new;
    makes = has.makes;
    refused = subst (λ l. Refuses s l c why) has.ops
        (subst (λ k. Refuses k x.ops c why) has.number r);
  })
