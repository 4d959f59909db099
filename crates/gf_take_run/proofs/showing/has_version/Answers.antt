use Rattle.std.proofs.Common.{◌≡◌, ℕ, List, arith, get_or, refl, subst, sym, true, false, ◌∙◌}
use Rattle.std.specs.Prelude.{Contains}
use Rattle.std.proofs.lemmas.List.Elements.{Contains-get_or}
use Rattle.gf_take_run.proofs.ShownLemmas.{none_at_all, none_at_more}
use Rattle.gf_take_run.proofs.showing.has_version.Goals as goal

pub offset_bounds-shown-place : goal.offset_bounds-shown-place
offset_bounds-shown-place c =
    let places = c.at-place-items.result.now in
    let p = get_or places c.loop-place.place-index 0 in
    let within = c.requires.within c.args.object p
    (subst (λ (ks : List ℕ). Contains ks p) c.at-place-items.ensures
    (Contains-get_or places c.loop-place.place-index 0 c.loop-place-test.true)) in
    omega arith

pub bounds-shown-place : goal.bounds-shown-place
bounds-shown-place c =
    let places = c.at-place-items.result.now in
    let p = get_or places c.loop-place.place-index 0 in
    c.requires.within c.args.object p
    (subst (λ (ks : List ℕ). Contains ks p) c.at-place-items.ensures
    (Contains-get_or places c.loop-place.place-index 0 c.loop-place-test.true))

pub returns-then-is_of : goal.returns-then-is_of
returns-then-is_of c =
    let places = c.at-place-items.result.now in
    let p = get_or places c.loop-place.place-index 0 in
    let within = c.requires.within c.args.object p
    (subst (λ (ks : List ℕ). Contains ks p) c.at-place-items.ensures
    (Contains-get_or places c.loop-place.place-index 0 c.loop-place-test.true)) in
    let item = c.index-shown-place.result in (
      λ t. record {
        item = item;
        listed = subst (Contains c.args.shown.now) (sym c.index-shown-place.is)
            (Contains-get_or c.args.shown.now p item within);
        object = c.is_of.ensures.0 c.if-is_of.true;
      },
      λ on. refl,
    )

pub loop-place-preserved : goal.loop-place-preserved
loop-place-preserved c =
    let places = c.at-place-items.result.now in
    let p = get_or places c.loop-place.place-index 0 in
    let within = c.requires.within c.args.object p
    (subst (λ (ks : List ℕ). Contains ks p) c.at-place-items.ensures
    (Contains-get_or places c.loop-place.place-index 0 c.loop-place-test.true)) in
    none_at_more c.args.shown.now places c.args.object c.loop-place.place-index
    c.index-shown-place.result c.loop-place-test.true within c.index-shown-place.is
    c.loop-place.invariant
    (λ e. let t = c.is_of.ensures.1 e in let no : true ≡ false = sym t ∙ c.if-is_of.false in absurd cc)

pub returns : goal.returns
returns c = (
  λ t. absurd cc,
  λ on. absurd (none_at_all c.args.shown.now c.at-place-items.result.now c.args.object
      c.args.places.now c.requires c.at-place-items.ensures c.loop-place.place-index
      c.loop-place-test.false c.loop-place.invariant on),
)
