use Rattle.std.proofs.Common.{ℕ, ◌∙◌, ◌<◌, List, Some, ap, arith, get_or, length, subst, sym}
use Rattle.std.specs.Prelude.{Contains}
use Rattle.std.proofs.lemmas.List.Elements.{Contains-get_or}
use Rattle.std.proofs.lemmas.Option.{slice_get-get_or}
use Rattle.gf_take_run.proofs.leaving.lacks_figure.Goals as goal

pub offset_bounds-shown-place : goal.offset_bounds-shown-place
offset_bounds-shown-place c =
    let places = c.at-place-items.result.now in
    let p = get_or places c.loop-place.place-index 0 in
    let within = c.requires.places.within c.args.object p
    (subst (λ (ks : List ℕ). Contains ks p) c.at-place-items.ensures
    (Contains-get_or places c.loop-place.place-index 0 c.loop-place-test.true)) in
    omega arith

pub bounds-shown-place : goal.bounds-shown-place
bounds-shown-place c =
    let places = c.at-place-items.result.now in
    let p = get_or places c.loop-place.place-index 0 in
    c.requires.places.within c.args.object p
    (subst (λ (ks : List ℕ). Contains ks p) c.at-place-items.ensures
    (Contains-get_or places c.loop-place.place-index 0 c.loop-place-test.true))

pub offset_bounds-own-place : goal.offset_bounds-own-place
offset_bounds-own-place c =
    let places = c.at-place-items.result.now in
    let p = get_or places c.loop-place.place-index 0 in
    let within = c.requires.places.within c.args.object p
    (subst (λ (ks : List ℕ). Contains ks p) c.at-place-items.ensures
    (Contains-get_or places c.loop-place.place-index 0 c.loop-place-test.true)) in
    let long = c.requires.long in
    omega arith

pub bounds-own-place : goal.bounds-own-place
bounds-own-place c =
    let places = c.at-place-items.result.now in
    let p = get_or places c.loop-place.place-index 0 in
    let within = c.requires.places.within c.args.object p
    (subst (λ (ks : List ℕ). Contains ks p) c.at-place-items.ensures
    (Contains-get_or places c.loop-place.place-index 0 c.loop-place-test.true)) in
    let long = c.requires.long in
    omega arith

pub returns-then-not-branch : goal.returns-then-not-branch
returns-then-not-branch c = λ e.
    let places = c.at-place-items.result.now in
    let p = get_or places c.loop-place.place-index 0 in
    let item = c.index-shown-place.result in
    let name = c.index-own-place.result in
    let long = c.requires.long in
    let within = c.requires.places.within c.args.object p
    (subst (λ (ks : List ℕ). Contains ks p) c.at-place-items.ensures
    (Contains-get_or places c.loop-place.place-index 0 c.loop-place-test.true)) in
    let own : p < length c.args.own.now = omega arith in
    record {
      index = p;
      item = item;
      at = slice_get-get_or c.args.shown.now p item within
          ∙ ap Some (sym c.index-shown-place.is);
      name = name;
      name_at = slice_get-get_or c.args.own.now p name own ∙ ap Some (sym c.index-own-place.is);
      object = c.is_of.ensures.0 c.if-is_of.true;
      none = c.in_ok-has_figure.ensures c.if-not-branch.true;
    }
