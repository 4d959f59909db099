use Rattle.std.proofs.Common.{rules, arith, ◌≡◌, ◌<◌, get_or, length, false, true, map, sym, ◌∙◌}
use Rattle.std.proofs.Common.{subst, take}
use Rattle.std.specs.Prelude.{All}
use Rattle.gf_shape.specs.Outlines.{any_outline}
use Rattle.gf_take.specs.ShownDrawing.{CanSwap}
use Rattle.gf_take.proofs.ExchangeLemmas.{none_like}
use Rattle.gf_take.proofs.MatchLemmas.{takes_like, takes_none}
use Rattle.gf_take.proofs.matching.take_out.Goals as goal

pub returns-in_default-clause-none : goal.returns-in_default-clause-none
returns-in_default-clause-none c = λ e.
    let table = c.args.drawing.now.table in
    let item = c.args.item.now in
    none_like table (any_outline item.shape) item.colour (map (λ f. f.now) c.args.left.now.items)
    (rw (c.in_default.is, c.deref.ensures.value, c.in_ok-outline.ensures.outline)
    at c.in_ok-position.ensures.none)

pub returns-then-not-can_pass-clause-none : goal.returns-then-not-can_pass-clause-none
returns-then-not-can_pass-clause-none c = λ e.
    let table = c.args.drawing.now.table in
    let item = c.args.item.now in
    let refs = c.args.left.now.items in
    let k = c.in-Some.position in
    let r = c.index.result.now in
    let like = rw (c.in-Some.is, c.deref.ensures.value) at c.in_ok-position.ensures.some in
    let within : k < length refs = search (rules, arith) in
    let is : r ≡ get_or refs k r = search rules in
    takes_none (λ f. f.now) table item c.in_ok-outline.outline c.in_ok-outline.ensures.outline refs
    k like r within is
    (λ all.
    let passes : c.can_pass.result ≡ true =
    c.can_pass.ensures.1 (subst (λ l. All (CanSwap table r.now) (map (λ f. f.now) (take k l)))
    (sym c.deref-2.ensures.value) all) in
    let none : true ≡ false = sym passes ∙ c.if-not-can_pass.true in absurd cc)

pub returns-clause-some : goal.returns-clause-some
returns-clause-some c = λ e.
    let table = c.args.drawing.now.table in
    let item = c.args.item.now in
    let refs = c.args.left.now.items in
    let k = c.in-Some.position in
    let r = c.index.result.now in
    let like = rw (c.in-Some.is, c.deref.ensures.value) at c.in_ok-position.ensures.some in
    let within : k < length refs = search (rules, arith) in
    let is : r ≡ get_or refs k r = search rules in
    takes_like (λ f. f.now) table item c.in_ok-outline.outline c.in_ok-outline.ensures.outline refs
    k like r within is c.remove.new.self.items c.remove.ensures.items
    (let passes : c.can_pass.result ≡ true = search rules in
    subst (λ l. All (CanSwap table r.now) (map (λ f. f.now) (take k l))) c.deref-2.ensures.value
    (c.can_pass.ensures.0 passes))
