use Rattle.std.proofs.Common.{◌≡◌, ◌≤◌, ◌+◌, [], ◌∷◌, ◌++◌, length, length-append, rules, sym, ap}
use Rattle.std.proofs.Common.{subst, ◌∙◌, arith}
use Rattle.std.specs.Vec.{vec_capacity}
use Rattle.gf_session.specs.declared.starting.Runs.{Runs}
use denote.Param.Always.{Once-at_one}
use Rattle.gf_session.specs.Starting.{IsReadyToStart, Gave, GaveAll}
use Rattle.gf_session.proofs.GaveLemmas.{gave_more, same_long, of_last, of_first}
use Rattle.gf_session.proofs.starting.+sites.Goals as goal

pub fork_last-scope-push_reserved-requires : goal.fork_last-scope-push_reserved-requires
fork_last-scope-push_reserved-requires g t c =
    let n = same_long c.captures.sites.items c.fork-ends.result.items c.fork-ends.ensures.gave in
    let m = c.fork-ends.result.ok.0 in
    let room = c.requires.5 in
    omega (arith, n, m, room, c.fork-ends.ensures.room)

pub fork_last-scope-push_reserved-requires-in-Err :
    goal.fork_last-scope-push_reserved-requires-in-Err
fork_last-scope-push_reserved-requires-in-Err g t c =
    let n = same_long c.captures.sites.items c.fork-ends-in-Err.result.items
    c.fork-ends-in-Err.ensures.gave in
    let m = c.fork-ends-in-Err.result.ok.0 in
    let room = c.requires.5 in
    omega (arith, n, m, room, c.fork-ends-in-Err.ensures.room)

pub fork_last-scope-returns-in-Ok : goal.fork_last-scope-returns-in-Ok
fork_last-scope-returns-in-Ok g t c =
    let sites = c.captures.sites.items in
    let last = c.captures.last in
    let kept : Gave last c.join.result = subst (λ s. Gave s c.join.result)
    (ap (λ (p : Runs). p.0.value) c.in-Ok.ensures.ok ∙ c.of.ensures) c.join.ensures in (
      subst (GaveAll (sites ++ last ∷ [])) (sym c.push_reserved.ensures.items)
          (gave_more sites last c.fork-ends.result.items c.join.result c.fork-ends.ensures.gave
          kept),
      c.push_reserved.ensures.capacity ∙ c.fork-ends.ensures.room,
    )

pub fork_last-scope-returns-in-Err : goal.fork_last-scope-returns-in-Err
fork_last-scope-returns-in-Err g t c =
    let sites = c.captures.sites.items in
    let last = c.captures.last in
    let kept : Gave last c.theirs-end.result = search rules in (
      subst (GaveAll (sites ++ last ∷ [])) (sym c.push_reserved-in-Err.ensures.items)
          (gave_more sites last c.fork-ends-in-Err.result.items c.theirs-end.result
          c.fork-ends-in-Err.ensures.gave kept),
      c.push_reserved-in-Err.ensures.capacity ∙ c.fork-ends-in-Err.ensures.room,
    )

pub fork-run_one-requires : goal.fork-run_one-requires
fork-run_one-requires g t c = of_last (IsReadyToStart c.args.links.now) c.args.sites.items
    c.pop.new.self.items c.in-Some.only c.in-Some.ensures.items c.requires.ready

pub fork_last-scoped-requires : goal.fork_last-scoped-requires
fork_last-scoped-requires g t c =
    let items = c.in-Some.ensures.items in
    let last = of_last (IsReadyToStart c.args.links.now) c.args.sites.items c.pop.new.self.items
    c.in-Some.last items c.requires.ready in
    let rest = of_first (IsReadyToStart c.args.links.now) c.args.sites.items c.pop.new.self.items
    c.in-Some.last items c.requires.ready in
    let long : length c.args.sites.items ≡ length c.pop.new.self.items + 1 = ap length items
    ∙ length-append c.pop.new.self.items (c.in-Some.last ∷ []) in
    let room : length c.pop.new.self.items + 1 ≤ vec_capacity
    c.args.ends = (let r = c.requires.room in let v = c.args.sites.ok.0 in
    omega (arith, r, v, long)) in
    Once-at_one _ _ (λ x. (
      search rules,
      (
        λ a m. m,
        (
          λ a m. m,
          (
            (search rules, search rules, rest, last, c.requires.empty, room),
            (search rules, search rules),
          ),
        ),
      ),
    ))
