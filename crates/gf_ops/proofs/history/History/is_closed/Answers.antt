use Rattle.std.proofs.Common.{rules, refl, ◌≡◌, inl, inr, arith}
use Rattle.std.proofs.lemmas.Bool.{cases_lt}
use Rattle.gf_ops.specs.ValidHistory.{IsValid}
use Rattle.gf_ops.proofs.HistoryLemmas.{site_in_range, closed_by_found, closed_by_none}
use Rattle.gf_ops.proofs.history.History.is_closed.Goals.{in-Some+else-not-is_within, in_default}
use Rattle.gf_ops.proofs.history.History.is_closed.Goals as goal

pub loop-site-init : goal.loop-site-init
loop-site-init c = rw (← c.self.view_is)
    (λ b m before l s i. let least = (site_in_range b (c.self.invariant.valid.in_range b m)).0 in
    absurd (omega arith))

pub loop-site-preserved : goal.loop-site-preserved
loop-site-preserved c = λ b m before l s i.
    let valid : IsValid c.args.self.now.ops = rw (← c.self.view_is) c.self.invariant.valid in
    elim (cases_lt b.id.site c.loop-site.site) [
      | inl n ↦ c.loop-site.invariant b m before n s i
      | inr n ↦
          let site : b.id.site ≡ c.loop-site.site = omega arith in
          elim c.match-get.branch [
            | in-Some+else-not-is_within w ↦
                let found = w.in-Some.ensures.found in
                closed_by_found _ c.args.op.now b c.loop-site.site c.from.result c.from.ensures m
                before site valid w.in-Some.last.now found.0 found.1 (search rules) s i
            | in_default w ↦
                let there = rw (← c.self.view_is) at m in
                let within = rw (← c.self.view_is) at c.requires.within in
                absurd (closed_by_none _ c.args.op.now b c.loop-site.site c.from.result
                c.from.ensures there before site _ _ c.self.invariant within
                (rw (← c.self.view_is) at w.in_default.ensures.none))
          ]
    ]

pub returns : goal.returns
returns c = (
  λ _ b m before.
      let most = (site_in_range b
      (c.self.invariant.valid.in_range b (rw (← c.self.view_is) at m))).1 in
      let end = c.loop-site-test.false in
      c.loop-site.invariant b m before (omega arith),
  λ _. refl,
)
