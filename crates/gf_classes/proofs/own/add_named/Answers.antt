use Rattle.std.proofs.Common.{inl, inr}
use Rattle.std.proofs.lemmas.Result.{on_ok_weaker}
use Rattle.gf_classes.proofs.OwnLemmas.{adds_class}
use Rattle.gf_classes.proofs.own.add_named.Goals as goal

pub join-requires : goal.join-requires
join-requires c = c.requires.bound c.in-Some.class c.in-Some.ensures.some

pub returns-in-Some : goal.returns-in-Some
returns-in-Some c =
    on_ok_weaker c.join.result (λ e. adds_class c.args.history.now.ops c.args.positions.now
    c.args.direct.now c.args.id c.in-Some.class c.args.own.now c.join.new.self
    c.in-Some.ensures.some c.in-Some.ensures.all e) c.join.ensures.ok

pub returns-in-None : goal.returns-in-None
returns-in-None c = λ n. (
  λ i. inl i,
  λ w. elim w [ inl i ↦ i | inr k ↦ let e = c.in-None.ensures.all n k in absurd cc ],
)
