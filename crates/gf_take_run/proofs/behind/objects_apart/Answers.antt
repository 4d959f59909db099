use Rattle.std.proofs.Common.{rules, arith, ◌≡◌, ◌+◌, ◌<◌, ◌≤◌, List, [], ◌∷◌, ◌++◌, get_or, inl}
use Rattle.std.proofs.Common.{inr, length, subst, sym, take}
use Rattle.std.specs.Prelude.{Contains}
use Rattle.std.proofs.lemmas.List.{take_all}
use Rattle.std.proofs.lemmas.List.Elements.{Contains-append_left, Contains-get_or, Contains-push}
use Rattle.gf_ops.specs.declared.op.Op.{Op}
use Rattle.gf_ops.specs.declared.op.ObjectId.{ObjectId}
use Rattle.gf_ops.specs.Attribute.{object_of}
use Rattle.gf_take_run.proofs.JoinedLemmas.{AreToldApart, in_base, same_but, told_apart}
use Rattle.gf_take_run.proofs.behind.objects_apart.Goals.{in-Some, in-None+in_ok-push-in-None}
use Rattle.gf_take_run.proofs.behind.objects_apart.Goals as goal

pub loop-op-preserved : goal.loop-op-preserved
loop-op-preserved c =
    let h = c.args.history.now.ops in
    let base = c.args.base.now.ops in
    let k = c.loop-op.op-index in
    let a = c.op-item.result in
    let old = c.loop-op.objects.items in
    let within : k < length h = search (rules, arith) in
    let is : a ≡ get_or h k a = search rules in
    elim c.match-get.branch [
      | in-Some w ↦
          let kept : c.match-get.objects.items ≡ old = search rules in
          let found = rw w.in-Some.is at c.get.ensures.found in
          subst (λ (os : List ObjectId). AreToldApart base os (take (k + 1) h)) (sym kept)
          (told_apart base old old h k a within is c.loop-op.invariant (λ o m. m)
          (inl (in_base h base c.recall_valid.ensures c.requires a _
          (subst (Contains h) (sym is) (Contains-get_or h k a within)) found.0 found.1)))
      | in-None+in_ok-push-in-None w ↦
          let grown : c.match-get.objects.items ≡ old ++ object_of a ∷ [] = search rules in
          subst (λ (os : List ObjectId). AreToldApart base os (take (k + 1) h)) (sym grown)
          (told_apart base old (old ++ object_of a ∷ []) h k a within is c.loop-op.invariant
          (λ o m. Contains-append_left old (object_of a ∷ []) o m)
          (inr (Contains-push old (object_of a))))
    ]

pub returns : goal.returns
returns c =
    let h = c.args.history.now.ops in
    let base = c.args.base.now.ops in
    let objects = c.loop-op.objects.items in
    let past : length h ≤ c.loop-op.op-index = search (rules, arith) in
    same_but h base objects c.requires
    (subst (λ (os : List Op). AreToldApart base objects os) (take_all c.loop-op.op-index h past)
    c.loop-op.invariant)
