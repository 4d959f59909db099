use Rattle.std.proofs.Common.{List, Bor, ap, refl, sym, ◌∙◌}
use Rattle.std.specs.Prelude.{filter, not}
use Rattle.std.proofs.lemmas.Result.{IfOk-weaker}
use Rattle.gf_ops.specs.declared.op.Op.{Op}
use Rattle.gf_groups.specs.VersionList.{in_conflict}
use Rattle.gf_status.specs.Setters.{hides}
use Rattle.gf_status.proofs.LastLemmas.{all_in_range, now}
use Rattle.gf_status.proofs.UnseenLemmas.{hidings_near, hidings_within, last_near, near_within}
use Rattle.gf_status.proofs.unseen.hidings_beside.Goals as goal

pub are_beside-requires-clause-others : goal.are_beside-requires-clause-others
are_beside-requires-clause-others c = all_in_range c.args.history.now.ops c.recall_valid.ensures now
    c.args.last.now (λ a i. c.requires.setters a (c.requires.last.within a i))

pub beside-requires-clause-others : goal.beside-requires-clause-others
beside-requires-clause-others c = all_in_range c.args.history.now.ops c.recall_valid.ensures now
    c.args.setters.now c.requires.setters

pub lasts-requires : goal.lasts-requires
lasts-requires c = rw c.deref.ensures.value (near_within now c.args.history.now.ops c.args.op.now
    c.args.setters.now c.in_ok-found.found.items c.in_ok-found.ensures c.requires.setters)

-- the setters beside the operation
abbrev near : List Op → Op → List (Bor Op) → List (Bor Op)
near h a setters = filter (λ r. not (in_conflict h a (now r))) setters

pub returns-then-are_beside-clause-within : goal.returns-then-are_beside-clause-within
returns-then-are_beside-clause-within c =
    let h = c.args.history.now.ops in
    let a = c.args.op.now in
    let setters = c.args.setters.now in
    let ls = c.args.last.now in
    let last = last_near now h a setters (near h a setters) refl ls c.requires.last
    (sym c.are_beside.ensures ∙ c.if-are_beside.true) in
    IfOk-weaker c.hidings.result _ _ (λ found e. hidings_within now h a setters (near h a setters)
    refl c.requires.setters ls found.items last e) c.hidings.ensures

pub returns-then-are_beside-clause-exactly : goal.returns-then-are_beside-clause-exactly
returns-then-are_beside-clause-exactly c =
    let h = c.args.history.now.ops in
    let a = c.args.op.now in
    let setters = c.args.setters.now in
    let ls = c.args.last.now in
    let last = last_near now h a setters (near h a setters) refl ls c.requires.last
    (sym c.are_beside.ensures ∙ c.if-are_beside.true) in
    IfOk-weaker c.hidings.result _ _ (λ found e. hidings_near now h a setters (near h a setters)
    refl ls found.items last e) c.hidings.ensures

pub returns-clause-within : goal.returns-clause-within
returns-clause-within c =
    let ls = c.in_ok-found-2.found.items in
    let last = rw c.deref.ensures.value at c.in_ok-found-2.ensures in
    IfOk-weaker c.hidings-2.result _ _ (λ found e. hidings_within now c.args.history.now.ops
    c.args.op.now c.args.setters.now c.in_ok-found.found.items c.in_ok-found.ensures
    c.requires.setters ls found.items last
    (e ∙ ap (filter (λ r. hides (now r).change)) c.deref-2.ensures.value)) c.hidings-2.ensures

pub returns-clause-exactly : goal.returns-clause-exactly
returns-clause-exactly c =
    let ls = c.in_ok-found-2.found.items in
    let last = rw c.deref.ensures.value at c.in_ok-found-2.ensures in
    IfOk-weaker c.hidings-2.result _ _ (λ found e. hidings_near now c.args.history.now.ops
    c.args.op.now c.args.setters.now c.in_ok-found.found.items c.in_ok-found.ensures ls found.items
    last (e ∙ ap (filter (λ r. hides (now r).change)) c.deref-2.ensures.value)) c.hidings-2.ensures
