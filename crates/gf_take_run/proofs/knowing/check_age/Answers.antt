use Rattle.std.proofs.Common.{rules, arith, ◌≡◌, ◌<◌, ◌≤◌, List, length, get_or, sym, subst}
use Rattle.std.specs.Prelude.{Contains}
use Rattle.std.proofs.lemmas.List.{take_all}
use Rattle.gf_ops.specs.declared.op.Op.{Op}
use Rattle.gf_ops.specs.OperationOrder.{count_of, entry}
use Rattle.gf_take_run.specs.KnownHistory.{IsNewer}
use Rattle.gf_take_run.proofs.NewerLemmas.{none_more, none_newer}
use Rattle.gf_take_run.proofs.knowing.check_age.Goals as goal

pub returns-then-count-entry-clause-ok : goal.returns-then-count-entry-clause-ok
returns-then-count-entry-clause-ok c =
    let s = c.args.site in
    let knew = c.args.knew.now in
    let h = c.args.history.now.ops in
    let all : count_of h s ≤ entry knew s = search (rules, arith) in
    none_newer s knew h c.recall_valid.ensures all

pub loop-op-preserved : goal.loop-op-preserved
loop-op-preserved c =
    let s = c.args.site in
    let knew = c.args.knew.now in
    let h = c.args.history.now.ops in
    let k = c.loop-op.op-index in
    let l : k < length h = search (rules, arith) in
    let is : c.op-item.result ≡ get_or h k c.op-item.result = search rules in
    λ a x m n. none_more (λ b. IsNewer s knew h b x) h k c.op-item.result l is
    (λ b i. c.loop-op.invariant b x i) (c.in_default.ensures.none x) a m n

pub returns-clause-ok : goal.returns-clause-ok
returns-clause-ok c =
    let h = c.args.history.now.ops in
    let k = c.loop-op.op-index in
    let l : length h ≤ k = search (rules, arith) in
    λ a x n. c.loop-op.invariant a x
    (subst (λ (os : List Op). Contains os a) (sym (take_all k h l)) n.contained) n
