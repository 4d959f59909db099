use Rattle.std.proofs.Common.{rules, ◌≡◌, ℕ, List, subst}
use Rattle.std.specs.Prelude.{Contains}
use Rattle.std.proofs.lemmas.Result.{IfOk-weaker}
use Rattle.gf_maximal.specs.Growing.{without, common}
use Rattle.gf_maximal.specs.Rows.{conflict}
use Rattle.gf_maximal.specs.Cutting.{spared, AreDoubtful}
use Rattle.gf_maximal.proofs.MaximalLemmas.{Contains-without}
use Rattle.gf_maximal.proofs.ParentLemmas.{Contains-common}
use Rattle.gf_maximal.proofs.CuttingLemmas.{doubt_kept, doubt_gone}
use Rattle.gf_maximal.proofs.cutting.in_doubt.Goals as goal

pub spared-requires : goal.spared-requires
spared-requires c = λ a h.
    let e : c.deref.result.now ≡ without c.args.rivals.now c.args.set.now = search rules in
    c.requires.met a (c.requires.set.within a
    ((Contains-without c.args.rivals.now c.args.set.now a).0
    (subst (λ z. Contains z a) e h)).0)

pub let_go-requires : goal.let_go-requires
let_go-requires c = λ a h.
    let e : c.deref-else-len.result.now ≡ common c.args.rivals.now c.args.set.now = search rules in
    c.requires.met a (c.requires.set.within a
    ((Contains-common (conflict c.args.rows.now) c.args.met.now c.args.rivals.now c.args.set.now
    a).0 (subst (λ z. Contains z a) e h)).0)

pub returns-then-len : goal.returns-then-len
returns-then-len c = IfOk-weaker c.spared.result
    (λ (found : List ℕ). found ≡ spared c.args.rows.now c.in_ok-others.others c.deref.result.now)
    (AreDoubtful (conflict c.args.rows.now) c.args.met.now c.args.rivals.now c.args.set.now)
    (λ found e. doubt_kept c.args.rows.now c.requires.known c.args.met.now c.args.rivals.now
    c.args.set.now c.in_ok-others.others c.deref.result.now found (search rules) (search rules) e)
    c.spared.ensures

pub returns : goal.returns
returns c = IfOk-weaker c.let_go.result
    (λ (found : List ℕ). found
    ≡ without (spared c.args.rows.now c.in_ok-others.others c.deref-else-len.result.now)
    c.in_ok-others.others)
    (AreDoubtful (conflict c.args.rows.now) c.args.met.now c.args.rivals.now c.args.set.now)
    (λ found e. doubt_gone c.args.rows.now c.requires.known c.args.met.now c.args.rivals.now
    c.args.set.now c.in_ok-others.others c.deref-else-len.result.now found c.requires.set
    (search rules) (search rules) e)
    c.let_go.ensures
