use Rattle.std.proofs.Common.{subst, sym}
use Rattle.std.proofs.lemmas.Result.{IfOk-weaker}
use Rattle.gf_classes.specs.Kinds.{ButFor}
use Rattle.gf_classes.proofs.KindLemmas.{but_lone, but_some}
use Rattle.gf_classes.proofs.direct.but_for.Goals as goal

pub returns-in-Some-get : goal.returns-in-Some-get
returns-in-Some-get c = IfOk-weaker c.without.result _ _ (λ left is ks index.
    subst (λ f. ButFor ks f c.args.classes left) (sym c.in-Some.is)
    (but_some ks c.args.same.now index c.args.classes c.in-Some.fingerprint
    c.in-Some-get.some.now left (sym c.in-Some-get.ensures) is)) c.without.ensures

pub returns-in-None : goal.returns-in-None
returns-in-None c = λ ks index.
    subst (λ f. ButFor ks f c.args.classes c.args.classes) (sym c.in-Some.is)
    (but_lone ks c.args.same.now index c.args.classes c.in-Some.fingerprint
    (sym c.in-None.ensures))
