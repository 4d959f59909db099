use Rattle.std.proofs.Common.{refl, arith, get_or}
use Rattle.std.proofs.lemmas.Option.{slice_get-get_or}
use Rattle.gf_base.proofs.PositionLemmas.{contained_at}
use Rattle.gf_classes.proofs.KindLemmas.{no_setter, put_more}
use Rattle.gf_classes.proofs.direct.placed.Goals as goal

pub put_class-requires : goal.put_class-requires
put_class-requires c =
    let ss = c.args.setters.now in
    let m = c.loop-rank.rank in
    let within = c.requires.within (get_or ss m no_setter) (contained_at ss m
    (get_or ss m no_setter) (slice_get-get_or ss m no_setter c.loop-rank-test.true)) in
    let count = c.loop-rank.invariant.count in
    omega (arith, within, count)

pub loop-rank-preserved : goal.loop-rank-preserved
loop-rank-preserved c =
    let ss = c.args.setters.now in
    let m = c.loop-rank.rank in
    let e = get_or ss m no_setter in
    let at = slice_get-get_or ss m no_setter c.loop-rank-test.true in
    put_more ss c.args.classes.now c.args.len m c.loop-rank.all.items c.loop-rank.invariant e at
    (get_or c.args.classes.now m _) c.put_class.new.classes.items refl c.put_class.ensures
    (c.requires.within e (contained_at ss m e at))
