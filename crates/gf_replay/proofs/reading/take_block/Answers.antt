use Rattle.std.proofs.Common.{◌≡◌, length, rules, subst, sym}
use Rattle.std.specs.Vec.Iter.{into_iter_items}
use Rattle.std.proofs.lemmas.Result.{err_from_is_err_and}
use Rattle.gf_replay.specs.Refusing.{RefusesText}
use Rattle.gf_replay.proofs.GrowthLemmas.{grows_on}
use Rattle.gf_replay.proofs.ReadingLemmas.{AreOfLines-rest, HasRead-block, IsBefore-line}
use Rattle.gf_replay.proofs.ReadingLemmas.{RefusesText-first}
use Rattle.gf_replay.proofs.reading.take_block.Goals as goal

pub loop-reading-preserved : goal.loop-reading-preserved
loop-reading-preserved c =
    let steps = c.in-Some.ensures.steps.0 in
    record {
      block = AreOfLines-rest c.in-Some.reading _ (rw steps at c.loop-reading.invariant.block);
      before = λ known text others whole.
          IsBefore-line known text c.in-Some.reading _ others c.loop-reading.replica
          (rw steps at c.loop-reading.invariant.before known text others whole)
          c.take_reading.new.replica c.in_ok-take_reading.ensures.ok;
      grows = grows_on c.args.replica.ops c.loop-reading.replica.ops c.take_reading.new.replica.ops
          c.loop-reading.invariant.grows c.in_ok-take_reading.ensures.grows;
    }

pub returns-in_err-take_reading : goal.returns-in_err-take_reading
returns-in_err-take_reading c =
    let steps = c.in-Some.ensures.steps.0 in
    let p = err_from_is_err_and c.from_residual.result c.from_residual.ensures.1 in
    rw p.1 (record {
      ok = λ known text others whole. tt;
      err = λ known text others whole.
          RefusesText-first known text c.in-Some.reading _ others c.loop-reading.replica
          (rw steps at c.loop-reading.invariant.before known text others whole) _
          (λ line reads all bytes left read. subst (RefusesText all bytes) (sym p.2)
          (c.in_err-take_reading.ensures.err line reads all bytes left read));
      grows = tt;
    })

pub returns : goal.returns
returns c = record {
  ok = λ known text others whole.
      let none : length (into_iter_items c.loop-reading.reading-iterator) ≡ 0 = search rules in
      HasRead-block known text _ others c.loop-reading.replica none
      (c.loop-reading.invariant.before known text others whole);
  err = λ known text others whole. tt;
  grows = c.loop-reading.invariant.grows;
}
