use Rattle.std.proofs.Common.{◌≡◌, ◌≢◌, ◌∙◌, ap, arith, drop, length, rules}
use Rattle.std.proofs.lemmas.Result.{err_from_is_err_and}
use Rattle.gf_replay.proofs.BlockLemmas.{block_length}
use Rattle.gf_replay.proofs.GrowthLemmas.{grows_on}
use Rattle.gf_replay.proofs.ReadingLemmas.{DeliversLines-read, HasRead-block}
use Rattle.gf_replay.proofs.reading.read_behind.Goals as goal

pub returns-in_err-next-clause-err : goal.returns-in_err-next-clause-err
returns-in_err-next-clause-err g c = λ known d.
    let p = err_from_is_err_and c.from_residual.result c.from_residual.ensures.1 in
    rw (p.1, p.2) (c.in_err-next.ensures.err known c.args.text.items
    (c.loop-alloc.invariant.before known d))

pub loop-alloc-preserved : goal.loop-alloc-preserved
loop-alloc-preserved g c =
    let before = c.loop-alloc.block.behind in
    let block = c.in_ok-next.ensures.block in
    record {
      before = λ known d. record {
        lines = before;
        read = c.in_ok-next.ensures.ok known c.args.text.items
            (c.loop-alloc.invariant.before known d);
        first = block.first;
        behind = block.behind;
      };
      lines = record { lines = before; first = block.first };
      grows = grows_on c.args.replica.ops c.loop-alloc.replica.ops c.in_ok-next.next.0.ops
          c.loop-alloc.invariant.grows c.in_ok-next.ensures.grows;
      none = λ e. block.behind ∙ (ap (λ k. drop k before) e ∙ block.none e);
    }

pub loop-alloc-smaller : goal.loop-alloc-smaller
loop-alloc-smaller g c =
    let long = block_length _ _ _ c.in_ok-next.ensures.block in
    let some : length c.loop-alloc.block.readings.items ≢ 0 = search rules in
    omega (arith, long, some)

pub returns-clause-ok : goal.returns-clause-ok
returns-clause-ok g c = λ known d.
    let none : length c.loop-alloc.block.readings.items ≡ 0 = search rules in
    DeliversLines-read known c.args.text.items c.loop-alloc.replica
    (rw (c.loop-alloc.invariant.none none)
    at (HasRead-block known c.args.text.items _ _ c.loop-alloc.replica
    none (c.loop-alloc.invariant.before known d)))
