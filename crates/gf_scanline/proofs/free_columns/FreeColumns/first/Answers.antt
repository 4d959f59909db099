use Rattle.std.proofs.Common.{ℕ, arith, ◌∙◌, ◌≡◌, ◌<◌, ◌*◌, ◌-◌, ap, length, min, nat_lt, rules}
use Rattle.std.proofs.Common.{subst}
use Rattle.std.proofs.lemmas.List.{length-replicate, length-set}
use Rattle.gf_scanline.proofs.FreeLemmas.{AreFirst, blank_fits, first_free, first_more}
use Rattle.gf_scanline.proofs.FreeLemmas.{first_summed, fits_more}
use Rattle.gf_scanline.proofs.free_columns.FreeColumns.first.Goals as goal

pub loop-i-init : goal.loop-i-init
loop-i-init c = record {
  count = length-replicate {A = ℕ} 64 0;
  fits = blank_fits;
  first = λ j b l m. absurd (omega (arith, l));
}

pub loop-i-preserved : goal.loop-i-preserved
loop-i-preserved c =
    let words = c.loop-i.words in
    let i = c.loop-i.i in
    let l : i < length words = search (rules, arith) in
    let least : c.min.result ≡ min (c.args.count - 64 * i) 64 = search (rules, arith) in
    record {
      count = length-set words i c.first_bits.result ∙ c.loop-i.invariant.count;
      fits = fits_more words i c.first_bits.result l c.first_bits.type_inv c.loop-i.invariant.fits;
      first = first_more c.args.count i c.first_bits.result words c.loop-i.invariant.first l
          (λ b m. c.first_bits.ensures b m ∙ ap (nat_lt b) least);
    }

pub invariant_of-result : goal.invariant_of-result
invariant_of-result c =
    let all : c.loop-i.i ≡ 64 = let l = c.loop-i-test.false in let m = c.loop-i.auto.i-end in
    omega (arith, l, m) in
    let first = subst (λ n. AreFirst c.args.count n c.loop-i.words) all c.loop-i.invariant.first in
    first_summed c.args.count c.first_bits-summary.result c.loop-i.words c.loop-i.invariant.count
    c.loop-i.invariant.fits first
    (λ i l. c.first_bits-summary.ensures i l ∙ ap (nat_lt i) c.div_ceil.ensures)

pub returns : goal.returns
returns c =
    let all : c.loop-i.i ≡ 64 = let l = c.loop-i-test.false in let m = c.loop-i.auto.i-end in
    omega (arith, l, m) in
    let first = subst (λ n. AreFirst c.args.count n c.loop-i.words) all c.loop-i.invariant.first in
    first_free c.args.count c.loop-i.words c.loop-i.invariant.count c.requires first
