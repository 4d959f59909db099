use Rattle.std.proofs.Common.{ℕ, ◌≡◌, ◌<◌, ◌^◌, length, slice_index_or}
use Rattle.gf_scanline.proofs.FreeLemmas.{AreFirst}
use Rattle.gf_scanline.proofs.free_columns.FreeColumns.first.Given as goal

abbrev pub invariant-loop-i : goal.invariant-loop-i
invariant-loop-i l = record {
  count : length l.words ≡ 64;
  fits : (j : ℕ) → slice_index_or l.words j 0 < 2 ^ 64;
  first : AreFirst l.count l.i l.words;
}
