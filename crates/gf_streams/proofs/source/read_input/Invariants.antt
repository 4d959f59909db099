use Rattle.std.proofs.Common.{◌≡◌, ◌+◌, ◌-◌, ◌^◌, ◌<◌, ◌≤◌, vec_len}
use Rattle.std.specs.Io.KnownBytes.{Consumes}
use Rattle.gf_streams.specs.Counts.{Rises}
use Rattle.gf_streams.proofs.source.read_input.Given as goal

abbrev pub invariant-loop-chunk : goal.invariant-loop-chunk
invariant-loop-chunk g l = record {
  within : vec_len l.bytes ≤ 16777217;
  takes : Consumes (g.R.Source.left l.initial.source) (g.R.Source.left l.source) l.bytes.items;
  reads : g.R.Source.reads l.source ≤ g.R.Source.reads l.initial.source + vec_len l.bytes;
  keeps_reads : g.R.Source.reads l.initial.source < 2 ^ 64 - 1
      → g.R.Source.reads l.initial.source ≤ g.R.Source.reads l.source;
  is_read : 0 < vec_len l.bytes
      → Rises (g.R.Source.reads l.initial.source) (g.R.Source.reads l.source);
  failures : g.R.Source.failures l.source ≡ g.R.Source.failures l.initial.source;
}

abbrev pub decreases-loop-chunk : goal.decreases-loop-chunk
decreases-loop-chunk g l = 16777217 - vec_len l.bytes
