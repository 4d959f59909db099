use Rattle.std.proofs.Common.{drop, pos, ◌+◌, ◌++◌}
use Rattle.gf_spans.specs.declared.span.Span.{Span}
use Rattle.gf_spans.specs.JoiningParts.{merged}
use Rattle.gf_spans.proofs.MergeLemmas.{merged_end, merged_more}
use Rattle.gf_spans.proofs.meetings.merge_from.Goals as goal

abbrev none : Span
none = record { first = pos 0; last = pos 0 }

pub loop-span-preserved : goal.loop-span-preserved
loop-span-preserved c = merged_more c.loop-span.spans.items c.merge_one.new.spans.items
    (c.args.spans.now.items ++ merged c.args.first c.args.rest.now) c.loop-span.current
    c.in_ok-current.current none c.args.rest.now c.loop-span.span-index c.loop-span-test.true
    (c.in_ok-current.ensures (drop (c.loop-span.span-index + 1) c.args.rest.now))
    c.loop-span.invariant

pub returns : goal.returns
returns c = merged_end c.loop-span.spans.items c.push.new.self.items
    (c.args.spans.now.items ++ merged c.args.first c.args.rest.now) c.loop-span.current
    c.args.rest.now c.loop-span.span-index c.loop-span-test.false c.in_ok-push.ensures.items
    c.loop-span.invariant
