use Rattle.gf_spans.proofs.JoinLemmas.{joined}
use Rattle.gf_spans.proofs.meetings.Meetings.join_into.Goals as goal

pub returns : goal.returns
returns c =
    let spans = rw (c.in_ok-pair_up.ensures, c.deref.ensures.value)
    at c.sort_unstable-2.ensures.permutation in
    let is = rw (c.clear.ensures.items, c.deref-2.ensures.value) at c.in_ok-merge.ensures in
    joined c.args.self.now.crossings.items c.args.self.now.contacts.items
    c.sort_unstable.new.self.items c.sort_unstable-2.new.self.items c.merge.new.spans.items
    c.requires.even c.requires.full c.sort_unstable.ensures.permutation
    c.sort_unstable.ensures.sorted spans c.sort_unstable-2.ensures.sorted is
