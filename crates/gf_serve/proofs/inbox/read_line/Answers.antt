use Rattle.std.proofs.Common.{◌≡◌, ◌<◌, None, Some, length, rules}
use Rattle.std.specs.List.{position}
use Rattle.gf_streams.specs.TextLines.{is_line_end}
use Rattle.gf_serve.proofs.InboxLemmas.{line_ends_late, line_is, line_never_ends, line_taken}
use Rattle.gf_serve.specs.declared.inbox.TheConstants.{MOST_LINE_BYTES}
use Rattle.gf_serve.proofs.inbox.read_line.Goals as goal
use Rattle.gf_serve.proofs.inbox.read_line.Goals.{else-loop-held-test}
use Rattle.gf_serve.proofs.inbox.read_line.Goals.{then-loop-held-test+else-is_none}

pub returns-in_ok-line-in-Some-clause-line : goal.returns-in_ok-line-in-Some-clause-line
returns-in_ok-line-in-Some-clause-line g c =
    let found : position is_line_end c.loop-held.held.items ≡ Some c.in-Some.end = search rules in
    line_is c.loop-held.held.items c.in_ok-line-in-Some.line.items _ c.in-Some.end found
    c.in_ok-line-in-Some.ensures.front c.truncate.ensures.items c.if-end-gt-MOST_LINE_BYTES.false

pub returns-in_ok-line-in-Some-clause-takes : goal.returns-in_ok-line-in-Some-clause-takes
returns-in_ok-line-in-Some-clause-takes g c =
    let found : position is_line_end c.loop-held.held.items ≡ Some c.in-Some.end = search rules in
    line_taken _ _ c.loop-held.held.items c.in_ok-line-in-Some.line.items _ _ c.in-Some.end
    c.loop-held.invariant.keeps found c.in_ok-line-in-Some.ensures.front c.truncate.ensures.items
    c.in_ok-line-in-Some.ensures.rest

pub returns-then-end-gt-MOST_LINE_BYTES-clause-refused :
    goal.returns-then-end-gt-MOST_LINE_BYTES-clause-refused
returns-then-end-gt-MOST_LINE_BYTES-clause-refused g c =
    let found : position is_line_end c.loop-held.held.items ≡ Some c.in-Some.end = search rules in
    line_ends_late _ _ c.loop-held.held.items c.in-Some.end c.loop-held.invariant.keeps found
    c.if-end-gt-MOST_LINE_BYTES.true

pub returns-in-None-clause-refused : goal.returns-in-None-clause-refused
returns-in-None-clause-refused g c =
    let none : position is_line_end c.loop-held.held.items ≡ None = search rules in
    let long : MOST_LINE_BYTES < length c.loop-held.held.items =
    elim c.loop-held-test.branch [
      | then-loop-held-test+else-is_none w ↦ absurd (search rules)
      | else-loop-held-test w ↦ search rules
    ] in
    line_never_ends _ _ c.loop-held.held.items c.loop-held.invariant.keeps none long
