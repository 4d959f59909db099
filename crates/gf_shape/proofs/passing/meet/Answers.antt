use Rattle.std.proofs.Common.{sym, ◌∙◌, None, Some}
use Rattle.std.proofs.lemmas.Int.{to_z-of_z}
use Rattle.std.proofs.lemmas.List.{append-nil}
use Rattle.gf_shape.proofs.RowPaths.{adds_contact, adds_crossing}
use Rattle.gf_shape.proofs.passing.meet.Goals as goal

pub crossing-requires-clause-passes : goal.crossing-requires-clause-passes
crossing-requires-clause-passes c = sym c.passes.ensures ∙ c.if-passes.true

pub returns-in_ok-push-clause-crossings : goal.returns-in_ok-push-clause-crossings
returns-in_ok-push-clause-crossings c =
    let f = c.ranges.y in
    let e = simp to_z-of_z at (sym c.passes.ensures ∙ c.if-passes.true) in
    let adds = adds_crossing c.args.meetings.now.crossings.items c.args.meetings.now.contacts.items
    c.args.y c.args.a c.args.b e in
    rw (c.in_ok-push.ensures.items, simp to_z-of_z at c.crossing.ensures) adds.0

pub returns-in_ok-push-clause-contacts : goal.returns-in_ok-push-clause-contacts
returns-in_ok-push-clause-contacts c =
    let f = c.ranges.y in
    let e = simp to_z-of_z at (sym c.passes.ensures ∙ c.if-passes.true) in
    let adds = adds_crossing c.args.meetings.now.crossings.items c.args.meetings.now.contacts.items
    c.args.y c.args.a c.args.b e in
    adds.1

pub returns-in_ok-push-2-clause-crossings : goal.returns-in_ok-push-2-clause-crossings
returns-in_ok-push-2-clause-crossings c =
    let f = c.ranges.y in
    let e = simp to_z-of_z at (sym c.passes.ensures ∙ c.if-passes.false) in
    let is = simp to_z-of_z at c.in-Some.ensures in
    let adds = adds_contact c.args.meetings.now.crossings.items c.args.meetings.now.contacts.items
    c.args.y c.args.a c.args.b (Some c.in-Some.span) e is in
    adds.0

pub returns-in_ok-push-2-clause-contacts : goal.returns-in_ok-push-2-clause-contacts
returns-in_ok-push-2-clause-contacts c =
    let f = c.ranges.y in
    let e = simp to_z-of_z at (sym c.passes.ensures ∙ c.if-passes.false) in
    let is = simp to_z-of_z at c.in-Some.ensures in
    let adds = adds_contact c.args.meetings.now.crossings.items c.args.meetings.now.contacts.items
    c.args.y c.args.a c.args.b (Some c.in-Some.span) e is in
    c.in_ok-push-2.ensures.items ∙ adds.1

pub returns-in_default-clause-crossings : goal.returns-in_default-clause-crossings
returns-in_default-clause-crossings c =
    let f = c.ranges.y in
    let e = simp to_z-of_z at (sym c.passes.ensures ∙ c.if-passes.false) in
    let is = sym c.in_default.is ∙ (simp to_z-of_z at c.contact.ensures) in
    let adds = adds_contact c.args.meetings.now.crossings.items c.args.meetings.now.contacts.items
    c.args.y c.args.a c.args.b None e is in
    adds.0

pub returns-in_default-clause-contacts : goal.returns-in_default-clause-contacts
returns-in_default-clause-contacts c =
    let f = c.ranges.y in
    let e = simp to_z-of_z at (sym c.passes.ensures ∙ c.if-passes.false) in
    let is = sym c.in_default.is ∙ (simp to_z-of_z at c.contact.ensures) in
    let adds = adds_contact c.args.meetings.now.crossings.items c.args.meetings.now.contacts.items
    c.args.y c.args.a c.args.b None e is in
    sym (append-nil _) ∙ adds.1
