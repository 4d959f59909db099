use Rattle.std.proofs.Common.{refl}
use Rattle.gf_causal.proofs.buffer.Buffer.take_ready.Goals as goal

pub returns-clause-found : goal.returns-clause-found
returns-clause-found c =
    let first = c.in_ok-id.ensures.found in
    let taken = c.take.ensures.held c.in_ok-id.field-0.now first.contained refl in rw taken.0 first

pub returns-clause-in_range : goal.returns-clause-in_range
returns-clause-in_range c =
    let taken = c.take.ensures.held c.in_ok-id.field-0.now c.in_ok-id.ensures.found.contained
    refl in rw taken.0 c.in_ok-id.ensures.in_range

pub returns-clause-taken : goal.returns-clause-taken
returns-clause-taken c =
    let taken = c.take.ensures.held c.in_ok-id.field-0.now c.in_ok-id.ensures.found.contained
    refl in rw taken.0 taken.1

pub returns-clause-none : goal.returns-clause-none
returns-clause-none c =
    let taken = c.take.ensures.held c.in_ok-id.field-0.now c.in_ok-id.ensures.found.contained
    refl in rw taken.0 tt

pub returns-clause-same : goal.returns-clause-same
returns-clause-same c =
    let taken = c.take.ensures.held c.in_ok-id.field-0.now c.in_ok-id.ensures.found.contained
    refl in rw taken.0 tt
