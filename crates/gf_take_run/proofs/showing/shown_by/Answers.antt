use Rattle.gf_take_run.proofs.showing.shown_by.Goals as goal

pub returns-in-None-clause-refused : goal.returns-in-None-clause-refused
returns-in-None-clause-refused c = λ after fig d. rw c.in-None.is at c.in_ok-listed.ensures.none
