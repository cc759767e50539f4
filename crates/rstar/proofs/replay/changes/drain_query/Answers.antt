use Rattle.rstar.proofs.replay.changes.drain_query.Goals as goal

pub returns-in-All-clause-taken : goal.returns-in-All-clause-taken
returns-in-All-clause-taken g c = rw c.in-All.is c.drain_some.ensures.taken

pub returns-in-In-clause-taken : goal.returns-in-In-clause-taken
returns-in-In-clause-taken g c = rw c.in-In.is (rw c.new.ensures.selects at c.drain_some-in-In.ensures.taken)

pub returns-in-Hit-clause-taken : goal.returns-in-Hit-clause-taken
returns-in-Hit-clause-taken g c = rw c.in-Hit.is (rw c.new-in-Hit.ensures.selects at c.drain_some-in-Hit.ensures.taken)

pub returns-in-At-clause-taken : goal.returns-in-At-clause-taken
returns-in-At-clause-taken g c = rw c.in-At.is (rw c.new-in-At.ensures.selects at c.drain_some-in-At.ensures.taken)

pub returns-in-Within-clause-taken : goal.returns-in-Within-clause-taken
returns-in-Within-clause-taken g c = rw c.in-Within.is (rw c.new-in-Within.ensures.selects at c.drain_some-in-Within.ensures.taken)
