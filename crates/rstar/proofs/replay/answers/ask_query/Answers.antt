use Rattle.rstar.proofs.replay.answers.ask_query.Goals as goal

pub returns-in-In : goal.returns-in-In
returns-in-In g c = rw c.in-In.is (rw c.new.ensures.selects at c.clones_of-in-In.ensures)

pub returns-in-Hit : goal.returns-in-Hit
returns-in-Hit g c = rw c.in-Hit.is (rw c.new-in-Hit.ensures.selects at c.clones_of-in-Hit.ensures)

pub returns-in-At : goal.returns-in-At
returns-in-At g c = rw c.in-At.is (rw c.new-in-At.ensures.selects at c.clones_of-in-At.ensures)

pub returns-in-Within : goal.returns-in-Within
returns-in-Within g c = rw c.in-Within.is (rw c.new-in-Within.ensures.selects at c.clones_of-in-Within.ensures)
