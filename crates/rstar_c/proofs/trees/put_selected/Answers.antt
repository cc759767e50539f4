use Rattle.rstar_c.proofs.trees.put_selected.Goals as goal

pub returns-in-All : goal.returns-in-All
returns-in-All g c = rw c.in-All.is c.put_lawful.ensures

pub returns-in-In : goal.returns-in-In
returns-in-In g c = rw c.in-In.is (rw c.new.ensures.selects at c.put_lawful-in-In.ensures)

pub returns-in-Hit : goal.returns-in-Hit
returns-in-Hit g c = rw c.in-Hit.is (rw c.new-in-Hit.ensures.selects at c.put_lawful-in-Hit.ensures)

pub returns-in-At : goal.returns-in-At
returns-in-At g c = rw c.in-At.is (rw c.new-in-At.ensures.selects at c.put_lawful-in-At.ensures)

pub returns-in-Within : goal.returns-in-Within
returns-in-Within g c = rw c.in-Within.is (rw c.new-near.ensures.selects at c.put_lawful-in-Within.ensures)
