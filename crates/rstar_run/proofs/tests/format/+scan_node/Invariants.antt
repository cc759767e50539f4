use Rattle.rstar_run.proofs.tests.format.+scan_node.Given as goal

abbrev pub decreases-scan_node : goal.decreases-scan_node
decreases-scan_node l = l.levels
