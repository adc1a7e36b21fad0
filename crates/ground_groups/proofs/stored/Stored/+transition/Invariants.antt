use Rattle.ground_groups.proofs.stored.Stored.+transition.Given as goal

abbrev pub decreases-transition : goal.decreases-transition
decreases-transition l = l.at
