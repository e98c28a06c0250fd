use Rattle.flat_code.proofs.levels.+add_levels.Given as goal

abbrev pub decreases-add_levels : goal.decreases-add_levels
decreases-add_levels l = l.place
