-- What is played has fewer parts, or is looked at as the sequence that it is.
use Rattle.std.proofs.Common.{◌+◌, ◌*◌}
use Rattle.global_follower.proofs.Sizes.{parts}
use Rattle.global_follower.proofs.plays.+playing.Given as goal

abbrev pub decreases-play : goal.decreases-play
decreases-play l = 2 * parts l.left.now + 1

abbrev pub decreases-play_sequence : goal.decreases-play_sequence
decreases-play_sequence l = 2 * parts l.left.now
