use Rattle.std.proofs.Common.{◌+◌, ◌*◌, length}
use Rattle.feed_transactions.proofs.name_pattern.+matching.Given as goal

abbrev pub decreases-match_ends : goal.decreases-match_ends
decreases-match_ends l = 2 * (length l.pattern.now + length l.name.now) + 1

abbrev pub decreases-match_name : goal.decreases-match_name
decreases-match_name l = 2 * (length l.pattern.now + length l.name.now)
