use Rattle.exports.proofs.groups.+write_count.Given as goal

abbrev pub decreases-write_count : goal.decreases-write_count
decreases-write_count g l = l.count
