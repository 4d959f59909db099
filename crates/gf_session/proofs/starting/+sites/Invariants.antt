use Rattle.std.proofs.Common.{◌+◌, ◌*◌, length}
use Rattle.gf_session.proofs.starting.+sites.Given as goal

abbrev pub decreases-fork_last-scope : goal.decreases-fork_last-scope
decreases-fork_last-scope g l = 3 * length l.sites.items + 3

abbrev pub decreases-fork : goal.decreases-fork
decreases-fork g l = 3 * length l.sites.items + 2

abbrev pub decreases-fork_last : goal.decreases-fork_last
decreases-fork_last g l = 3 * length l.sites.items + 1
