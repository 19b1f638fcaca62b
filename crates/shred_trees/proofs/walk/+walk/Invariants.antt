use Rattle.std.proofs.Common.{◌+◌, ◌*◌}
use Rattle.shred_trees.proofs.walk.+walk.Given as goal

abbrev pub decreases-fork-join+arg2 : goal.decreases-fork-join+arg2
decreases-fork-join+arg2 g l = 8 * g.T.RunWithPool.pieces.size l.first + 3

abbrev pub decreases-fork-join+arg3 : goal.decreases-fork-join+arg3
decreases-fork-join+arg3 g l = 8 * g.T.RunWithPool.pieces.size l.second + 3

abbrev pub decreases-fork : goal.decreases-fork
decreases-fork g l = 8 * (g.T.RunWithPool.pieces.size l.first + g.T.RunWithPool.pieces.size l.second) + 4

abbrev pub decreases-run_parts : goal.decreases-run_parts
decreases-run_parts g l = 8 * (g.T.RunWithPool.pieces.size l.first + g.T.RunWithPool.pieces.size l.second) + 5

abbrev pub decreases-run_listed : goal.decreases-run_listed
decreases-run_listed g l = 8 * (g.T.RunWithPool.pieces.size l.first + g.T.RunWithPool.pieces.size l.second) + 6

abbrev pub decreases-run_two : goal.decreases-run_two
decreases-run_two g l = 8 * (g.T.RunWithPool.pieces.size l.first + g.T.RunWithPool.pieces.size l.second) + 7

abbrev pub decreases-walk : goal.decreases-walk
decreases-walk g l = 8 * g.T.RunWithPool.pieces.size l.tree

abbrev pub decreases-run_part : goal.decreases-run_part
decreases-run_part g l = 8 * g.T.RunWithPool.pieces.size l.tree + 1

abbrev pub decreases-run_part_in : goal.decreases-run_part_in
decreases-run_part_in g l = 8 * g.T.RunWithPool.pieces.size l.tree + 2
