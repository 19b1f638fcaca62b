use Rattle.std.proofs.Common.{sym, ap, arith}
use Rattle.test_workers.specs.Leaves.{leaves_of}
use Rattle.test_workers.proofs.Halves.{of_halves}
use Rattle.test_workers.proofs.tree.+leaves.Goals as goal

pub returns-then-depth-eq0 : goal.returns-then-depth-eq0
returns-then-depth-eq0 g t c = sym (ap leaves_of c.if-depth-eq0.true)

pub returns-in-Some : goal.returns-in-Some
returns-in-Some g t c =
    let more = c.if-depth-eq0.false in
    of_halves c.args.depth c.leaves-here.result c.collect-there.result.leaves (omega (arith, more)) c.leaves-here.ensures (c.collect-there.ensures.ran _ c.send.ensures)
