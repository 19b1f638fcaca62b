use Rattle.std.proofs.Common.{refl}
use Rattle.test_trees.proofs.NamedApart.{named-apart}
use Rattle.test_trees.proofs.named.NamedRunWithPool.split.Goals as goal

pub returns : goal.returns
returns g c = named-apart {E = g.row.E.Denot} g.V.ResourceValue.kind_of g.T.RunWithPool.trees g.T.RunWithPool.pieces c.args.self.name c.args.self.inner c.args.self c.split.result c.name_each.result (refl, refl) c.name_each.ensures c.split.ensures
