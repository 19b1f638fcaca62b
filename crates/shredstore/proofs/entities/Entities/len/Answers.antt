use Rattle.std.proofs.Common.{◌∙◌}
use Rattle.shredstore.proofs.LiveCount.{live-count}
use Rattle.shredstore.proofs.entities.Entities.len.Goals as goal

pub returns-clause-count : goal.returns-clause-count
returns-clause-count c = let own = c.args.self.now in c.len.ensures.len ∙ live-count own.next own.live.keys c.len.ensures.ordered own.below
