use Rattle.shredstore.proofs.LiveCount.{all-dead, none-live}
use Rattle.shredstore.proofs.entities.Entities.is_empty.Goals as goal

pub returns : goal.returns
returns c =
    let keys = c.args.self.now.live.keys in
    (λ empty. none-live keys (c.is_empty.ensures.0 empty), λ dead. c.is_empty.ensures.1 (all-dead keys dead))
