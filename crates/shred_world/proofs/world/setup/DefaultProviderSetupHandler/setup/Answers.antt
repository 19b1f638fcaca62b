use Rattle.std.proofs.Common.{rules}
use Rattle.shred_world.proofs.world.setup.DefaultProviderSetupHandler.setup.Goals as goal

pub returns : goal.returns
returns g c = search rules
