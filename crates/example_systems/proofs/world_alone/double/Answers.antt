use Rattle.std.proofs.Common.{rules}
use Rattle.shred_world.specs.Worlds.{world_held}
use Rattle.example_systems.specs.Numbers.{kind_of}
use Rattle.example_systems.proofs.Doubled.{doubled-in}
use Rattle.example_systems.proofs.world_alone.double.Goals as goal

pub returns-clause-doubled : goal.returns-clause-doubled
returns-clause-doubled c = doubled-in _ _ (λ first last answer ran. search rules) (world_held kind_of c.args.world.now) (world_held kind_of c.exec.new.self) c.exec.result c.exec.ensures
