use Rattle.std.proofs.Common.{rules}
use Rattle.shred_world.specs.Worlds.{world_held}
use Rattle.example_systems.specs.Limits.{kind_of}
use Rattle.example_systems.proofs.Counted.{counted-in, refused-in}
use Rattle.example_systems.proofs.counting.count_one_in.Goals as goal

pub returns : goal.returns
returns c = record {
  counted = counted-in _ _ (λ first last answer ran. search rules) (world_held kind_of c.args.world.now) (world_held kind_of c.exec.new.self) c.exec.result c.exec.ensures;
  refused = refused-in _ _ (world_held kind_of c.args.world.now) (world_held kind_of c.exec.new.self) c.exec.result c.exec.ensures;
}
