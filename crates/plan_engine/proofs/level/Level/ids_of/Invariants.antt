use Rattle.std.proofs.Common.{◌≡◌, ◌<◌, All, take, vec_len}
use Rattle.std.specs.List.{filter_map}
use Rattle.shred.specs.Builders.{built}
use Rattle.shred_stage.specs.Known.{texts_of}
use Rattle.plan_engine.proofs.level.Level.ids_of.Given as goal

abbrev pub invariant-loop-place : goal.invariant-loop-place
invariant-loop-place l = record {
  ids : l.ids.items ≡ filter_map (built l.self.builder).known (texts_of (take l.place l.names));
  earlier : All (λ id. id < vec_len l.self.plan.declarations.entries) l.ids.items;
}
