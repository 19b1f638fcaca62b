-- What the functions say that dispose of a plan's entries, groups and tiers over a world: each over what its systems tell, and the depth to which batches are followed.
use Rattle.std.specs.Prelude.{ℕ, List, Option}
use Rattle.shred_model.specs.Runs.{Answer}
use Rattle.shred_table.specs.declared.id.Kind.{Kind}
use Rattle.shred_world.specs.declared.world.World.{World}
use Rattle.shred_world.specs.Worlds.{world_held}
use Rattle.shred_run.specs.Rules.{RuleDisposal}
use Rattle.shred_run.specs.Setups.{EntryDisposal, GroupDisposal, GroupsDisposal, TiersDisposal}
use Rattle.shred_run.specs.Steps.{Outcome}
use Rattle.shred_run.specs.WorkSetups.{BatchDisposal, WorkDisposal}
use Rattle.shred_run.specs.declared.entry.Group.{Group}
use Rattle.shred_run.specs.declared.entry.GroupEntry.{GroupEntry}
use Rattle.shred_run.specs.declared.entry.StageFault.{StageFault}
use Rattle.shred_run.specs.declared.system.System as systems
use Rattle.shred_run.specs.declared.work.Batch.{Batch}
use Rattle.shred_run.specs.declared.work.Nested.{Nested}
use Rattle.shred_run.specs.declared.work.Tier.{Tier}
use Rattle.shred_run.specs.declared.work.Work.{Work}

module _ {V S C E A : Type 0} (kind : V → Kind) (s : systems.Ghosts S V E A) where
  -- the batch was disposed of, its inner batches followed less deep
  abbrev pub BatchDisposed : ℕ → Batch V C (Work S (Nested V S C)) → World V → Outcome E → World V → Type 0
  BatchDisposed less batch before outcome after = BatchDisposal (WorkDisposal C s.disposes less) batch (world_held kind before) outcome (world_held kind after)

  -- the tiers were, in order
  abbrev pub TiersDisposed : ℕ → List (Tier V (Work S (Nested V S C))) → World V → Answer (StageFault E) → World V → Type 0
  TiersDisposed less tiers before answer after = TiersDisposal (WorkDisposal C s.disposes less) tiers (world_held kind before) answer (world_held kind after)

  -- the groups were, in order
  abbrev pub GroupsDisposed : Option ℕ → List (Group V (Work S (Nested V S C))) → World V → Answer (StageFault E) → World V → Type 0
  GroupsDisposed at groups before answer after = GroupsDisposal (RuleDisposal s.disposes at) groups (world_held kind before) answer (world_held kind after)

  -- the group was
  abbrev pub GroupDisposed : Option ℕ → Group V (Work S (Nested V S C)) → World V → Answer (StageFault E) → World V → Type 0
  GroupDisposed at group before answer after = GroupDisposal (RuleDisposal s.disposes at) group (world_held kind before) answer (world_held kind after)

  -- the entry was
  abbrev pub EntryDisposed : Option ℕ → GroupEntry V (Work S (Nested V S C)) → World V → Answer (StageFault E) → World V → Type 0
  EntryDisposed at entry before answer after = EntryDisposal (RuleDisposal s.disposes at) entry (world_held kind before) answer (world_held kind after)
