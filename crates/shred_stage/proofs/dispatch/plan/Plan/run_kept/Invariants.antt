use Rattle.shred_world.specs.Worlds.{local_held}
use Rattle.shred_run.specs.Depths.{steps_of}
use Rattle.shred_stage.specs.Situations.{dispatch_answer}
use Rattle.shred_stage.proofs.Runs.Plans.{StagesRan}
use Rattle.shred_stage.proofs.dispatch.plan.Plan.run_kept.Given as goal

abbrev pub invariant-loop-place : goal.invariant-loop-place
invariant-loop-place g l = StagesRan g.V.ResourceValue.kind_of (steps_of g.S.System g.C.BatchController) dispatch_answer l.initial.self.stages.items (local_held g.V.ResourceValue.kind_of l.initial.world) l.place l.self.stages.items (local_held g.V.ResourceValue.kind_of l.world)
