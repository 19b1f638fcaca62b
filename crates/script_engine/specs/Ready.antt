-- Scripts that are ready to run.
use Rattle.std.specs.Prelude.{◌≡◌}
use Rattle.indexmap.specs.IndexMap.{values}
use Rattle.shred.specs.FullRuns.{whole_over}
use Rattle.script_engine.specs.Runs.{IsPlanOf, program_of}
use Rattle.script_engine.specs.declared.run_plan.Ready.{Ready}
use Rattle.script_text.specs.Report.{numbers_held}
use Rattle.script_text.specs.Value.{value_kind}
use Rattle.script_text.specs.declared.script.Script.{Script}

-- The dispatcher has the plan that the script's lines make, the world the first values of its resources, and the text is what is printed before the run.
pub record IsReadyFor (script : Script) (ready : Ready) : Type 0 where
  pub plan : IsPlanOf script ready.text.items
  pub program : whole_over value_kind ready.dispatcher ready.world ≡ program_of plan.built (numbers_held (values script.resources))
  pub resources : ready.resources ≡ script.resources
  pub manner : ready.manner ≡ script.manner
