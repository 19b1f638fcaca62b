-- The plans that are shown of a script.
use Rattle.std.specs.Prelude.{◌≡◌, List, None}
use Rattle.shred.specs.Builders.{built}
use Rattle.shred_stage.specs.Known.{texts_of}
use Rattle.script_engine.specs.Lines.{IsBuiltBy}
use Rattle.script_engine.specs.Notes.{AreNotedBy}
use Rattle.script_text.specs.Report.{resource_names}
use Rattle.script_text.specs.declared.script.PlanLine.{PlanLine}
use Rattle.script_text.specs.declared.script.Script.{Script}
use Rattle.plan_engine.specs.Levels.{ArePlansOf, IsNewLevel, level_notes}
use Rattle.plan_engine.specs.declared.level.Level.{Level}
use Rattle.plan_engine.specs.declared.plans.Plan.{Plan}
use Rattle.plan_engine.specs.declared.plans.Plans.{Plans}

-- The plans are those that the lines make, by the same builder calls as where a script is run, with what was noted of each line.
pub record ArePlannedBy (lines : List PlanLine) (plans : List Plan) : Type 0 where
  pub empty : Level
  pub whole : Level
  pub is_empty : IsNewLevel empty None
  pub made : IsBuiltBy lines (built whole.builder)
  pub noted : AreNotedBy level_notes lines empty whole
  pub plans_are : ArePlansOf whole plans

-- The plans are those that the script's lines make, with the names of its resources.
pub record AreShownOf (script : Script) (plans : Plans) : Type 0 where
  pub planned : ArePlannedBy script.plan.items plans.plans.items
  pub resources : texts_of plans.resources.items ≡ resource_names script.resources
