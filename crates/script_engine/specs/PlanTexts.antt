-- What is printed of a plan.
use Rattle.std.specs.Prelude.{◌≡◌, ℕ, Bool, true, false, None, Some, List, [], ◌++◌}
use Rattle.shred_model.specs.Plan.{Plan, plan_ids}
use Rattle.shred_table.specs.declared.id.ResourceId.{ResourceId}
use Rattle.shred_stage.specs.Names.{NamedId, first_unnamed}
use Rattle.shred_stage.specs.Printed.{line_feed, plan_text}
use Rattle.shred_stage.specs.StagePlan.{widest}
use Rattle.script_text.specs.declared.error.ScriptError.{ScriptError}
use Rattle.script_text.specs.declared.error.ScriptError.TheVariants.{TooLong, InputFailed, Line, Refused, Unnamed, OutOfMemory, OutputFailed}
use Rattle.script_text.specs.Texts.{line_of, threads_text}

-- each system of the plan has a name, and the text is the printed plan and a line feed
abbrev pub IsPrint : List NamedId → Plan ResourceId → List ℕ → Type 0
IsPrint names plan text = (None ≡ first_unnamed names (plan_ids plan)) × (text ≡ plan_text names plan ++ line_feed)

-- why a plan is not printed: a system has no name, and the first such in the plan's order is told; or memory is refused
abbrev pub IsNotPrinted : List NamedId → Plan ResourceId → ScriptError → Type 0
IsNotPrinted names plan (Unnamed id) = Some id ≡ first_unnamed names (plan_ids plan)
IsNotPrinted names plan OutOfMemory = Unit {0}
IsNotPrinted names plan TooLong = ⊥
IsNotPrinted names plan InputFailed = ⊥
IsNotPrinted names plan (Line number fault) = ⊥
IsNotPrinted names plan (Refused number refusal) = ⊥
IsNotPrinted names plan OutputFailed = ⊥

-- what a report begins with: where the plan is asked for, its print and a line with the greatest number of groups in a stage
abbrev pub IsPlanPart : Bool → List NamedId → Plan ResourceId → List ℕ → Type 0
IsPlanPart true names plan text = (print : List ℕ) × IsPrint names plan print × (text ≡ print ++ line_of (threads_text (widest plan)))
IsPlanPart false names plan text = text ≡ []

-- why it is not made: the plan is asked for, and is not printed or memory is refused
abbrev pub IsNotPlanned : Bool → List NamedId → Plan ResourceId → ScriptError → Type 0
IsNotPlanned true names plan error = IsNotPrinted names plan error
IsNotPlanned false names plan error = ⊥
