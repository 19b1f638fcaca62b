-- What a sink was given, of the sink before and after.
use Rattle.std.specs.Prelude.{ℕ, ◌++◌, List, Result}
use Rattle.std.specs.HashMap.{HashMap}
use Rattle.std.specs.List.{flat_map}
use Rattle.std.specs.declared.string.String.{String}
use Rattle.shred_model.specs.Plan.{Plan, plan_ids}
use Rattle.shred_run.specs.declared.entry.SystemId.{SystemId}
use Rattle.shred_stage.specs.Names.{NamedId, first_unnamed, named_ids}
use Rattle.shred_stage.specs.Printed.{plan_text}
use Rattle.shred_stage.specs.Prints.{PrintsPlan}
use Rattle.shred_stage.specs.Sinks.{IsPut}
use Rattle.shred_stage.specs.declared.dispatch.printing.PrintError.{PrintError}
use Rattle.shred_stage.specs.declared.dispatch.sink.PlanSink as sinks

-- the sink was given the text and did not fail, or it failed once and was given a beginning of the text
abbrev pub PutsText : {W E : Type 0} → sinks.Ghosts W → (old new : W) → List ℕ → Result (Unit {0}) E → Type 0
PutsText sink old new text result = IsPut (sink.told old) (sink.told new) (sink.failures old) (sink.failures new) text result

-- with the names of the map: the first id of the plan that has none is answered, and the sink stays; where all have names, the plan's text is put and what follows it
abbrev pub PutsPlan : {W I Z T : Type 0} → sinks.Ghosts W → HashMap (String Z) SystemId T → Plan I → List ℕ → (old new : W) → Result (Unit {0}) PrintError → Type 0
PutsPlan sink names plan end old new answer = PrintsPlan sink.told sink.failures old new (first_unnamed (named_ids names) (plan_ids plan)) (plan_text (named_ids names) plan ++ end) answer

-- the sink was given the text of the thing, with the names of the map
abbrev pub PutsNamed : {W X Z T E : Type 0} → sinks.Ghosts W → HashMap (String Z) SystemId T → (List NamedId → X → List ℕ) → X → (old new : W) → Result (Unit {0}) E → Type 0
PutsNamed sink names text thing old new result = PutsText sink old new (text (named_ids names) thing) result

-- the same of each of the things, one after the other
abbrev pub PutsEach : {W X Z T E : Type 0} → sinks.Ghosts W → HashMap (String Z) SystemId T → (List NamedId → X → List ℕ) → List X → (old new : W) → Result (Unit {0}) E → Type 0
PutsEach sink names text things old new result = PutsText sink old new (flat_map (text (named_ids names)) things) result

-- with the names of the map: the first id of the plan that has none is answered, and the sink stays; where all have names, the plan's text is put
abbrev pub PrintsNamed : {W I Z T : Type 0} → sinks.Ghosts W → HashMap (String Z) SystemId T → Plan I → (old new : W) → Result (Unit {0}) PrintError → Type 0
PrintsNamed sink names plan old new answer = PrintsPlan sink.told sink.failures old new (first_unnamed (named_ids names) (plan_ids plan)) (plan_text (named_ids names) plan) answer
