-- What the lines of a script say.
use Rattle.std.specs.Prelude.{◌≡◌, ℕ, ℤ, ◌+◌, ◌<◌, Bool, true, false, Some, None, List, [], ◌∷◌, ◌++◌, length, codes, Contains, Vec}
use Rattle.std.specs.declared.alloc.Global.{Global}
use Rattle.std.specs.List.{AllZip, push}
use Rattle.std.specs.Str.{IsAscii}
use Rattle.indexmap.specs.IndexMap.{values}
use Rattle.shred_stage.specs.Known.{texts_of}
use Rattle.script_text.specs.declared.script.BatchLine.{BatchLine}
use Rattle.script_text.specs.declared.script.Manner.{Manner}
use Rattle.script_text.specs.declared.script.Mode.{Mode}
use Rattle.script_text.specs.declared.script.Mode.TheVariants.{Parallel, Sequential}
use Rattle.script_text.specs.declared.script.PlanLine.{PlanLine}
use Rattle.script_text.specs.declared.script.PlanLine.TheVariants.{System, Local, Barrier, Rule, Batch, End}
use Rattle.script_text.specs.declared.script.RuleLine.{RuleLine}
use Rattle.script_text.specs.declared.script.Script.{Script}
use Rattle.script_text.specs.declared.script.SystemLine.{SystemLine}
use Rattle.script_text.specs.declared.step.Step.{Step}
use Rattle.script_text.specs.Forms.{IsResourceName, NamesSystem, WritesCount, WritesInteger, rule_word, time_word}
use Rattle.script_text.specs.Lines.{lines_of}
use Rattle.script_text.specs.Report.{resource_names}
use Rattle.script_text.specs.StepForms.{WritesNames, WritesStep}
use Rattle.script_text.specs.Words.{next_word, after_word, BeginsWithWords, HasWords}

-- What lines have said so far: the resources with their first values, the lines of the plan, the numbers of the lines that began the open batches, outermost first, whether the plan is to be printed, and how it is dispatched.
pub record Said : Type 0 where
  pub names : List (List ℕ)
  pub firsts : List ℤ
  pub plan : List PlanLine
  pub unended : List ℕ
  pub prints_plan : Bool
  pub manner : Manner

-- before the first line: no resource and no plan line, four workers, one dispatch, in parallel
abbrev pub nothing_said : Said
nothing_said = record {
  names = [];
  firsts = [];
  plan = [];
  unended = [];
  prints_plan = false;
  manner = record { workers = 4; times = 1; mode = Parallel };
}

-- what a script says
abbrev pub said_by : Script → Said
said_by script = record {
  names = resource_names script.resources;
  firsts = values script.resources;
  plan = script.plan.items;
  unended = script.unended.items;
  prints_plan = script.prints_plan;
  manner = script.manner;
}

-- with one resource more
abbrev pub with_resource : Said → List ℕ → ℤ → Said
with_resource said name first = record {
  names = push said.names name;
  firsts = push said.firsts first;
  plan = said.plan;
  unended = said.unended;
  prints_plan = said.prints_plan;
  manner = said.manner;
}

-- with one line more of the plan, and these batches open
abbrev pub with_line : Said → PlanLine → List ℕ → Said
with_line said line unended = record {
  names = said.names;
  firsts = said.firsts;
  plan = push said.plan line;
  unended = unended;
  prints_plan = said.prints_plan;
  manner = said.manner;
}

-- dispatched in this manner
abbrev pub with_manner : Said → Manner → Said
with_manner said manner = record {
  names = said.names;
  firsts = said.firsts;
  plan = said.plan;
  unended = said.unended;
  prints_plan = said.prints_plan;
  manner = manner;
}

-- with the plan to be printed
abbrev pub with_plan_printed : Said → Said
with_plan_printed said = record {
  names = said.names;
  firsts = said.firsts;
  plan = said.plan;
  unended = said.unended;
  prints_plan = true;
  manner = said.manner;
}

-- the words of a text write these steps, where these names are declared
pub record AreStepsOf (declared : List (List ℕ)) (text : List ℕ) (steps : List Step) : Type 0 where
  pub words : List (List ℕ)
  pub are : HasWords text words
  pub write : AllZip (WritesStep declared) words steps

-- `res NAME INT`: a resource that no earlier line declares, and its first value
pub record SaysResource (rest : List ℕ) (before after : Said) : Type 0 where
  pub name : List ℕ
  pub number : List ℕ
  pub first : ℤ
  pub are : HasWords rest (name ∷ number ∷ [])
  pub is_name : IsResourceName name
  pub is_new : Contains before.names name → ⊥
  pub writes : WritesInteger number first
  pub left : after ≡ with_resource before name first

-- the text behind `sys` writes this system of the line with this number: its name, time, dependencies and steps
pub record WritesSystem (number : ℕ) (declared : List (List ℕ)) (rest : List ℕ) (system : SystemLine) : Type 0 where
  pub name : List ℕ
  pub time : List ℕ
  pub dependencies : List ℕ
  pub steps : List ℕ
  pub are : BeginsWithWords rest (name ∷ time ∷ dependencies ∷ []) steps
  pub line_is : system.line ≡ number
  pub name_is : NamesSystem name system.name.now
  pub time_is : time ≡ time_word system.time
  pub dependencies_are : WritesNames dependencies (texts_of system.dependencies.items)
  pub steps_are : AreStepsOf declared steps system.steps.items

-- `sys NAME TIME DEPS STEP..`: a system of the plan
pub record SaysSystem (number : ℕ) (rest : List ℕ) (before after : Said) : Type 0 where
  pub system : SystemLine
  pub writes : WritesSystem number before.names rest system
  pub left : after ≡ with_line before (System system) before.unended

-- `local STEP..`: a thread-local system
pub record SaysLocal (rest : List ℕ) (before after : Said) : Type 0 where
  pub local : Vec Step Global
  pub steps_are : AreStepsOf before.names rest local.items
  pub left : after ≡ with_line before (Local local) before.unended

-- `barrier`: a barrier of the plan
pub record SaysBarrier (rest : List ℕ) (before after : Said) : Type 0 where
  pub are : HasWords rest []
  pub left : after ≡ with_line before Barrier before.unended

-- `rule first` or `rule ordered`: a line of the plan with this number, which sets that rule
pub record SaysRule (number : ℕ) (rest : List ℕ) (before after : Said) : Type 0 where
  pub line : RuleLine
  pub are : HasWords rest (rule_word line.rule ∷ [])
  pub line_is : line.line ≡ number
  pub left : after ≡ with_line before (Rule line) before.unended

-- the text behind `batch` writes this batch of the line with this number: its name, dependencies and rounds
pub record WritesBatch (number : ℕ) (rest : List ℕ) (batch : BatchLine) : Type 0 where
  pub name : List ℕ
  pub dependencies : List ℕ
  pub rounds : List ℕ
  pub are : HasWords rest (name ∷ dependencies ∷ rounds ∷ [])
  pub line_is : batch.line ≡ number
  pub name_is : NamesSystem name batch.name.now
  pub dependencies_are : WritesNames dependencies (texts_of batch.dependencies.items)
  pub rounds_are : WritesCount 1000 rounds batch.rounds

-- `batch NAME DEPS COUNT`: a batch begins, around which at most seven are open
pub record SaysBatch (number : ℕ) (rest : List ℕ) (before after : Said) : Type 0 where
  pub batch : BatchLine
  pub room : length before.unended < 8
  pub writes : WritesBatch number rest batch
  pub left : after ≡ with_line before (Batch batch) (push before.unended number)

-- `end`: the innermost open batch ends
pub record SaysEnd (number : ℕ) (rest : List ℕ) (before after : Said) : Type 0 where
  pub outer : List ℕ
  pub begun : ℕ
  pub are : HasWords rest []
  pub innermost : before.unended ≡ push outer begun
  pub left : after ≡ with_line before (End number) outer

-- `workers N`: the worker count of the dispatches, which is at most 64
pub record SaysWorkers (rest : List ℕ) (before after : Said) : Type 0 where
  pub number : List ℕ
  pub workers : ℕ
  pub are : HasWords rest (number ∷ [])
  pub writes : WritesCount 64 number workers
  pub left : after ≡ with_manner before (record { workers = workers; times = before.manner.times; mode = before.manner.mode })

-- `times N`: so many dispatches, at most 1,000,000
pub record SaysTimes (rest : List ℕ) (before after : Said) : Type 0 where
  pub number : List ℕ
  pub times : ℕ
  pub are : HasWords rest (number ∷ [])
  pub writes : WritesCount 1000000 number times
  pub left : after ≡ with_manner before (record { workers = before.manner.workers; times = times; mode = before.manner.mode })

-- the word of each mode
abbrev pub mode_word : Mode → List ℕ
mode_word Parallel = codes "par"
mode_word Sequential = codes "seq"

-- `mode par` or `mode seq`: how the groups of a stage run
pub record SaysMode (rest : List ℕ) (before after : Said) : Type 0 where
  pub mode : Mode
  pub are : HasWords rest (mode_word mode ∷ [])
  pub left : after ≡ with_manner before (record { workers = before.manner.workers; times = before.manner.times; mode = mode })

-- `plan`: the plan is to be printed
pub record SaysPlan (rest : List ℕ) (before after : Said) : Type 0 where
  pub are : HasWords rest []
  pub left : after ≡ with_plan_printed before

-- What the line with this number says, by its first word and the text behind it. No other word begins a line.
pub data WordSays (number : ℕ) (word rest : List ℕ) (before after : Said) : Type 0 where
  system : word ≡ codes "sys" → SaysSystem number rest before after → WordSays number word rest before after
  local : word ≡ codes "local" → SaysLocal rest before after → WordSays number word rest before after
  barrier : word ≡ codes "barrier" → SaysBarrier rest before after → WordSays number word rest before after
  rule : word ≡ codes "rule" → SaysRule number rest before after → WordSays number word rest before after
  batch : word ≡ codes "batch" → SaysBatch number rest before after → WordSays number word rest before after
  end : word ≡ codes "end" → SaysEnd number rest before after → WordSays number word rest before after
  resource : word ≡ codes "res" → before.unended ≡ [] → SaysResource rest before after → WordSays number word rest before after
  workers : word ≡ codes "workers" → before.unended ≡ [] → SaysWorkers rest before after → WordSays number word rest before after
  times : word ≡ codes "times" → before.unended ≡ [] → SaysTimes rest before after → WordSays number word rest before after
  mode : word ≡ codes "mode" → before.unended ≡ [] → SaysMode rest before after → WordSays number word rest before after
  plan : word ≡ codes "plan" → before.unended ≡ [] → SaysPlan rest before after → WordSays number word rest before after

-- What the line with this number says: nothing where it has no word or its first begins with `#`, and else what its first word tells.
pub data LineSays (number : ℕ) (line : List ℕ) (before after : Said) : Type 0 where
  blank : next_word line ≡ None → after ≡ before → LineSays number line before after
  comment : (more : List ℕ) → next_word line ≡ Some (codes "#" ++ more) → after ≡ before → LineSays number line before after
  said : (word : List ℕ) → next_word line ≡ Some word → WordSays number word (after_word line) before after → LineSays number line before after

-- the lines, each ASCII and numbered from this number on, lead one after another from what was said before to what is said after
abbrev pub LinesSay : ℕ → List (List ℕ) → Said → Said → Type 0
LinesSay number [] before after = after ≡ before
LinesSay number (line ∷ lines) before after = (middle : Said) × IsAscii line × LineSays number line before middle × LinesSay (number + 1) lines middle after

-- The lines of the text say this script, and end each batch that they begin.
pub record IsScriptOf (text : List ℕ) (script : Script) : Type 0 where
  pub lines_say : LinesSay 1 (lines_of text) nothing_said (said_by script)
  pub ended : (said_by script).unended ≡ []
