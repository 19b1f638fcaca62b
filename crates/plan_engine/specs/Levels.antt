-- What is noted of a plan that grows, and what is shown of it.
use Rattle.std.specs.Prelude.{◌≡◌, ◌+◌, ◌++◌, ℕ, List, [], Option, Some, None, codes, vec_len}
use Rattle.std.specs.List.{filter_map}
use Rattle.std.specs.String.{string_bytes}
use Rattle.shred.specs.Builders.{built}
use Rattle.shred.specs.Built.{IsNewBuilt}
use Rattle.shred_run.specs.Time.{time_count}
use Rattle.shred_run.specs.declared.system.RunningTime.TheVariants.{VeryLong}
use Rattle.script_engine.specs.Lines.{batch_needs, needed}
use Rattle.script_engine.specs.Notes.{Noting}
use Rattle.script_text.specs.Declares.{places_read, places_written}
use Rattle.script_text.specs.declared.script.BatchLine.{BatchLine}
use Rattle.script_text.specs.declared.script.SystemLine.{SystemLine}
use Rattle.plan_engine.specs.Names.{entry_name, path_name}
use Rattle.plan_engine.specs.Noted.{BecomePlans, IsNoted}
use Rattle.plan_engine.specs.Together.{reads_of_all, writes_of_all}
use Rattle.plan_engine.specs.declared.declaration.Declaration.{Declaration}
use Rattle.plan_engine.specs.declared.level.Level.{Level}
use Rattle.plan_engine.specs.declared.plans.Batch.{Batch}
use Rattle.plan_engine.specs.declared.plans.Entry.{Entry}
use Rattle.plan_engine.specs.declared.plans.Plan.{Plan}

-- Nothing is planned and nothing noted, and the plan is of this batch, or of a script.
pub record IsNewLevel (level : Level) (batch : Option Batch) : Type 0 where
  pub planned : IsNewBuilt (built level.builder)
  pub of_batch : level.plan.batch ≡ batch
  pub entries : level.plan.entries.items ≡ []
  pub declarations : level.plan.declarations.entries.items ≡ []
  pub behind : level.behind.items ≡ []

-- the ids of those of these names that are known
abbrev pub found_ids : Level → List (List ℕ) → List ℕ
found_ids level names = filter_map (built level.builder).known names

-- the name of the next entry, a `system` or a `batch`: the one that it is given, or what it is, with its id
abbrev pub next_name : Level → List ℕ → List ℕ → List ℕ
next_name level kind name = entry_name kind name (vec_len level.plan.entries)

-- the name of the next batch, behind those of the batches around it
abbrev pub next_path : Level → List ℕ → List ℕ
next_path level name = path_name level.plan.batch (next_name level (codes "batch") name)

-- A line's system is noted: its name, its time, what its steps declare, and the ids of the names that it depends on.
pub record NotesSystem (line : SystemLine) (old new : Level) : Type 0 where
  pub entry : Entry
  pub declaration : Declaration
  pub noted : IsNoted entry declaration old.plan new.plan
  pub name : string_bytes entry.name ≡ next_name old (codes "system") line.name.now
  pub time : entry.time ≡ time_count line.time
  pub no_plan : entry.inner ≡ None
  pub reads : declaration.reads.items ≡ places_read [] line.steps.items
  pub writes : declaration.writes.items ≡ places_written [] line.steps.items
  pub dependencies : declaration.dependencies.items ≡ found_ids old (needed line)
  pub behind : new.behind.items ≡ old.behind.items

-- what is noted stays
abbrev pub KeepsNotes : Level → Level → Type 0
KeepsNotes old new = (new.plan ≡ old.plan) × (new.behind ≡ old.behind)

-- nothing is noted yet of the plan of this batch, but its name and its rounds
abbrev pub BeginsNotes : BatchLine → Level → Level → Type 0
BeginsNotes line around inner = (batch : Batch) × IsNewLevel inner (Some batch) × (batch.rounds ≡ line.rounds)
    × (string_bytes batch.name ≡ next_path around line.name.now)

-- what is shown of a plan that grows: it, and behind it those of its batches
abbrev pub ArePlansOf : Level → List Plan → Type 0
ArePlansOf level plans = BecomePlans level.plan level.behind.items (built level.builder).plan plans

-- A batch is noted: its name, its time, what the entries of its plan declare together, the ids of the names that it depends on, and behind all that is there its plan, with those behind that.
pub record NotesBatch (batch : BatchLine) (inner old new : Level) : Type 0 where
  pub entry : Entry
  pub declaration : Declaration
  pub noted : IsNoted entry declaration old.plan new.plan
  pub name : string_bytes entry.name ≡ next_name old (codes "batch") batch.name.now
  pub time : entry.time ≡ time_count VeryLong
  pub plan_at : entry.inner ≡ Some (vec_len old.behind + 1)
  pub reads : declaration.reads.items ≡ reads_of_all [] inner.plan.declarations.entries.items
  pub writes : declaration.writes.items ≡ writes_of_all [] inner.plan.declarations.entries.items
  pub dependencies : declaration.dependencies.items ≡ found_ids old (batch_needs batch)
  pub plans : List Plan
  pub are_plans : ArePlansOf inner plans
  pub behind : new.behind.items ≡ old.behind.items ++ plans

-- what is noted beside the builder of a plan
abbrev pub level_notes : Noting Level
level_notes = record {
  comes_to = λ level. built level.builder;
  system = NotesSystem;
  same = KeepsNotes;
  begins = BeginsNotes;
  batch = NotesBatch;
}
