-- What takes the lines of a script, and what its builders have come to.
use Rattle.script_engine.specs.declared.walk.Building.{Building as Takers}
use Rattle.script_engine.specs.Lines.{Building, Builts}
use Rattle.script_engine.specs.Notes.{Noting, TakesLine, builts_of}
use Rattle.script_text.specs.declared.script.PlanLine.{PlanLine}

-- what takes the next line, and what is to take the open batches
abbrev pub values_of : {B : Type 0} → Takers B → Building B
values_of building = record { current = building.current; pending = building.pending.items }

-- what their builders have come to
abbrev pub building_of : {B : Type 0} → Noting B → Takers B → Builts
building_of N building = builts_of N (values_of building)

-- a line is taken by the builders, and noted
abbrev pub HasTaken : {B : Type 0} → Noting B → PlanLine → Takers B → Takers B → Type 0
HasTaken N line old new = TakesLine N line (values_of old) (values_of new)
