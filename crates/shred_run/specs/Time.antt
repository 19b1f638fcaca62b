-- How long a system takes, as the planner counts it.
use Rattle.std.specs.Prelude.{ℕ}
use Rattle.shred_run.specs.declared.system.RunningTime.{RunningTime}
use Rattle.shred_run.specs.declared.system.RunningTime.TheVariants.{VeryShort, Short, Average, Long, VeryLong}

-- the count of a time, from 1 to 5
abbrev pub time_count : RunningTime → ℕ
time_count VeryShort = 1
time_count Short = 2
time_count Average = 3
time_count Long = 4
time_count VeryLong = 5
