-- The lanes of a stage, which are its groups, by the declared times of their entries.
use Rattle.std.specs.Prelude.{ℕ, ◌<◌, ◌≤◌, List, Vec, map, slice_get, slice_index_or}
use Rattle.std.specs.List.{sum_by}
use Rattle.std.specs.Option.{option_map_or}
use Rattle.std.specs.declared.alloc.Global.{Global}
use Rattle.plan_engine.specs.declared.plans.Entry.{Entry}

-- the declared time of the entry of this id, 0 where there is none
abbrev pub time_of : List Entry → ℕ → ℕ
time_of entries id = option_map_or (λ (entry : Entry). entry.time) (slice_get entries id) 0

-- the time of a lane, whose entries run one after the other
abbrev pub lane_time : List Entry → List ℕ → ℕ
lane_time entries lane = sum_by (time_of entries) lane

-- the times of lanes
abbrev pub lane_times : List Entry → List (Vec ℕ Global) → List ℕ
lane_times entries lanes = map (λ (lane : Vec ℕ Global). lane_time entries lane.items) lanes

-- No number is greater than the one at this place, and those before it are less.
pub record IsFirstGreatest (numbers : List ℕ) (place : ℕ) : Type 0 where
  pub none_greater : (other : ℕ) → slice_index_or numbers other 0 ≤ slice_index_or numbers place 0
  pub first : (other : ℕ) → other < place → slice_index_or numbers other 0 < slice_index_or numbers place 0
