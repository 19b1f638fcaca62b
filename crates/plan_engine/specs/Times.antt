-- What a plan takes, by the declared times of its entries.
use Rattle.std.specs.Prelude.{◌≡◌, ℕ, ◌-◌, List, [], Vec, slice_get}
use Rattle.std.specs.List.{AllZip, flat_map, sum_by}
use Rattle.std.specs.Option.{option_map_or}
use Rattle.std.specs.declared.alloc.Global.{Global}
use Rattle.plan_engine.specs.Lanes.{IsFirstGreatest, lane_time, lane_times}
use Rattle.plan_engine.specs.Plans.{order_of}
use Rattle.plan_engine.specs.declared.plans.Entry.{Entry}
use Rattle.plan_engine.specs.declared.plans.Plan.{Plan}
use Rattle.plan_engine.specs.declared.times.PlanTimes.{PlanTimes}
use Rattle.plan_engine.specs.declared.times.StageTimes.{StageTimes}

-- the ids of the lane at this place, none where there is no lane
abbrev pub lane_at : List (Vec ℕ Global) → ℕ → List ℕ
lane_at lanes place = option_map_or (λ (lane : Vec ℕ Global). lane.items) (slice_get lanes place) []

-- The longest of these lanes, the first of several, with its time, and what each lane lacks of that, together.
pub record AreLaneTimes (entries : List Entry) (lanes : List (Vec ℕ Global)) (times : StageTimes) : Type 0 where
  pub place : ℕ
  pub is_longest : IsFirstGreatest (lane_times entries lanes) place
  pub longest : times.longest.items ≡ lane_at lanes place
  pub time : times.time ≡ lane_time entries times.longest.items
  pub idle : times.idle ≡ sum_by (λ time. times.time - time) (lane_times entries lanes)

-- the same of a stage
abbrev pub AreStageTimes : List Entry → Vec (Vec ℕ Global) Global → StageTimes → Type 0
AreStageTimes entries stage times = AreLaneTimes entries stage.items times

-- the ids of the longest lanes of stages, one after the other
abbrev pub longest_lanes : List StageTimes → List ℕ
longest_lanes stages = flat_map (λ (stage : StageTimes). stage.longest.items) stages

-- The path goes through the longest lanes of all stages. Its time, and that of the whole plan, is what its entries take, one after the other.
pub record AreTimesOf (plan : Plan) (times : PlanTimes) : Type 0 where
  pub stages : AllZip (AreStageTimes plan.entries.items) plan.stages.items times.stages.items
  pub path : times.path.items ≡ longest_lanes times.stages.items
  pub path_time : times.path_time ≡ lane_time plan.entries.items times.path.items
  pub sum_time : times.sum_time ≡ lane_time plan.entries.items (order_of plan)
