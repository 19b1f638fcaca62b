use Rattle.std.proofs.Common.{◌≡◌, ◌-◌, take}
use Rattle.std.specs.List.{sum_by}
use Rattle.plan_engine.proofs.lanes.idle_time.Given as goal

abbrev pub invariant-loop-time : goal.invariant-loop-time
invariant-loop-time l = l.idle ≡ sum_by (λ time. l.longest - time) (take l.time-index l.times)
