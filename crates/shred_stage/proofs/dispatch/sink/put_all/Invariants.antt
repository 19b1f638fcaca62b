use Rattle.std.proofs.Common.{◌≡◌, ◌≤◌, ◌-◌, length, take}
use Rattle.std.specs.Io.KnownBytes.{Appends}
use Rattle.shred_stage.proofs.dispatch.sink.put_all.Given as goal

abbrev pub invariant-loop-done : goal.invariant-loop-done
invariant-loop-done g l = record {
  within : l.done ≤ length l.text;
  so_far : Appends (g.W.PlanSink.told l.initial.sink) (g.W.PlanSink.told l.sink) (take l.done l.text);
  no_failure : g.W.PlanSink.failures l.sink ≡ g.W.PlanSink.failures l.initial.sink;
}

abbrev pub decreases-loop-done : goal.decreases-loop-done
decreases-loop-done g l = length l.text - l.done
