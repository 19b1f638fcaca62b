use Rattle.std.proofs.Common.{◌≡◌, take, map}
use Rattle.std.specs.Io.KnownBytes.{Appends}
use Rattle.shred_stage.specs.Printed.{cleaned}
use Rattle.shred_stage.proofs.dispatch.printing.put_cleaned.Given as goal

abbrev pub invariant-loop-byte : goal.invariant-loop-byte
invariant-loop-byte g l = record {
  so_far : Appends (g.W.PlanSink.told l.initial.sink) (g.W.PlanSink.told l.sink) (map cleaned (take l.byte-index l.name));
  no_failure : g.W.PlanSink.failures l.sink ≡ g.W.PlanSink.failures l.initial.sink;
}
