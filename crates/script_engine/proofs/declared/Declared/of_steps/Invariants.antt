use Rattle.std.proofs.Common.{◌≡◌, [], drop}
use Rattle.script_text.specs.Declares.{places_named, places_read, places_written}
use Rattle.script_engine.proofs.declared.Declared.of_steps.Given as goal

abbrev pub invariant-loop-step : goal.invariant-loop-step
invariant-loop-step l = record {
  read : places_read l.declared.read.items (drop l.step-index l.steps) ≡ places_read [] l.steps;
  written : places_written l.declared.written.items (drop l.step-index l.steps) ≡ places_written [] l.steps;
  named : places_named l.declared.named.items (drop l.step-index l.steps) ≡ places_named [] l.steps;
}
