use Rattle.std.proofs.Common.{◌≡◌, ◌++◌, map}
use Rattle.shred_stage.specs.Known.{texts_of}
use Rattle.script_text.specs.Report.{resource_names}
use Rattle.plan_engine.proofs.build.names_of.Given as goal

abbrev pub invariant-loop-name : goal.invariant-loop-name
invariant-loop-name l = texts_of l.names.items ++ map (λ name. name.now) l.name-iterator ≡ resource_names l.resources
