use Rattle.std.specs.List.{AllZip}
use Rattle.script_text.specs.Forms.{NamesSystem}
use Rattle.shred_stage.specs.Known.{texts_of}
use Rattle.script_text.proofs.script.dependencies.Given as goal

abbrev pub invariant-loop-name : goal.invariant-loop-name
invariant-loop-name l = AllZip NamesSystem (texts_of l.yielded) (texts_of l.names.items)
