use Rattle.std.proofs.Common.{ℕ, List, ◌++◌}
use Rattle.std.specs.List.{AllZip}
use Rattle.script_text.specs.Report.{resource_names}
use Rattle.script_text.specs.StepForms.{WritesStep}
use Rattle.shred_stage.specs.Known.{texts_of}
use Rattle.script_text.specs.Words.{HasWords}
use Rattle.script_text.proofs.script.steps.Given as goal

abbrev pub invariant-loop-word : goal.invariant-loop-word
invariant-loop-word l = record {
  written : AllZip (WritesStep (resource_names l.resources)) (texts_of l.yielded) l.steps.items;
  words : (more : List (List ℕ)) → HasWords l.word-iterator.rest.now more → HasWords l.fn.words.rest.now (texts_of l.yielded ++ more);
}
