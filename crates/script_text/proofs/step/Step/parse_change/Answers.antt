use Rattle.std.proofs.Common.{rules, lit<}
use Rattle.script_text.specs.StepForms.{sign_of}
use Rattle.script_text.proofs.Parsing.Changes.{cut-at, signed}
use Rattle.script_text.proofs.step.Step.parse_change.Goals as goal

pub returns : goal.returns
returns c =
    let cut = cut-at 61 c.args.word.now c.split_once.result c.in_ok-changed.changed c.in_ok-changed.value (lit< tt) c.split_once.ensures.cases (search rules) in
    record {
      name = c.in_ok-name.name.now;
      value = c.in_ok-changed.value.now;
      is = signed c.args.word.now c.in_ok-changed.changed.now c.in_ok-changed.value.now c.target_of-operation.result.0.now (sign_of c.target_of-operation.result.1) c.in_ok-name.name.now cut c.target_of-operation.ensures (search rules);
      target_is = search rules;
      operand_is = search rules;
    }
