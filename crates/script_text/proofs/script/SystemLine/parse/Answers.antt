use Rattle.std.proofs.Common.{rules, refl}
use Rattle.script_text.proofs.script.SystemLine.parse.Goals as goal

pub returns : goal.returns
returns c =
    record {
      name = c.in_ok-required.field-0.now;
      time = c.in_ok-required-2.field-0.now;
      dependencies = c.in_ok-required-3.field-0.now;
      steps = c.required-3.new.self.rest.now;
      are = search rules;
      line_is = refl;
      name_is = c.in_ok-name.ensures;
      time_is = c.in_ok-time.ensures;
      dependencies_are = c.in_ok-dependencies.ensures;
      steps_are = c.in_ok-steps.ensures;
    }
