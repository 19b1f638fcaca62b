use Rattle.std.proofs.Common.{rules, refl}
use Rattle.script_text.proofs.script.BatchLine.parse.Goals as goal

pub returns : goal.returns
returns c =
    record {
      name = c.in_ok-required.field-0.now;
      dependencies = c.in_ok-required-2.field-0.now;
      rounds = c.in_ok-required-3.field-0.now;
      are = search rules;
      line_is = refl;
      name_is = c.in_ok-name.ensures;
      dependencies_are = c.in_ok-dependencies.ensures;
      rounds_are = c.in_ok-rounds.ensures;
    }
