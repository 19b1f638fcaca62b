use Rattle.std.proofs.Common.{rules, subst}
use Rattle.script_text.specs.Lines.{lines_of}
use Rattle.script_text.specs.Scripts.{LinesSay, Said, said_by}
use Rattle.script_text.proofs.Parsing.LinesSaid.{none-last, not-refused}
use Rattle.script_text.proofs.script.Script.parse.Goals as goal

pub returns-in-None-clause-ok : goal.returns-in-None-clause-ok
returns-in-None-clause-ok c =
    record {
      lines_say = subst (λ (first : Said). LinesSay 1 (lines_of c.args.text.now) first (said_by c.take_lines.new.self)) (search rules) (not-refused c.take_lines.result c.in_default.not-Err c.take_lines.ensures.say);
      ended = none-last c.take_lines.new.self.unended.items c.deref.result.now c.in-None.ensures.value c.deref.ensures.value;
    }
