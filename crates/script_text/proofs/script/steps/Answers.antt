use Rattle.std.proofs.Common.{rules}
use Rattle.shred_stage.specs.Known.{texts_of}
use Rattle.script_text.specs.Report.{resource_names}
use Rattle.script_text.specs.StepForms.{WritesStep}
use Rattle.script_text.proofs.Parsing.OneMore.{words-all, words-more, zip-more}
use Rattle.script_text.proofs.script.steps.Goals as goal

pub loop-word-preserved : goal.loop-word-preserved
loop-word-preserved c =
    record {
      written = zip-more (WritesStep (resource_names c.args.resources.now)) c.loop-word.yielded c.loop-word.steps.items c.push.new.self.items c.in-Some.word c.in_ok-parse.field-0 c.loop-word.invariant.written c.in_ok-parse.ensures (search rules);
      words = words-more c.args.words.rest.now c.loop-word.word-iterator.rest.now c.next.new.self.rest.now c.loop-word.yielded c.in-Some.word c.loop-word.invariant.words c.in-Some.ensures.steps.0 c.in-Some.ensures.steps.1;
    }

pub returns : goal.returns
returns c =
    record {
      words = texts_of c.loop-word.yielded;
      are = words-all c.args.words.rest.now c.loop-word.word-iterator.rest.now c.loop-word.yielded c.loop-word.invariant.words c.in-None.ensures.steps.0;
      write = c.loop-word.invariant.written;
    }
