use Rattle.std.proofs.Common.{lit<}
use Rattle.script_text.specs.Scripts.{said_by}
use Rattle.script_text.proofs.Parsing.LinesSaid.{comment-said, line-said}
use Rattle.script_text.proofs.script.Script.take_line.Goals as goal

pub returns-in-Some-clause-says : goal.returns-in-Some-clause-says
returns-in-Some-clause-says c =
    comment-said c.args.line c.args.bytes.now c.in_ok-words.words.rest.now c.in-Some.word.now (said_by c.args.self.now) c.in_ok-words.ensures.text c.in-Some.ensures.steps.0 (c.if-starts_with.ensures.cases.1.byte (lit< tt))

pub returns-in-Some-2-clause-says : goal.returns-in-Some-2-clause-says
returns-in-Some-2-clause-says c =
    line-said c.take_words.result c.args.line c.args.bytes.now c.in_ok-words.words.rest.now c.in-Some.word.now c.next.new.self.rest.now (said_by c.args.self.now) (said_by c.take_words.new.self)
    c.in_ok-words.ensures.text c.in-Some.ensures.steps.0 c.in-Some.ensures.steps.1 c.take_words.ensures
