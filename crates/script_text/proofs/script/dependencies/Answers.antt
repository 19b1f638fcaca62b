use Rattle.std.proofs.Common.{rules, subst, inr, lit<}
use Rattle.std.proofs.lemmas.Iterator.Consumers.{YieldsList-end}
use Rattle.std.proofs.lemmas.Iterator.Splits.{YieldsList-from_str_split}
use Rattle.std.specs.List.{AllZip}
use Rattle.script_text.specs.Forms.{NamesSystem}
use Rattle.shred_stage.specs.Known.{texts_of}
use Rattle.script_text.proofs.Parsing.OneMore.{texts-more, zip-more}
use Rattle.script_text.proofs.script.dependencies.Goals as goal

pub loop-name-preserved : goal.loop-name-preserved
loop-name-preserved c = zip-more NamesSystem c.loop-name.yielded (texts_of c.loop-name.names.items) (texts_of c.push.new.self.items) c.in-Some.name c.in_ok-system_name.field-0.now c.loop-name.invariant c.in_ok-system_name.ensures
    (texts-more c.loop-name.names.items c.push.new.self.items c.in_ok-system_name.field-0 (search rules))

pub returns : goal.returns
returns c =
    let end = YieldsList-end (YieldsList-from_str_split 44 c.args.word.now (lit< tt) (search rules) (search rules) (search rules)) c.loop-name.yielded c.loop-name.name-iterator c.loop-name.yielded_by c.next.result c.next.new.self c.in-None.is c.next.ensures.steps in
    inr (search rules, subst (λ parts. AllZip NamesSystem parts (texts_of c.loop-name.names.items)) end.0 c.loop-name.invariant)
