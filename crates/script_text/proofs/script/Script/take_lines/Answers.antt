use Rattle.std.proofs.Common.{rules, ℕ, List, ◌+◌, sym, ◌∙◌, ap, subst}
use Rattle.std.proofs.lemmas.Iterator.Consumers.{YieldsList-at, YieldsList-end, YieldsList-from_enumerate, YieldsList-from_first}
use Rattle.std.proofs.lemmas.List.{length_push}
use Rattle.script_text.specs.declared.lines.Lines.{Lines}
use Rattle.script_text.specs.Lines.{lines_left, lines_of}
use Rattle.script_text.specs.Scripts.{LinesSay, said_by}
use Rattle.script_text.proofs.Parsing.LinesSaid.{all-counted, counted-more, not-refused}
use Rattle.script_text.proofs.script.Script.take_lines.Goals as goal
use denote.Ref.{Bor}

pub loop-index-init : goal.loop-index-init
loop-index-init c = record { count = search rules; say = search rules }

pub loop-index-preserved : goal.loop-index-preserved
loop-index-preserved c =
    let turn = c.in-Some.ensures.steps in
    record {
      count = turn.2 ∙ ap (λ n. n + 1) c.loop-index.invariant.count ∙ sym (length_push c.loop-index.yielded (c.in-Some.index, c.in-Some.bytes));
      say = counted-more c.loop-index.yielded c.in-Some.index c.in-Some.bytes (said_by c.args.self.now) (said_by c.loop-index.self) (said_by c.take_line.new.self) c.loop-index.invariant.say
          (turn.1 ∙ c.loop-index.invariant.count) (not-refused c.take_line.result c.in_default.not-Err c.take_line.ensures.ascii) (not-refused c.take_line.result c.in_default.not-Err c.take_line.ensures.says);
    }

pub returns-clause-say : goal.returns-clause-say
returns-clause-say c =
    let lines = YieldsList-from_first (λ (line : Bor (List ℕ)). line.now) (λ (lines : Lines). lines_left lines.rest) (lines_of c.args.text.now) c.of.ensures.lines in
    let counted = YieldsList-from_enumerate (YieldsList-at c.enumerate-index-items.ensures.source lines) c.enumerate-index-items.ensures.count in
    let end = YieldsList-end (YieldsList-at c.into_iter-index-iterator.ensures.into_iter_gives counted) c.loop-index.yielded c.loop-index.index-iterator c.loop-index.yielded_by c.next.result c.next.new.self c.in-None.is c.next.ensures.steps in
    subst (λ ts. LinesSay 1 ts (said_by c.args.self.now) (said_by c.loop-index.self)) (all-counted c.loop-index.yielded (lines_of c.args.text.now) end.0) c.loop-index.invariant.say
