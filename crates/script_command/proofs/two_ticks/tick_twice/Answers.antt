use Rattle.std.proofs.Common.{◌∙◌}
use Rattle.std.proofs.lemmas.Result.{on_ok_weaker}
use Rattle.shredstore.specs.Stores.{contents_of, rules_of}
use Rattle.script_command.proofs.TwoRows.{ticked}
use Rattle.script_command.proofs.two_ticks.tick_twice.Goals as goal

pub returns-clause-first : goal.returns-clause-first
returns-clause-first g c same row =
    let before = contents_of c.args.store.now in
    let once = contents_of c.tick.new.self in
    let rules = rules_of c.args.store.now in
    on_ok_weaker c.tick-2.result
    (λ applied. ticked once (contents_of c.tick-2.new.self) (rules_of c.tick.new.self) (c.tick.ensures.rules ∙ same) applied 0 _ _ _ (ticked before once rules same c.in_ok-tick.ensures.applied 0 _ _ _ row))
    c.tick-2.ensures.applied

pub returns-clause-second : goal.returns-clause-second
returns-clause-second g c same row =
    let before = contents_of c.args.store.now in
    let once = contents_of c.tick.new.self in
    let rules = rules_of c.args.store.now in
    on_ok_weaker c.tick-2.result
    (λ applied. ticked once (contents_of c.tick-2.new.self) (rules_of c.tick.new.self) (c.tick.ensures.rules ∙ same) applied 1 _ _ _ (ticked before once rules same c.in_ok-tick.ensures.applied 1 _ _ _ row))
    c.tick-2.ensures.applied
