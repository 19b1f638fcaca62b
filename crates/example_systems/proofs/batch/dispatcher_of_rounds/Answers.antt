use Rattle.shred.specs.Builders.{built}
use Rattle.example_systems.proofs.batch.dispatcher_of_rounds.Goals as goal

pub returns : goal.returns
returns c = (
  built c.in_ok-plan.plan,
  record {
    empty = built c.new.result;
    round = built c.in_ok-round.round;
    controller = c.new-controller.result;
    starts = c.new.ensures;
    is_round = c.in_ok-round.ensures;
    as_often = c.new-controller.ensures;
    batch = c.in_ok-plan.ensures.added;
  },
  c.build.ensures.plan,
  c.build.ensures.states,
)
