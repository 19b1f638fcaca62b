use Rattle.shred.specs.Builders.{built}
use Rattle.example_systems.proofs.Answered.{answered-then}
use Rattle.example_systems.proofs.plan_text.plan_of_three.Goals as goal

pub returns : goal.returns
returns c =
    answered-then c.with-3.result (λ after added. record {
      empty = built c.new.result;
      one = built c.in_ok-with.field-0;
      two = built c.in_ok-with-2.field-0;
      starts = c.new.ensures;
      first = c.in_ok-with.ensures.added;
      second = c.in_ok-with-2.ensures.added;
      third = added;
    })
    c.with-3.ensures.added
