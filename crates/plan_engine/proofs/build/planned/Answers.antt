use Rattle.plan_engine.proofs.build.planned.Goals as goal

pub returns-clause-planned : goal.returns-clause-planned
returns-clause-planned c = record {
  empty = c.new.result;
  whole = c.in_ok-level.level;
  is_empty = c.new.ensures;
  made = c.in_ok-level.ensures.built;
  noted = c.in_ok-level.ensures.noted;
  plans_are = c.in_ok-plans.ensures;
}
