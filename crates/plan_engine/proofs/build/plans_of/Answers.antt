use Rattle.plan_engine.proofs.build.plans_of.Goals as goal

pub returns-clause-shown : goal.returns-clause-shown
returns-clause-shown c = record { planned = c.in_ok-plans.ensures.planned; resources = c.in_ok-resources.ensures }
