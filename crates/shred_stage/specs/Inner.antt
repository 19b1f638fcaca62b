-- The inner plans of batches, as tiers.
use Rattle.std.specs.Prelude.{List, Option}
use Rattle.shred_model.specs.Record.{Agent}
use Rattle.shred_model.specs.States.{listed_states}
use Rattle.shred_run.specs.Works.{tier_states}
use Rattle.shred_run.specs.declared.work.Tier.{Tier}

-- the states of what stands in tiers, by tier, group and place
abbrev pub tiers_states : {V X : Type 0} → List (Tier V X) → Agent → Option X
tiers_states tiers path = listed_states tier_states tiers path
