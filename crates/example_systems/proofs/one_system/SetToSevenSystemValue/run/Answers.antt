use Rattle.std.proofs.Common.{[], ◌∷◌, arith, refl, rules}
use Rattle.shred_table.specs.declared.id.Kind.{Kind}
use Rattle.example_systems.specs.declared.one_system.Value.{Value}
use Rattle.example_systems.specs.OneSystem.{count_at}
use Rattle.example_systems.proofs.Refused.{missing-write}
use Rattle.example_systems.proofs.one_system.SetToSevenSystemValue.run.Goals as goal

abbrev kind : Value → Kind
kind value = record { 0 = 0 }

pub returns-in-Err-clause-step : goal.returns-in-Err-clause-step
returns-in-Err-clause-step c =
    let missing = missing-write kind c.args.view.now [] (count_at ∷ []) c.requires.lent (record { 0 = 0 }) count_at c.count_id.result refl c.count_id.ensures (0, omega arith, λ i. count_at) c.in-Err.error c.from.result c.in-Err.ensures.refused c.from.ensures in
    (missing.0, missing.1, search rules)
