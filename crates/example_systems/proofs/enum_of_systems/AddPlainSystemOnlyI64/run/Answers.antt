use Rattle.std.proofs.Common.{[], ◌∷◌, arith, refl, rules}
use Rattle.shred_table.specs.Only.{only_kind}
use Rattle.example_systems.specs.Numbers.{kind_of, number_id}
use Rattle.example_systems.proofs.Refused.{missing-write}
use Rattle.example_systems.proofs.enum_of_systems.AddPlainSystemOnlyI64.run.Goals as goal

pub returns-in-Ok-clause-step : goal.returns-in-Ok-clause-step
returns-in-Ok-clause-step c = (refl, (c.in-Ok.number.now, search rules, search rules))

pub returns-in-Err-clause-step : goal.returns-in-Err-clause-step
returns-in-Err-clause-step c =
    let place = number_id c.args.self.now.to in
    let missing = missing-write kind_of c.args.view.now [] (place ∷ []) c.requires.lent only_kind place c.only_id.result refl c.only_id.ensures (0, omega arith, λ i. place) c.in-Err.error c.from.result c.in-Err.ensures.refused c.from.ensures in
    (refl, (missing.0, missing.1, search rules))
