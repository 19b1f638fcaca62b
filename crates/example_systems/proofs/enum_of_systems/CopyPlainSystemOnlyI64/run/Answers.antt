use Rattle.std.proofs.Common.{[], ◌∷◌, inl, inr, ap, arith, refl, rules}
use Rattle.std.specs.Prelude.{is_some}
use Rattle.shred_table.specs.Only.{only_kind}
use Rattle.example_systems.specs.Numbers.{kind_of, number_id}
use Rattle.example_systems.proofs.Refused.{missing-read, missing-write, seen-by-read}
use Rattle.example_systems.proofs.enum_of_systems.CopyPlainSystemOnlyI64.run.Goals as goal

pub returns-in-Err-clause-step : goal.returns-in-Err-clause-step
returns-in-Err-clause-step c =
    let place = number_id c.args.self.now.from in
    let missing = missing-read kind_of c.args.view.now (place ∷ []) (number_id c.args.self.now.to ∷ []) c.requires.lent only_kind place c.only_id.result refl c.only_id.ensures (0, omega arith, λ i. place) c.in-Err.error c.from.result c.in-Err.ensures.refused c.from.ensures in
    (refl, inl (missing.0, missing.1, refl))

pub returns-in-Ok-write-clause-step : goal.returns-in-Ok-write-clause-step
returns-in-Ok-write-clause-step c =
    let place = number_id c.args.self.now.from in
    let seen = seen-by-read kind_of c.args.view.now (place ∷ []) (number_id c.args.self.now.to ∷ []) c.requires.lent only_kind place c.only_id.result refl c.only_id.ensures (0, omega arith, λ i. place) _ c.in-Ok.ensures.shown in
    (refl, (c.in-Ok.number.now, seen, search rules))

pub returns-in-Err-write-clause-step : goal.returns-in-Err-write-clause-step
returns-in-Err-write-clause-step c =
    let from = number_id c.args.self.now.from in
    let to = number_id c.args.self.now.to in
    let seen = seen-by-read kind_of c.args.view.now (from ∷ []) (to ∷ []) c.requires.lent only_kind from c.only_id.result refl c.only_id.ensures (0, omega arith, λ i. from) _ c.in-Ok.ensures.shown in
    let missing = missing-write kind_of c.args.view.now (from ∷ []) (to ∷ []) c.requires.lent only_kind to c.only_id-2.result refl c.only_id-2.ensures (0, omega arith, λ i. to) c.in-Err-write.error c.from-in-Err-write.result c.in-Err-write.ensures.refused c.from-in-Err-write.ensures in
    let stays = rw c.in-Err-write.is at c.write.follows.holds-at-none in
    (refl, inr (ap is_some seen, (missing.0, missing.1, stays.declared)))
