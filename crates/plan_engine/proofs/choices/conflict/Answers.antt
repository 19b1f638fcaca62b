use Rattle.std.proofs.Common.{◌↔◌, IsTrue, sym, subst, ℕ}
use Rattle.shred_model.specs.Access.{Access, Conflicts}
use Rattle.plan_engine.specs.Entries.{access_at, access_of}
use Rattle.plan_engine.proofs.Declaring.{access-found}
use Rattle.plan_engine.proofs.choices.conflict.Goals as goal

pub returns : goal.returns
returns c =
    let entries = c.args.entries.now in
    let one = access-found entries c.args.first c.in-Some.one.now c.in-Some.ensures.lookup.3.0 c.in-Some.ensures.lookup.1 in
    let other = access-found entries c.args.second c.in-Some-get.other.now c.in-Some-get.ensures.lookup.3.0 c.in-Some-get.ensures.lookup.1 in
    let at-one = subst (λ (access : Access ℕ). IsTrue c.conflicts_with.result ↔ Conflicts access (access_of c.in-Some-get.other.now)) (sym one) c.conflicts_with.ensures in
    subst (λ (access : Access ℕ). IsTrue c.conflicts_with.result ↔ Conflicts (access_at entries c.args.first) access) (sym other) at-one
