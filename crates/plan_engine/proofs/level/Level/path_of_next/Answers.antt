use Rattle.std.proofs.Common.{rules, ◌≡◌, ◌++◌, IfOk, codes}
use Rattle.std.specs.Fmt.{decimal}
use Rattle.std.specs.String.{string_bytes}
use Rattle.plan_engine.proofs.level.Level.path_of_next.Goals as goal

pub returns-in-Some : goal.returns-in-Some
returns-in-Some c =
    let f : IfOk c.format.result (λ s. string_bytes s ≡ string_bytes c.in-Some.batch.name ++ (codes "/" ++ string_bytes c.in_ok-name.name)) = c.format.ensures.ok in
    rw c.in-Some.is (search rules)
