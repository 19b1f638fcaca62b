use Rattle.std.proofs.Common.{◌≡◌, ◌<◌, ◌∙◌, Some, ap, arith, subst}
use Rattle.std.specs.Prelude.{IsSome, is_some}
use Rattle.std.proofs.lemmas.Bool.Decides.{nat_tests}
use Rattle.shred_world.specs.Fetched.{fetched}
use Rattle.shredstore.specs.Tables.{held_in, table_of, value_in}
use Rattle.shredstore.proofs.entities.Entities.rows.Goals as goal

pub returns-in-Some : goal.returns-in-Some
returns-in-Some c =
    let own = c.args.self.now in
    let table = c.args.table in
    let there : Some (table_of (fetched c.in-Some.rows)) ≡ held_in own.world table = c.in-Some.ensures in
    let below : table < own.tables = grind (arith, nat_tests, ap is_some there ∙ own.has_tables table) in
    record {
      rows = λ entity. ap (λ held. value_in held entity) there;
      entities = λ entity some. let live = own.of_live entity table (subst IsSome (ap (λ held. value_in held entity) there) some) in (live, own.below entity live);
      no_such_table = (λ missing. absurd (missing below), λ refused. absurd (cc));
      refused = tt;
    }
