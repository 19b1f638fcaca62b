use Rattle.std.proofs.Common.{rules, tests, arith}
use Rattle.std.proofs.lemmas.Iterator.{YieldsList-from_slice, YieldsList-from_map}
use Rattle.std.proofs.lemmas.Iterator.Consumers.{sum_by_from_yields_List}
use Rattle.shred_run.specs.Time.{time_count}
use Rattle.shred_run.specs.declared.entry.GroupEntry.{GroupEntry}
use Rattle.shred_run.proofs.Groups.{times-small}
use Rattle.shred_run.proofs.entry.Group.time.Goals as goal

pub returns-clause-small : goal.returns-clause-small
returns-clause-small g c =
    let entries = c.args.self.now.entries.items in
    let sum = sum_by_from_yields_List (λ (entry : GroupEntry g.row.V.Denot g.row.S.Denot). time_count entry.time) entries c.map.result c.sum.result c.sum.ensures.ran
    (YieldsList-from_map _ (λ entry. time_count entry.time) (YieldsList-from_slice entries cc) c.map.ensures.closure (λ x r q k. search (rules, tests))) in
    omega (arith, c.requires, times-small entries, sum)
