use Rattle.std.proofs.Common.{◌≡◌, length, rules}
use Rattle.std.proofs.lemmas.List.{with_items_is}
use Rattle.shred.proofs.thread_local.ThreadLocal.run.Goals as goal

pub returns-clause-run : goal.returns-clause-run
returns-clause-run g c =
    let old = c.args.self.now.systems in
    let same : length c.run_locals.new.locals ≡ old.len = search rules in
    rw (with_items_is old c.run_locals.new.locals same) (rw c.as_mut_slice.ensures.value at c.run_locals.ensures.run)
