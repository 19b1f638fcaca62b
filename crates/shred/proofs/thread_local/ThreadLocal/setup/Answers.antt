use Rattle.std.proofs.Common.{◌≡◌, length, rules}
use Rattle.std.proofs.lemmas.List.{with_items_is}
use Rattle.shred.proofs.thread_local.ThreadLocal.setup.Goals as goal

pub returns : goal.returns
returns g c =
    let old = c.args.self.now.systems in
    let same : length c.set_up_each.new.locals ≡ old.len = search rules in
    rw (with_items_is old c.set_up_each.new.locals same) (rw c.as_mut_slice.ensures.value at c.set_up_each.ensures)
