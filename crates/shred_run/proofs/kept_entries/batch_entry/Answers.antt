use Rattle.std.proofs.Common.{◌≡◌, ◌+◌, ◌∙◌, suc, ap, arith, refl, rules}
use Rattle.shred_run.specs.Time.{time_count}
use Rattle.shred_run.specs.declared.work.Nested.TheViews.{roll-Nested, out-roll-Nested}
use Rattle.shred_run.proofs.Inner.{batch-owned}
use Rattle.shred_run.proofs.kept_entries.batch_entry.Goals as goal
use Rattle.shred_run.specs.Depths.{lists_of}

pub returns-clause-kept : goal.returns-clause-kept
returns-clause-kept g c =
    let reads : c.as_slice.result.now ≡ g.C.BatchController.reads c.args.controller = c.as_slice.ensures.value ∙ ap (λ access. access.reads) c.in_ok-control.ensures.access in
    let writes : c.as_slice-2.result.now ≡ g.C.BatchController.writes c.args.controller = c.as_slice-2.ensures.value ∙ ap (λ access. access.writes) c.in_ok-control.ensures.access in
    record {
      same_id = refl;
      reads_in_order = c.in_ok-reads.ensures.reads_in_order;
      same_reads = rw reads at c.in_ok-reads.ensures.same_reads;
      writes_in_order = c.in_ok-reads.ensures.writes_in_order;
      same_writes = rw writes at c.in_ok-reads.ensures.same_writes;
      same_time = ap time_count c.running_time-time.ensures;
    }

pub returns-clause-own_lists : goal.returns-clause-own_lists
returns-clause-own_lists g c =
    let reads = rw c.as_slice.ensures.value at c.in_ok-reads.ensures.same_reads in
    let writes = rw c.as_slice-2.ensures.value at c.in_ok-reads.ensures.same_writes in
    let next : c.in-Some.depth ≡ c.deepest.result + 1 = search rules in
    let deep : c.in-Some.depth ≡ suc c.deepest.result = omega (arith, next) in
    record {
      lists = batch-owned (lists_of g.S.System g.C.BatchController) c.in_ok-reads.reads.items c.in_ok-reads.writes.items c.deepest.result
          (roll-Nested g.row.V.Denot g.row.S.Denot g.row.C.Denot (record { batch = record { control = c.in_ok-control.control; tiers = c.args.tiers; depth = c.in-Some.depth } }))
          (record { control = c.in_ok-control.control; tiers = c.args.tiers; depth = c.in-Some.depth }) (ap (λ level. level.batch) (out-roll-Nested _ _ _ _)) deep c.in_ok-control.ensures.own c.deepest.ensures.noted c.requires reads writes;
      hand = c.in_ok-reads.ensures.hand;
    }
