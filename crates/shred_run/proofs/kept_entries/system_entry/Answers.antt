use Rattle.std.proofs.Common.{◌≡◌, ◌∙◌, List, ap, refl, subst, rules}
use Rattle.shred_table.specs.declared.id.ResourceId.{ResourceId}
use Rattle.shred_table.specs.Parting.{IsEmptyHand}
use Rattle.shred_run.specs.Time.{time_count}
use Rattle.shred_run.proofs.Inner.{system-owns, own_lists-of_same}
use Rattle.shred_run.proofs.kept_entries.system_entry.Goals as goal
use Rattle.shred_run.specs.Depths.{lists_of}

pub returns-clause-kept : goal.returns-clause-kept
returns-clause-kept g c =
    let sorted = c.sort_without_doubles in
    let given = c.in_ok-reads.ensures ∙ c.in_ok-accessor.ensures.reads in
    record {
      same_id = refl;
      reads_in_order = sorted.ensures.in_order;
      same_reads = rw given at sorted.ensures.same;
      same_writes = c.in_ok-writes.ensures ∙ c.in_ok-accessor.ensures.writes;
      same_time = ap time_count c.running_time-time.ensures;
    }

pub returns-clause-own_lists : goal.returns-clause-own_lists
returns-clause-own_lists g c =
    let sorted = c.sort_without_doubles in
    let given = c.in_ok-reads.ensures ∙ c.in_ok-accessor.ensures.reads in
    let ids : c.as_slice.result.now ≡ c.in_ok-writes.writes.items = search rules in
    record {
      hand = subst (λ (ids : List ResourceId). IsEmptyHand ids c.in_ok-hand.hand) ids c.in_ok-hand.ensures;
      lists = system-owns g.row.V.Denot (lists_of g.S.System g.C.BatchController) c.args.system sorted.new.ids.items c.in_ok-writes.writes.items (own_lists-of_same (g.S.System.reads c.args.system) (g.S.System.writes c.args.system) sorted.new.ids.items c.in_ok-writes.writes.items
          (rw given at sorted.ensures.same)
          (c.in_ok-writes.ensures ∙ c.in_ok-accessor.ensures.writes));
    }
