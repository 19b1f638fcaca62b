-- Every interleaving of groups that may run beside each other, at every depth, leads where the dispatch led.
use Rattle.std.proofs.Common.{ℕ, ◌∙◌, List, sym, arith}
use Rattle.shred_model.specs.ConflictEquivalence.{IsConflictEquivalent}
use Rattle.shred_model.specs.Runs.{Answer}
use Rattle.shred_table.specs.declared.id.Kind.{Kind}
use Rattle.shred_run.specs.declared.entry.StageFault.{StageFault}
use Rattle.shred_run.specs.Depths.{Related}
use Rattle.shred_run.specs.Dispatched.{Dispatched, Situation}
use Rattle.shred_run.specs.NestedRecords.{NestedRecord}
use Rattle.shred_run.specs.Parallel.{IsNestedInterleaving}
use Rattle.shred_orders.specs.Interleavings.{LeadsInterleaved}

module _ {V S C E F : Type 0} (kind : V → Kind) (related : Related V S C E) (answers : ℕ → Answer (StageFault E) → Answer F) (before : Situation V S C) (answer : Answer F) (after : Situation V S C) (done : Dispatched kind related answers before answer after) where
  -- an interleaving keeps the records that are not independent the same way round, since those of parallel groups are
  interleaving-equivalent : (moved : List (NestedRecord V S C E)) (from : ℕ → ℕ) → IsNestedInterleaving done.list moved from → IsConflictEquivalent done.list moved from
  interleaving-equivalent moved from h = record {
    order = h.order;
    kept = λ j k r q lt below at_j at_k dependent. h.kept j k r q lt below at_j at_k (λ parallel.
        dependent (done.parallel (from j) (from k) r q (sym (h.order.is j (omega (arith, lt, below))) ∙ at_j) (sym (h.order.is k below) ∙ at_k) parallel));
  }

  -- each interleaving of what was recorded of a dispatch leads to where it led
  pub leads-interleaved : LeadsInterleaved kind related answers before answer after
  leads-interleaved = record {
    dispatched = done;
    interleaved = λ moved from h. (let kept = interleaving-equivalent moved from h in (kept, done.any_order moved from kept));
  }
