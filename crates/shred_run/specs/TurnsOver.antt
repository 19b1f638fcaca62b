-- Turns of groups over a table and what is lent shared behind it.
use Rattle.std.specs.Prelude.{◌≡◌, false, List}
use Rattle.shred_model.specs.Runs.{Answer}
use Rattle.shred_run.specs.declared.entry.Group.{Group}
use Rattle.shred_run.specs.declared.entry.StageFault.{StageFault}
use Rattle.shred_run.specs.Hands.{some_writes}
use Rattle.shred_run.specs.Steps.{Step}
use Rattle.shred_run.specs.Turns.{TookTurn}
use Rattle.shred_table.specs.declared.id.Kind.{Kind}
use Rattle.shred_table.specs.declared.id.ResourceId.{ResourceId}
use Rattle.shred_table.specs.declared.table.Table.{Table}
use Rattle.shred_table.specs.Shown.{Lent, shown, IsSameSlots}

-- The groups took their turn over what the table and what is lent behind it show; no slot came or went, and what is shown of ids that no group writes stays.
pub record TookTurnOver {V X E : Type 0} (kind : V → Kind) (own : X → List ResourceId → List ResourceId → Type 0) (step : Step V X E) (lent : Lent V)
    (old : List (Group V X)) (before : Table V) (answer : Answer (StageFault E)) (new : List (Group V X)) (after : Table V) : Type 0 where
  pub took : TookTurn kind step own old (shown kind lent before) answer new (shown kind lent after)
  pub slots : IsSameSlots before after
  pub others : (id : ResourceId) → some_writes old id ≡ false → shown kind lent after id ≡ shown kind lent before id
