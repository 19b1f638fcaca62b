-- What the two ends of a hatch are.
use Rattle.std.specs.Prelude.{◌≡◌, ◌⊎◌, Option, Some, None, []}
use Rattle.atomic_table.specs.Seated.{TableId}
use Rattle.atomic_table.specs.declared.shared.Seat.{Seat}
use Rattle.shred_hatch.specs.declared.view.View.{View}
use Rattle.shred_hatch.specs.declared.view.View.TheVariants.{Sent, Idle}
use Rattle.shred_hatch.specs.Phases.{holding, sending}

-- the table has one word and one slot
abbrev pub IsSized : TableId → Type 0
IsSized t = (t.words ≡ 1) × (t.slots ≡ 1)

module _ {J : Type 0} where
  -- the job that is out, by what the caller's end knows
  abbrev pub job_out : View J → Option J
  job_out (Sent x) = Some x
  job_out _ = None

  -- the end is one of this table, which is a hatch's
  abbrev pub IsEnd : TableId → Seat (Option J) (View J) → Type 0
  IsEnd t s = IsSized t × (s.table_id ≡ t)

  -- the caller's end of this table between two calls: it has the slot, empty, or a job is out
  abbrev pub IsCaller : TableId → Seat (Option J) (View J) → Type 0
  IsCaller t s = IsSized t × (s.table_id ≡ t) × ((s.me ≡ holding None) ⊎ ((x : J) × (s.me ≡ sending x)))

  -- the worker's end of this table while it has no job
  abbrev pub IsWorker : TableId → Seat (Option J) (View J) → Type 0
  IsWorker t s = IsSized t × (s.table_id ≡ t) × (s.me ≡ (Idle, []))
