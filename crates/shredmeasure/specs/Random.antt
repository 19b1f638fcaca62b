-- Systems of random accesses, and the plans of them.
use Rattle.std.specs.Prelude.{◌≡◌, ℕ, zero, suc, ◌+◌, ◌*◌, ◌/◌, ◌%◌, ◌^◌, ◌==◌, Bool, cond, List, [], ◌∷◌, ◌++◌, length}
use Rattle.shred_model.specs.Plan.{PlanEntry, Plan}
use Rattle.shred_table.specs.declared.id.ResourceId.{ResourceId}
use Rattle.shred_run.specs.declared.system.RunningTime.TheVariants.{Average}
use Rattle.shred_run.specs.Kept.{IsKept}
use Rattle.shred_stage.specs.Placement.{IsPlaced}
use Rattle.shredmeasure.specs.Counts.{count_id}

-- the next of a row of numbers that look random
abbrev pub next_seed : ℕ → ℕ
next_seed seed = (seed * 6364136223846793005 + 1442695040888963407) % 2 ^ 64

-- the number that stands so many places behind this one
abbrev pub seed_after : ℕ → ℕ → ℕ
seed_after zero seed = seed
seed_after (suc n) seed = next_seed (seed_after n seed)

-- how many ids a system has that is drawn at this number
abbrev pub ids_drawn : ℕ → ℕ
ids_drawn seed = seed / 2 ^ 33 % 6 + 1

-- the id that is drawn at this number
abbrev pub id_drawn : ℕ → ResourceId
id_drawn seed = count_id (seed / 2 ^ 33 % 300)

-- whether that id is written
abbrev pub is_written : ℕ → Bool
is_written seed = seed / 2 ^ 50 % 3 == 0

-- the ids that are read, of so many that are drawn behind this number
abbrev pub reads_drawn : ℕ → ℕ → List ResourceId
reads_drawn zero seed = []
reads_drawn (suc n) seed = reads_drawn n seed ++ cond (is_written (seed_after (suc n) seed)) [] (id_drawn (seed_after (suc n) seed) ∷ [])

-- the ids that are written, of so many that are drawn behind this number
abbrev pub writes_drawn : ℕ → ℕ → List ResourceId
writes_drawn zero seed = []
writes_drawn (suc n) seed = writes_drawn n seed ++ cond (is_written (seed_after (suc n) seed)) (id_drawn (seed_after (suc n) seed) ∷ []) []

-- the number to go on with after a system that is drawn at this one
abbrev pub seed_left : ℕ → ℕ
seed_left seed = seed_after (ids_drawn seed) seed

-- So many systems were drawn, from the first number on, and placed one after another, which gave this plan and left the last number.
abbrev pub AreDrawn : ℕ → ℕ → Plan ResourceId → ℕ → Type 0
AreDrawn zero seed plan left = (plan ≡ []) × (left ≡ seed)
AreDrawn (suc n) seed plan left = (before : Plan ResourceId) × (last : ℕ) × (entry : PlanEntry ResourceId) × AreDrawn n seed before last
    × IsKept n (reads_drawn (ids_drawn (next_seed last)) (next_seed last)) (writes_drawn (ids_drawn (next_seed last)) (next_seed last)) Average entry
    × IsPlaced before 0 0 [] entry plan × (left ≡ seed_left (next_seed last))

-- So many plans were drawn one after another, from the first number on; they have so many stages together, within 64 bits, and left the last number.
abbrev pub AreDrawnOften : ℕ → ℕ → ℕ → ℕ → ℕ → Type 0
AreDrawnOften systems zero seed stages left = (stages ≡ 0) × (left ≡ seed)
AreDrawnOften systems (suc times) seed stages left = (earlier : ℕ) × (last : ℕ) × (plan : Plan ResourceId) × AreDrawnOften systems times seed earlier last × AreDrawn systems last plan left × (stages ≡ (earlier + length plan) % 2 ^ 64)
