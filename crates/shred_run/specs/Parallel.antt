-- Agents inside different groups of one stage, at every depth, and the orders in which their records may come.
use Rattle.std.specs.Prelude.{◌≡◌, ◌≢◌, ◌⊎◌, ℕ, ◌<◌, List, ◌∷◌, length, Some, slice_get}
use Rattle.shred_model.specs.ConflictEquivalence.{IsOrderOf}
use Rattle.shred_model.specs.Record.{Agent, Record}

-- The agents are inside different groups of one stage: of the plan, or of the inner plan of one batch.
abbrev pub AreParallel : Agent → Agent → Type 0
AreParallel (s ∷ (g ∷ (n ∷ a))) (t ∷ (h ∷ (m ∷ b))) = (s ≡ t) × ((g ≢ h) ⊎ ((g ≡ h) × (n ≡ m) × AreParallel a b))
AreParallel a b = ⊥

-- An order of a plan's records that keeps the order of any two, save those of agents inside different groups of one stage: these come interleaved in any way.
pub record IsNestedInterleaving {I V S O : Type 0} (list moved : List (Record Agent I V S O)) (from : ℕ → ℕ) : Type 0 where
  pub order : IsOrderOf list moved from
  pub kept : (j k : ℕ) (r q : Record Agent I V S O) → j < k → k < length list → slice_get moved j ≡ Some r → slice_get moved k ≡ Some q → (AreParallel r.agent q.agent → ⊥) → from j < from k
