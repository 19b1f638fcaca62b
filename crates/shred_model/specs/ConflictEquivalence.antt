-- Which orders of a list of records are conflict-equivalent to it: they keep every two dependent records in order.
use Rattle.std.specs.Prelude.{◌≡◌, ◌≢◌, ℕ, ◌<◌, List, length, Some, slice_get}
use Rattle.shred_model.specs.Record.{Record, Independent}

-- `moved` has each occurrence of `list` once: at place k the one from place `from k`
pub record IsOrderOf {A I V S O : Type 0} (list moved : List (Record A I V S O)) (from : ℕ → ℕ) : Type 0 where
  pub same_length : length moved ≡ length list
  pub within : (k : ℕ) → k < length list → from k < length list
  pub once : (j k : ℕ) → j < k → k < length list → from j ≢ from k
  pub each : (i : ℕ) → i < length list → (k : ℕ) × (k < length list) × (from k ≡ i)
  pub is : (k : ℕ) → k < length list → slice_get moved k ≡ slice_get list (from k)

-- An order of the list in which every two records that are not independent stand the same way round.
pub record IsConflictEquivalent {A I V S O : Type 0} (list moved : List (Record A I V S O)) (from : ℕ → ℕ) : Type 0 where
  pub order : IsOrderOf list moved from
  pub kept : (j k : ℕ) (r q : Record A I V S O) → j < k → k < length list → slice_get moved j ≡ Some r → slice_get moved k ≡ Some q → (Independent r q → ⊥) → from j < from k
