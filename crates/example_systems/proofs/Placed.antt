-- Where the first two entries of a plan stand.
use Rattle.std.proofs.Common.{◌≡◌, ◌≢◌, ℕ, zero, suc, List, [], ◌∷◌, ◌++◌, Some, None, refl, sym, ◌∙◌, ap}
use Rattle.std.specs.Prelude.{slice_get, slice_set}
use Rattle.shred_model.specs.Plan.{PlanEntry, Stage, Plan, entry_at}
use Rattle.shred_model.specs.Record.{Agent}
use Rattle.shred_table.specs.declared.id.ResourceId.{ResourceId}
use Rattle.shred_stage.specs.Placement.{IsPlaced, in_new_group, at_end_of_group, in_new_stage}
use Rattle.shred_orders.specs.EntryPaths.{entries_with_paths}

-- a first entry stands alone
pub alone : (barrier start : ℕ) (dependencies : List ℕ) (entry : PlanEntry ResourceId) (placed : Plan ResourceId) → IsPlaced [] barrier start dependencies entry placed → placed ≡ ((entry ∷ []) ∷ []) ∷ []
alone barrier start dependencies entry placed (in_new_group k stage from at none admits is) = absurd (cc)
alone barrier start dependencies entry placed (at_end_of_group k g stage group from at none admits is) = absurd (cc)
alone barrier start dependencies entry placed (in_new_stage none is) = is

abbrev pub first_path : Agent
first_path = 0 ∷ 0 ∷ 0 ∷ []

-- The second entry stands behind the first, at a path where nothing stood.
pub record StandsBehind (one other : PlanEntry ResourceId) (placed : Plan ResourceId) : Type 0 where
  pub path : Agent
  pub order : entries_with_paths placed ≡ (first_path, one) ∷ (path, other) ∷ []
  pub was_free : entry_at (((one ∷ []) ∷ []) ∷ []) path ≡ None
  pub stands : entry_at placed path ≡ Some other
  pub elsewhere : first_path ≢ path

pub behind : (barrier start : ℕ) (dependencies : List ℕ) (one other : PlanEntry ResourceId) (placed : Plan ResourceId) → IsPlaced (((one ∷ []) ∷ []) ∷ []) barrier start dependencies other placed → StandsBehind one other placed
behind barrier start dependencies one other placed (in_new_group zero stage from at none admits is) =
    let same : stage ≡ (one ∷ []) ∷ [] = cc in
    let shape : placed ≡ ((one ∷ []) ∷ (other ∷ []) ∷ []) ∷ [] = is ∙ ap (λ (s : Stage ResourceId). slice_set (((one ∷ []) ∷ []) ∷ []) 0 (s ++ (other ∷ []) ∷ [])) same in
    record { path = 0 ∷ 1 ∷ 0 ∷ []; order = ap entries_with_paths shape; was_free = refl; stands = ap (λ (p : Plan ResourceId). entry_at p (0 ∷ 1 ∷ 0 ∷ [])) shape; elsewhere = λ e. cc }
behind barrier start dependencies one other placed (in_new_group (suc k) stage from at none admits is) = absurd (cc)
behind barrier start dependencies one other placed (at_end_of_group zero zero stage group from at none admits is) =
    let same : stage ≡ (one ∷ []) ∷ [] = cc in
    let its : Some (one ∷ []) ≡ Some group = ap (λ (s : Stage ResourceId). slice_get s 0) (sym same) ∙ admits.stands in
    let same_group : group ≡ one ∷ [] = cc in
    let shape : placed ≡ ((one ∷ other ∷ []) ∷ []) ∷ [] = is ∙ (λ i. slice_set (((one ∷ []) ∷ []) ∷ []) 0 (slice_set (same i) 0 (same_group i ++ other ∷ []))) in
    record { path = 0 ∷ 0 ∷ 1 ∷ []; order = ap entries_with_paths shape; was_free = refl; stands = ap (λ (p : Plan ResourceId). entry_at p (0 ∷ 0 ∷ 1 ∷ [])) shape; elsewhere = λ e. cc }
behind barrier start dependencies one other placed (at_end_of_group zero (suc g) stage group from at none admits is) =
    let same : stage ≡ (one ∷ []) ∷ [] = cc in
    let its : None ≡ Some group = ap (λ (s : Stage ResourceId). slice_get s (suc g)) (sym same) ∙ admits.stands in
    absurd (cc)
behind barrier start dependencies one other placed (at_end_of_group (suc k) g stage group from at none admits is) = absurd (cc)
behind barrier start dependencies one other placed (in_new_stage none is) =
    record { path = 1 ∷ 0 ∷ 0 ∷ []; order = ap entries_with_paths is; was_free = refl; stands = ap (λ (p : Plan ResourceId). entry_at p (1 ∷ 0 ∷ 0 ∷ [])) is; elsewhere = λ e. cc }
