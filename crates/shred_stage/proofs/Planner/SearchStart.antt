-- Where a search begins, found stage after stage.
use Rattle.std.proofs.Common.{◌≡◌, ℕ, ◌+◌, ◌<◌, ◌≤◌, Bool, true, false, Some, List, sym, ◌∙◌, ap, subst, ◌⊎◌, inr, ⊎_elim, length, arith}
use Rattle.std.specs.Bool.{Decides}
use Rattle.std.specs.List.{Any, list_any, slice_get}
use Rattle.std.proofs.lemmas.Bool.{cases_lt}
use Rattle.std.proofs.lemmas.Bool.Decides.{Decides-like}
use Rattle.std.proofs.lemmas.Option.{slice_get_within}
use Rattle.shred_model.specs.Access.{Access, Conflicts}
use Rattle.shred_model.specs.Plan.{PlanEntry, Stage, Plan, group_access}
use Rattle.shred_run.specs.Touching.{group_conflicts}
use Rattle.shred_run.proofs.Groups.{Some_of, list_any_decides}
use Rattle.shred_stage.specs.Placement.{IsPlaced}
use Rattle.shred_stage.specs.SearchStart.{HasConflict, IsOrderedStart, IsPlacedBy, IsSearchStart}
use Rattle.shred_stage.specs.declared.dispatch.rule.Rule.{Rule}
use Rattle.shred_stage.specs.declared.dispatch.rule.Rule.TheVariants.{First, Ordered}
use Rattle.shred_stage.proofs.Planner.Spots.{Agrees, group_conflicts-Decides}

-- a group of the stage conflicts
abbrev pub AnyConflicts : {I : Type 0} → Access I → Stage I → Type 0
AnyConflicts access stage = Any (λ group. Conflicts (group_access group) access) stage

stage_conflicts-Decides : {I : Type 0} (same : I → I → Bool) → Agrees same → (access : Access I) (stage : Stage I) → Decides (list_any (group_conflicts same access) stage) (AnyConflicts access stage)
stage_conflicts-Decides same agrees access stage =
    let forth : Some_of (λ group. Conflicts (group_access group) access) stage → AnyConflicts access stage = λ s. (s.1.0, s.0, s.1.1, s.1.2, s.2) in
    let back : AnyConflicts access stage → Some_of (λ group. Conflicts (group_access group) access) stage = λ s. (s.1, (s.0, s.2, s.3), s.4) in
    Decides-like (list_any (group_conflicts same access) stage) forth back (list_any_decides (group_conflicts same access) (λ group. Conflicts (group_access group) access) (group_conflicts-Decides same agrees access) stage)

-- The start, once the stages before this place were looked at.
pub record IsStartSoFar {I : Type 0} (plan : Plan I) (barrier : ℕ) (access : Access I) (start place : ℕ) : Type 0 where
  pub from_barrier : barrier ≤ start
  pub is_one : (start ≡ barrier) ⊎ HasConflict plan access start
  pub none_later : (k : ℕ) → start < k → k < place → HasConflict plan access k → ⊥

module _ {I : Type 0} (same : I → I → Bool) (agrees : Agrees same) (plan : Plan I) (barrier : ℕ) (access : Access I) (start place : ℕ) (stage : Stage I) (from : barrier ≤ place) (at : slice_get plan place ≡ Some stage) (so_far : IsStartSoFar plan barrier access start place) where
  -- a stage that conflicts
  pub start_here : list_any (group_conflicts same access) stage ≡ true → IsStartSoFar plan barrier access place (place + 1)
  start_here e = record {
    from_barrier = from;
    is_one = inr (stage, at, (stage_conflicts-Decides same agrees access stage).0 e);
    none_later = λ k behind before there. omega (arith, behind, before);
  }

  -- and one that does not
  pub start_stays : list_any (group_conflicts same access) stage ≡ false → IsStartSoFar plan barrier access start (place + 1)
  start_stays e = record {
    from_barrier = so_far.from_barrier;
    is_one = so_far.is_one;
    none_later = λ k behind before there. ⊎_elim (λ lt. so_far.none_later k behind lt there) (λ ge.
        let same_place : k ≡ place = omega (arith, before, ge) in
        let f : Some there.0 ≡ Some stage = sym there.1 ∙ ap (slice_get plan) same_place ∙ at in
        let one : there.0 ≡ stage = cc in
        let yes : list_any (group_conflicts same access) stage ≡ true = (stage_conflicts-Decides same agrees access stage).1 (subst (λ (s : Stage I). AnyConflicts access s) one there.2) in
        let no : true ≡ false = sym yes ∙ e in cc) (cases_lt k place);
  }

-- after all of them it is the later of the barrier and the last stage that conflicts
pub start-all : {I : Type 0} (plan : Plan I) (barrier : ℕ) (access : Access I) (start place : ℕ) → length plan ≤ place → IsStartSoFar plan barrier access start place → IsOrderedStart plan barrier access start
start-all plan barrier access start place all so_far = record {
  from_barrier = so_far.from_barrier;
  is_one = so_far.is_one;
  none_later = λ k behind there. so_far.none_later k behind (let w = slice_get_within plan k there.0 there.1 in omega (arith, w, all)) there;
}

-- no search begins before the barrier
pub start-from_barrier : {I : Type 0} (rule : Rule) (plan : Plan I) (barrier : ℕ) (access : Access I) (start : ℕ) → IsSearchStart rule plan barrier access start → barrier ≤ start
start-from_barrier First plan barrier access start is = omega (arith, is)
start-from_barrier Ordered plan barrier access start is = is.from_barrier
