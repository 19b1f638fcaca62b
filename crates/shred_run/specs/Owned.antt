-- What stands in an entry with lists that are kept of it, whichever these are.
use Rattle.std.specs.Prelude.{◌≡◌, ℕ, List, All, map}
use Rattle.shred_table.specs.declared.id.ResourceId.{ResourceId}
use Rattle.shred_run.specs.Hands.{KeepsRoom}
use Rattle.shred_run.specs.OwnLists.{IsGroupOf}
use Rattle.shred_run.specs.Depths.{Declared, Owns}
use Rattle.shred_run.specs.Works.{tier_numbers, tiers_plan}
use Rattle.shred_run.specs.declared.work.Nested.{Nested}
use Rattle.shred_run.specs.declared.work.Tier.{Tier}
use Rattle.shred_run.specs.declared.work.Work.{Work}

module _ {V S C : Type 0} (declared : Declared S C) where
  -- Batches nest no deeper in it than this, and there are lists with which it may be kept.
  pub record IsOwned (depth : ℕ) (work : Work S (Nested V S C)) : Type 0 where
    pub reads : List ResourceId
    pub writes : List ResourceId
    pub owns : Owns declared depth work reads writes

  -- it may be kept with the same lists
  abbrev pub StaysOwned : ℕ → Work S (Nested V S C) → Work S (Nested V S C) → Type 0
  StaysOwned depth old new = (reads writes : List ResourceId) → Owns declared depth old reads writes → Owns declared depth new reads writes

-- the groups of a tier have their lists and their hands
pub record HasOwnGroups {V X : Type 0} (own : X → List ResourceId → List ResourceId → Type 0) (tier : Tier V X) : Type 0 where
  pub owns : All (IsGroupOf own) tier.groups.items
  pub room : All KeepsRoom tier.groups.items

-- The plan of the tiers and the ids beside their groups are as before, and the groups have their lists and their hands.
pub record StayTiers {V X : Type 0} (own : X → List ResourceId → List ResourceId → Type 0) (old new : List (Tier V X)) : Type 0 where
  pub plan : tiers_plan new ≡ tiers_plan old
  pub ids : map tier_numbers new ≡ map tier_numbers old
  pub groups : All (HasOwnGroups own) new
