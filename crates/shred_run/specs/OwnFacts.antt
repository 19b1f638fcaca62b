-- That what stands in an entry may be kept with two lists is a fact: there is one reason for it at most.
use Rattle.std.specs.Prelude.{ℕ, zero, suc, List, None}
use Rattle.std.proofs.Props.{props}
use Rattle.shred_table.specs.declared.id.ResourceId.{ResourceId}
use Rattle.shred_run.specs.Depths.{Declared, Owns, batch_of, depth_of}
use Rattle.shred_run.specs.Works.{IsBatchWithin, IsTierWithin}
use Rattle.shred_run.specs.declared.work.Batch.{Batch as OneBatch}
use Rattle.shred_run.specs.declared.work.Nested.{Nested}
use Rattle.shred_run.specs.declared.work.Tier.{Tier}
use Rattle.shred_run.specs.declared.work.Work.{Work}
use Rattle.shred_run.specs.Rules.{RuleOwns}
use Rattle.shred_run.specs.declared.work.Work.TheVariants.{System, Batch}

module _ {V X : Type 0} (is_set : IsSet V) (own : X → List ResourceId → List ResourceId → Type 0) (is_fact : (x : X) (reads writes : List ResourceId) → IsProp (own x reads writes)) where
  pub tier-is_fact : (reads writes : List ResourceId) (tier : Tier V X) → IsProp (IsTierWithin own reads writes tier)
  tier-is_fact reads writes tier = hlevel (props, is_set, is_fact)

  pub batch-is_fact : {C : Type 0} (control_reads control_writes : C → List ResourceId) (reads writes : List ResourceId) (batch : OneBatch V C X) → IsProp (IsBatchWithin control_reads control_writes own reads writes batch)
  batch-is_fact control_reads control_writes reads writes batch = hlevel (props, is_set, tier-is_fact)

module _ {V S C : Type 0} (is_set : IsSet V) (declared : Declared S C) where
  pub owns-is_fact : (depth : ℕ) (work : Work S (Nested V S C)) (reads writes : List ResourceId) → IsProp (Owns declared depth work reads writes)
  unfolding Owns
  owns-is_fact depth (System system) reads writes = hlevel props
  owns-is_fact zero (Batch nested) reads writes = hlevel props
  owns-is_fact (suc less) (Batch nested) reads writes = batch-is_fact is_set (Owns declared less) (owns-is_fact less) declared.control_reads declared.control_writes reads writes (batch_of nested)

  -- so it is at the own depth
  pub owns_itself-is_fact : (work : Work S (Nested V S C)) (reads writes : List ResourceId) → IsProp (RuleOwns declared None work reads writes)
  owns_itself-is_fact work reads writes = owns-is_fact (depth_of work) work reads writes
