-- How deep batches nest in what stands in entries.
use Rattle.std.specs.Prelude.{ℕ, zero, suc, All}
use Rattle.shred_run.specs.Depths.{batch_of}
use Rattle.shred_run.specs.declared.work.Nested.{Nested}
use Rattle.shred_run.specs.declared.work.Tier.{Tier}
use Rattle.shred_run.specs.declared.work.Work.{Work}
use Rattle.shred_run.specs.declared.work.Work.TheVariants.{System, Batch}

-- what holds of what stands in each entry of a tier
abbrev pub EachWork : {V X : Type 0} → (X → Type 0) → Tier V X → Type 0
EachWork P tier = All (λ group. All (λ entry. P entry.work) group.entries.items) tier.groups.items

module _ {V S C : Type 0} where
  -- Batches nest in it to this depth at most: a system has none in it, and in a batch they nest deeper by one than in what stands in its inner plan.
  unfoldable pub IsNoDeeper : ℕ → Work S (Nested V S C) → Type 0
  IsNoDeeper depth (System system) = Unit {0}
  IsNoDeeper zero (Batch nested) = ⊥
  IsNoDeeper (suc less) (Batch nested) = All (EachWork (IsNoDeeper less)) (batch_of nested).tiers.items
