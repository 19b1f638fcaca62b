-- Plans whose entries each write a count of their own.
use Rattle.std.specs.Prelude.{◌≡◌, ℕ, ◌+◌, ◌==◌, ◌&&◌, nat_lt, nat_le, cond, List, [], ◌∷◌}
use Rattle.std.specs.List.{AllZip}
use Rattle.shred_model.specs.Plan.{Plan}
use Rattle.shred_table.specs.declared.id.ResourceId.{ResourceId}
use Rattle.shredmeasure.specs.Entries.{entries_of_plan}
use Rattle.shredmeasure.specs.Counts.{count_id}

-- how often the number stands in the list
abbrev pub occurrences : ℕ → List ℕ → ℕ
occurrences k [] = 0
occurrences k (n ∷ ns) = cond (n == k) 1 0 + occurrences k ns

-- Each entry writes one count alone, and each count from 1 to this number is written by one entry, and no other is.
pub record HasOneForEach (most : ℕ) (plan : Plan ResourceId) : Type 0 where
  pub numbers : List ℕ
  pub entries : AllZip (λ number entry. entry.access.writes ≡ count_id number ∷ []) numbers (entries_of_plan plan)
  pub once : (k : ℕ) → occurrences k numbers ≡ cond (nat_lt 0 k && nat_le k most) 1 0
