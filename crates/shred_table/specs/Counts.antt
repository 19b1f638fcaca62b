-- How many ids there are of which something holds, and how many binary digits a number has.
use Rattle.std.specs.Prelude.{◌≡◌, ℕ, ◌+◌, ◌^◌, ◌<◌, ◌≤◌, ◌&&◌, List, length, Bool, Option, is_some}
use Rattle.std.specs.List.{AllPairs}
use Rattle.std.specs.declared.cmp.Ordering.TheVariants.{Less}
use Rattle.shred_table.specs.declared.id.ResourceId.{ResourceId}
use Rattle.shred_table.specs.InOrder.{comes_first, id_order}
use Rattle.shred_table.specs.Slots.{among}

-- the ids of which the test tells true, each once, in order
pub record AreIds (test : ResourceId → Bool) (ids : List ResourceId) : Type 0 where
  pub in_order : AllPairs (λ a b. id_order a b ≡ Less) ids
  pub are : (q : ResourceId) → among ids q ≡ test q

-- the test tells true of so many ids
abbrev pub IsCountOf : (ResourceId → Bool) → ℕ → Type 0
IsCountOf test count = (ids : List ResourceId) × AreIds test ids × (length ids ≡ count)

-- from old to new at most as much was added as the count has binary digits: no more than any d with the count below 2 to the d
abbrev pub IsWithinDigits : ℕ → ℕ → ℕ → Type 0
IsWithinDigits count old new = (old ≤ new) × ((digits : ℕ) → count < 2 ^ digits → new ≤ old + digits)

-- something is found under so many ids that come before this one
abbrev pub IsCountBefore : {X : Type 0} → (ResourceId → Option X) → ResourceId → ℕ → Type 0
IsCountBefore found id count = IsCountOf (λ q. is_some (found q) && comes_first q id) count

-- from old to new at most as much was added as the count of the ids has binary digits under which something is found
abbrev pub IsWithinDigitsOf : {X : Type 0} → (ResourceId → Option X) → ℕ → ℕ → Type 0
IsWithinDigitsOf found old new = (count : ℕ) × IsCountOf (λ q. is_some (found q)) count × IsWithinDigits count old new
