-- What is measured, by what was asked.
use Rattle.std.specs.Prelude.{◌≡◌, ℕ, ◌+◌, ◌*◌, ◌-◌, ◌^◌, ◌<◌, ◌≤◌, min, ℤ, pos, Some}
use Rattle.std.specs.Int.{w64, int_wrap}
use Rattle.shred_model.specs.Plan.{Plan}
use Rattle.shred_table.specs.declared.id.ResourceId.{ResourceId}
use Rattle.shred_world.specs.Worked.{Held}
use Rattle.shred_table.specs.declared.only.Only.{Only}
use Rattle.shredmeasure.specs.declared.order.Mode.{Mode}
use Rattle.shredmeasure.specs.declared.order.Mode.TheVariants.{Dispatching, Planning}
use Rattle.shredmeasure.specs.Adders.{HasOneForEach}
use Rattle.shredmeasure.specs.Counts.{count_id, count_value}
use Rattle.shredmeasure.specs.Random.{AreDrawnOften}

-- under each number from 1 to that of the systems a count is held, which is the number of times, wrapped to 64 bits with sign
abbrev pub HasCountEach : ℕ → ℕ → Held (Only ℤ) → Type 0
HasCountEach systems times held = (number : ℕ) → 0 < number → number ≤ systems → held (count_id number) ≡ Some (count_value (int_wrap w64 (pos times)))

-- where a plan has one system for each count, and each count is so many, what is left is such a plan, and each count is one more
abbrev pub IsCountedOnce : Plan ResourceId → Held (Only ℤ) → Plan ResourceId → Held (Only ℤ) → Type 0
IsCountedOnce plan before left after = (systems times : ℕ) → HasOneForEach systems plan × HasCountEach systems times before → HasOneForEach systems left × HasCountEach systems (times + 1) after

-- Where systems are dispatched, their number times that of the dispatches, wrapped to 64 bits with sign; where plans are built, the number of stages of so many random plans, wrapped to 64 bits and then at most the greatest number of 64 bits with sign.
abbrev pub IsMeasured : Mode → ℕ → ℕ → ℤ → Type 0
IsMeasured (Dispatching place) systems times sum = sum ≡ int_wrap w64 (pos (systems * times))
IsMeasured Planning systems times sum = (stages : ℕ) × (left : ℕ) × AreDrawnOften systems times systems stages left × (sum ≡ pos (min stages (2 ^ 63 - 1)))
