-- Numbers that are kept before those that lie behind.
use Rattle.std.specs.Prelude.{◌≡◌, ◌≢◌, ℕ, zero, suc, ℤ, Option, Some, IsTrue, List, [], ◌∷◌, map}
use Rattle.std.specs.List.{All}
use Rattle.std.specs.Option.{option_or}
use Rattle.shred_table.specs.Slots.{with_at}
use Rattle.shred_world.specs.Worked.{Held}
use Rattle.script_text.specs.Declares.{is_among}
use Rattle.script_text.specs.Place.{id_at, number_at}
use Rattle.script_text.specs.declared.value.Value.{Value}
use Rattle.script_engine.specs.declared.kept_numbers.KeptNumber.{KeptNumber}

-- the place of a kept number
abbrev pub kept_place : KeptNumber → ℕ
kept_place kept = kept.place

-- the places of kept numbers
abbrev pub kept_places : List KeptNumber → List ℕ
kept_places kept = map kept_place kept

-- the value of a number
abbrev pub of_number : ℤ → Option Value
of_number number = Some (record { 0 = number })

-- the values with the kept numbers at their places: where a place stands several times, the first of them
abbrev pub overlaid : List KeptNumber → Held Value → Held Value
overlaid [] seen = seen
overlaid (kept ∷ rest) seen = with_at (overlaid rest seen) (id_at kept.place) (of_number kept.number)

-- over any values this is the number at the place, or where it is none the one that lies behind
abbrev pub IsNumberOver : List KeptNumber → ℕ → Option ℤ → Type 0
IsNumberOver kept place found = (seen : Held Value) → number_at (overlaid kept seen) place ≡ option_or found (number_at seen place)

-- it holds of each place of which a number is kept
abbrev pub EachPlace : List KeptNumber → (ℕ → Type 0) → Type 0
EachPlace kept P = (place : ℕ) → IsTrue (is_among (kept_places kept) place) → P place

-- each kept number is the one that is held at its place
abbrev pub AreHeld : Held Value → List KeptNumber → Type 0
AreHeld seen kept = All (λ (k : KeptNumber). number_at seen k.place ≡ Some k.number) kept

-- the first kept number of the place is the one that stands there
abbrev pub IsKeptAt : List KeptNumber → ℕ → ℕ → Type 0
IsKeptAt [] place at = ⊥
IsKeptAt (kept ∷ rest) place zero = kept.place ≡ place
IsKeptAt (kept ∷ rest) place (suc at) = (kept.place ≢ place) × IsKeptAt rest place at
