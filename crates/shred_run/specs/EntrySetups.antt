-- Setup and disposal of a plan's entries, one by one in the plan's order, each at its place.
use Rattle.std.specs.Prelude.{◌≡◌, ℕ, List, [], ◌∷◌, Option, Some, Ok, Err, MatchResult}
use Rattle.std.specs.List.{AllByRecursion}
use Rattle.shred_model.specs.Record.{Agent}
use Rattle.shred_model.specs.Runs.{Answer, first_fault}
use Rattle.shred_run.specs.AdditionOrder.{PlacedEntry}
use Rattle.shred_run.specs.declared.entry.StageFault.{StageFault}
use Rattle.shred_run.specs.declared.entry.StageFault.TheVariants.{System}
use Rattle.shred_run.specs.declared.system.Fault.{Fault}

-- a stage tells the fault of an entry with the entry's id
abbrev pub stage_fault : {E : Type 0} → ℕ → Fault E → StageFault E
stage_fault id fault = System (record { 0 = id }) fault

-- a batch tells the fault of an entry of its inner plan as its own
abbrev pub own_fault : {E : Type 0} → ℕ → Fault E → Fault E
own_fault id fault = fault

-- what is answered of the entry with this id, which ended so, where `told` says what is told of a fault of it
abbrev pub told_of : {G F : Type 0} → (ℕ → G → F) → ℕ → Answer G → Answer F
told_of told id (Ok done) = Ok tt
told_of told id (Err fault) = Err (told id fault)

module _ {I W H G F : Type 0} (told : ℕ → G → F) where
  -- The setups of these entries, in order, up to the first that is not Done, whose fault is told; the answer is Done where there is none. Each is a setup of what stands at the entry's place before, and leaves what stands there after. What stands at the places behind a fault stays.
  abbrev pub SetUpInOrder : (W → H → Answer G → W → H → Type 0) → (Agent → Option W) → (Agent → Option W) → List (PlacedEntry I) → H → Answer F → H → Type 0
  SetUpInOrder Own old new [] before answer after = (answer ≡ Ok tt) × (after ≡ before)
  SetUpInOrder Own old new (placed ∷ rest) before answer after =
      (was : W) × (is : W) × (outcome : Answer G) × (middle : H) × (old placed.place ≡ Some was) × (new placed.place ≡ Some is) × Own was before outcome is middle
      × MatchResult outcome
      (λ done. SetUpInOrder Own old new rest middle answer after)
      (λ fault. (answer ≡ Err (told placed.entry.id fault)) × (after ≡ middle) × AllByRecursion (λ next. new next.place ≡ old next.place) rest)

  -- The disposals of all these entries, in order, each of what stands at the entry's place; the answer tells the first that is not Done.
  abbrev pub DisposedInOrder : (W → H → Answer G → H → Type 0) → (Agent → Option W) → List (PlacedEntry I) → H → Answer F → H → Type 0
  DisposedInOrder Own works [] before answer after = (answer ≡ Ok tt) × (after ≡ before)
  DisposedInOrder Own works (placed ∷ rest) before answer after =
      (was : W) × (outcome : Answer G) × (others : Answer F) × (middle : H) × (works placed.place ≡ Some was) × Own was before outcome middle
      × DisposedInOrder Own works rest middle others after × (answer ≡ first_fault (told_of told placed.entry.id outcome) others)
