-- When a builder takes a system of a name, and why it does not.
use Rattle.std.specs.Prelude.{◌≡◌, ℕ, ◌<◌, ◌-◌, ◌^◌, List, [], None, IsSome}
use Rattle.shred_stage.specs.Known.{Known, KnowsAll, IsFirstUnknown}
use Rattle.shred_stage.specs.declared.add_error.AddError.{AddError}
use Rattle.shred_stage.specs.declared.add_error.AddError.TheVariants.{NoSuchSystem, NameTaken, IdsExhausted, OutOfMemory, ThreadLocalInBatch, RuleTooLate}

-- Each dependency is known, the name is not, and there is a next id.
pub record MayAdd (known : Known) (next : ℕ) (name : List ℕ) (dependencies : List (List ℕ)) : Type 0 where
  pub all_known : KnowsAll known dependencies
  pub is_new : known name ≡ None
  pub ids_left : next < 2 ^ 64 - 1

-- the first of the tests that fails, in this order; want of memory only where all are passed
abbrev pub IsRefusal : Known → ℕ → List ℕ → List (List ℕ) → AddError → Type 0
IsRefusal known next name dependencies (NoSuchSystem place) = IsFirstUnknown known dependencies place
IsRefusal known next name dependencies NameTaken = KnowsAll known dependencies × IsSome (known name)
IsRefusal known next name dependencies IdsExhausted = KnowsAll known dependencies × (known name ≡ None) × (next ≡ 2 ^ 64 - 1)
IsRefusal known next name dependencies OutOfMemory = MayAdd known next name dependencies
IsRefusal known next name dependencies ThreadLocalInBatch = ⊥
IsRefusal known next name dependencies RuleTooLate = ⊥

-- a batch is refused first where its inner plan comes with thread-local systems, and else as a system is
abbrev pub IsBatchRefusal : {L : Type 0} → List L → Known → ℕ → List ℕ → List (List ℕ) → AddError → Type 0
IsBatchRefusal locals known next name dependencies ThreadLocalInBatch = locals ≡ [] → ⊥
IsBatchRefusal locals known next name dependencies (NoSuchSystem place) = (locals ≡ []) × IsRefusal known next name dependencies (NoSuchSystem place)
IsBatchRefusal locals known next name dependencies NameTaken = (locals ≡ []) × IsRefusal known next name dependencies NameTaken
IsBatchRefusal locals known next name dependencies IdsExhausted = (locals ≡ []) × IsRefusal known next name dependencies IdsExhausted
IsBatchRefusal locals known next name dependencies OutOfMemory = (locals ≡ []) × IsRefusal known next name dependencies OutOfMemory
IsBatchRefusal locals known next name dependencies RuleTooLate = ⊥
