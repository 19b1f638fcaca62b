-- What systems that are made of simpler ones do.
use Rattle.std.specs.Prelude.{◌≡◌, Ok}
use Rattle.shred_world.specs.Worked.{Held}
use Rattle.shred_run.specs.Steps.{Outcome, Step}
use Rattle.shred.specs.declared.one_of.OneOf.{OneOf}
use Rattle.shred.specs.declared.one_of.OneOf.TheVariants.{First, Second}

-- It was done, and changed nothing.
pub record IsLeftAlone {V S E : Type 0} (before : S) (seen : Held V) (outcome : Outcome E) (after : S) (left : Held V) : Type 0 where
  pub done : outcome ≡ Ok (record {})
  pub state : after ≡ before
  pub values : left ≡ seen

-- what is said of the system that is there
abbrev pub of_either : {A B C : Type 0} → (A → C) → (B → C) → OneOf A B → C
of_either first second (First a) = first a
of_either first second (Second b) = second b

-- The step is one of the system that is there, and it is the same one afterwards.
abbrev pub StepsEither : {V A B E : Type 0} → Step V A E → Step V B E → Step V (OneOf A B) E
StepsEither first second (First a) seen outcome (First after) left = first a seen outcome after left
StepsEither first second (Second b) seen outcome (Second after) left = second b seen outcome after left
StepsEither first second _ _ _ _ _ = ⊥

-- what is said at the end of the system that is there
abbrev pub EndsEither : {V A B E : Type 0} → (A → Held V → Outcome E → Held V → Type 0) → (B → Held V → Outcome E → Held V → Type 0) → OneOf A B → Held V → Outcome E → Held V → Type 0
EndsEither first second (First a) seen outcome left = first a seen outcome left
EndsEither first second (Second b) seen outcome left = second b seen outcome left
