-- A controller that says a number.
use Rattle.std.specs.Prelude.{◌≡◌, ℕ, Ok, Result}
use Rattle.shred.specs.declared.rounds.Rounds.{Rounds}
use Rattle.shred_run.specs.declared.system.Fault.{Fault}
use Rattle.shred_world.specs.Worked.{Held}

-- how often it says
abbrev pub rounds_of : {E : Type 0} → Rounds E → ℕ
rounds_of controller = controller.rounds

-- It says its number, and nothing changes.
pub record SaysRounds {V E : Type 0} (before : Rounds E) (seen : Held V) (answer : Result ℕ (Fault E)) (after : Rounds E) (left : Held V) : Type 0 where
  pub says : answer ≡ Ok (rounds_of before)
  pub state : after ≡ before
  pub values : left ≡ seen
