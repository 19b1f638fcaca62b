-- How often a batch runs its plan, and what such a batch leaves.
use Rattle.std.specs.Prelude.{◌≡◌, ℕ, ℤ, pos, negsuc, [], ◌∷◌, Some, None, Ok, MatchResult, codes}
use Rattle.shred_model.specs.Record.{Agent}
use Rattle.shred_run.specs.Controls.{Control, SaysYes}
use Rattle.shred_run.specs.Multi.{controller_of}
use Rattle.shred_run.specs.Depths.{Related, relations_of}
use Rattle.shred_run.specs.declared.multi.MultiDispatcher.{MultiDispatcher}
use Rattle.shred_run.specs.declared.work.Nested.{Nested}
use Rattle.shred_run.specs.declared.work.Work.{Work}
use Rattle.shred_run.specs.declared.work.Work.TheVariants.{System as a_system}
use Rattle.shred_run.specs.declared.system.Fault.TheVariants.{Refused}
use Rattle.shred_run.specs.declared.system.RunningTime.TheVariants.{Average, VeryLong}
use Rattle.shred_run.specs.Dispatched.{Dispatched, Situation}
use Rattle.shred_stage.specs.Situations.{dispatch_answer}
use Rattle.shred_run.specs.declared.now.Now.{Now}
use Rattle.shred.specs.declared.plain.Plain.{Plain}
use Rattle.shred_table.specs.Slots.{with_at}
use Rattle.shred_table.specs.declared.id.ResourceId.{ResourceId}
use Rattle.shred_table.specs.declared.only.Only.{Only}
use Rattle.shred_world.specs.Worked.{Held}
use Rattle.shred_world.specs.declared.world.view.DataError.{DataError}
use Rattle.shred_world.specs.declared.world.view.DataError.TheVariants.{Missing}
use Rattle.shred.specs.Batches.{IsBatchAddition}
use Rattle.shred.specs.Built.{Built, IsAddition, IsNewBuilt}
use Rattle.example_systems.specs.declared.batch.AsOften.{AsOften}
use Rattle.example_systems.specs.declared.enum_of_systems.Add.{Add}
use Rattle.example_systems.specs.Adders.{PlainAddStep}
use Rattle.example_systems.specs.Numbers.{kind_of, number_id, number_value}

-- the number, or 0 where it is negative
abbrev pub rounds_of : ℤ → ℕ
rounds_of (pos number) = number
rounds_of (negsuc number) = 0

-- the controller and all that it sees stay, and the answer is the rounds of the number of its place, or where none is held there the refusal that says so
abbrev pub PlansAsOften : Control (Only ℤ) AsOften ℕ DataError
PlansAsOften before seen answer after left = (after ≡ before) × (left ≡ seen) × MatchResult answer
    (λ rounds. (number : ℤ) × (seen (number_id before.at) ≡ Some (number_value number)) × (rounds ≡ rounds_of number))
    (λ fault. (seen (number_id before.at) ≡ None) × (fault ≡ Refused (Missing (number_id before.at))))

-- what stands in an entry of such a plan: a system that adds, or a batch
abbrev pub RoundsWork : Type 0
RoundsWork = Work (Plain Add) (Nested (Only ℤ) (Plain Add) (MultiDispatcher AsOften))

-- what a builder of such a plan has come to
abbrev pub RoundsBuilt : Type 0
RoundsBuilt = Built RoundsWork (Now (Plain Add))

-- The plan of a round has one system, which adds 3 at place 0.
pub record IsRound (round : RoundsBuilt) : Type 0 where
  pub empty : RoundsBuilt
  pub starts : IsNewBuilt empty
  pub adds : IsAddition empty round (codes "add") [] [] (number_id 0 ∷ []) Average (a_system (record { 0 = record { to = 0; amount = pos 3 } }))

-- The plan has one batch of such a round, which runs as often as the number at place 1 says.
pub record IsOfRounds (plan : RoundsBuilt) : Type 0 where
  pub empty : RoundsBuilt
  pub round : RoundsBuilt
  pub controller : MultiDispatcher AsOften
  pub starts : IsNewBuilt empty
  pub is_round : IsRound round
  pub as_often : controller_of controller ≡ record { at = 1 }
  pub batch : IsBatchAddition empty plan (codes "rounds") [] (record { reads = number_id (controller_of controller).at ∷ []; writes = [] }) VeryLong controller round

-- what a world holds at first: 5 at place 0, the number of rounds at place 1 and nothing else
abbrev pub five_and_rounds : ℤ → Held (Only ℤ)
five_and_rounds rounds = with_at (with_at (λ id. None) (number_id 0) (Some (number_value (pos 5)))) (number_id 1) (Some (number_value rounds))

-- a plan of systems that add and batches of them, with what stands in it, over numbers
abbrev pub RoundsSituation : Type 0
RoundsSituation = Situation (Only ℤ) (Plain Add) (MultiDispatcher AsOften)

-- what its systems do, and its controllers: a batch has so many rounds as it is told, and in each its plan runs
abbrev pub rounds_related : Related (Only ℤ) (Plain Add) (MultiDispatcher AsOften) DataError
rounds_related = relations_of (record { reads = λ system. []; writes = λ system. number_id system.0.to ∷ []; control_reads = λ multi. number_id multi.controller.at ∷ []; control_writes = λ multi. [] }) PlainAddStep (λ before seen bound after left. PlansAsOften before.controller seen bound after.controller left) SaysYes

-- The number is left at place 0 by a dispatch of that plan, which was Done, over 5 at place 0 and the rounds at place 1.
pub record AreLeftByRounds (rounds number : ℤ) : Type 0 where
  pub plan : RoundsBuilt
  pub is_plan : IsOfRounds plan
  pub before : RoundsSituation
  pub after : RoundsSituation
  pub its_plan : before.plan ≡ plan.plan
  pub its_works : (path : Agent) → before.works path ≡ plan.states path
  pub its_values : (id : ResourceId) → before.values id ≡ five_and_rounds rounds id
  pub ran : Dispatched kind_of rounds_related dispatch_answer before (Ok tt) after
  pub left : after.values (number_id 0) ≡ Some (number_value number)
