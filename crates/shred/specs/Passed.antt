-- Systems that are passed what they read and what they write.
use Rattle.std.specs.Prelude.{◌≡◌, ◌⊎◌, true, Option, Some, None, is_some, List, [], ◌∷◌, Result, Ok, Err}
use Rattle.shred_model.specs.Runs.{Answer}
use Rattle.shred_table.specs.declared.id.Kind.{Kind}
use Rattle.shred_table.specs.declared.id.ResourceId.{ResourceId}
use Rattle.shred_table.specs.Id.{id_of}
use Rattle.shred_table.specs.Slots.{among, with_at}
use Rattle.shred_world.specs.declared.world.view.DataError.{DataError}
use Rattle.shred_world.specs.declared.world.view.View.{View}
use Rattle.shred_world.specs.Grants.{Moved}
use Rattle.shred_world.specs.Views.{may_read, refusal, view_refusal}
use Rattle.shred_world.specs.Worked.{Held}
use Rattle.shred_run.specs.declared.system.Fault.{Fault}
use Rattle.shred_run.specs.declared.system.Fault.TheVariants.{Refused}
use Rattle.shred_run.specs.Faults.{FaultGives}
use Rattle.shred_run.specs.Steps.{Outcome, Step}
use Rattle.shred.specs.declared.passed.Passed.{Passed}
use Rattle.shred.specs.declared.passed.never_refuses.NeverRefuses.{NeverRefuses}

-- what a run makes of what it writes: the system and the resources before, and both after
abbrev pub Change : Type 0 → Type 0 → Type 1
Change S W = S → W → S → W → Type 0

-- the same, with its answer
abbrev pub TryChange : Type 0 → Type 0 → Type 0 → Type 1
TryChange S W E = S → W → Answer E → S → W → Type 0

-- what a run makes of what it writes, by what it reads
abbrev pub ChangeBy : Type 0 → Type 0 → Type 0 → Type 1
ChangeBy S R W = S → R → W → S → W → Type 0

-- the same, with its answer
abbrev pub TryChangeBy : Type 0 → Type 0 → Type 0 → Type 0 → Type 1
TryChangeBy S R W E = S → R → W → Answer E → S → W → Type 0

-- any change
abbrev pub AnyChange : {S W : Type 0} → Change S W
AnyChange before old after new = Unit {0}

-- any change, and any answer
abbrev pub AnyTryChange : {S W E : Type 0} → TryChange S W E
AnyTryChange before old answer after new = Unit {0}

-- any change, by what is read
abbrev pub AnyChangeBy : {S R W : Type 0} → ChangeBy S R W
AnyChangeBy before read old after new = Unit {0}

-- any change, by what is read, and any answer
abbrev pub AnyTryChangeBy : {S R W E : Type 0} → TryChangeBy S R W E
AnyTryChangeBy before read old answer after new = Unit {0}

-- the change is one of the system within, and was done
abbrev pub DoneChange : {S W E : Type 0} → Change S W → TryChange (NeverRefuses S) W E
DoneChange change before old answer after new = change before.0 old after.0 new × (answer ≡ Ok (record {}))

-- the change, by what is read, is one of the system within, and was done
abbrev pub DoneChangeBy : {S R W E : Type 0} → ChangeBy S R W → TryChangeBy (NeverRefuses S) R W E
DoneChangeBy change before read old answer after new = change before.0 read old after.0 new × (answer ≡ Ok (record {}))

-- what a system refuses by itself, as the outcome of its run
abbrev pub as_outcome : {E : Type 0} → Answer E → Outcome E
as_outcome (Ok done) = Ok done
as_outcome (Err error) = Err (Refused error)

-- the resource's value, under the id of number 0 of its kind
abbrev pub named : {V R : Type 0} → Kind → (R → V) → R → ResourceId × V
named kind wrapped resource = (id_of kind 0, wrapped resource)

-- what is held, with these values under their ids
abbrev pub held_over : {V : Type 0} → Moved V → Held V → Held V
held_over [] seen = seen
held_over (m ∷ ms) seen = with_at (held_over ms seen) m.0 (Some m.1)

-- each of these values is held under its id
abbrev pub AreShown : {V : Type 0} → Moved V → Held V → Type 0
AreShown [] seen = Unit {0}
AreShown (m ∷ ms) seen = (seen m.0 ≡ Some m.1) × AreShown ms seen

-- the first refusal, or else the second
abbrev pub or_else : Option DataError → Option DataError → Option DataError
or_else None next = next
or_else (Some error) next = Some error

-- the first test that a view's reads of these ids fail, one after the other
abbrev pub first_unfetched : {V : Type 0} → (V → Kind) → View V → List ResourceId → Option DataError
first_unfetched kind view [] = None
first_unfetched kind view (id ∷ ids) = or_else (view_refusal kind may_read view id.kind id) (first_unfetched kind view ids)

-- the first test that a declared read of this id fails, beside these writes
abbrev pub read_refusal : {V : Type 0} → (writes : List ResourceId) → Held V → ResourceId → Option DataError
read_refusal writes seen id = refusal id.kind id true (among writes id) (is_some (seen id))

-- the first test that declared reads of these ids fail, one after the other, beside these writes
abbrev pub first_unread : {V : Type 0} → (writes : List ResourceId) → Held V → List ResourceId → Option DataError
first_unread writes seen [] = None
first_unread writes seen (id ∷ ids) = or_else (read_refusal writes seen id) (first_unread writes seen ids)

-- A read was refused, and nothing was done.
pub record IsUnread {V S E : Type 0} (reads writes : List ResourceId) (gives : DataError → E → Type 0) (before : S) (seen : Held V) (outcome : Outcome E) (after : S) (left : Held V) : Type 0 where
  pub error : DataError
  pub fault : Fault E
  pub refused : first_unread writes seen reads ≡ Some error
  pub told : FaultGives gives error fault
  pub ended : outcome ≡ Err fault
  pub state : after ≡ before
  pub values : left ≡ seen

-- What is read was held, and not refused; what is written was held, and is held as the change left it; all else stays.
pub record IsPassed {V S R W E : Type 0} (reads writes : List ResourceId) (shown : R → Moved V) (moved : W → Moved V) (change : TryChangeBy S R W E)
    (before : S) (seen : Held V) (outcome : Outcome E) (after : S) (left : Held V) : Type 0 where
  pub read : R
  pub old : W
  pub answer : Answer E
  pub new : W
  pub unrefused : first_unread writes seen reads ≡ None
  pub read_held : AreShown (shown read) seen
  pub written_held : held_over (moved old) seen ≡ seen
  pub changed : change before read old answer after new
  pub written : left ≡ held_over (moved new) seen
  pub answered : outcome ≡ as_outcome answer

-- a read was refused, or the run is a change of what is written by what is read
abbrev pub StepsPassed : {V T Q R W E : Type 0} → (reads writes : List ResourceId) → (R → Moved V) → (W → Moved V) → (DataError → E → Type 0) → TryChangeBy T R W E → Step V (Passed T Q W E) E
StepsPassed reads writes shown moved gives change before seen outcome after left =
    IsUnread reads writes gives before seen outcome after left ⊎ IsPassed reads writes shown moved change before.system seen outcome after.system left
