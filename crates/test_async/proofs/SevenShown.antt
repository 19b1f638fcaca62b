-- What is shown of a world whose count a run has set.
use Rattle.std.proofs.Common.{◌≡◌, ◌∙◌, ℤ, [], ◌∷◌, List, Option, Some, None, Ok, Err, refl, ap, subst, sym, pos}
use Rattle.std.specs.declared.convert.Infallible.{Infallible}
use Rattle.shred.specs.Dispatchers.{dispatcher_locals}
use Rattle.shred.specs.LocalRuns.{LocalsRun}
use Rattle.shred.specs.declared.dispatch.dispatcher.Dispatcher.{Dispatcher}
use Rattle.shred.specs.AsyncState.{AsyncState, Joins, home, lost, out}
use Rattle.shred.specs.AsyncRuns.{LocalsRan, Over, PlanRan}
use Rattle.shred.specs.AsyncShown.{JoinsAndShows, Shows}
use Rattle.shred.specs.AsyncSteps.{Dispatches, Waits}
use Rattle.shred.specs.AsyncAnswers.{AsyncAnswer}
use Rattle.shred_run.specs.Depths.{Related}
use Rattle.shred_run.specs.Steps.{Step}
use Rattle.shred_run.specs.declared.no_batch.NoBatch.{NoBatch}
use Rattle.shred_world.specs.Worked.{Held}
use Rattle.shred_world.specs.declared.world.view.DataError.{DataError}
use Rattle.example_systems.specs.OneSystem.{SetsToSeven, count_at}
use Rattle.example_systems.specs.WithoutBatches.{without_batches}
use Rattle.example_systems.specs.declared.one_system.SetToSeven.{SetToSeven}
use Rattle.example_systems.specs.declared.one_system.Value.{Value}
use Rattle.example_systems.specs.declared.one_system.Value.TheVariants.{Count}
use Rattle.test_async.specs.Meanwhile.{LeavesSeven, kind_of}
use Rattle.test_async.proofs.Waited.{waited}

-- where there are no thread-local systems, their run leaves all
no-locals : {L : Type 0} (runs : Step Value L DataError) (olds news : List L) (before after : Held Value) → olds ≡ [] → LocalsRun kind_of runs olds before (Ok tt) news after → after ≡ before
no-locals runs [] [] before after none ran = ran.1
no-locals runs [] (l ∷ ls) before after none ran = absurd ran
no-locals runs (l ∷ ls) news before after none ran = absurd (cc)

abbrev related : Related Value SetToSeven (NoBatch DataError) DataError
related = without_batches (λ system. []) (λ system. count_at ∷ []) SetsToSeven

module _ {L A M B W : Type 0} {vd : _} {sd : _} {ad : _} {cd : _} {bd : _} where
  -- what is shown after a run and a wait that were Done has 7 as the count
  pub seven-shown : (runs : Step Value L DataError) (seen : W → Held Value) (start begun after joined : AsyncState (Over Value (Dispatcher Value SetToSeven (NoBatch DataError) L DataError A M B vd sd ad cd bd)) DataError) (begins waits : AsyncAnswer DataError) (world : W)
      → LeavesSeven start → begins ≡ Ok tt → Dispatches (PlanRan kind_of related) start begins begun → waits ≡ Ok tt → Waits (PlanRan kind_of related) (LocalsRan kind_of runs) begun waits after → JoinsAndShows {F = Infallible} seen (PlanRan kind_of related) after (Ok world) joined
      → seen world count_at ≡ Some (Count (record { 0 = pos 7 }))
  seven-shown runs seen (home x (Ok none)) begun after joined begins waits world leaves begin_done dispatched wait_done waited_for shows =
      let (y, z, ran, locals, is) = waited (PlanRan kind_of related) (LocalsRan kind_of runs) x (home x (Ok none)) begun after refl
      (subst (λ answer. Dispatches (PlanRan kind_of related) (home x (Ok none)) answer begun) begin_done dispatched) (subst (λ answer. Waits (PlanRan kind_of related) (LocalsRan kind_of runs) begun answer after) wait_done waited_for) in
      let same : joined ≡ home z (Ok tt) = subst (λ state. Joins (PlanRan kind_of related) state joined) is shows.0 in
      let shown : seen world ≡ z.values = subst (λ state. Shows {F = Infallible} seen state (Ok world)) same shows.1 in
      let kept : z.values ≡ y.values = no-locals runs (dispatcher_locals y.dispatcher) (dispatcher_locals z.dispatcher) y.values z.values (ran.locals ∙ leaves.0) locals.run in
      ap (λ (values : Held Value). values count_at) (shown ∙ kept) ∙ leaves.1 y ran
  seven-shown runs seen (home x (Err refusal)) begun after joined begins waits world leaves begin_done dispatched wait_done waited_for shows = absurd leaves
  seven-shown runs seen (out x) begun after joined begins waits world leaves begin_done dispatched wait_done waited_for shows = absurd leaves
  seven-shown runs seen lost begun after joined begins waits world leaves begin_done dispatched wait_done waited_for shows = absurd leaves

-- the number of a count, 0 where there is none
abbrev number_in : Option Value → ℤ
number_in (Some (Count count)) = count.0
number_in None = pos 0

-- a count that is held where 7 is, is 7
pub is-seven : (held : Option Value) (count : ℤ) → held ≡ Some (Count (record { 0 = pos 7 })) → held ≡ Some (Count (record { 0 = count })) → count ≡ pos 7
is-seven held count seven counted = ap number_in (sym counted ∙ seven)
