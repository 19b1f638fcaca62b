-- The setup of a dispatcher of one system.
use Rattle.std.specs.Prelude.{None}
use Rattle.std.proofs.Common.{◌≡◌, List, [], ◌∷◌, Option, Some, Ok, Err, refl, sym, ◌∙◌, subst₂}
use Rattle.std.specs.Result.{MatchResult}
use Rattle.shred_model.specs.Plan as model
use Rattle.shred_model.specs.Plan.{PlanEntry}
use Rattle.shred_model.specs.Record.{Agent}
use Rattle.shred_model.specs.Runs.{Answer}
use Rattle.shred_table.specs.declared.id.ResourceId.{ResourceId}
use Rattle.shred_world.specs.Worked.{Held}
use Rattle.shred_run.specs.AdditionOrder.{plan_entries}
use Rattle.shred_run.specs.EntrySetups.{SetUpInOrder}
use Rattle.shred_run.specs.Steps.{Step}
use Rattle.shred_run.specs.WorkSetups.{Setups, WorkSetup}
use Rattle.shred_run.specs.declared.work.Nested.{Nested}
use Rattle.shred_run.specs.declared.work.Work.{Work}
use Rattle.shred_run.specs.Rules.{RuleSetup}
use Rattle.shred_run.specs.declared.work.Work.TheVariants.{Batch, System}
use Rattle.shred_stage.specs.Setups.{dispatch_fault}
use Rattle.shred_stage.specs.declared.dispatch.dispatch_error.DispatchError.{DispatchError}
use Rattle.shred.specs.FullRuns.{Whole}
use Rattle.shred.specs.LocalRuns.{LocalsSetup}
use Rattle.shred.specs.Setups.{IsSetUp}
use Rattle.example_systems.proofs.Placed.{first_path}

module _ {V S C L E : Type 0} (setups : Setups V S C E) (local : Step V L E) where
  -- where there are no thread-local systems, the setup is that of the plan
  of-plan : (c : Answer (DispatchError E)) (old new : List L) (middle after : Held V) (answer : Answer (DispatchError E)) → old ≡ [] → answer ≡ Ok tt
      → MatchResult c (λ done. LocalsSetup local old middle answer new after) (λ error. (new ≡ old) × (after ≡ middle) × (answer ≡ Err error)) → (c ≡ Ok tt) × (after ≡ middle)
  of-plan (Ok done) [] [] middle after answer none ended turns = (refl, turns.1)
  of-plan (Ok done) [] (y ∷ ys) middle after answer none ended turns = absurd turns
  of-plan (Ok done) (x ∷ xs) new middle after answer none ended turns = absurd (cc)
  of-plan (Err error) old new middle after answer none ended (same, kept, told) = absurd (cc)

  -- the setup of a plan of one system is that system's own
  in-order : (old new : Agent → Option (Work S (Nested V S C))) (entry : PlanEntry ResourceId) (one : S) (before after : Held V) (answer : Answer (DispatchError E)) → old first_path ≡ Some (System one) → answer ≡ Ok tt
      → SetUpInOrder dispatch_fault (RuleSetup setups None) old new (plan_entries (((entry ∷ []) ∷ []) ∷ [])) before answer after → (its : S) × (new first_path ≡ Some (System its)) × setups.systems one before (Ok tt) its after
  unfolding WorkSetup
  in-order old new entry one before after answer stands done (System s, System t, Ok ended, m, here, there, own, (told, same)) =
      let one_is : s ≡ one = (let both : Some (System s) ≡ Some (System one) = sym here ∙ stands in cc) in
      (t, there, subst₂ (λ (x : S) (h : Held V). setups.systems x before (Ok tt) t h) one_is (sym same) own)
  in-order old new entry one before after answer stands done (was, is, Err fault, m, here, there, own, (told, same, none)) = absurd (cc)
  in-order old new entry one before after answer stands done (System s, Batch t, o, m, here, there, own, more) = absurd own
  in-order old new entry one before after answer stands done (Batch s, is, o, m, here, there, own, more) = absurd (let both : Some (Batch s) ≡ Some (System one) = sym here ∙ stands in cc)

  -- the one system of a dispatcher was set up, and stands there as it was left
  pub one-set_up : (before after : Whole V S C L) (entry : PlanEntry ResourceId) (one : S) (answer : Answer (DispatchError E)) → before.staged.plan ≡ ((entry ∷ []) ∷ []) ∷ [] → before.staged.works first_path ≡ Some (System one) → before.locals ≡ [] → answer ≡ Ok tt
      → IsSetUp setups local before answer after → (its : S) × (after.staged.works first_path ≡ Some (System its)) × setups.systems one before.staged.values (Ok tt) its after.staged.values
  one-set_up before after entry one answer plan stands none done set =
      let ended = of-plan set.of_plan before.locals after.locals set.middle after.staged.values answer none done set.locals in
      in-order before.staged.works after.staged.works entry one before.staged.values after.staged.values set.of_plan stands ended.0
      (subst₂ (λ (p : model.Plan ResourceId) (h : Held V). SetUpInOrder dispatch_fault (RuleSetup setups None) before.staged.works after.staged.works (plan_entries p) before.staged.values set.of_plan h) plan (sym ended.1) set.staged.in_order)
