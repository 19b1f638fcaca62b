-- Setups and disposals of stages in turn, told entry by entry.
use Rattle.std.specs.Prelude.{None}
use Rattle.std.proofs.Common.{◌≡◌, ℕ, List, map, Ok, Err, refl, sym, subst}
use Rattle.shred_model.specs.InTurn.{AllInTurn, InTurn}
use Rattle.shred_model.specs.Runs.{Answer, first_fault}
use Rattle.shred_world.specs.Worked.{Held}
use Rattle.shred_run.specs.AdditionOrder.{stage_entries}
use Rattle.shred_run.specs.EntrySetups.{DisposedInOrder, SetUpInOrder, stage_fault}
use Rattle.shred_run.specs.PlanSetups.{DisposedOf, SetUp}
use Rattle.shred_run.specs.Steps.{Outcome}
use Rattle.shred_run.specs.WorkSetups.{Setups}
use Rattle.shred_run.specs.declared.entry.StageFault.{StageFault}
use Rattle.shred_run.specs.Rules.{RuleDisposal, RuleSetup}
use Rattle.shred_run.specs.declared.entry.StageFault.TheVariants.{System, Memory}
use Rattle.shred_run.proofs.Setups.InOrder.{all-disposed, all-set_up, disposed-retold, entries-mapped, set_up-retold}
use Rattle.shred_stage.specs.Plans.{plan_states, stage_states}
use Rattle.shred_stage.specs.Setups.{StageDisposalAt, StageSetupAt, dispatch_fault}
use Rattle.shred_stage.specs.Situations.{dispatch_answer, stages_with}
use Rattle.shred_stage.specs.StagePlan.{stage_plan}
use Rattle.shred_stage.specs.declared.dispatch.dispatch_error.DispatchError.{DispatchError}
use Rattle.shred_stage.specs.declared.dispatch.stage.Stage.{Stage}
use Rattle.shred_stage.proofs.Runs.Setups.{stage-disposed_in_order, stage-in_order, stages-set_up}

answers-joined : {E : Type 0} (place : ℕ) (a b : Answer (StageFault E)) → dispatch_answer place (first_fault a b) ≡ first_fault (dispatch_answer place a) (dispatch_answer place b)
answers-joined place (Ok done) b = refl
answers-joined place (Err (System id fault)) b = refl
answers-joined place (Err Memory) b = refl

module _ {V S C E N A M B : Type 0} {vd : _} {sd : _} {ad : _} {cd : _} {bd : _} where
  module _ (setups : Setups V S C E) where
    stage-set_up_at : (n : ℕ) (x y : Stage V S C N A M B vd sd ad cd bd) (h k : Held V) (a : Answer (DispatchError E)) → StageSetupAt setups n x h a y k → SetUpInOrder dispatch_fault (RuleSetup setups None) (stage_states x) (stage_states y) (stage_entries (stage_plan x)) h a k
    stage-set_up_at n x y h k a (b, set, is) = subst (λ (c : Answer (DispatchError E)). SetUpInOrder dispatch_fault (RuleSetup setups None) (stage_states x) (stage_states y) (stage_entries (stage_plan x)) h c k) (sym is)
        (set_up-retold stage_fault dispatch_fault (dispatch_answer n) refl (λ id fault. refl) (RuleSetup setups None) (stage_states x) (stage_states y) (stage_entries (stage_plan x)) h k b (stage-in_order setups x y h k b set))

    -- stages that were set up in turn were set up as a plan
    pub plan-set_up : (old new : List (Stage V S C N A M B vd sd ad cd bd)) (h k : Held V) (a : Answer (DispatchError E)) → InTurn (StageSetupAt setups) 0 old h a new k → map stage_plan new ≡ map stage_plan old → SetUp setups dispatch_fault (stages_with old h) a (stages_with new k)
    plan-set_up old new h k a turns same = stages-set_up setups dispatch_fault old new h k a
        (subst (λ es. SetUpInOrder dispatch_fault (RuleSetup setups None) (plan_states old) (plan_states new) es h a k) (sym (entries-mapped stage_plan stage_entries 0 old))
        (all-set_up dispatch_fault (RuleSetup setups None) stage_states (λ stage. stage_entries (stage_plan stage)) (StageSetupAt setups) stage-set_up_at old new h k a turns)) same

  module _ (disposes : S → Held V → Outcome E → Held V → Type 0) where
    stage-disposed_at : (n : ℕ) (x : Stage V S C N A M B vd sd ad cd bd) (h k : Held V) (a : Answer (DispatchError E)) → StageDisposalAt disposes n x h a k → DisposedInOrder dispatch_fault (RuleDisposal disposes None) (stage_states x) (stage_entries (stage_plan x)) h a k
    stage-disposed_at n x h k a (b, set, is) = subst (λ (c : Answer (DispatchError E)). DisposedInOrder dispatch_fault (RuleDisposal disposes None) (stage_states x) (stage_entries (stage_plan x)) h c k) (sym is)
        (disposed-retold stage_fault dispatch_fault (dispatch_answer n) refl (λ id fault. refl) (answers-joined n) (RuleDisposal disposes None) (stage_states x) (stage_entries (stage_plan x)) h k b (stage-disposed_in_order disposes x h k b set))

    -- stages that were disposed of in turn were disposed of as a plan
    pub plan-disposed : (stages : List (Stage V S C N A M B vd sd ad cd bd)) (h k : Held V) (a : Answer (DispatchError E)) → AllInTurn (StageDisposalAt disposes) 0 stages h a k → DisposedOf disposes dispatch_fault (stages_with stages h) a k
    plan-disposed stages h k a turns = subst (λ es. DisposedInOrder dispatch_fault (RuleDisposal disposes None) (plan_states stages) es h a k) (sym (entries-mapped stage_plan stage_entries 0 stages))
        (all-disposed dispatch_fault (RuleDisposal disposes None) stage_states (λ stage. stage_entries (stage_plan stage)) (StageDisposalAt disposes) stage-disposed_at stages h k a turns)
