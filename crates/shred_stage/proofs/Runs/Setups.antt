-- Setups and disposals of stages, told entry by entry.
use Rattle.std.specs.Prelude.{None}
use Rattle.std.proofs.Common.{◌≡◌, ℕ, List, [], ◌∷◌, None, Ok, Err, refl, sym, ◌∙◌, ap, subst, append-nil}
use Rattle.shred_model.specs.InTurn.{AllInTurn, InTurn}
use Rattle.shred_model.specs.Plan.{entry_at}
use Rattle.shred_model.specs.Record.{Agent}
use Rattle.shred_model.specs.Runs.{Answer}
use Rattle.shred_model.specs.States.{listed_states, own_state}
use Rattle.shred_model.proofs.Joined.FirstFault.{first_fault-Ok}
use Rattle.shred_world.specs.Worked.{Held}
use Rattle.shred_run.specs.AdditionOrder.{plan_entries, stage_entries}
use Rattle.shred_run.specs.EntrySetups.{DisposedInOrder, SetUpInOrder, stage_fault}
use Rattle.shred_run.specs.PlanSetups.{DisposedOf, SetUp}
use Rattle.shred_run.specs.Setups.{GroupsDisposal, GroupsSetup}
use Rattle.shred_run.specs.Steps.{Outcome}
use Rattle.shred_run.specs.WorkSetups.{Setups}
use Rattle.shred_run.specs.declared.entry.StageFault.{StageFault}
use Rattle.shred_run.specs.Rules.{RuleDisposal, RuleSetup}
use Rattle.shred_run.specs.declared.system.Fault.{Fault}
use Rattle.shred_run.proofs.Setups.InOrder.{all-disposed, all-set_up, disposed-outside, entries-mapped, set_up-outside}
use Rattle.shred_run.proofs.Setups.Places.{listed-none}
use Rattle.shred_run.proofs.Setups.Works.{groups-disposed, groups-in_order, groups-none, is-set_up}
use Rattle.shred_stage.specs.Plans.{plan_states, stage_states}
use Rattle.shred_stage.specs.Situations.{stages_with}
use Rattle.shred_stage.specs.StagePlan.{plan_of, stage_plan}
use Rattle.shred_stage.specs.declared.dispatch.stage.Stage.{Stage}

-- what elements that are called in turn do, of one element alone
module _ {X H F : Type 0} where
  turn-alone : (One : ℕ → X → H → Answer F → X → H → Type 0) (x y : X) (h k : H) (a : Answer F) → One 0 x h a y k → InTurn One 0 (x ∷ []) h a (y ∷ []) k
  turn-alone One x y h k (Ok done) own = (Ok done, k, own, (refl, refl))
  turn-alone One x y h k (Err fault) own = (Err fault, k, own, (refl, refl, refl))

  all-alone : (One : ℕ → X → H → Answer F → H → Type 0) (x : X) (h k : H) (a : Answer F) → One 0 x h a k → AllInTurn One 0 (x ∷ []) h a k
  all-alone One x h k a own = (a, Ok tt, k, own, (refl, refl), sym (first_fault-Ok a))

module _ {V S C N A M B : Type 0} {vd : _} {sd : _} {ad : _} {cd : _} {bd : _} where
  -- where the plan has no entry, nothing stands
  plan-none : (stages : List (Stage V S C N A M B vd sd ad cd bd)) (path : Agent) → entry_at (plan_of stages) path ≡ None → plan_states stages path ≡ None
  plan-none stages path e = listed-none stage_states stage_plan (listed_states (listed_states own_state)) (λ stage. groups-none stage.groups.items) stages path e

  module _ {E : Type 0} (setups : Setups V S C E) where
    -- stages whose entries were set up in order were set up
    pub stages-set_up : {F : Type 0} (told : ℕ → Fault E → F) (old new : List (Stage V S C N A M B vd sd ad cd bd)) (h k : Held V) (a : Answer F) → SetUpInOrder told (RuleSetup setups None) (plan_states old) (plan_states new) (plan_entries (plan_of old)) h a k → plan_of new ≡ plan_of old
        → SetUp setups told (stages_with old h) a (stages_with new k)
    stages-set_up told old new h k a walk same = is-set_up setups told (stages_with old h) (stages_with new k) a walk
        (λ path e. (plan-none old path e, plan-none new path (ap (λ plan. entry_at plan path) same ∙ e))) same

    -- a stage whose groups were set up in turn was set up
    pub stage-set_up : (old new : Stage V S C N A M B vd sd ad cd bd) (h k : Held V) (a : Answer (StageFault E)) → GroupsSetup (RuleSetup setups None) old.groups.items h a new.groups.items k → stage_plan new ≡ stage_plan old
        → SetUp setups stage_fault (stages_with (old ∷ []) h) a (stages_with (new ∷ []) k)
    stage-set_up old new h k a turns same = stages-set_up stage_fault (old ∷ []) (new ∷ []) h k a
        (subst (λ es. SetUpInOrder stage_fault (RuleSetup setups None) (plan_states (old ∷ [])) (plan_states (new ∷ [])) es h a k) (sym (entries-mapped stage_plan stage_entries 0 (old ∷ [])))
        (all-set_up stage_fault (RuleSetup setups None) stage_states (λ stage. stage_entries (stage_plan stage)) One (λ n x y. groups-in_order (RuleSetup setups None) x.groups.items y.groups.items) (old ∷ []) (new ∷ []) h k a (turn-alone One old new h k a turns)))
        (λ i. same i ∷ []) where
          One : ℕ → Stage V S C N A M B vd sd ad cd bd → Held V → Answer (StageFault E) → Stage V S C N A M B vd sd ad cd bd → Held V → Type 0
          One n x h a y k = GroupsSetup (RuleSetup setups None) x.groups.items h a y.groups.items k

    -- and so were its entries, in order
    pub stage-in_order : (old new : Stage V S C N A M B vd sd ad cd bd) (h k : Held V) (a : Answer (StageFault E)) → SetUp setups stage_fault (stages_with (old ∷ []) h) a (stages_with (new ∷ []) k)
        → SetUpInOrder stage_fault (RuleSetup setups None) (stage_states old) (stage_states new) (stage_entries (stage_plan old)) h a k
    stage-in_order old new h k a set = set_up-outside stage_fault (RuleSetup setups None) (plan_states (old ∷ [])) (plan_states (new ∷ [])) 0 (stage_entries (stage_plan old)) h k a
        (subst (λ es. SetUpInOrder stage_fault (RuleSetup setups None) (plan_states (old ∷ [])) (plan_states (new ∷ [])) es h a k) (append-nil _) set.in_order)

  module _ {E : Type 0} (disposes : S → Held V → Outcome E → Held V → Type 0) where
    -- a stage whose groups were disposed of in turn was disposed of
    pub stage-disposed : (stage : Stage V S C N A M B vd sd ad cd bd) (h k : Held V) (a : Answer (StageFault E)) → GroupsDisposal (RuleDisposal disposes None) stage.groups.items h a k → DisposedOf disposes stage_fault (stages_with (stage ∷ []) h) a k
    stage-disposed stage h k a turns =
        subst (λ es. DisposedInOrder stage_fault (RuleDisposal disposes None) (plan_states (stage ∷ [])) es h a k) (sym (entries-mapped stage_plan stage_entries 0 (stage ∷ [])))
        (all-disposed stage_fault (RuleDisposal disposes None) stage_states (λ x. stage_entries (stage_plan x)) One (λ n x. groups-disposed (RuleDisposal disposes None) x.groups.items) (stage ∷ []) h k a (all-alone One stage h k a turns)) where
          One : ℕ → Stage V S C N A M B vd sd ad cd bd → Held V → Answer (StageFault E) → Held V → Type 0
          One n x h a k = GroupsDisposal (RuleDisposal disposes None) x.groups.items h a k

    -- and so were its entries, in order
    pub stage-disposed_in_order : (stage : Stage V S C N A M B vd sd ad cd bd) (h k : Held V) (a : Answer (StageFault E)) → DisposedOf disposes stage_fault (stages_with (stage ∷ []) h) a k
        → DisposedInOrder stage_fault (RuleDisposal disposes None) (stage_states stage) (stage_entries (stage_plan stage)) h a k
    stage-disposed_in_order stage h k a set = disposed-outside stage_fault (RuleDisposal disposes None) (plan_states (stage ∷ [])) 0 (stage_entries (stage_plan stage)) h k a
        (subst (λ es. DisposedInOrder stage_fault (RuleDisposal disposes None) (plan_states (stage ∷ [])) es h a k) (append-nil _) set)
