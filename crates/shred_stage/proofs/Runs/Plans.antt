-- Runs of stages, one after the other, leave what a dispatch promises.
use Rattle.std.specs.Prelude.{None}
use Rattle.std.proofs.Common.{◌≡◌, ℕ, ◌<◌, ◌≤◌, ◌+◌, List, [], ◌∷◌, All, length, get_or, set, Ok, Err, refl, sym, subst, ◌∙◌, arith}
use Rattle.std.proofs.Math.Seq.{map-set_same}
use Rattle.std.proofs.lemmas.List.Elements.{All-nil, All-cons}
use Rattle.shred_model.specs.Beside.{AreApart}
use Rattle.shred_model.specs.Plan as model
use Rattle.shred_model.specs.Runs.{Answer, Ran, RunsUpToFault}
use Rattle.shred_model.specs.States.{configuration_of}
use Rattle.shred_model.proofs.Joined.Ran.{Ran-as}
use Rattle.shred_model.proofs.Joined.UpToFault.{SoFar, SoFar-start, SoFar-more, SoFar-fault, SoFar-end}
use Rattle.shred_table.specs.declared.id.Kind.{Kind}
use Rattle.shred_table.specs.declared.id.ResourceId.{ResourceId}
use Rattle.shred_world.specs.Worked.{Held}
use Rattle.shred_run.specs.Alone.{KeepsKinds}
use Rattle.shred_run.specs.Depths.{Declared, Related}
use Rattle.shred_run.specs.Dispatched.{Dispatched}
use Rattle.shred_run.specs.Entries.{StageRun}
use Rattle.shred_run.specs.OwnLists.{IsGroupOf}
use Rattle.shred_run.specs.declared.entry.StageFault.{StageFault}
use Rattle.shred_run.specs.Rules.{RuleOwns, RuleStep}
use Rattle.shred_run.specs.declared.entry.StageFault.TheVariants.{System, Memory}
use Rattle.shred_run.proofs.Paths.OwnDepth.{ToldTurn, own-plan-dispatched, own-plan-fits}
use Rattle.shred_run.proofs.Paths.ToldFaults.{TellsDone}
use Rattle.shred_stage.specs.Plans.{plan_states, stage_states}
use Rattle.shred_stage.specs.Situations.{StageTook, dispatch_answer, stage_answer, stages_with}
use Rattle.shred_stage.specs.StagePlan.{plan_of, stage_plan}
use Rattle.shred_stage.specs.declared.dispatch.stage.Stage.{Stage}

-- a stage's turn, told as the plan tells it
pub turn-told : {V S C E F : Type 0} (kind : V → Kind) (related : Related V S C E) (answers : ℕ → Answer (StageFault E) → Answer F) (place : ℕ) (stage : model.Stage ResourceId) (x y : _) (a : Answer (StageFault E)) (b : Answer F) → b ≡ answers place a
    → Ran (StageRun kind (RuleStep kind related None) stage) x a y → Ran (ToldTurn kind (RuleStep kind related None) answers place stage) x b y
turn-told kind related answers place stage x y a b is ran = Ran-as (StageRun kind (RuleStep kind related None) stage) x a y (ToldTurn kind (RuleStep kind related None) answers place stage) b (λ list run. (a, run, is)) ran

pub dispatch-tells : {E : Type 0} → TellsDone (dispatch_answer {E = E})
dispatch-tells {E} = ((λ place. refl), only) where
  only : (place : ℕ) (answer : Answer (StageFault E)) → Ok tt ≡ dispatch_answer place answer → answer ≡ Ok tt
  only place (Ok done) is = refl
  only place (Err (System id fault)) is = absurd (cc)
  only place (Err Memory) is = absurd (cc)

pub stage-tells : {E : Type 0} → TellsDone (stage_answer {E = E})
stage-tells = ((λ place. refl), (λ place answer is. sym is))

module _ {V S C N A M B E : Type 0} {vd : _} {sd : _} {ad : _} {cd : _} {bd : _} (kind : V → Kind) (related : Related V S C E) (declared : Declared S C)
    (own : (stage : Stage V S C N A M B vd sd ad cd bd) → All (IsGroupOf (RuleOwns declared None)) stage.groups.items) (apart : (stage : Stage V S C N A M B vd sd ad cd bd) → AreApart model.group_access (stage_plan stage)) where
  plan-apart : (stages : List (Stage V S C N A M B vd sd ad cd bd)) → All (AreApart model.group_access) (plan_of stages)
  plan-apart [] = All-nil (AreApart model.group_access)
  plan-apart (stage ∷ stages) = All-cons (AreApart model.group_access) _ _ (apart stage) (plan-apart stages)

  -- what some stages leave that ran one after the other
  pub stages-dispatched : {F : Type 0} (answers : ℕ → Answer (StageFault E) → Answer F) → TellsDone answers → (old new : List (Stage V S C N A M B vd sd ad cd bd)) (before after : Held V) (answer : Answer F)
      → Ran (RunsUpToFault (ToldTurn kind (RuleStep kind related None) answers) 0 (plan_of old)) (configuration_of (plan_states old) before) answer (configuration_of (plan_states new) after) → plan_of new ≡ plan_of old → KeepsKinds kind before after
      → Dispatched kind related answers (stages_with old before) answer (stages_with new after)
  stages-dispatched answers tells old new before after answer ran same kinds =
      own-plan-dispatched kind related answers tells (plan_states old) (plan_states new) before after (plan_of old) (plan_of new) answer ran (own-plan-fits declared (λ stage. stage.groups.items) own old) (plan-apart old) same kinds

module _ {V S C N A M B E F : Type 0} {vd : _} {sd : _} {ad : _} {cd : _} {bd : _} (kind : V → Kind) (related : Related V S C E) (answers : ℕ → Answer (StageFault E) → Answer F) (start : List (Stage V S C N A M B vd sd ad cd bd)) (before : Held V) where
  -- Those before place n took their turn and were Done; their plans stay, and the ids that are held with the kinds of their values.
  pub record StagesRan (n : ℕ) (stages : List (Stage V S C N A M B vd sd ad cd bd)) (now : Held V) : Type 0 where
    pub plan : plan_of stages ≡ plan_of start
    pub kinds : KeepsKinds kind before now
    pub ran : SoFar (ToldTurn kind (RuleStep kind related None) answers) n (plan_of start) (configuration_of (plan_states start) before) (configuration_of (plan_states stages) now)

  pub stages-start : StagesRan 0 start before
  stages-start = record { plan = refl; kinds = λ id. refl; ran = SoFar-start (ToldTurn kind (RuleStep kind related None) answers) _ _ }

module _ {V S C N A M B E F : Type 0} {vd : _} {sd : _} {ad : _} {cd : _} {bd : _} {kind : V → Kind} {related : Related V S C E} {answers : ℕ → Answer (StageFault E) → Answer F} {start : List (Stage V S C N A M B vd sd ad cd bd)} {before : Held V}
    {n : ℕ} {stages : List (Stage V S C N A M B vd sd ad cd bd)} {now : Held V} (so_far : StagesRan kind related answers start before n stages now) (tells : TellsDone answers) (declared : Declared S C)
    (own : (stage : Stage V S C N A M B vd sd ad cd bd) → All (IsGroupOf (RuleOwns declared None)) stage.groups.items) (apart : (stage : Stage V S C N A M B vd sd ad cd bd) → AreApart model.group_access (stage_plan stage)) where
  -- past the last, all were Done
  pub stages-end : length stages ≤ n → Dispatched kind related answers (stages_with start before) (Ok tt) (stages_with stages now)
  stages-end past = stages-dispatched kind related declared own apart answers tells start stages before now (Ok tt) (SoFar-end (ToldTurn kind (RuleStep kind related None) answers) stage_plan stage_states stages now so_far.plan so_far.ran past) so_far.plan so_far.kinds

  module _ (d new : Stage V S C N A M B vd sd ad cd bd) (below : n < length stages) (is : d ≡ get_or stages n d) {answer : Answer (StageFault E)} {after : Held V} (took_it : StageTook kind related d now answer new after) where
    took : StageTook kind related (get_or stages n d) now answer new after
    took = subst (λ (stage : Stage V S C N A M B vd sd ad cd bd). StageTook kind related stage now answer new after) is took_it

    plan-stays : plan_of (set stages n new) ≡ plan_of start
    plan-stays = map-set_same stage_plan stages n new d took.plan ∙ so_far.plan

    -- a fault ends the run of all
    pub stages-fault : (fault : F) → Err fault ≡ answers n answer → Dispatched kind related answers (stages_with start before) (Err fault) (stages_with (set stages n new) after)
    stages-fault fault told = stages-dispatched kind related declared own apart answers tells start (set stages n new) before after (Err fault)
        (SoFar-fault (ToldTurn kind (RuleStep kind related None) answers) stage_plan stage_states stages now so_far.plan so_far.ran d new after below fault (turn-told kind related answers n (stage_plan (get_or stages n d)) _ _ answer (Err fault) told took.ran))
        plan-stays (λ id. took.kinds id ∙ so_far.kinds id)

    -- one that is Done brings them a place further
    pub stages-more : Ok tt ≡ answers n answer → StagesRan kind related answers start before (n + 1) (set stages n new) after
    stages-more told = record {
      plan = plan-stays;
      kinds = λ id. took.kinds id ∙ so_far.kinds id;
      ran = SoFar-more (ToldTurn kind (RuleStep kind related None) answers) stage_plan stage_states stages now so_far.plan so_far.ran d new after below (turn-told kind related answers n (stage_plan (get_or stages n d)) _ _ answer (Ok tt) told took.ran);
    }

-- a stage alone, as the plan of that one stage
pub stage-dispatched : {V S C N A M B E : Type 0} {vd : _} {sd : _} {ad : _} {cd : _} {bd : _} (kind : V → Kind) (related : Related V S C E) (declared : Declared S C)
    (own : (stage : Stage V S C N A M B vd sd ad cd bd) → All (IsGroupOf (RuleOwns declared None)) stage.groups.items) (apart : (stage : Stage V S C N A M B vd sd ad cd bd) → AreApart model.group_access (stage_plan stage))
    (old new : Stage V S C N A M B vd sd ad cd bd) (before after : Held V) (answer : Answer (StageFault E)) → StageTook kind related old before answer new after → Dispatched kind related stage_answer (stages_with (old ∷ []) before) answer (stages_with (new ∷ []) after)
stage-dispatched kind related declared own apart old new before after (Ok done) took =
    stages-end (stages-more (stages-start kind related stage_answer (old ∷ []) before) stage-tells declared own apart old new (omega arith) refl took refl) stage-tells declared own apart (omega arith)
stage-dispatched kind related declared own apart old new before after (Err fault) took = stages-fault (stages-start kind related stage_answer (old ∷ []) before) stage-tells declared own apart old new (omega arith) refl took fault refl
