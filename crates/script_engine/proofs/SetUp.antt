-- A setup of systems and batches that set nothing up is Done, and keeps the values.
use Rattle.std.specs.Prelude.{None}
use Rattle.std.proofs.Common.{◌≡◌, ℕ, zero, suc, List, [], ◌∷◌, Option, Ok, Err, refl, sym, ◌∙◌, ap, subst, subst₂}
use Rattle.std.specs.Result.{MatchResult}
use Rattle.shred_model.specs.InTurn.{InTurn}
use Rattle.shred_model.specs.Record.{Agent}
use Rattle.shred_model.specs.Runs.{Answer}
use Rattle.shred_model.specs.States.{listed_states}
use Rattle.shred_world.specs.Worked.{Held}
use Rattle.shred_run.specs.AdditionOrder.{PlacedEntry, plan_entries}
use Rattle.shred_run.specs.Depths.{batch_of, depth_of}
use Rattle.shred_run.specs.EntrySetups.{SetUpInOrder, own_fault}
use Rattle.shred_run.specs.PlanSetups.{SetUp}
use Rattle.shred_run.specs.Steps.{Outcome, Step}
use Rattle.shred_run.specs.WorkSetups.{Setups, WorkSetup}
use Rattle.shred_run.specs.Works.{tier_states, tiers_plan}
use Rattle.shred_run.specs.declared.work.Nested.{Nested}
use Rattle.shred_run.specs.declared.work.Work.{Work}
use Rattle.shred_run.specs.Rules.{RuleSetup}
use Rattle.shred_run.specs.declared.work.Work.TheVariants.{System, Batch}
use Rattle.shred_stage.specs.Setups.{dispatch_fault}
use Rattle.shred_stage.specs.declared.dispatch.dispatch_error.DispatchError.{DispatchError}
use Rattle.shred.specs.LocalRuns.{LocalSetup, LocalsSetup, local_answer}
use Rattle.shred.specs.Setups.{IsSetUp}
use Rattle.script_engine.specs.Lines.{ScriptWork}
use Rattle.script_engine.specs.Runs.{IsIdle, IsSetUpFrom, Program, script_setups}
use Rattle.script_text.specs.declared.outcome.Refusal.{Refusal}
use Rattle.script_text.specs.declared.value.Value.{Value}

-- setups each of which is Done, and keeps what is shared
order-idle : {I W H G F : Type 0} (told : ℕ → G → F) (Own : W → H → Answer G → W → H → Type 0) → ((x : W) (h : H) (o : Answer G) (y : W) (k : H) → Own x h o y k → (o ≡ Ok tt) × (k ≡ h)) → (old new : Agent → Option W) (entries : List (PlacedEntry I)) (h k : H) (a : Answer F)
    → SetUpInOrder told Own old new entries h a k → (a ≡ Ok tt) × (k ≡ h)
order-idle told Own idle old new [] h k a walk = walk
order-idle told Own idle old new (placed ∷ rest) h k a (x, y, Ok done, m, here, there, own, more) =
    let others = order-idle told Own idle old new rest m k a more in
    (others.0, others.1 ∙ (idle x h (Ok done) y m own).1)
order-idle told Own idle old new (placed ∷ rest) h k a (x, y, Err fault, m, here, there, own, more) = absurd (let done = (idle x h (Err fault) y m own).0 in cc)

-- and keeps its element, too
turns-same : {X H F : Type 0} (Own : ℕ → X → H → Answer F → X → H → Type 0) → ((n : ℕ) (x : X) (h : H) (a : Answer F) (y : X) (k : H) → Own n x h a y k → (a ≡ Ok tt) × (y ≡ x) × (k ≡ h)) → (n : ℕ) (xs ys : List X) (h k : H) (a : Answer F)
    → InTurn Own n xs h a ys k → (a ≡ Ok tt) × (ys ≡ xs) × (k ≡ h)
turns-same Own each n [] [] h k a (done, same) = (done, refl, same)
turns-same Own each n [] (y ∷ ys) h k a turns = absurd turns
turns-same Own each n (x ∷ xs) [] h k a turns = absurd turns
turns-same Own each n (x ∷ xs) (y ∷ ys) h k a (Ok done, middle, own, rest) =
    let here = each n x h (Ok done) y middle own in
    let others = turns-same Own each (suc n) xs ys middle k a rest in
    (others.0, (λ i. here.1 i ∷ others.1 i), others.2 ∙ here.2)
turns-same Own each n (x ∷ xs) (y ∷ ys) h k a (Err fault, middle, own, rest) = absurd (let done = (each n x h (Err fault) y middle own).0 in cc)

module _ {V S C E : Type 0} (setups : Setups V S C E)
    (idle : (s : S) (h : Held V) (o : Outcome E) (t : S) (k : Held V) → setups.systems s h o t k → (o ≡ Ok tt) × (k ≡ h)) (rests : (c : C) (h : Held V) (o : Outcome E) (d : C) (k : Held V) → setups.controllers c h o d k → (o ≡ Ok tt) × (k ≡ h)) where
  work-idle : (depth : ℕ) (x : Work S (Nested V S C)) (h : Held V) (o : Outcome E) (y : Work S (Nested V S C)) (k : Held V) → WorkSetup setups depth x h o y k → (o ≡ Ok tt) × (k ≡ h)
  unfolding WorkSetup
  work-idle depth (System s) h o (System t) k lies = idle s h o t k lies
  work-idle depth (System s) h o (Batch t) k lies = absurd lies
  work-idle zero (Batch s) h o (System t) k lies = absurd lies
  work-idle (suc less) (Batch s) h o (System t) k lies = absurd lies
  work-idle zero (Batch s) h o (Batch t) k lies = absurd lies
  work-idle (suc less) (Batch s) h o (Batch t) k lies =
      let old = (batch_of s).tiers.items in
      let new = (batch_of t).tiers.items in
      let first = rests _ h lies.of_control _ lies.middle lies.controller in
      let walk = subst (λ (c : Outcome E). MatchResult c
      (λ done. SetUpInOrder own_fault (WorkSetup setups less) (listed_states tier_states old) (listed_states tier_states new) (plan_entries (tiers_plan old)) lies.middle o k)
      (λ fault. (new ≡ old) × (k ≡ lies.middle) × (o ≡ Err fault))) first.0 lies.inside in
      let inside = order-idle own_fault (WorkSetup setups less) (work-idle less) (listed_states tier_states old) (listed_states tier_states new) (plan_entries (tiers_plan old)) lies.middle k o walk in
      (inside.0, inside.1 ∙ first.1)

-- a setup of what stands in an entry of a script's plan is Done, and keeps the values
own-idle : (s : ScriptWork) (h : Held Value) (o : Outcome Refusal) (t : ScriptWork) (k : Held Value) → RuleSetup script_setups None s h o t k → (o ≡ Ok tt) × (k ≡ h)
own-idle s h o t k own = work-idle script_setups (λ s h o t k is. (is.0.1, is.0.2)) (λ s h o t k is. (is.0.1, is.0.2)) (depth_of s) s h o t k own

module _ {V L E : Type 0} (local : Step V L E) (idle : (s : L) (h : Held V) (o : Outcome E) (t : L) (k : Held V) → local s h o t k → (t ≡ s) × (o ≡ Ok tt) × (k ≡ h)) where
  local-same : (n : ℕ) (x : L) (h : Held V) (a : Answer (DispatchError E)) (y : L) (k : Held V) → LocalSetup local n x h a y k → (a ≡ Ok tt) × (y ≡ x) × (k ≡ h)
  local-same n x h a y k (o, own, is) = let i = idle x h o y k own in (is ∙ ap (local_answer n) i.1, i.0, i.2)

-- a dispatcher of a script's plan is set up, and its thread-local systems and the values are as before
pub is-set-up : (before after : Program) (answer : Answer (DispatchError Refusal)) → IsSetUp script_setups IsIdle before answer after → (answer ≡ Ok tt) × IsSetUpFrom before after
is-set-up before after answer set =
    let plan = order-idle dispatch_fault (RuleSetup script_setups None) own-idle before.staged.works after.staged.works (plan_entries before.staged.plan) before.staged.values set.middle set.of_plan set.staged.in_order in
    let turns = subst (λ (c : Answer (DispatchError Refusal)). MatchResult c (λ done. LocalsSetup IsIdle before.locals set.middle answer after.locals after.staged.values) (λ error. (after.locals ≡ before.locals) × (after.staged.values ≡ set.middle) × (answer ≡ Err error))) plan.0 set.locals in
    let locals = turns-same (LocalSetup IsIdle) (local-same IsIdle (λ s h o t k is. is)) 0 before.locals after.locals set.middle after.staged.values answer turns in (
      locals.0,
      record {
        staged = subst₂ (λ (c : Answer (DispatchError Refusal)) (h : Held Value). SetUp script_setups dispatch_fault before.staged c (record after.staged { values = h })) plan.0 (sym locals.2) set.staged;
        values = locals.2 ∙ plan.1;
        locals = locals.1;
        workers = set.workers;
      },
    )
