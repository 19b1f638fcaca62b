-- Values of their ids' kinds: those of a world, those that a system declares of them, and those that a step leaves.
use Rattle.std.proofs.Common.{◌≡◌, Bool, true, false, cond, ◌||◌, Option, Some, None, Result, inl, inr, sym, ◌∙◌, ap, subst}
use Rattle.std.specs.Prelude.{is_some}
use Rattle.std.specs.Option.{option_map}
use Rattle.shred_model.specs.Access.{Access, Declares}
use Rattle.shred_model.specs.Record.{Agent}
use Rattle.shred_model.specs.Replay.{Configuration, Goes}
use Rattle.shred_model.proofs.Records.Membership.{is_declared}
use Rattle.shred_table.specs.declared.id.Kind.{Kind}
use Rattle.shred_table.specs.declared.id.ResourceId.{ResourceId}
use Rattle.shred_table.specs.Id.{id_kind}
use Rattle.shred_table.specs.Slots.{among}
use Rattle.shred_table.proofs.Tables.Ids.{tell_ids}
use Rattle.shred_world.specs.declared.world.World.{World}
use Rattle.shred_world.specs.Worked.{Held}
use Rattle.shred_world.specs.Worlds.{world_held, world_slot}
use Rattle.shred_world.proofs.Views.HeldKinds.{slot_held-kind}
use Rattle.shred_run.specs.declared.system.Fault.{Fault}
use Rattle.shred_run.specs.Controls.{Control}
use Rattle.shred_run.specs.NestedRecords.{NestedRecord, IsNestedStep, Reply}
use Rattle.shred_run.specs.Occupants.{AgentState}
use Rattle.shred_run.specs.Steps.{declared_of}
use Rattle.shred_orders.specs.OneEnd.{AreOfKinds}
use Rattle.shred_orders.proofs.SameRuns.{moved}

of-id : {V : Type 0} (kind : V → Kind) (id : ResourceId) (value : Option V) → option_map kind value ≡ cond (is_some value) (Some id.kind) None → (k : Kind) → option_map kind value ≡ Some k → k ≡ id_kind id
of-id kind id None is k e = absurd (let f : None ≡ Some k = e in cc)
of-id kind id (Some value) is k e = let f : Some k ≡ Some id.kind = sym e ∙ is in let same : k ≡ id.kind = cc in same

-- what a world holds
pub world-of-kinds : {V : Type 0} (kind : V → Kind) (world : World V) → AreOfKinds kind (world_held kind world)
world-of-kinds kind world id = of-id kind id (world_held kind world id) (slot_held-kind kind id (world_slot world id))

-- what is declared of it
pub declared-of-kinds : {V : Type 0} (kind : V → Kind) (access : Access ResourceId) (values : Held V) → AreOfKinds kind values → AreOfKinds kind (declared_of access values)
declared-of-kinds kind access values sound id k e = shown (among access.reads id || among access.writes id) e where
  shown : (b : Bool) → option_map kind (cond b (values id) None) ≡ Some k → k ≡ id_kind id
  shown true e = sound id k e
  shown false e = absurd (let f : None ≡ Some k = e in cc)

module _ {V S C E X A : Type 0} (kind : V → Kind) (relation : Control V X A E) (state : X → AgentState S C) (reply : A → Reply) (access : Access ResourceId) (answer : Result A (Fault E)) (g : Agent → Agent) (c y : Configuration Agent ResourceId V (AgentState S C)) (r : NestedRecord V S C E)
    (is : IsNestedStep kind relation state reply access answer r) (goes : Goes (moved g r) c y) (sound : AreOfKinds kind c.values) where
  -- what a step sees
  pub seen-of-kinds : AreOfKinds kind r.seen
  seen-of-kinds id k e = elim (is_declared tell_ids r.access id) [
    | inl d ↦ sound id k (ap (option_map kind) (goes.finds id d) ∙ e)
    | inr n ↦ absurd (let f : None ≡ Some k = sym (ap (option_map kind) (is.sees_only id (λ d. n (subst (λ (a : Access ResourceId). Declares a id) (sym is.declared) d)))) ∙ e in cc)
  ]

  -- what it leaves
  pub left-of-kinds : AreOfKinds kind y.values
  left-of-kinds id k e = elim (is_declared tell_ids r.access id) [
    | inl d ↦ sound id k (ap (option_map kind) (goes.finds id d) ∙ sym (is.keeps_kinds id) ∙ sym (ap (option_map kind) (goes.puts id d)) ∙ e)
    | inr n ↦ sound id k (sym (ap (option_map kind) (goes.other_values id n)) ∙ e)
  ]
