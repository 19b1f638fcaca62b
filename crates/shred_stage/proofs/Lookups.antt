-- Where a system stands that is looked up by its id.
use Rattle.std.proofs.Common.{◌≡◌, ℕ, Bool, true, false, List, [], ◌∷◌, map, Option, Some, None, cond, refl, sym, ap, ◌∙◌, arith, suc}
use Rattle.std.specs.Option.{option_map}
use denote.Ref.{Bor}
use Rattle.std.specs.Prelude.{IfSome, nat_eq, slice_get, option_and_then}
use Rattle.std.proofs.lemmas.Bool.Decides.{nat_tests}
use Rattle.std.proofs.lemmas.Option.{slice_get-map}
use Rattle.shred_model.specs.Plan.{PlanEntry}
use Rattle.shred_model.specs.Record.{Agent}
use Rattle.shred_model.specs.States.{listed_states, own_state}
use Rattle.shred_table.specs.declared.id.ResourceId.{ResourceId}
use Rattle.shred_run.specs.declared.entry.GroupEntry.{GroupEntry}
use Rattle.shred_run.specs.declared.work.Work.{Work}
use Rattle.shred_run.specs.declared.work.Work.TheVariants.{System, Batch}
use Rattle.shred_run.specs.Entries.{entry_states, group_states}
use Rattle.shred_run.specs.PlanOf.{entry_plan, group_plan}
use Rattle.shred_stage.specs.Lookups.{IsSystemOf, entry_system, first_given, given_or, group_system, plan_system, stage_system, work_system}
use Rattle.shred_stage.specs.Plans.{stage_states}
use Rattle.shred_stage.specs.StagePlan.{stage_plan}
use Rattle.shred_stage.specs.declared.dispatch.stage.Stage.{Stage}

-- One of these, at its place, that gives this.
record Gives {A B : Type 0} (gives : A → Option B) (all : List A) (b : B) : Type 0 where
  place : ℕ
  one : A
  at : slice_get all place ≡ Some one
  given : gives one ≡ Some b

-- what is given is given by one of them
one-gives : {A B : Type 0} (gives : A → Option B) (all : List A) (b : B) → first_given gives all ≡ Some b → Gives gives all b
one-gives gives [] b given = absurd (cc)
one-gives {A} {B} gives (a ∷ rest) b given = told (gives a) refl (one-gives gives rest b) given where
  told : (o : Option B) → gives a ≡ o → (first_given gives rest ≡ Some b → Gives gives rest b) → given_or o (first_given gives rest) ≡ Some b → Gives gives (a ∷ rest) b
  told None none in_rest given =
      let later = in_rest given in
      record { place = suc later.place; one = later.one; at = later.at; given = later.given }
  told (Some c) is in_rest given = record { place = 0; one = a; at = refl; given = is ∙ given }

-- The id and the system that stand at one place.
record Stands {S B : Type 0} (numbers : Agent → Option (PlanEntry ResourceId)) (states : Agent → Option (Work S B)) (id : ℕ) (s : S) : Type 0 where
  path : Agent
  numbered : option_map (λ entry. entry.id) (numbers path) ≡ Some id
  stands : states path ≡ Some (System s)

-- in a list of what each has its own
listed-stands : {A P S B : Type 0} (plan : A → P) (numbers : P → Agent → Option (PlanEntry ResourceId)) (states : A → Agent → Option (Work S B)) (all : List A) (n : ℕ) (a : A) (id : ℕ) (s : S)
    → slice_get all n ≡ Some a → Stands (numbers (plan a)) (states a) id s → Stands (listed_states numbers (map plan all)) (listed_states states all) id s
listed-stands plan numbers states all n a id s at inner = record {
  path = n ∷ inner.path;
  numbered = ap (λ found. option_map (λ entry. entry.id) (option_and_then (λ y. numbers y inner.path) found)) (slice_get-map plan all n ∙ ap (option_map plan) at) ∙ inner.numbered;
  stands = ap (option_and_then (λ y. states y inner.path)) at ∙ inner.stands;
}

-- a work that gives its system is that
is-system : {S B : Type 0} (work : Work S B) (s : S) → work_system work ≡ Some s → work ≡ System s
is-system (System t) s is = let equal : t ≡ s = cc (is) in ap System equal
is-system (Batch b) s none = absurd (cc)

-- an entry that gives its system stands under this id
entry-stands : {V S B : Type 0} (id : ℕ) (entry : GroupEntry V (Work S B)) (s : S) → entry_system id entry ≡ Some s → Stands (own_state (entry_plan entry)) (entry_states entry) id s
entry-stands {V} {S} {B} id entry s given = told (nat_eq entry.id.0 id) refl given where
  told : (b : Bool) → nat_eq entry.id.0 id ≡ b → cond b (work_system entry.work) None ≡ Some s → Stands (own_state (entry_plan entry)) (entry_states entry) id s
  told false other none = absurd (cc)
  told true same is = let equal : entry.id.0 ≡ id = grind (arith, nat_tests) in record { path = []; numbered = ap Some equal; stands = ap Some (is-system entry.work s is) }

-- a system that a plan gives stands at a place of it
pub system-stands : {V S C N A M B : Type 0} {vd : _} {sd : _} {ad : _} {cd : _} {bd : _} (stages : List (Stage V S C N A M B vd sd ad cd bd)) (id : ℕ) (s : S) → plan_system id stages ≡ Some s → IsSystemOf stages id s
system-stands stages id s given =
    let stage = one-gives (stage_system id) stages s given in
    let group = one-gives (group_system id) stage.one.groups.items s stage.given in
    let entry = one-gives (entry_system id) group.one.entries.items s group.given in
    let in_group = listed-stands entry_plan own_state entry_states group.one.entries.items entry.place entry.one id s entry.at (entry-stands id entry.one s entry.given) in
    let in_stage = listed-stands group_plan (listed_states own_state) group_states stage.one.groups.items group.place group.one id s group.at in_group in
    let in_plan = listed-stands stage_plan (listed_states (listed_states own_state)) stage_states stages stage.place stage.one id s stage.at in_stage in
    record { path = in_plan.path; numbered = in_plan.numbered; stands = in_plan.stands }

-- so does one that is lent
pub lent-stands : {V S C N A M B : Type 0} {vd : _} {sd : _} {ad : _} {cd : _} {bd : _} (stages : List (Stage V S C N A M B vd sd ad cd bd)) (id : ℕ) (lent : Option (Bor S)) → option_map (λ s. s.now) lent ≡ plan_system id stages → IfSome lent (λ s. IsSystemOf stages id s.now)
lent-stands stages id None given = tt
lent-stands stages id (Some s) given = system-stands stages id s.now (sym given)
