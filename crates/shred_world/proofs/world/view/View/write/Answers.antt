use Rattle.std.proofs.Common.{◌≡◌, Option, Some, None, true, cond, refl, sym, ap, ◌∙◌}
use Rattle.std.specs.Prelude.{is_some}
use Rattle.shred_world.specs.declared.world.view.DataError.TheVariants.{Missing}
use Rattle.shred_table.specs.Slots.{slot_held}
use Rattle.shred_world.specs.Views.{view_held, may_write, is_out}
use Rattle.shred_world.proofs.Views.Refusals.{refusal-passed, refusal-rest, written-own, written-held, slot-held}
use Rattle.shred_table.proofs.Tables.Slots.{OnSome-here}
use Rattle.shred_world.proofs.Views.KeptIds.{declared-same, ids-kept}
use Rattle.shred_world.proofs.Views.Shown.{view_kept, view_written}
use Rattle.shred_world.proofs.world.view.View.write.Goals as goal

pub returns-in_default-resource_mut_near : goal.returns-in_default-resource_mut_near
returns-in_default-resource_mut_near g c =
    let kind = g.V.ResourceValue.kind_of in
    let passed = refusal-passed g.R.Resource.KIND c.args.id c.may_write_at.result (is_out c.args.self.now c.args.id) (sym c.in_default.ensures) in
    let declared : may_write c.args.self.now c.args.id ≡ true = sym c.may_write_at.ensures ∙ passed.1 in
    let none : view_held kind c.args.self.now c.args.id ≡ None = written-held c.args.self.now c.args.id declared kind ∙ c.in_default-resource_mut_near.ensures.missing passed.0 in (
      (refl, (λ w e. absurd (cc)), let kept = view_kept kind c.args.self.now _ refl refl refl refl c.resource_mut_near.follows.holds-at-none.1 refl refl refl c.resource_mut_near.follows.holds-at-none.0 in record { view = kept.0; held = kept.1; declared = declared-same kind c.args.self.now _ kept.0 kept.1 }),
      record { refused = sym (refusal-rest g.R.Resource.KIND c.args.id _ _ _ (passed.0, declared, passed.2) ∙ ap (λ (o : Option g.row.V.Denot). cond (is_some o) None (Some (Missing c.args.id))) none); shown = tt; written = tt },
    )

pub returns : goal.returns
returns g c =
    let kind = g.V.ResourceValue.kind_of in
    let passed = refusal-passed g.R.Resource.KIND c.args.id c.may_write_at.result (is_out c.args.self.now c.args.id) (sym c.in_default.ensures) in
    let declared : may_write c.args.self.now c.args.id ≡ true = sym c.may_write_at.ensures ∙ passed.1 in
    let here = c.in-Some.ensures.shown in
    let law : (r : g.row.R.Denot) → kind (g.R.Resource.wrapped r) ≡ c.args.id.kind = λ r. g.met.R.Resource.wrapped_kind r ∙ passed.0 in
    let some : view_held kind c.args.self.now c.args.id ≡ Some (g.R.Resource.wrapped c.in-Some.resource.now) =
    written-held c.args.self.now c.args.id declared kind ∙ ap (slot_held kind c.args.id) here ∙ slot-held kind c.args.id _ (law c.in-Some.resource.now) in (
      (refl, (λ w e. let written = view_written kind c.args.self.now _ refl refl refl refl (c.resource_mut_near.follows.holds w).1 refl refl refl c.args.id (g.R.Resource.wrapped c.in-Some.resource.now) (g.R.Resource.wrapped w) (written-own c.args.self.now c.args.id declared) (law w) here (OnSome-here c.resource_mut_near.result c.in-Some.resource c.in-Some.is (c.resource_mut_near.follows.holds w).0) in record { view = written.0; held = written.1; ids = ids-kept (view_held kind c.args.self.now) _ c.args.id (g.R.Resource.wrapped w) (ap is_some some) written.1 }), tt),
      record { refused = sym (refusal-rest g.R.Resource.KIND c.args.id _ _ _ (passed.0, declared, passed.2) ∙ ap (λ (o : Option g.row.V.Denot). cond (is_some o) None (Some (Missing c.args.id))) some); shown = some; written = tt },
    )
