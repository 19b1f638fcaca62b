use Rattle.std.proofs.Common.{List, inl, inr, refl, sym, subst, ap, ◌∙◌}
use Rattle.shred_table.specs.declared.id.ResourceId.{ResourceId}
use Rattle.shred_table.specs.Slots.{among}
use Rattle.shred_world.proofs.Bundles.Kept.{bundle-kept, refused-kept}
use Rattle.shred_world.specs.Views.{declared_held}
use Rattle.shred_world.specs.Worked.{Held}
use Rattle.shred.specs.Typed.{held_with}
use Rattle.shred.proofs.Taken.{left-whole, out-alone, same-held, seen-whole}
use Rattle.shred.proofs.typed.TypedAnySystemAny.run.Goals as goal

pub returns-in-Err-clause-step : goal.returns-in-Err-clause-step
returns-in-Err-clause-step g c =
    inl (record {
      view = c.args.view.now;
      error = c.in-Err.error;
      fault = c.from.result;
      lent = c.requires.lent;
      shown = refl;
      refused = c.in-Err.ensures.refused;
      told = c.from.ensures;
      ended = refl;
      state = refl;
      values = same-held g.V.ResourceValue.kind_of c.args.view.now c.take.new.view c.in-Err.ensures.unchanged;
    })

pub returns-in-Err-clause-view : goal.returns-in-Err-clause-view
returns-in-Err-clause-view g c = (refused-kept g.V.ResourceValue.kind_of c.args.view.now c.take.new.view c.in-Err.ensures.loan c.in-Err.ensures.unchanged).view

pub returns-in-Err-clause-ids : goal.returns-in-Err-clause-ids
returns-in-Err-clause-ids g c = (refused-kept g.V.ResourceValue.kind_of c.args.view.now c.take.new.view c.in-Err.ensures.loan c.in-Err.ensures.unchanged).ids

pub returns-in-Err-clause-frame : goal.returns-in-Err-clause-frame
returns-in-Err-clause-frame g c = (refused-kept g.V.ResourceValue.kind_of c.args.view.now c.take.new.view c.in-Err.ensures.loan c.in-Err.ensures.unchanged).frame

pub run-outcome-requires-clause-out : goal.run-outcome-requires-clause-out
run-outcome-requires-clause-out g c q =
    let moved = g.T.Data.Writes.ResourceTypes.moved c.in-Ok.written in
    out-alone g.V.ResourceValue.kind_of c.args.view.now c.take.new.view g.T.Data.Reads.ResourceTypes.ids g.T.Data.Writes.ResourceTypes.ids c.requires.lent moved c.in-Ok.ensures.undone c.in-Ok.ensures.out q
    ∙ ap (λ (ids : List ResourceId). among ids q) (g.met.T.Data.Writes.ResourceTypes.same_ids c.in-Ok.written)

pub returns-clause-step : goal.returns-clause-step
returns-clause-step g c =
    let kind = g.V.ResourceValue.kind_of in
    let T = g.T.TypedSystem in
    let reads = g.T.Data.Reads.ResourceTypes.ids in
    let writes = g.T.Data.Writes.ResourceTypes.ids in
    let moved = g.T.Data.Writes.ResourceTypes.moved in
    let middle = c.take.new.view in
    let seen = seen-whole kind c.args.view.now middle reads writes c.requires.lent (moved c.in-Ok.written) c.in-Ok.ensures.undone in
    let left = left-whole kind c.args.view.now middle reads writes c.requires.lent (moved c.in-Ok.written) c.in-Ok.ensures.undone c.give_back.new.view (moved c.run-outcome.new.written) c.give_back.ensures.returned in
    let leads = subst (λ (after : Held g.row.V.Denot). T.step c.args.self.now.0 (held_with kind reads writes middle (moved c.in-Ok.written)) c.run-outcome.result c.run-outcome.new.self after) left c.run-outcome.ensures in
    inr (record {
      view = c.args.view.now;
      lent = c.requires.lent;
      shown = refl;
      passed = c.in-Ok.ensures.passed;
      lies = subst (λ (before : Held g.row.V.Denot). T.step c.args.self.now.0 before c.run-outcome.result c.run-outcome.new.self (declared_held kind c.give_back.new.view)) seen leads;
    })

pub returns-clause-view : goal.returns-clause-view
returns-clause-view g c =
    (bundle-kept g.V.ResourceValue.kind_of c.args.view.now g.T.Data.Reads.ResourceTypes.ids g.T.Data.Writes.ResourceTypes.ids c.requires.lent c.take.new.view c.give_back.new.view g.T.Data.Writes.ResourceTypes.parts
    (g.T.Data.Writes.ResourceTypes.moved c.in-Ok.written) (g.T.Data.Writes.ResourceTypes.moved c.run-outcome.new.written) c.in-Ok.ensures.passed c.in-Ok.ensures.moved c.in-Ok.ensures.undone c.in-Ok.ensures.loan
    c.give_back.ensures.loan c.give_back.ensures.returned (g.met.T.Data.Writes.ResourceTypes.same_ids c.run-outcome.new.written ∙ sym (g.met.T.Data.Writes.ResourceTypes.same_ids c.in-Ok.written))).view

pub returns-clause-ids : goal.returns-clause-ids
returns-clause-ids g c =
    (bundle-kept g.V.ResourceValue.kind_of c.args.view.now g.T.Data.Reads.ResourceTypes.ids g.T.Data.Writes.ResourceTypes.ids c.requires.lent c.take.new.view c.give_back.new.view g.T.Data.Writes.ResourceTypes.parts
    (g.T.Data.Writes.ResourceTypes.moved c.in-Ok.written) (g.T.Data.Writes.ResourceTypes.moved c.run-outcome.new.written) c.in-Ok.ensures.passed c.in-Ok.ensures.moved c.in-Ok.ensures.undone c.in-Ok.ensures.loan
    c.give_back.ensures.loan c.give_back.ensures.returned (g.met.T.Data.Writes.ResourceTypes.same_ids c.run-outcome.new.written ∙ sym (g.met.T.Data.Writes.ResourceTypes.same_ids c.in-Ok.written))).ids

pub returns-clause-frame : goal.returns-clause-frame
returns-clause-frame g c =
    (bundle-kept g.V.ResourceValue.kind_of c.args.view.now g.T.Data.Reads.ResourceTypes.ids g.T.Data.Writes.ResourceTypes.ids c.requires.lent c.take.new.view c.give_back.new.view g.T.Data.Writes.ResourceTypes.parts
    (g.T.Data.Writes.ResourceTypes.moved c.in-Ok.written) (g.T.Data.Writes.ResourceTypes.moved c.run-outcome.new.written) c.in-Ok.ensures.passed c.in-Ok.ensures.moved c.in-Ok.ensures.undone c.in-Ok.ensures.loan
    c.give_back.ensures.loan c.give_back.ensures.returned (g.met.T.Data.Writes.ResourceTypes.same_ids c.run-outcome.new.written ∙ sym (g.met.T.Data.Writes.ResourceTypes.same_ids c.in-Ok.written))).frame
