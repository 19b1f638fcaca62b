use Rattle.std.proofs.Common.{◌≡◌, ◌<◌, [], false, true, length, arith, ◌∙◌, ap}
use Rattle.std.specs.Prelude.{slice_index_or}
use Rattle.std.proofs.lemmas.Option.{slice_get-get_or}
use Rattle.shred_model.specs.Plan.{group_ids, stage_ids}
use Rattle.shred_stage.specs.Names.{first_unnamed, named_ids}
use Rattle.shred_stage.specs.StagePlan.{stage_plan}
use Rattle.shred_stage.proofs.Names.Known.{unnamed-next, unnamed-found}
use Rattle.shred_stage.proofs.dispatch.printing.first_unnamed_in.Goals as goal
use Rattle.shred_stage.proofs.dispatch.printing.first_unnamed_in.Goals.{in-Some+in_default-first_unnamed_of, in_default}

pub returns-in-Some-first_unnamed_of : goal.returns-in-Some-first_unnamed_of
returns-in-Some-first_unnamed_of g c =
    let stage = stage_plan c.args.stage.now in
    let place = c.loop-place.place in
    let names = named_ids c.args.names.now in
    let within : place < length stage = omega (arith, c.loop-place-test.true, c.max_threads-place-end.ensures) in
    unnamed-found names group_ids stage place (slice_index_or stage place []) (first_unnamed names (stage_ids stage)) c.in-Some-first_unnamed_of.id.0 (slice_get-get_or stage place [] within) c.loop-place.invariant
    (c.in-Some-first_unnamed_of.ensures ∙ ap (first_unnamed names) c.in-Some.ensures.ids)

pub loop-place-preserved : goal.loop-place-preserved
loop-place-preserved g c =
    let stage = stage_plan c.args.stage.now in
    let place = c.loop-place.place in
    let names = named_ids c.args.names.now in
    let within : place < length stage = omega (arith, c.loop-place-test.true, c.max_threads-place-end.ensures) in
    elim c.match-group_ids.branch [
      | in-Some+in_default-first_unnamed_of w ↦
          unnamed-next names group_ids stage place (slice_index_or stage place []) (first_unnamed names (stage_ids stage)) (slice_get-get_or stage place [] within) c.loop-place.invariant
          (w.in_default-first_unnamed_of.ensures ∙ ap (first_unnamed names) w.in-Some.ensures.ids)
      | in_default w ↦ absurd (let f : false ≡ true = w.in_default.ensures.some.1 within in cc)
    ]
