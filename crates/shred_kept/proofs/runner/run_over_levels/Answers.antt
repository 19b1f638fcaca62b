use Rattle.std.proofs.Common.{◌≡◌, ◌∙◌, [], map, ap, arith}
use Rattle.std.specs.Arc.{arc_value}
use Rattle.shred_run.specs.OwnSlots.{lent_before}
use Rattle.shred_table.specs.declared.id.ResourceId.{ResourceId}
use Rattle.shred_table.specs.declared.table.Table.{Table}
use Rattle.shred_world.specs.Views.{lent_slot}
use Rattle.shred_kept.specs.declared.level.Level.{Level}
use Rattle.shred_kept.proofs.Levels.{reach-start}
use Rattle.shred_kept.proofs.runner.run_over_levels.Goals as goal

pub run_before-requires : goal.run_before-requires
run_before-requires g c =
    let level = arc_value c.in-Some.level.now in
    let at = ap (map arc_value) c.in-Some.ensures.cases.0 in
    let table = ap (λ (level : Level g.row.V.Denot). level.table) c.deref.ensures in
    let near : (id : ResourceId) → lent_slot c.behind-nearest.result id ≡ lent_before level.table (lent_slot []) id = λ id. c.behind-nearest.ensures id ∙ ap (λ (table : Table g.row.V.Denot). lent_before table (lent_slot []) id) table in
    (omega arith, (reach-start (map arc_value c.args.levels.now) level (map arc_value c.in-Some.others.now) c.behind-nearest.result c.requires.ready.laid at near, c.requires.ready.ready))
