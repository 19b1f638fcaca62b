use Rattle.std.proofs.Common.{◌≡◌, ◌∙◌, List, map, ap, subst, subst₂, sym, arith, rules}
use Rattle.std.specs.Arc.{arc_value}
use Rattle.shred_run.specs.Depths.{lists_of, steps_of}
use Rattle.shred_run.specs.OwnSlots.{LiesBefore, lent_before}
use Rattle.shred_run.specs.Rules.{RuleOwns, RuleStep}
use Rattle.shred_table.specs.declared.id.ResourceId.{ResourceId}
use Rattle.shred_table.specs.declared.table.Table.{Table}
use Rattle.shred_table.specs.Shown.{Lent}
use Rattle.shred_world.specs.Views.{lent_slot}
use Rattle.shred_run.proofs.Circle.Bounds.{bounded_beside}
use Rattle.shred_kept.specs.declared.level.Level.{Level}
use Rattle.shred_kept.specs.Lanes.{WentOver}
use Rattle.shred_kept.specs.Levels.{Reach}
use Rattle.shred_kept.proofs.Lanes.{ready-before}
use Rattle.shred_kept.proofs.Levels.{reach-before, reach-end, reach-more}
use Rattle.shred_kept.proofs.runner.+run_before.Goals as goal

pub run_here-requires : goal.run_here-requires
run_here-requires g t c =
    let own = RuleOwns (lists_of g.S.System g.C.BatchController) c.args.at in
    let levels = map arc_value c.args.levels.now in
    let stand = reach-end arc_value levels c.args.left.now c.args.shelf.now c.requires.reach c.in_default.ensures.cases (search rules) in
    (omega arith, (stand, ready-before own levels c.args.shelf.now c.args.groups.now.items stand c.requires.ready))

pub behind-nearest-requires : goal.behind-nearest-requires
behind-nearest-requires g t c =
    let levels = map arc_value c.args.levels.now in
    let level = arc_value c.in-Some.level.now in
    let table = ap (λ (level : Level g.row.V.Denot). level.table) c.deref.ensures in
    let ids = c.as_slice.ensures.value ∙ ap (λ (level : Level g.row.V.Denot). level.ids.items) c.deref-2.ensures in
    let reach = subst (λ (left : List (Level g.row.V.Denot)). Reach levels left c.args.shelf.now) (ap (map arc_value) c.in-Some.ensures.cases.0) c.requires.reach in
    (omega arith, subst₂ (λ (ids : List ResourceId) (table : Table g.row.V.Denot). LiesBefore ids c.args.shelf.now table) (sym ids) (sym table) (reach-before levels level (map arc_value c.in-Some.others.now) c.args.shelf.now reach))

pub run_before-requires : goal.run_before-requires
run_before-requires g t c κs within =
    let levels = map arc_value c.args.levels.now in
    let level = arc_value c.in-Some.level.now in
    let table = ap (λ (level : Level g.row.V.Denot). level.table) c.deref.ensures in
    let near : (id : ResourceId) → lent_slot c.behind-nearest.result id ≡ lent_before level.table (lent_slot c.args.shelf.now) id = λ id. c.behind-nearest.ensures id ∙ ap (λ (table : Table g.row.V.Denot). lent_before table (lent_slot c.args.shelf.now) id) table in
    let reach = subst (λ (left : List (Level g.row.V.Denot)). Reach levels left c.args.shelf.now) (ap (map arc_value) c.in-Some.ensures.cases.0) c.requires.reach in
    let fewer = c.in-Some.ensures.cases.1 in
    (omega (arith, fewer), bounded_beside within (omega arith, (reach-more levels level (map arc_value c.in-Some.others.now) c.args.shelf.now c.behind-nearest.result reach near, c.requires.ready)))

pub returns-in_default : goal.returns-in_default
returns-in_default g t c =
    let kind = g.V.ResourceValue.kind_of in
    let own = RuleOwns (lists_of g.S.System g.C.BatchController) c.args.at in
    let step = RuleStep kind (steps_of g.S.System g.C.BatchController) c.args.at in
    let stand = reach-end arc_value (map arc_value c.args.levels.now) c.args.left.now c.args.shelf.now c.requires.reach c.in_default.ensures.cases (search rules) in
    record { ran = subst (λ (lent : Lent g.row.V.Denot). WentOver own kind step lent c.args.groups.now.items c.run_here.result c.run_here.new.groups.items) (λ i id. stand.shows id i) c.run_here.ensures.ran }
