use Rattle.std.proofs.Common.{◌∙◌, ◌∷◌, [], ap, map, arith}
use Rattle.std.proofs.lemmas.List.{map-append}
use Rattle.std.specs.Arc.{arc_value}
use Rattle.shred_kept.proofs.Levels.{exchanged}
use Rattle.shred_kept.proofs.laying.exchange.Goals as goal

pub push_reserved-requires : goal.push_reserved-requires
push_reserved-requires g c =
    let before = c.args.laid.now.ok in
    let popped = c.pop.new.self.ok in
    let one = c.in-Some.ensures.cases in
    let kept = c.pop.ensures.capacity in
    omega arith

pub returns : goal.returns
returns g c =
    let front = map arc_value c.pop.new.self.items in
    let at = ap (map arc_value) c.in-Some.ensures.items ∙ map-append arc_value c.pop.new.self.items (c.in-Some.level ∷ []) in
    let now = ap (map arc_value) c.push_reserved.ensures.items ∙ map-append arc_value c.pop.new.self.items (c.swap_table.new.level ∷ []) in
    exchanged (map arc_value c.args.laid.now.items) front (map arc_value c.push_reserved.new.self.items) (arc_value c.in-Some.level) (arc_value c.swap_table.new.level) c.args.table.now c.swap_table.new.table at now c.swap_table.ensures.level c.swap_table.ensures.table
