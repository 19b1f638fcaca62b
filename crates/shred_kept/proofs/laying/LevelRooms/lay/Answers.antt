use Rattle.std.proofs.Common.{rules, ◌≡◌, ◌∙◌, ◌++◌, ◌∷◌, [], true, ap, map}
use Rattle.std.proofs.lemmas.List.{map-append}
use Rattle.std.specs.Arc.{arc_value}
use Rattle.shred_kept.proofs.laying.LevelRooms.lay.Goals as goal

pub returns-clause-laid : goal.returns-clause-laid
returns-clause-laid g c =
    let was : c.fill.result ≡ true = search rules in
    let filled = c.fill.ensures.0 was in
    let level = c.fill.new.level in
    (arc_value level, ap (map arc_value) c.push_reserved.ensures.items ∙ map-append arc_value c.in-Some.laid.items (level ∷ []) ∙ ap (λ levels. levels ++ arc_value level ∷ []) c.in-Some.ensures.copied, filled.0, filled.1)
