use Rattle.std.proofs.Common.{List, subst, rules}
use Rattle.std.proofs.lemmas.Option.{IfSome_then}
use Rattle.shred_table.specs.declared.id.ResourceId.{ResourceId}
use Rattle.shred_kept.specs.Levels.{HasLaid, levels_of}
use Rattle.shred_kept.proofs.lane_crew.LaneCrew.room_for.Goals as goal

pub returns-clause-several : goal.returns-clause-several
returns-clause-several g c = IfSome_then c.lay.result c.lay.ensures.laid (λ laid has. search rules)

pub returns-clause-room : goal.returns-clause-room
returns-clause-room g c = IfSome_then c.lay.result c.lay.ensures.laid (λ laid has. (c.new-none.result, subst (λ (ids : List ResourceId). HasLaid (levels_of c.args.levels.now) ids c.new-none.result (levels_of laid.items)) c.as_slice-2.ensures.value has))
