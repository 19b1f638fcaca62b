use Rattle.std.proofs.Common.{List, ◌∙◌, ap}
use Rattle.shred_table.specs.declared.id.ResourceId.{ResourceId}
use Rattle.shred_table.specs.Slots.{among}
use Rattle.shred_table.proofs.Tables.Members.{among-keys, IfOk-follows}
use Rattle.shred_table.proofs.table.Table.ids.Goals as goal

pub returns : goal.returns
returns g c = IfOk-follows c.ids.result (λ ids is q. ap (λ (l : List ResourceId). among l q) is ∙ among-keys c.args.self.now.slots.slots.items q) c.ids.ensures
