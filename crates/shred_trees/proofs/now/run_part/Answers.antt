use Rattle.std.proofs.Common.{[]}
use Rattle.shred_world.specs.Beside.{lent_behind}
use Rattle.shred_world.specs.Views.{view_slot}
use Rattle.shred_table.specs.Parts.{Pair}
use Rattle.shred_table.specs.Shown.{Lent}
use Rattle.shred_trees.specs.Leaves.{exact_trees}
use Rattle.shred_trees.proofs.Joined.{one-ran}
use Rattle.shred_trees.proofs.now.run_part.Goals as goal

pub returns-clause-ran : goal.returns-clause-ran
returns-clause-ran g c =
    let none : Pair = (record { ref_ptr = (0, 0); now = [] }, record { ref_ptr = (0, 0); now = [] }) in
    let behind : Lent g.row.V.Denot = lent_behind c.behind-behind.result in
    one-ran {E = g.row.S-Error.Denot} g.V.ResourceValue.kind_of (exact_trees g.S.System.step g.S.System.sets_up g.S.System.reads g.S.System.writes) (view_slot c.args.lender.now) behind c.behind-behind.ensures.shelf
    c.args.system.now c.run_over.new.system c.run_over.result c.index_mut.result.now c.run_over.new.hand none c.args.parts.now.pairs.now c.behind-behind.result.pairs.now c.args.parts.now.hands.items
    c.behind-behind.ensures.pairs c.requires.pairs c.requires.hands c.index_mut.ensures.value c.run_over.ensures
