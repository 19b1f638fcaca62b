use Rattle.shred_world.specs.Grants.{grant_of}
use Rattle.shred_world.proofs.Bundles.Parts.{all_given}
use Rattle.shred_world.proofs.world.view.View.give_back.Goals as goal

pub returns-clause-nothing_out : goal.returns-clause-nothing_out
returns-clause-nothing_out g c =
    let kind = g.V.ResourceValue.kind_of in
    all_given (grant_of kind c.args.self.now) (grant_of kind c.give_back.new.view) (g.D.SystemData.moved c.args.bundle) c.give_back.ensures.returned
