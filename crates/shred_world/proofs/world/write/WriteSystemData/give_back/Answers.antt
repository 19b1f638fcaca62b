use Rattle.std.proofs.Common.{◌∙◌, ap}
use Rattle.shred_table.specs.declared.id.ResourceId.{ResourceId}
use Rattle.shred_table.specs.Id.{id_of}
use Rattle.shred_world.specs.Grants.{grant_of, with_back}
use Rattle.shred_world.proofs.world.write.WriteSystemData.give_back.Goals as goal

pub returns-clause-returned : goal.returns-clause-returned
returns-clause-returned g c =
    let T = g.T.Resource in
    let before = grant_of g.V.ResourceValue.kind_of c.args.view.now in
    c.put_back.ensures.after
    ∙ ap (λ (id : ResourceId). with_back before id (T.wrapped c.into_resource.result)) c.new.ensures
    ∙ ap (λ (r : g.row.T.Denot). with_back before (id_of T.KIND 0) (T.wrapped r)) c.into_resource.ensures
