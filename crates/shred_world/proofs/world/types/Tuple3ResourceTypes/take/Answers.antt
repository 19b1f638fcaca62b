use Rattle.std.proofs.Common.{◌∙◌, [], ◌∷◌}
use Rattle.shred_table.specs.Id.{id_of}
use Rattle.shred_world.specs.Grants.{given_back, grant_of}
use Rattle.shred_world.proofs.world.types.Tuple3ResourceTypes.take.Goals as goal

pub returns-in-Ok-clause-undone : goal.returns-in-Ok-clause-undone
returns-in-Ok-clause-undone g c =
    (λ i. given_back (grant_of g.V.ResourceValue.kind_of c.system_data.new.self) ((id_of g.A.Resource.KIND 0, g.A.Resource.wrapped (c.into_resource.ensures i)) ∷ (id_of g.B.Resource.KIND 0, g.B.Resource.wrapped (c.into_resource-in-Ok.ensures i)) ∷ (id_of g.C.Resource.KIND 0, g.C.Resource.wrapped (c.into_resource-in-Ok-2.ensures i)) ∷ []))
    ∙ c.in-Ok.ensures.undone
