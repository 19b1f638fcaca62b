use Rattle.std.proofs.Common.{◌++◌, refl}
use Rattle.shred_world.specs.Grants.{grant_of}
use Rattle.shred_world.proofs.Bundles.Both.{passed_both, shown_both, moved_both, taken_both, refused_last, out_again, given_again}
use Rattle.shred_world.proofs.Bundles.Parts.{refused_first}
use Rattle.shred_world.proofs.world.tuples.Tuple6SystemData.fetch.Goals as goal

pub returns-in-Err-clause-refused : goal.returns-in-Err-clause-refused
returns-in-Err-clause-refused g c = refused_first (grant_of g.V.ResourceValue.kind_of c.args.view.now) ((g.A.SystemData.parts ++ g.B.SystemData.parts) ++ g.C.SystemData.parts) ((g.D.SystemData.parts ++ g.E.SystemData.parts) ++ g.F.SystemData.parts) c.in-Err.error c.in-Err.ensures.refused

pub give_back-requires : goal.give_back-requires
give_back-requires g c = λ κs. ((refl, tt), out_again (grant_of g.V.ResourceValue.kind_of c.args.view.now) _ _ ((g.A.SystemData.parts ++ g.B.SystemData.parts) ++ g.C.SystemData.parts) _ c.in-Ok.ensures.taken c.in-Ok.ensures.moved c.in-Ok.ensures.passed c.in-Err-fetch.ensures.unchanged)

pub returns-in-Ok-fetch-clause-passed : goal.returns-in-Ok-fetch-clause-passed
returns-in-Ok-fetch-clause-passed g c = passed_both (grant_of g.V.ResourceValue.kind_of c.args.view.now) _ ((g.A.SystemData.parts ++ g.B.SystemData.parts) ++ g.C.SystemData.parts) ((g.D.SystemData.parts ++ g.E.SystemData.parts) ++ g.F.SystemData.parts) c.in-Ok.ensures.taken c.in-Ok.ensures.passed c.in-Ok-fetch.ensures.passed

pub returns-in-Ok-fetch-clause-shown : goal.returns-in-Ok-fetch-clause-shown
returns-in-Ok-fetch-clause-shown g c = shown_both (grant_of g.V.ResourceValue.kind_of c.args.view.now) _ ((g.A.SystemData.parts ++ g.B.SystemData.parts) ++ g.C.SystemData.parts) ((g.D.SystemData.parts ++ g.E.SystemData.parts) ++ g.F.SystemData.parts) _ _ c.in-Ok.ensures.taken c.in-Ok.ensures.shown c.in-Ok-fetch.ensures.shown

pub returns-in-Ok-fetch-clause-moved : goal.returns-in-Ok-fetch-clause-moved
returns-in-Ok-fetch-clause-moved g c = moved_both (grant_of g.V.ResourceValue.kind_of c.args.view.now) _ ((g.A.SystemData.parts ++ g.B.SystemData.parts) ++ g.C.SystemData.parts) ((g.D.SystemData.parts ++ g.E.SystemData.parts) ++ g.F.SystemData.parts) _ _ c.in-Ok.ensures.taken c.in-Ok.ensures.moved c.in-Ok-fetch.ensures.moved

pub returns-in-Ok-fetch-clause-taken : goal.returns-in-Ok-fetch-clause-taken
returns-in-Ok-fetch-clause-taken g c = taken_both (grant_of g.V.ResourceValue.kind_of c.args.view.now) _ _ ((g.A.SystemData.parts ++ g.B.SystemData.parts) ++ g.C.SystemData.parts) ((g.D.SystemData.parts ++ g.E.SystemData.parts) ++ g.F.SystemData.parts) c.in-Ok.ensures.taken c.in-Ok-fetch.ensures.taken

pub returns-in-Err-fetch-clause-refused : goal.returns-in-Err-fetch-clause-refused
returns-in-Err-fetch-clause-refused g c = refused_last (grant_of g.V.ResourceValue.kind_of c.args.view.now) _ ((g.A.SystemData.parts ++ g.B.SystemData.parts) ++ g.C.SystemData.parts) ((g.D.SystemData.parts ++ g.E.SystemData.parts) ++ g.F.SystemData.parts) c.in-Err-fetch.error c.in-Ok.ensures.taken c.in-Ok.ensures.passed c.in-Err-fetch.ensures.refused

pub returns-in-Err-fetch-clause-unchanged : goal.returns-in-Err-fetch-clause-unchanged
returns-in-Err-fetch-clause-unchanged g c = given_again (grant_of g.V.ResourceValue.kind_of c.args.view.now) _ _ _ ((g.A.SystemData.parts ++ g.B.SystemData.parts) ++ g.C.SystemData.parts) _ c.in-Ok.ensures.taken c.in-Ok.ensures.moved c.in-Ok.ensures.passed c.in-Err-fetch.ensures.unchanged c.give_back.ensures.returned
