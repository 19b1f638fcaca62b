use Rattle.std.proofs.Common.{rules, tests}
use Rattle.std.specs.List.{list_any}
use Rattle.std.proofs.lemmas.Iterator.{YieldsList-from_slice}
use Rattle.std.proofs.lemmas.Iterator.Search.{any_from_yields_List}
use Rattle.shred_table.proofs.util.check_intersection.Goals as goal

pub returns : goal.returns
returns g c = any_from_yields_List (λ x. list_any (λ y. g.T.PartialEq.eq y x) c.args.second.now) _ _ _ c.any.ensures.ran (YieldsList-from_slice c.args.first.now cc) (λ x b q k. search (rules, tests))
