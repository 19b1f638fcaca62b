use Rattle.std.proofs.Common.{List, subst, refl}
use Rattle.std.specs.List.{AllZip}
use Rattle.shred_table.specs.declared.table.Table.{Table}
use Rattle.shred_table.specs.Parts.{IsJoined}
use Rattle.shred_world.proofs.Bundles.Grants.{same_loan}
use Rattle.shred_world.proofs.Parted.Beside.{ids-joined}
use Rattle.shred_world.proofs.Parted.Hands.{joined-others}
use Rattle.shred_world.proofs.world.parted.Parts.join.Goals as goal

pub returns-clause-joined : goal.returns-clause-joined
returns-clause-joined g c =
    let joined = subst (λ (hs : List (Table g.row.V.Denot)). AllZip (IsJoined c.move_all_back.new.table) c.args.self.pairs.now hs) c.as_mut_slice.ensures.value c.move_all_back.ensures.joined in
    record {
      joined = joined;
      ids = ids-joined g.V.ResourceValue.kind_of c.move_all_back.new.table c.args.self.pairs.now c.args.self.parted.value.items c.args.self.hands.items c.requires.kept joined;
      rest = c.move_all_back.ensures.rest;
    }

pub returns-clause-loan : goal.returns-clause-loan
returns-clause-loan g c =
    let slots = c.move_all_back.ensures.slots in
    same_loan g.V.ResourceValue.kind_of c.args.lender.now _ refl refl refl refl refl refl refl slots
    (joined-others c.args.self.pairs.now c.args.lender.now c.move_all_back.new.table c.requires.out c.move_all_back.ensures.rest slots)
