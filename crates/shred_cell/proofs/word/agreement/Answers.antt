use Rattle.std.proofs.Common.{refl}
use Rattle.shred_cell.specs.declared.word.Word.TheVariants.{Free}
use Rattle.shred_cell.specs.Agreement.{nobody}
use Rattle.shred_cell.proofs.Holders.{agreed}
use Rattle.shred_cell.proofs.word.agreement.Goals as goal

pub returns : goal.returns
returns c = λ steps word holders goes. agreed Free nobody steps word holders (refl, refl) goes
