use Rattle.std.proofs.Common.{rules}
use Rattle.shred_world.proofs.world.absent.OptionWriteSystemData.fetch.Goals as goal

pub returns-in-None-clause-refused : goal.returns-in-None-clause-refused
returns-in-None-clause-refused g c = search rules

pub returns-in-Some-clause-loan : goal.returns-in-Some-clause-loan
returns-in-Some-clause-loan g c = c.take_out.ensures.loan

pub returns-in-None-clause-loan : goal.returns-in-None-clause-loan
returns-in-None-clause-loan g c = c.take_out.ensures.loan

pub returns-in_err-resource-clause-loan : goal.returns-in_err-resource-clause-loan
returns-in_err-resource-clause-loan g c = c.take_out.ensures.loan
