use Rattle.shred_world.proofs.world.absent.OptionReadSystemData.fetch.Goals as goal

pub returns-in-Some-clause-loan : goal.returns-in-Some-clause-loan
returns-in-Some-clause-loan g c = c.hand_out.ensures.loan

pub returns-in-None-clause-loan : goal.returns-in-None-clause-loan
returns-in-None-clause-loan g c = c.hand_out.ensures.loan

pub returns-in_err-resource-clause-loan : goal.returns-in_err-resource-clause-loan
returns-in_err-resource-clause-loan g c = c.hand_out.ensures.loan
