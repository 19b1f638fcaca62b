-- Controllers that say once how often their plan is run.
use Rattle.shred_run.specs.declared.multi.MultiDispatcher.{MultiDispatcher}

-- what says how often
abbrev pub controller_of : {C : Type 0} → MultiDispatcher C → C
controller_of multi = multi.controller
