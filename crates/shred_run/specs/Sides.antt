-- The ids that the entries of a plan read, and those that they write.
use Rattle.std.specs.Prelude.{List}
use Rattle.std.specs.List.{flat_map}
use Rattle.shred_model.specs.Access.{Access}
use Rattle.shred_model.specs.Plan.{Group, Stage, Plan}
use Rattle.shred_run.specs.declared.entry.Side.{Side}
use Rattle.shred_run.specs.declared.entry.Side.TheVariants.{Reads, Writes}

-- one of the two lists of an access
abbrev pub side_of : {I : Type 0} → Side → Access I → List I
side_of Reads access = access.reads
side_of Writes access = access.writes

-- this list of each entry of a group, in order
abbrev pub group_side : {I : Type 0} → Side → Group I → List I
group_side side group = flat_map (λ e. side_of side e.access) group

-- the same of the groups of a stage
abbrev pub stage_side : {I : Type 0} → Side → Stage I → List I
stage_side side stage = flat_map (group_side side) stage

-- all that the entries of a plan read
abbrev pub plan_reads : {I : Type 0} → Plan I → List I
plan_reads plan = flat_map (stage_side Reads) plan

-- all that the entries of a plan write
abbrev pub plan_writes : {I : Type 0} → Plan I → List I
plan_writes plan = flat_map (stage_side Writes) plan
