-- The printed plan.
use Rattle.std.specs.Prelude.{ℕ, ◌==◌, ◌||◌, codes, cond, List, [], ◌∷◌, ◌++◌, map, unwrap_or}
use Rattle.std.specs.List.{flat_map}
use Rattle.std.specs.Str.{byte}
use Rattle.shred_model.specs.Plan.{Group, Stage, Plan, group_ids}
use Rattle.shred_stage.specs.Names.{NamedId, least_name}

-- a tab
abbrev pub tab : List ℕ
tab = 9 ∷ []

-- a line feed
abbrev pub line_feed : List ℕ
line_feed = 10 ∷ []

-- _ in the place of a space, of - and of /
abbrev pub cleaned : ℕ → ℕ
cleaned b = cond (b == byte " " || (b == byte "-" || b == byte "/")) (byte "_") b

-- the name that is printed for an id: its least, with each byte cleaned
abbrev pub printed_name : List NamedId → ℕ → List ℕ
printed_name names id = map cleaned (unwrap_or (least_name names id) [])

-- three tabs, the name and a comma
abbrev pub system_line : List NamedId → ℕ → List ℕ
system_line names id = tab ++ tab ++ tab ++ (printed_name names id ++ (codes "," ++ line_feed))

-- the lines of a group's systems, within seq![ and ], behind two tabs
abbrev pub ids_text : List NamedId → List ℕ → List ℕ
ids_text names ids = tab ++ tab ++ codes "seq![" ++ line_feed ++ (flat_map (system_line names) ids ++ (tab ++ tab ++ codes "]," ++ line_feed))

-- the lines of a group
abbrev pub group_text : {I : Type 0} → List NamedId → Group I → List ℕ
group_text names group = ids_text names (group_ids group)

-- the texts of a stage's groups, within par![ and ], behind a tab
abbrev pub stage_text : {I : Type 0} → List NamedId → Stage I → List ℕ
stage_text names stage = tab ++ codes "par![" ++ line_feed ++ (flat_map (group_text names) stage ++ (tab ++ codes "]," ++ line_feed))

-- the texts of a plan's stages, within seq![ and ]
abbrev pub plan_text : {I : Type 0} → List NamedId → Plan I → List ℕ
plan_text names plan = codes "seq![" ++ line_feed ++ (flat_map (stage_text names) plan ++ (codes "]" ++ line_feed))
