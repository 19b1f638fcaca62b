-- Whether an entry has to come after a group, as tests of plain data.
use Rattle.std.specs.Prelude.{ℕ, Bool, ◌||◌, nat_eq, List}
use Rattle.std.specs.List.{list_any}
use Rattle.shred_model.specs.Access.{Access}
use Rattle.shred_model.specs.Plan.{Group, group_ids}

-- some item of the one list is the same as one of the other
abbrev pub share_item : {T : Type 0} → (T → T → Bool) → List T → List T → Bool
share_item same xs ys = list_any (λ x. list_any (λ y. same y x) ys) xs

-- one writes what the other reads or writes
abbrev pub accesses_conflict : {I : Type 0} → (I → I → Bool) → Access I → Access I → Bool
accesses_conflict same a b = share_item same a.writes b.writes || (share_item same a.writes b.reads || share_item same a.reads b.writes)

-- some entry of the group conflicts
abbrev pub group_conflicts : {I : Type 0} → (I → I → Bool) → Access I → Group I → Bool
group_conflicts same access group = list_any (λ e. accesses_conflict same e.access access) group

-- the group holds an id of the list
abbrev pub holds_any : {I : Type 0} → List ℕ → Group I → Bool
holds_any ids group = share_item nat_eq (group_ids group) ids

-- the group holds an id that is left, or conflicts
abbrev pub is_touched : {I : Type 0} → (I → I → Bool) → List ℕ → Access I → Group I → Bool
is_touched same left access group = holds_any left group || group_conflicts same access group
