-- What a clause sees of a cell and of its guards.
use Rattle.std.specs.Prelude.{Option, option_and_then, option_map}
use Rattle.shred_cell.specs.declared.cell.TrustCell.{TrustCell}
use Rattle.shred_cell.specs.declared.cell.Ref.{Ref}
use Rattle.shred_cell.specs.declared.cell.RefMut.{RefMut}

-- the tag that a cell was made with: what of its values is known is the fact of this tag
abbrev pub tag_of : {T F K : Type 0} → TrustCell T F K → K
tag_of cell = cell.slot

-- the tag of the cell whose value a guard shows
abbrev pub guard_tag : {T F K : Type 0} → Ref T F K → K
guard_tag guard = guard.hand.tag

-- the value that a guard shows, for as long as it lives
abbrev pub shown_by : {T F K : Type 0} → Ref T F K → Option T
shown_by guard = option_and_then (λ place. option_map (λ kept. kept.value) place) guard.hand.value

-- the value that a guard has taken from its cell, to write
abbrev pub value_to_write : {T : Type 0} → RefMut T → T
value_to_write guard = guard.value
