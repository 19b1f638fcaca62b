-- What a clause sees of a table of kinds.
use Rattle.std.specs.Prelude.{List, ◌≡◌, true, false, Option, MatchOption}
use Rattle.shred_table.specs.declared.id.Kind.{Kind}
use Rattle.shred_meta.specs.declared.meta.MetaTable.{MetaTable}
use Rattle.std.specs.Borrow.{Bor, MutBor}
use Rattle.shred_meta.specs.Kinds.{is_registered}

-- the registered kinds, in the order of first registration
abbrev pub kinds_of : {V : Type 0} → MetaTable V → List Kind
kinds_of table = table.kinds.keys

-- the value is shown where its kind is registered, and nothing where it is not
abbrev pub ShowsRegistered : {V : Type 0} → (V → Kind) → List Kind → V → Option (Bor V) → Type 0
ShowsRegistered kind kinds value result = MatchOption result (is_registered kinds (kind value) ≡ false) (λ shown. (is_registered kinds (kind value) ≡ true) × (shown.now ≡ value))

-- the same, to be written
abbrev pub LendsRegistered : {V : Type 0} → (V → Kind) → List Kind → V → Option (MutBor V) → Type 0
LendsRegistered kind kinds value result = MatchOption result (is_registered kinds (kind value) ≡ false) (λ shown. (is_registered kinds (kind value) ≡ true) × (shown.now ≡ value))
