-- Bundles: what their parts ask of a view, what they show, and what they move out of it.
use Rattle.std.specs.Prelude.{◌≡◌, Bool, false, ◌&&◌, ◌||◌, ◌⊎◌, ⊤, IsTrue, Option, Some, None, cond, is_some, is_none, List, [], ◌∷◌, map, Result, Ok, Err}
use Rattle.shred_table.specs.declared.id.Kind.{Kind}
use Rattle.shred_table.specs.declared.id.ResourceId.{ResourceId}
use Rattle.shred_world.specs.declared.world.WorldError.{WorldError}
use Rattle.shred_world.specs.declared.world.view.DataError.{DataError}
use Rattle.shred_world.specs.declared.world.view.DataError.TheVariants.{OutOfMemory}
use Rattle.shred_world.specs.Grants.{Grant, without, Moved, given_back, grant_of}
use Rattle.shred_table.specs.Slots.{among}
use Rattle.shred_world.specs.Views.{is_out, refusal}
use Rattle.shred_world.specs.Handing.{moved_value}
use Rattle.shred_world.specs.declared.world.view.View.{View}

-- a part of a bundle: the kind of its type, its id, whether it is to be written, and whether it may be absent
pub record Part : Type 0 where
  pub kind : Kind
  pub id : ResourceId
  pub is_written : Bool
  pub may_be_absent : Bool

-- the first test that a part fails
abbrev pub part_refusal : {V : Type 0} → Grant V → Part → Option DataError
part_refusal g p = refusal p.kind p.id (cond p.is_written (g.writes p.id) (g.reads p.id)) (g.out p.id) (p.may_be_absent || is_some (g.held p.id))

-- the value that is moved out for a part: the one that is held, where it is not shared
abbrev pub moved_for : {V : Type 0} → Grant V → Part → Option V
moved_for g p = cond (g.own p.id) (g.held p.id) None

-- the grant after the value under the id was handed out, where there is one
abbrev pub after_moved : {V : Type 0} → Grant V → ResourceId → Option V → Grant V
after_moved g id (Some v) = without g id
after_moved g id None = g

-- the grant after a part
abbrev pub after_part : {V : Type 0} → Grant V → Part → Grant V
after_part g p = after_moved g p.id (moved_for g p)

-- the grant after the parts, one after the other
abbrev pub after_parts : {V : Type 0} → Grant V → List Part → Grant V
after_parts g [] = g
after_parts g (p ∷ ps) = after_parts (after_part g p) ps

-- the first refusal, or else the second
abbrev pub or_refusal : Option DataError → Option DataError → Option DataError
or_refusal (Some e) f = Some e
or_refusal None f = f

-- the first refusal of the parts, each after those before it
abbrev pub bundle_refusal : {V : Type 0} → Grant V → List Part → Option DataError
bundle_refusal g [] = None
bundle_refusal g (p ∷ ps) = or_refusal (part_refusal g p) (bundle_refusal (after_part g p) ps)

-- what the parts show, each after those before it
abbrev pub shown_parts : {V : Type 0} → Grant V → List Part → List (Option V)
shown_parts g [] = []
shown_parts g (p ∷ ps) = g.held p.id ∷ shown_parts (after_part g p) ps

-- the value under the id before the others, where there is one
abbrev pub moved_at : {V : Type 0} → ResourceId → Option V → Moved V → Moved V
moved_at id (Some v) ms = (id, v) ∷ ms
moved_at id None ms = ms

-- what is moved out for the parts, each after those before it
abbrev pub moved_parts : {V : Type 0} → Grant V → List Part → Moved V
moved_parts g [] = []
moved_parts g (p ∷ ps) = moved_at p.id (moved_for g p) (moved_parts (after_part g p) ps)

-- whether room may be wanting: for a part that passes its tests, as all before it do, a value is moved out
abbrev pub may_lack_room : {V : Type 0} → Grant V → List Part → Bool
may_lack_room g [] = false
may_lack_room g (p ∷ ps) = is_none (part_refusal g p) && (is_some (moved_for g p) || may_lack_room (after_part g p) ps)

-- the bundle is refused as its parts are, or for want of memory to note a value that is moved out
abbrev pub IsRefused : {V : Type 0} → Grant V → List Part → DataError → Type 0
IsRefused g ps e = (bundle_refusal g ps ≡ Some e) ⊎ ((e ≡ OutOfMemory) × IsTrue (may_lack_room g ps))

-- the ids of what was moved out
abbrev pub ids_of : {V : Type 0} → Moved V → List ResourceId
ids_of ms = map (λ m. m.0) ms

-- each id is out, and none stands twice
abbrev pub AreOut : (ResourceId → Bool) → List ResourceId → Type 0
AreOut out [] = ⊤
AreOut out (id ∷ ids) = IsTrue (out id) × (among ids id ≡ false) × AreOut out ids

-- these ids are out, each stands once, and no other id is out
abbrev pub AreAllOut : (ResourceId → Bool) → List ResourceId → Type 0
AreAllOut out ids = AreOut out ids × ((id : ResourceId) → out id ≡ among ids id)

-- what a setup may leave: the map before, the answer, and the map after
abbrev pub Setup : Type 0 → Type 1
Setup V = (ResourceId → Option V) → Result (Unit {0}) WorldError → (ResourceId → Option V) → Type 0

-- nothing is done, and nothing is refused
abbrev pub NoSetup : {V : Type 0} → Setup V
NoSetup before answer after = (answer ≡ Ok tt) × ((q : ResourceId) → after q ≡ before q)

-- the first setup and then the second, or the first one's refusal
abbrev pub SetupBoth : {V : Type 0} → Setup V → Setup V → Setup V
SetupBoth {V} First Second before answer after =
    ((middle : ResourceId → Option V) × First before (Ok tt) middle × Second middle answer after)
    ⊎ ((error : WorldError) × First before (Err error) after × (answer ≡ Err error))

module _ {V : Type 0} (kind : V → Kind) (view : View V) (parts : List Part) where
  -- what the parts show of what the view grants
  abbrev pub parts_shown : List (Option V)
  parts_shown = shown_parts (grant_of kind view) parts

  -- what is moved out of the view for the parts
  abbrev pub parts_moved : Moved V
  parts_moved = moved_parts (grant_of kind view) parts

  -- the view after the parts were handed out
  abbrev pub LacksParts : View V → Type 0
  LacksParts new = grant_of kind new ≡ after_parts (grant_of kind view) parts

-- the view after these values were given back
abbrev pub HasBack : {V : Type 0} → (V → Kind) → View V → Moved V → View V → Type 0
HasBack kind old moved new = grant_of kind new ≡ given_back (grant_of kind old) moved

-- the view after what it moves out for the id was handed out
abbrev pub LacksMoved : {V : Type 0} → (V → Kind) → View V → ResourceId → View V → Type 0
LacksMoved kind old id new = grant_of kind new ≡ after_moved (grant_of kind old) id (moved_value kind old id)

-- the view is as before once the bundle is given back
abbrev pub IsUndoneBy : {V D : Type 0} → (V → Kind) → (D → Moved V) → View V → View V → D → Type 0
IsUndoneBy kind moved old new bundle = given_back (grant_of kind new) (moved bundle) ≡ grant_of kind old

-- just these ids are moved out of the view
abbrev pub HasJustOut : {V : Type 0} → View V → List ResourceId → Type 0
HasJustOut view ids = (id : ResourceId) → is_out view id ≡ among ids id

-- nothing is moved out of the view
abbrev pub HasNothingMoved : {V : Type 0} → View V → Type 0
HasNothingMoved view = (id : ResourceId) → is_out view id ≡ false
