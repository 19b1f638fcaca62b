-- What a walk that gives orders leaves.
use Rattle.std.proofs.Common.{◌≡◌, ◌<◌, ℤ, Bool, true, false, List, [], ◌∷◌, length, Option, Some, None, cond, nat_eq, refl, sym, ◌∙◌, ap, subst, arith}
use Rattle.std.specs.Borrow.{MutBor}
use Rattle.std.specs.Option.{option_copied_mut}
use Rattle.std.specs.Prelude.{is_some, slice_get, option_map, OnSome, IfNone, IfSome}
use Rattle.std.specs.List.{cons_option}
use Rattle.std.proofs.lemmas.Option.{none-some, same_Some}
use Rattle.shred_table.specs.declared.id.Kind.{Kind}
use Rattle.shred_table.specs.declared.id.ResourceId.{ResourceId}
use Rattle.shred_table.specs.Id.{id_of, same_id}
use Rattle.shred_table.specs.declared.table.Slot.{Slot}
use Rattle.shred_table.specs.Slots.{of_kind, slot_held, with_at}
use Rattle.shred_world.specs.declared.world.World.{World}
use Rattle.shred_world.specs.Worlds.{world_held, world_slot}
use Rattle.shred_table.proofs.Tables.Slots.{same_id-true}
use Rattle.shred_meta.specs.declared.meta.MetaIterMut.{MetaIterMut}
use Rattle.shred_meta.specs.MetaWalks.{KeepsWalk, WalksOn, left_to_write, walk_held, walk_kinds, walk_world}
use Rattle.shred_meta.specs.Walks.{walk, first_held_kind, after_first}
use Rattle.shred_meta.proofs.Firsts.{first-shown}
use Rattle.test_cells.specs.declared.numbers.Number.{Number}
use Rattle.test_cells.specs.Numbers.{after_order, kind_of}
use Rattle.test_cells.specs.Orders.{ordered}

OnSome-here : {A P : Type 0} (o : Option A) (x : A) → o ≡ Some x → OnSome o P → P
OnSome-here (Some y) x is p = p
OnSome-here None x is p = absurd (none-some x is)

IfSome-here : {A : Type 0} (P : A → Type 0) (o : Option A) (x : A) → o ≡ Some x → IfSome o P → P x
IfSome-here P (Some y) x is p = subst P (same_Some y x is) p
IfSome-here P None x is p = absurd (none-some x is)

pub IfNone-here : {A P : Type 0} (o : Option A) → o ≡ None → IfNone o P → P
IfNone-here None is p = p
IfNone-here (Some x) is p = absurd (none-some x (sym is))

-- where none of the kinds is held nothing is shown
first-none : {V : Type 0} (held : ResourceId → Option V) (kinds : List Kind) → first_held_kind held kinds ≡ None → walk held kinds ≡ []
first-none held [] none = refl
first-none {V} held (kind ∷ kinds) none = told (first-none held kinds) (held (id_of kind 0)) refl where
  told : (first_held_kind held kinds ≡ None → walk held kinds ≡ []) → (o : Option V) → held (id_of kind 0) ≡ o → walk held (kind ∷ kinds) ≡ []
  told of_rest (Some v) e = absurd (let first : first_held_kind held (kind ∷ kinds) ≡ Some kind = ap (λ (o : Option V). cond (is_some o) (Some kind) (first_held_kind held kinds)) e in none-some kind (sym none ∙ first))
  told of_rest None e =
      let later : first_held_kind held (kind ∷ kinds) ≡ first_held_kind held kinds = ap (λ (o : Option V). cond (is_some o) (Some kind) (first_held_kind held kinds)) e in
      ap (λ (o : Option V). cons_option o (walk held kinds)) e ∙ of_rest (sym later ∙ none)

abbrev Map : Type 0
Map = ResourceId → Option Number

module _ (order : ℤ) where
  abbrev answered : Option Number → Option Number
  answered o = option_map (λ number. after_order number order) o

  -- maps that hold the same hold the same after the orders
  same_after : (kinds : List Kind) (m n : Map) → ((q : ResourceId) → m q ≡ n q) → (q : ResourceId) → ordered order kinds m q ≡ ordered order kinds n q
  same_after [] m n same q = same q
  same_after (kind ∷ kinds) m n same q =
      let id = id_of kind 0 in
      same_after kinds (with_at m id (answered (m id))) (with_at n id (answered (n id))) (λ p. told p (same_id id p)) q where
        told : (p : ResourceId) (b : Bool) → cond b (answered (m (id_of kind 0))) (m p) ≡ cond b (answered (n (id_of kind 0))) (n p)
        told p true = ap answered (same (id_of kind 0))
        told p false = same p

  -- nothing comes of a kind of which no number is held
  skipped : (held : Map) (id : ResourceId) → held id ≡ None → (q : ResourceId) → with_at held id (answered (held id)) q ≡ held q
  skipped held id none q = told (same_id id q) refl where
    told : (b : Bool) → same_id id q ≡ b → cond b (answered (held id)) (held q) ≡ held q
    told true e = ap answered none ∙ sym none ∙ ap held (same_id-true id q e)
    told false e = refl

  -- where none of the kinds is held nothing comes of the orders
  pub ended : (kinds : List Kind) (held : Map) → walk held kinds ≡ [] → (q : ResourceId) → ordered order kinds held q ≡ held q
  ended [] held none q = refl
  ended (kind ∷ kinds) held none q = told (ended kinds held) (held (id_of kind 0)) refl where
    told : (walk held kinds ≡ [] → (p : ResourceId) → ordered order kinds held p ≡ held p) → (o : Option Number) → held (id_of kind 0) ≡ o → ordered order (kind ∷ kinds) held q ≡ held q
    told of_rest (Some v) e = absurd (let shown : walk held (kind ∷ kinds) ≡ v ∷ walk held kinds = ap (λ (o : Option Number). cons_option o (walk held kinds)) e in cc)
    told of_rest None e =
        let rest : walk held kinds ≡ [] = sym (ap (λ (o : Option Number). cons_option o (walk held kinds)) e) ∙ none in
        same_after kinds _ held (skipped held (id_of kind 0) e) q ∙ of_rest rest q

  -- to answer the first number that is held, and then those of the kinds after it, is to answer all
  pub stepped : (kinds : List Kind) (held new : Map) (k : Kind) (v : Number) → first_held_kind held kinds ≡ Some k → held (id_of k 0) ≡ Some v
      → ((q : ResourceId) → new q ≡ with_at held (id_of k 0) (Some (after_order v order)) q) → (q : ResourceId) → ordered order (after_first held kinds) new q ≡ ordered order kinds held q
  stepped [] held new k v first is put q = absurd (none-some k first)
  stepped (kind ∷ kinds) held new k v first is put q = told (λ later. stepped kinds held new k v later is put) (held (id_of kind 0)) refl where
    told : (first_held_kind held kinds ≡ Some k → (p : ResourceId) → ordered order (after_first held kinds) new p ≡ ordered order kinds held p) → (o : Option Number) → held (id_of kind 0) ≡ o → ordered order (after_first held (kind ∷ kinds)) new q ≡ ordered order (kind ∷ kinds) held q
    told of_rest (Some u) e =
        let here : kind ≡ k = same_Some kind k (sym (ap (λ (o : Option Number). cond (is_some o) (Some kind) (first_held_kind held kinds)) e) ∙ first) in
        let after : after_first held (kind ∷ kinds) ≡ kinds = ap (λ (o : Option Number). cond (is_some o) kinds (after_first held kinds)) e in
        ap (λ ks. ordered order ks new q) after
        ∙ same_after kinds new _ (λ p. put p ∙ ap (λ (o : Option Number). with_at held (id_of k 0) o p) (sym (ap answered is)) ∙ sym (ap (λ (c : Kind). with_at held (id_of c 0) (answered (held (id_of c 0))) p) here)) q
    told of_rest None e =
        let later : first_held_kind held kinds ≡ Some k = sym (ap (λ (o : Option Number). cond (is_some o) (Some kind) (first_held_kind held kinds)) e) ∙ first in
        let after : after_first held (kind ∷ kinds) ≡ after_first held kinds = ap (λ (o : Option Number). cond (is_some o) kinds (after_first held kinds)) e in
        ap (λ ks. ordered order ks new q) after ∙ of_rest later q ∙ sym (same_after kinds _ held (skipped held (id_of kind 0) e) q)

-- fewer kinds are left after the first of which something is held
pub fewer : {V : Type 0} (held : ResourceId → Option V) (kinds : List Kind) (k : Kind) → first_held_kind held kinds ≡ Some k → length (after_first held kinds) < length kinds
fewer held [] k first = absurd (none-some k first)
fewer {V} held (kind ∷ kinds) k first = told (fewer held kinds k) (held (id_of kind 0)) refl where
  told : (first_held_kind held kinds ≡ Some k → length (after_first held kinds) < length kinds) → (o : Option V) → held (id_of kind 0) ≡ o → length (after_first held (kind ∷ kinds)) < length (kind ∷ kinds)
  told of_rest (Some u) e = let after : after_first held (kind ∷ kinds) ≡ kinds = ap (λ (o : Option V). cond (is_some o) kinds (after_first held kinds)) e in rw after (omega arith)
  told of_rest None e =
      let later : first_held_kind held kinds ≡ Some k = sym (ap (λ (o : Option V). cond (is_some o) (Some kind) (first_held_kind held kinds)) e) ∙ first in
      let after : after_first held (kind ∷ kinds) ≡ after_first held kinds = ap (λ (o : Option V). cond (is_some o) kinds (after_first held kinds)) e in
      let less = of_rest later in rw after (omega arith)

-- a value that is held is of its id's kind
held_kind : (world : World Number) (id : ResourceId) (v : Number) → world_held kind_of world id ≡ Some v → of_kind kind_of id (Some v) ≡ Some v
held_kind world id v is = slot (world_slot world id) is where
  of : (o : Option Number) → of_kind kind_of id o ≡ Some v → of_kind kind_of id (Some v) ≡ Some v
  of (Some w) e = told (nat_eq (kind_of w).0 id.kind.0) refl e where
    told : (b : Bool) → nat_eq (kind_of w).0 id.kind.0 ≡ b → cond b (Some w) None ≡ Some v → of_kind kind_of id (Some v) ≡ Some v
    told true t f = rw (sym (same_Some w v f)) (rw t refl)
    told false t f = absurd (none-some v f)
  of None e = absurd (none-some v e)

  slot : (s : Option (Slot Number)) → slot_held kind_of id s ≡ Some v → of_kind kind_of id (Some v) ≡ Some v
  slot (Some s) e = of s.value e
  slot None e = absurd (none-some v e)

-- a value of the same kind is held there too
of_same_kind : (id : ResourceId) (v w : Number) → kind_of w ≡ kind_of v → of_kind kind_of id (Some v) ≡ Some v → of_kind kind_of id (Some w) ≡ Some w
of_same_kind id v w same is = told (nat_eq (kind_of v).0 id.kind.0) refl is where
  told : (b : Bool) → nat_eq (kind_of v).0 id.kind.0 ≡ b → cond b (Some v) None ≡ Some v → of_kind kind_of id (Some w) ≡ Some w
  told true t f = rw (ap (λ (k : Kind). nat_eq k.0 id.kind.0) same ∙ t) refl
  told false t f = absurd (none-some v f)

-- what a walk has come to after an order
pub record Goes (order : ℤ) (s n : MetaIterMut Number) : Type 0 where
  pub name : (walk_world n).ghost_name ≡ (walk_world s).ghost_name
  pub left : (id : ResourceId) → ordered order (walk_kinds n) (walk_held kind_of n) id ≡ ordered order (walk_kinds s) (walk_held kind_of s) id
  pub fewer : length (walk_kinds n) < length (walk_kinds s)

pub goes : (order : ℤ) (s n : MetaIterMut Number) (r : Option (MutBor Number)) (number : MutBor Number) (w : Number) → r ≡ Some number
    → option_copied_mut r ≡ slice_get (left_to_write kind_of s) 0 → OnSome r (WalksOn kind_of s n w) → w ≡ after_order number.now order → kind_of w ≡ kind_of number.now → Goes order s n
goes order s n r number w is shown walks acted same =
    let on = OnSome-here r number is walks in
    let at : slice_get (left_to_write kind_of s) 0 ≡ Some number.now = sym shown ∙ ap option_copied_mut is in
    found (first_held_kind (walk_held kind_of s) (walk_kinds s)) refl on at where
      found : (first : Option Kind) → first_held_kind (walk_held kind_of s) (walk_kinds s) ≡ first → WalksOn kind_of s n w → slice_get (left_to_write kind_of s) 0 ≡ Some number.now → Goes order s n
      found (Some k) e on at =
          let id = id_of k 0 in
          let there : walk_held kind_of s id ≡ Some number.now = sym (first-shown (walk_held kind_of s) (walk_kinds s) k e) ∙ at in
          let fits = of_same_kind id number.now w same (held_kind (walk_world s).now id number.now there) in
          let put = IfSome-here (λ j. (q : ResourceId) → walk_held kind_of n q ≡ with_at (walk_held kind_of s) (id_of j 0) (of_kind kind_of (id_of j 0) (Some w)) q) (first_held_kind (walk_held kind_of s) (walk_kinds s)) k e on.2 in
          record {
            name = on.1;
            left = λ q. ap (λ ks. ordered order ks (walk_held kind_of n) q) on.0
                ∙ stepped order (walk_kinds s) (walk_held kind_of s) (walk_held kind_of n) k number.now e there
                (λ p. put p ∙ ap (λ (o : Option Number). with_at (walk_held kind_of s) id o p) (fits ∙ ap (λ (v : Number). Some v) acted)) q;
            fewer = rw on.0 (fewer (walk_held kind_of s) (walk_kinds s) k e);
          }
      found None e on at = absurd (let empty : slice_get (left_to_write kind_of s) 0 ≡ None = ap (λ (l : List Number). slice_get l 0) (first-none (walk_held kind_of s) (walk_kinds s) e) in cc)

-- a list without a first element
no-first : {A : Type 0} (xs : List A) → slice_get xs 0 ≡ None → xs ≡ []
no-first [] none = refl
no-first (x ∷ xs) none = absurd (none-some x (sym none))

-- what a walk that has come to its end leaves
pub finished : (order : ℤ) (s n : MetaIterMut Number) (r : Option (MutBor Number)) (world : World Number) → r ≡ None → option_copied_mut r ≡ slice_get (left_to_write kind_of s) 0 → KeepsWalk kind_of s n → (walk_world n).now ≡ world
    → (q : ResourceId) → world_held kind_of world q ≡ ordered order (walk_kinds s) (walk_held kind_of s) q
finished order s n r world is shown stays last q =
    let none : slice_get (left_to_write kind_of s) 0 ≡ None = sym shown ∙ ap option_copied_mut is in
    ap (λ (w : World Number). world_held kind_of w q) (sym last) ∙ stays.2 q ∙ sym (ended order (walk_kinds s) (walk_held kind_of s) (no-first (left_to_write kind_of s) none) q)
