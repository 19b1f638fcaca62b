use Rattle.std.proofs.Common.{◌≡◌, ◌+◌, ◌||◌, Bool, true, false, not, None, slice_index_or, take, refl, sym, ◌∙◌, ap, rules}
use Rattle.std.specs.Prelude.{is_some}
use Rattle.std.proofs.lemmas.List.{take_all}
use Rattle.std.proofs.lemmas.List.Folds.{list_any_at, list_any_more}
use Rattle.shred_table.specs.declared.id.ResourceId.{ResourceId}
use Rattle.shred_table.specs.Id.{same_id}
use Rattle.shred_table.specs.Slots.{slot_at, among, ids_in}
use Rattle.shred_table.proofs.Tables.AsOne.{no_slot}
use Rattle.shred_table.proofs.Tables.Held.{copied-is_some}
use Rattle.shred_table.proofs.Tables.Members.{among-keys}
use Rattle.shred_table.proofs.Tables.Slots.{same_id-true, same_id-refl}
use Rattle.shred_table.proofs.table.Table.stray.Goals as goal

pub returns-then-is_none-clause-some : goal.returns-then-is_none-clause-some
returns-then-is_none-clause-some g c =
    let ids = ids_in c.args.self.now in
    let id = c.id_at-id.result in
    let d : ResourceId = record { kind = record { 0 = 0 }; dynamic_id = 0 } in
    let here : same_id (slice_index_or ids c.loop-place.place d) id ≡ true = ap (λ (x : ResourceId). same_id x id) (sym (c.id_at-id.ensures d)) ∙ same_id-refl id in (
      sym (among-keys c.args.self.now.slots.slots.items id) ∙ list_any_at (λ x. same_id x id) ids c.loop-place.place d (search rules) here,
      no_slot (slot_at c.args.hand.now id) (ap is_some (sym c.slot_near.ensures) ∙ copied-is_some c.slot_near.result ∙ c.is_none.ensures ∙ ap not c.if-is_none.true),
    )

pub loop-place-preserved : goal.loop-place-preserved
loop-place-preserved g c = λ q h.
    let ids = ids_in c.args.self.now in
    let k = c.loop-place.place in
    let d : ResourceId = record { kind = record { 0 = 0 }; dynamic_id = 0 } in
    let more : among (take (k + 1) ids) q ≡ (among (take k ids) q || same_id (slice_index_or ids k d) q) = list_any_more (λ x. same_id x q) ids k d (search rules) in
    let there : is_some (slot_at c.args.hand.now c.id_at-id.result) ≡ true = ap is_some (sym c.slot_near.ensures) ∙ copied-is_some c.slot_near.result ∙ c.is_none.ensures ∙ ap not c.if-is_none.false in
    told (among (take k ids) q) (same_id (slice_index_or ids k d) q) (is_some (slot_at c.args.hand.now q)) (sym more ∙ h) (c.loop-place.invariant q)
    (λ e. ap (λ (x : ResourceId). is_some (slot_at c.args.hand.now x)) (sym (same_id-true (slice_index_or ids k d) q e) ∙ sym (c.id_at-id.ensures d)) ∙ there) where
      told : (a b s : Bool) → (a || b) ≡ true → (a ≡ true → s ≡ true) → (b ≡ true → s ≡ true) → s ≡ true
      told true b s some before now = before refl
      told false true s some before now = now refl
      told false false s some before now = absurd (cc)

pub returns-clause-none : goal.returns-clause-none
returns-clause-none g c = λ q none.
    let ids = ids_in c.args.self.now in
    told q none (is_some (slot_at c.args.self.now q)) refl where
      told : (q : ResourceId) → slot_at c.args.hand.now q ≡ None → (b : Bool) → is_some (slot_at c.args.self.now q) ≡ b → slot_at c.args.self.now q ≡ None
      told q none true e =
          let ids = ids_in c.args.self.now in
          let all : among (take c.loop-place.place ids) q ≡ true = ap (λ l. among l q) (take_all c.loop-place.place ids (search rules)) ∙ among-keys c.args.self.now.slots.slots.items q ∙ e in
          absurd (let no : true ≡ false = sym (c.loop-place.invariant q all) ∙ ap is_some none in cc)
      told q none false e = no_slot (slot_at c.args.self.now q) e
