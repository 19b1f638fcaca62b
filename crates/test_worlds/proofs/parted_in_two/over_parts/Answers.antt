use Rattle.std.proofs.Common.{List, length, subst, sym, ◌∙◌, ◌&&◌, ap, arith}
use Rattle.std.specs.Prelude.{is_some}
use Rattle.std.specs.List.{All, AllZip}
use Rattle.shred_table.specs.declared.table.Table.{Table}
use Rattle.shred_world.specs.Beside.{lent_behind, parted_of}
use Rattle.shred_table.specs.Parts.{Pair, HasNothingOut, HoldsSameIds, HoldsIdsOf, HoldsWritten, Fits, IsHandOf, written_by}
use Rattle.shred_table.specs.Shown.{Lent, IsSameSlots}
use Rattle.shred_table.specs.Slots.{slot_at}
use Rattle.shred_world.proofs.Parted.Beside.{held-kept, same-again}
use Rattle.shred_table.proofs.Parted.Pairs.{zip-length, written-over}
use Rattle.shred_world.proofs.Parted.Hands.{fit-again}
use Rattle.test_values.specs.Values.{kind_of}
use Rattle.test_values.specs.declared.values.Value.{Value}
use Rattle.test_worlds.proofs.parted_in_two.over_parts.Goals as goal

pub behind-behind-requires : goal.behind-behind-requires
behind-behind-requires g c = (omega arith, sym c.in-Ok.ensures.parted.lender)

pub over_hands-requires-clause-two : goal.over_hands-requires-clause-two
over_hands-requires-clause-two g c =
    ap length c.as_mut_slice.ensures.value ∙ sym (zip-length (HoldsWritten c.args.view.now.own.now) c.args.pairs.now c.in-Ok.parts.hands.items c.in-Ok.ensures.parted.hands) ∙ c.requires.two

pub over_hands-requires-clause-parts : goal.over_hands-requires-clause-parts
over_hands-requires-clause-parts g c = ap length (c.behind-behind.ensures.pairs ∙ c.in-Ok.ensures.parted.pairs) ∙ c.requires.two

pub over_hands-requires-clause-hands : goal.over_hands-requires-clause-hands
over_hands-requires-clause-hands g c =
    let over : AllZip (IsHandOf (lent_behind c.behind-behind.result)) c.args.pairs.now c.in-Ok.parts.hands.items =
    subst (λ (behind : Lent Value). AllZip (IsHandOf behind) c.args.pairs.now c.in-Ok.parts.hands.items) (λ i q. sym (c.behind-behind.ensures.shelf q) i) c.in-Ok.ensures.parted.of_pairs in
    subst (λ (hs : List (Table Value)). AllZip (IsHandOf (lent_behind c.behind-behind.result)) c.behind-behind.result.pairs.now hs) (sym c.as_mut_slice.ensures.value)
    (subst (λ (ps : List Pair). AllZip (IsHandOf (lent_behind c.behind-behind.result)) ps c.in-Ok.parts.hands.items) (sym (c.behind-behind.ensures.pairs ∙ c.in-Ok.ensures.parted.pairs)) over)

pub join-requires : goal.join-requires
join-requires g c =
    record {
      lender = (sym c.in-Ok.ensures.parted.lender);
      out = (λ q. c.in-Ok.ensures.out q
          ∙ ap (λ b. written_by c.args.pairs.now q && b) (sym (c.in-Ok.ensures.loan.slots q))
          ∙ ap (λ (ps : List Pair). written_by ps q && is_some (slot_at c.part_with.new.self.own.now q)) (sym c.in-Ok.ensures.parted.pairs));
      given_back = (let was = c.in-Ok.parts.hands.items in
          let now = c.over_hands.new.hands in
          let slots : AllZip IsSameSlots was now = subst (λ (hs : List (Table Value)). AllZip IsSameSlots hs now) c.as_mut_slice.ensures.value c.over_hands.ensures.slots in
          subst (All HasNothingOut) (sym (written-over c.in-Ok.parts.hands.len was now (sym c.as_mut_slice.ensures.len ∙ ap length c.as_mut_slice.ensures.value) (sym (zip-length IsSameSlots was now slots))))
          c.over_hands.ensures.given_back);
      fit = (let left = c.part_with.new.self.own.now in
          let was = c.in-Ok.parts.hands.items in
          let now = c.over_hands.new.hands in
          let slots : AllZip IsSameSlots was now = subst (λ (hs : List (Table Value)). AllZip IsSameSlots hs now) c.as_mut_slice.ensures.value c.over_hands.ensures.slots in
          let fit : AllZip (Fits left) c.args.pairs.now now = fit-again c.args.pairs.now left was now c.in-Ok.ensures.parted.fit slots in
          subst (AllZip (Fits left) c.in-Ok.parts.pairs.now) (sym (written-over c.in-Ok.parts.hands.len was now (sym c.as_mut_slice.ensures.len ∙ ap length c.as_mut_slice.ensures.value) (sym (zip-length IsSameSlots was now slots))))
          (subst (λ (ps : List Pair). AllZip (Fits left) ps now) (sym c.in-Ok.ensures.parted.pairs) fit));
      kept = (let was = c.in-Ok.parts.hands.items in
          let now = c.over_hands.new.hands in
          let ids : AllZip (HoldsSameIds kind_of) was now = subst (λ (hs : List (Table Value)). AllZip (HoldsSameIds kind_of) hs now) c.as_mut_slice.ensures.value c.over_hands.ensures.ids in
          subst (AllZip (HoldsSameIds kind_of) (parted_of c.in-Ok.parts)) (sym (written-over c.in-Ok.parts.hands.len was now (sym c.as_mut_slice.ensures.len ∙ ap length c.as_mut_slice.ensures.value) (sym (zip-length (HoldsSameIds kind_of) was now ids))))
          (subst (λ (hs : List (Table Value)). AllZip (HoldsSameIds kind_of) hs now) (sym c.in-Ok.ensures.parted.parted) ids));
    }

pub returns-clause-same : goal.returns-clause-same
returns-clause-same g c = same-again c.args.view.now c.part_with.new.self c.join.new.lender c.in-Ok.ensures.loan c.join.ensures.loan c.requires.nothing_out c.join.ensures.nothing_out

pub returns-clause-ids : goal.returns-clause-ids
returns-clause-ids g c =
    let new = c.join.new.lender in
    let hands = c.in-Ok.parts.hands.items in
    let ids = subst (λ (ps : List Pair). AllZip (HoldsIdsOf kind_of new.own.now) ps hands) c.in-Ok.ensures.parted.pairs
    (subst (λ (was : List (Table Value)). AllZip (HoldsIdsOf kind_of new.own.now) c.in-Ok.parts.pairs.now was) c.in-Ok.ensures.parted.parted c.join.ensures.joined.ids) in
    held-kept kind_of c.args.view.now c.part_with.new.self new c.args.pairs.now hands c.in-Ok.ensures.loan c.join.ensures.loan c.in-Ok.ensures.parted.hands ids c.in-Ok.ensures.parted.left
    (λ q out. c.join.ensures.joined.rest q (ap (λ (ps : List Pair). written_by ps q) c.in-Ok.ensures.parted.pairs ∙ out))
