use Rattle.std.proofs.Common.{[], List, ◌++◌, set, subst, sym}
use Rattle.std.specs.List.{AllZip}
use Rattle.shred_table.specs.declared.table.Table.{Table}
use Rattle.shred_world.specs.Beside.{lent_behind}
use Rattle.shred_table.specs.Parts.{Pair, HasNothingOut, HoldsSameIds, IsHandOf}
use Rattle.shred_table.specs.Shown.{IsSameSlots}
use Rattle.test_values.specs.Values.{kind_of}
use Rattle.test_values.specs.declared.values.Value.{Value}
use Rattle.test_worlds.proofs.BothHands.{both-given, both-related, both-hold}
use Rattle.test_worlds.proofs.parted_in_two.over_hands.Goals as goal

abbrev none : Pair
none = (record { ref_ptr = (0, 0); now = [] }, record { ref_ptr = (0, 0); now = [] })

pub run-requires-clause-front : goal.run-requires-clause-front
run-requires-clause-front g c =
    let given = both-given (IsHandOf (lent_behind c.args.behind.now)) c.args.behind.now.pairs.now c.split_at_mut-front.result.0.now c.split_at_mut-front.result.1.now none c.index-front-0.result c.index-back-0.result c.requires.parts c.split_at_mut-front.ensures.front_len
    (subst (AllZip (IsHandOf (lent_behind c.args.behind.now)) c.args.behind.now.pairs.now) c.split_at_mut-front.ensures.value c.requires.hands) in
    given.0

pub run-requires-clause-back : goal.run-requires-clause-back
run-requires-clause-back g c =
    let given = both-given (IsHandOf (lent_behind c.args.behind.now)) c.args.behind.now.pairs.now c.split_at_mut-front.result.0.now c.split_at_mut-front.result.1.now none c.index-front-0.result c.index-back-0.result c.requires.parts c.split_at_mut-front.ensures.front_len
    (subst (AllZip (IsHandOf (lent_behind c.args.behind.now)) c.args.behind.now.pairs.now) c.split_at_mut-front.ensures.value c.requires.hands) in
    given.1

pub returns-clause-slots : goal.returns-clause-slots
returns-clause-slots g c =
    let front = c.split_at_mut-front.result.0.now in
    let back = c.split_at_mut-front.result.1.now in
    let given = both-given (IsHandOf (lent_behind c.args.behind.now)) c.args.behind.now.pairs.now front back none c.index-front-0.result c.index-back-0.result c.requires.parts c.split_at_mut-front.ensures.front_len
    (subst (AllZip (IsHandOf (lent_behind c.args.behind.now)) c.args.behind.now.pairs.now) c.split_at_mut-front.ensures.value c.requires.hands) in
    subst (λ (hs : List (Table Value)). AllZip IsSameSlots hs (set front 0 c.run.new.one ++ set back 0 c.run.new.two)) (sym c.split_at_mut-front.ensures.value)
    (both-related IsSameSlots front back c.index-front-0.result c.index-back-0.result c.run.new.one c.run.new.two c.split_at_mut-front.ensures.front_len given.2
    c.run.ensures.one c.run.ensures.two)

pub returns-clause-ids : goal.returns-clause-ids
returns-clause-ids g c =
    let front = c.split_at_mut-front.result.0.now in
    let back = c.split_at_mut-front.result.1.now in
    let given = both-given (IsHandOf (lent_behind c.args.behind.now)) c.args.behind.now.pairs.now front back none c.index-front-0.result c.index-back-0.result c.requires.parts c.split_at_mut-front.ensures.front_len
    (subst (AllZip (IsHandOf (lent_behind c.args.behind.now)) c.args.behind.now.pairs.now) c.split_at_mut-front.ensures.value c.requires.hands) in
    subst (λ (hs : List (Table Value)). AllZip (HoldsSameIds kind_of) hs (set front 0 c.run.new.one ++ set back 0 c.run.new.two)) (sym c.split_at_mut-front.ensures.value)
    (both-related (HoldsSameIds kind_of) front back c.index-front-0.result c.index-back-0.result c.run.new.one c.run.new.two c.split_at_mut-front.ensures.front_len given.2
    c.run.ensures.first_ids c.run.ensures.second_ids)

pub returns-clause-given_back : goal.returns-clause-given_back
returns-clause-given_back g c =
    let front = c.split_at_mut-front.result.0.now in
    let back = c.split_at_mut-front.result.1.now in
    let given = both-given (IsHandOf (lent_behind c.args.behind.now)) c.args.behind.now.pairs.now front back none c.index-front-0.result c.index-back-0.result c.requires.parts c.split_at_mut-front.ensures.front_len
    (subst (AllZip (IsHandOf (lent_behind c.args.behind.now)) c.args.behind.now.pairs.now) c.split_at_mut-front.ensures.value c.requires.hands) in
    both-hold HasNothingOut front back c.run.new.one c.run.new.two c.split_at_mut-front.ensures.front_len given.2 c.run.ensures.one_given_back c.run.ensures.two_given_back
