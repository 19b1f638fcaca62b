-- Replays of lists that are joined.
use Rattle.std.proofs.Common.{List, [], ◌∷◌, ◌++◌, refl, sym, ◌∙◌}
use Rattle.shred_model.specs.Record.{Record}
use Rattle.shred_model.specs.Replay.{Configuration, AreAlike, Goes, Replays}

pub AreAlike-refl : {A I V S : Type 0} (x : Configuration A I V S) → AreAlike x x
AreAlike-refl x = record { values = λ i. refl; states = λ a. refl }

pub AreAlike-trans : {A I V S : Type 0} (x y z : Configuration A I V S) → AreAlike x y → AreAlike y z → AreAlike x z
AreAlike-trans x y z one two = record { values = λ i. two.values i ∙ one.values i; states = λ a. two.states a ∙ one.states a }

module _ {A I V S O : Type 0} where
  pub Goes-from_alike : (r : Record A I V S O) (x y z : Configuration A I V S) → AreAlike x y → Goes r y z → Goes r x z
  Goes-from_alike r x y z like goes = record {
    finds_state = sym (like.states r.agent) ∙ goes.finds_state;
    finds = λ i d. sym (like.values i) ∙ goes.finds i d;
    puts_state = goes.puts_state;
    puts = goes.puts;
    other_values = λ i n. goes.other_values i n ∙ like.values i;
    other_states = λ a n. goes.other_states a n ∙ like.states a;
  }

  pub Replays-from_alike : (x y : Configuration A I V S) (list : List (Record A I V S O)) (z : Configuration A I V S) → AreAlike x y → Replays y list z → Replays x list z
  Replays-from_alike x y [] z like then = AreAlike-trans x y z like then
  Replays-from_alike x y (r ∷ list) z like (mid, goes, then) = (mid, Goes-from_alike r x y mid like goes, then)

  pub Replays-append : (x : Configuration A I V S) (list : List (Record A I V S O)) (y : Configuration A I V S) (more : List (Record A I V S O)) (z : Configuration A I V S)
      → Replays x list y → Replays y more z → Replays x (list ++ more) z
  Replays-append x [] y more z one two = Replays-from_alike x y more z one two
  Replays-append x (r ∷ list) y more z (mid, goes, then) two = (mid, goes, Replays-append mid list y more z then two)

  pub Replays-to_alike : (x : Configuration A I V S) (list : List (Record A I V S O)) (y z : Configuration A I V S) → Replays x list y → AreAlike y z → Replays x list z
  Replays-to_alike x [] y z then like = AreAlike-trans x y z then like
  Replays-to_alike x (r ∷ list) y z (mid, goes, then) like = (mid, goes, Replays-to_alike mid list y z then like)

  pub Replays-one : (r : Record A I V S O) (x y : Configuration A I V S) → Goes r x y → Replays x (r ∷ []) y
  Replays-one r x y goes = (y, goes, AreAlike-refl y)
