-- Loops that call the elements of a list one after the other.
use Rattle.std.proofs.Common.{◌≡◌, ℕ, ◌<◌, ◌≤◌, ◌+◌, suc, List, [], ◌∷◌, ◌++◌, length, get_or, set, take, drop, Ok, Err, refl, sym, ◌∙◌, ap, subst, arith, append_assoc, append-nil, add-one, drop-cons}
use Rattle.std.proofs.lemmas.List.{take_more_set, drop-drop, drop_all, drop-set-lt, set_split, take_all}
use Rattle.shred_model.specs.InTurn.{InTurn, AllInTurn}
use Rattle.shred_model.specs.Runs.{Answer, first_fault}
use Rattle.shred_model.proofs.Joined.FirstFault.{first_fault-assoc, first_fault-Ok}

-- The elements before place n were called and were Done: what the calls from there on do completes what all do.
pub record TurnsSoFar {X H F : Type 0} (Own : ℕ → X → H → Answer F → X → H → Type 0) (n : ℕ) (first : List X) (before : H) (now : List X) (held : H) : Type 0 where
  pub rest : drop n now ≡ drop n first
  pub completes : (ys : List X) (answer : Answer F) (after : H) → InTurn Own n (drop n first) held answer ys after → InTurn Own 0 first before answer (take n now ++ ys) after

-- what is behind the next one
behind : {X : Type 0} (n : ℕ) (xs ys : List X) → drop n xs ≡ drop n ys → drop (n + 1) xs ≡ drop (n + 1) ys
behind n xs ys e = sym (drop-drop 1 n xs) ∙ ap (drop 1) e ∙ drop-drop 1 n ys

module _ {X H F : Type 0} (Own : ℕ → X → H → Answer F → X → H → Type 0) where
  pub Turns-start : (xs : List X) (before : H) → TurnsSoFar Own 0 xs before xs before
  Turns-start xs before = record { rest = refl; completes = λ ys answer after turns. turns }

  module _ {n : ℕ} {first now : List X} {before held : H} (sofar : TurnsSoFar Own n first before now held) where
    -- past the end, all elements were called and were Done
    pub Turns-end : length now ≤ n → InTurn Own 0 first before (Ok tt) now held
    Turns-end past =
        subst (λ (ys : List X). InTurn Own 0 first before (Ok tt) ys held) (append-nil (take n now) ∙ take_all n now past)
        (sofar.completes [] (Ok tt) held (subst (λ (l : List X). InTurn Own n l held (Ok tt) [] held) (sym (sym sofar.rest ∙ drop_all n now past)) (refl, refl)))

    module _ (d y : X) (below : n < length now) where
      is_next : drop n first ≡ get_or now n d ∷ drop (suc n) first
      is_next = sym sofar.rest ∙ drop-cons now n d below ∙ ap (λ (l : List X). get_or now n d ∷ l) (rw add-one at (behind n now first sofar.rest))

      -- the element at place n was called and was Done
      pub Turns-more : (after : H) → Own n (get_or now n d) held (Ok tt) y after → TurnsSoFar Own (n + 1) first before (set now n y) after
      Turns-more after own = record {
        rest = drop-set-lt (n + 1) now n y (omega arith) ∙ behind n now first sofar.rest;
        completes = λ ys answer end turns.
            subst (λ (zs : List X). InTurn Own 0 first before answer zs end) (sym (ap (λ (l : List X). l ++ ys) (take_more_set now n y below) ∙ append_assoc (take n now) (y ∷ []) ys))
            (sofar.completes (y ∷ ys) answer end (subst (λ (l : List X). InTurn Own n l held answer (y ∷ ys) end) (sym is_next) (Ok tt, after, own, rw add-one at turns)));
      }

      -- the element at place n ended with a fault
      pub Turns-fault : (fault : F) (after : H) → Own n (get_or now n d) held (Err fault) y after → InTurn Own 0 first before (Err fault) (set now n y) after
      Turns-fault fault after own =
          subst (λ (zs : List X). InTurn Own 0 first before (Err fault) zs after)
          (sym (set_split now n y below ∙ ap (λ (l : List X). take n now ++ y ∷ l) (rw add-one at (behind n now first sofar.rest))))
          (sofar.completes (y ∷ drop (suc n) first) (Err fault) after
          (subst (λ (l : List X). InTurn Own n l held (Err fault) (y ∷ drop (suc n) first) after) (sym is_next) (Err fault, after, own, (refl, refl, refl))))

module _ {X H F : Type 0} (Own : ℕ → X → H → Answer F → H → Type 0) where
  -- one more is called, after all others
  pub AllInTurn-more : (n m : ℕ) (xs : List X) (x : X) (before middle after : H) (a b : Answer F) → m ≡ n + length xs → AllInTurn Own n xs before a middle → Own m x middle b after → AllInTurn Own n (xs ++ x ∷ []) before (first_fault a b) after
  AllInTurn-more n m [] x before middle after a b at (done, same) own =
      (b, Ok tt, after, subst (λ (h : H). Own n x h b after) same (subst (λ (k : ℕ). Own k x middle b after) (let e = at in omega (arith, e)) own), (refl, refl), ap (λ (c : Answer F). first_fault c b) done ∙ sym (first_fault-Ok b))
  AllInTurn-more n m (y ∷ ys) x before middle after a b at (c, d, next, own_y, turns, is) own =
      (c, first_fault d b, next, own_y, AllInTurn-more (suc n) m ys x next middle after d b (let e = at in omega (arith, e)) turns own, ap (λ (z : Answer F). first_fault z b) is ∙ first_fault-assoc c d b)
