-- Texts that are put into a sink one after the other.
use Rattle.std.proofs.Common.{◌≡◌, ℕ, ◌+◌, List, [], ◌∷◌, ◌++◌, map, take, drop, take-add, Option, Some, None, Result, Ok, Err, refl, sym, ◌∙◌, ap, subst}
use Rattle.std.specs.List.{flat_map, slice_get}
use Rattle.std.proofs.lemmas.Grind.{flat_map-append}
use Rattle.std.proofs.lemmas.List.{append-nil, append_assoc, take_more, take-append-drop}
use Rattle.std.proofs.lemmas.Option.{slice_get_within, get_or_from_slice_get}
use Rattle.std.specs.Io.KnownBytes.{Appends, Keeps}
use Rattle.shred_stage.specs.Sinks.{IsCounted, IsPut}

pub Appends-kept : (old new : Option (List ℕ)) → Keeps old new → Appends old new []
Appends-kept None new h = tt
Appends-kept (Some xs) None h = absurd h
Appends-kept (Some xs) (Some ys) h = h ∙ sym (append-nil xs)

pub Appends-then : (old mid new : Option (List ℕ)) (t u : List ℕ) → Appends old mid t → Appends mid new u → Appends old new (t ++ u)
Appends-then None mid new t u p q = tt
Appends-then (Some xs) None new t u p q = absurd p
Appends-then (Some xs) (Some ys) None t u p q = absurd q
Appends-then (Some xs) (Some ys) (Some zs) t u p q = q ∙ ap (λ l. l ++ u) p ∙ append_assoc xs t u

-- a text was put, and what is put after it follows it
pub put-then : {E : Type 0} (old mid new : Option (List ℕ)) (m n k : ℕ) (t u : List ℕ) (r : Result (Unit {0}) E) → Appends old mid t → n ≡ m → IsPut mid new n k u r → IsPut old new m k (t ++ u) r
put-then old mid new m n k t u (Ok done) p e q = (Appends-then old mid new t u p q.0, q.1 ∙ e)
put-then old mid new m n k t u (Err f) p e ((begun, rest, is, q), failed) =
    ((t ++ begun, rest, ap (λ l. t ++ l) is ∙ sym (append_assoc t begun rest), Appends-then old mid new t begun p q), subst (λ a. IsCounted a k) e failed)

-- the sink failed, and nothing is put after it
pub put-stops : {E F : Type 0} (old new : Option (List ℕ)) (m n : ℕ) (t u : List ℕ) (e : E) (f : F) → IsPut old new m n t (Err e) → IsPut old new m n (t ++ u) (Err f)
put-stops old new m n t u e f ((begun, rest, is, p), failed) = ((begun, rest ++ u, ap (λ l. l ++ u) is ∙ append_assoc begun rest u, p), failed)

-- where the sink failed at a text within a longer one
pub put-stops-within : {E F : Type 0} (old mid new : Option (List ℕ)) (m n k : ℕ) (t u v : List ℕ) (e : E) (f : F) → Appends old mid t → n ≡ m → IsPut mid new n k u (Err e) → IsPut old new m k (t ++ (u ++ v)) (Err f)
put-stops-within old mid new m n k t u v e f p same q = put-then old mid new m n k t (u ++ v) (Err f) p same (put-stops mid new n k u v e f q)

-- a piece of the text was taken
pub put-more : (old mid new : Option (List ℕ)) (text piece : List ℕ) (done n : ℕ) → Appends old mid (take done text) → piece ≡ drop done text → Appends mid new (take n piece) → Appends old new (take (done + n) text)
put-more old mid new text piece done n p is q = rw (take-add done n text) (Appends-then old mid new (take done text) (take n (drop done text)) p (rw is at q))

-- the texts of a list's items, one after the other
module _ {Y : Type 0} (f : Y → List ℕ) (ys : List Y) (i : ℕ) (y : Y) where
  more : slice_get ys i ≡ Some y → flat_map f (take (i + 1) ys) ≡ flat_map f (take i ys) ++ f y
  more at =
      ap (flat_map f) (take_more ys i y (slice_get_within ys i y at) ∙ ap (λ z. take i ys ++ z ∷ []) (get_or_from_slice_get ys i y y at)) ∙ flat_map-append f (take i ys) (y ∷ [])
      ∙ ap (λ l. flat_map f (take i ys) ++ l) (append-nil (f y))

  all : slice_get ys i ≡ Some y → flat_map f ys ≡ flat_map f (take i ys) ++ (f y ++ flat_map f (drop (i + 1) ys))
  all at =
      ap (flat_map f) (sym (take-append-drop (i + 1) ys)) ∙ flat_map-append f (take (i + 1) ys) (drop (i + 1) ys) ∙ ap (λ l. l ++ flat_map f (drop (i + 1) ys)) (more at)
      ∙ append_assoc (flat_map f (take i ys)) (f y) (flat_map f (drop (i + 1) ys))

-- the texts of the items before place i were put, and no failure was counted
pub record HasPut {W Y : Type 0} (told : W → Option (List ℕ)) (failures : W → ℕ) (f : Y → List ℕ) (ys : List Y) (i : ℕ) (old now : W) : Type 0 where
  pub so_far : Appends (told old) (told now) (flat_map f (take i ys))
  pub no_failure : failures now ≡ failures old

module _ {W Y : Type 0} {told : W → Option (List ℕ)} {failures : W → ℕ} {f : Y → List ℕ} {ys : List Y} {i : ℕ} {old now : W} (put : HasPut told failures f ys i old now) {y : Y} (at : slice_get ys i ≡ Some y) (new : W) where
  -- one more was put
  pub put-step : Appends (told now) (told new) (f y) → failures new ≡ failures now → HasPut told failures f ys (i + 1) old new
  put-step then kept = record { so_far = rw (more f ys i y at) (Appends-then (told old) (told now) (told new) (flat_map f (take i ys)) (f y) put.so_far then); no_failure = kept ∙ put.no_failure }

  -- the sink failed at this one
  pub put-stop : {E F : Type 0} (e : E) (e' : F) → IsPut (told now) (told new) (failures now) (failures new) (f y) (Err e) → IsPut (told old) (told new) (failures old) (failures new) (flat_map f ys) (Err e')
  put-stop e e' failed =
      rw (all f ys i y at)
      (put-stops-within (told old) (told now) (told new) (failures old) (failures now) (failures new) (flat_map f (take i ys)) (f y) (flat_map f (drop (i + 1) ys)) e e' put.so_far put.no_failure failed)

pub map-flat : {X : Type 0} (f : X → ℕ) (xs : List X) → map f xs ≡ flat_map (λ x. f x ∷ []) xs
map-flat f [] = refl
map-flat f (x ∷ xs) = ap (λ l. f x ∷ l) (map-flat f xs)

-- three texts, one after the other
pub put-three : {E : Type 0} (old a b new : Option (List ℕ)) (m n k l : ℕ) (t u v : List ℕ) (r : Result (Unit {0}) E) → Appends old a t × (n ≡ m) → Appends a b u × (k ≡ n) → IsPut b new k l v r → IsPut old new m l (t ++ (u ++ v)) r
put-three old a b new m n k l t u v r p q h = put-then old a new m n l t (u ++ v) r p.0 p.1 (put-then a b new n k l u v r q.0 q.1 h)
