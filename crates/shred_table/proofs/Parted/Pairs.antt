-- Lists of pairs and hands, gone through side by side.
use Rattle.std.proofs.Common.{◌≡◌, ℕ, zero, suc, ◌<◌, ◌≤◌, ◌+◌, Bool, true, false, ◌&&◌, ◌||◌, Option, None, cond, List, [], ◌∷◌, ◌++◌, length, get_or, set, take, drop, refl, ◌∙◌, ap, arith, IsTrue, add-one}
use Rattle.std.specs.Prelude.{is_some, ⊤}
use Rattle.std.specs.List.{All, AllZip, AllByRecursion}
use Rattle.std.proofs.lemmas.List.{append-nil, drop_all, take_all}
use Rattle.std.proofs.lemmas.List.Folds.{list_any_at}
use Rattle.shred_model.proofs.Joined.Apart.{AllPairs-head, AllPairs-tail}
use Rattle.shred_table.specs.declared.id.ResourceId.{ResourceId}
use Rattle.shred_table.specs.declared.table.Slot.{Slot}
use Rattle.shred_table.specs.declared.table.Table.{Table}
use Rattle.shred_table.specs.Slots.{slot_at, among}
use Rattle.shred_table.specs.Parting.{emptied}
use Rattle.shred_table.specs.Parts.{Pair, writes_of, AreBeside, DoNotConflict, written_by, HasNothingOut, HoldsWritten}
use Rattle.shred_table.proofs.Tables.Moves.{emptied-twice}

module _ {A B : Type 0} where
  pub zip-get : (R : A → B → Type 0) (i : ℕ) (xs : List A) (ys : List B) (d : A) (e : B) → i < length xs → AllZip R xs ys → R (get_or xs i d) (get_or ys i e)
  zip-get R i [] ys d e h zip = absurd (omega arith)
  zip-get R i (x ∷ xs) [] d e h zip = absurd zip
  zip-get R zero (x ∷ xs) (y ∷ ys) d e h zip = zip.0
  zip-get R (suc i) (x ∷ xs) (y ∷ ys) d e h zip = zip-get R i xs ys d e (omega arith) zip.1

  pub zip-length : (R : A → B → Type 0) (xs : List A) (ys : List B) → AllZip R xs ys → length xs ≡ length ys
  zip-length R [] [] zip = refl
  zip-length R [] (y ∷ ys) zip = absurd zip
  zip-length R (x ∷ xs) [] zip = absurd zip
  zip-length R (x ∷ xs) (y ∷ ys) zip = ap suc (zip-length R xs ys zip.1)

  -- two lists that are as long as each other go together
  pub zip-any : (xs : List A) (ys : List B) → length xs ≡ length ys → AllZip (λ x y. ⊤) xs ys
  zip-any [] [] long = tt
  zip-any [] (y ∷ ys) long = absurd (omega (arith, long))
  zip-any (x ∷ xs) [] long = absurd (omega (arith, long))
  zip-any (x ∷ xs) (y ∷ ys) long = (tt, zip-any xs ys (omega (arith, long)))

  -- what holds of each second one, by what holds of it with the first
  pub zip-second : (R : A → B → Type 0) (S : B → Type 0) (xs : List A) (ys : List B) (d : A) → ((x : A) (y : B) → R x y → S y) → AllZip R xs ys → All S ys
  zip-second R S xs ys d f zip i e below = f (get_or xs i d) (get_or ys i e) (zip-get R i xs ys d e (rw (zip-length R xs ys zip) below) zip)

  module _ (R S : A → B → Type 0) where
    -- R holds of the items below a place, and S of those from there on
    abbrev pub ZipTo : ℕ → List A → List B → Type 0
    ZipTo i [] [] = ⊤
    ZipTo i [] (y ∷ ys) = ⊥
    ZipTo i (x ∷ xs) [] = ⊥
    ZipTo zero (x ∷ xs) (y ∷ ys) = S x y × ZipTo zero xs ys
    ZipTo (suc i) (x ∷ xs) (y ∷ ys) = R x y × ZipTo i xs ys

    pub zip-start : (xs : List A) (ys : List B) → AllZip S xs ys → ZipTo 0 xs ys
    zip-start [] [] zip = tt
    zip-start [] (y ∷ ys) zip = absurd zip
    zip-start (x ∷ xs) [] zip = absurd zip
    zip-start (x ∷ xs) (y ∷ ys) zip = (zip.0, zip-start xs ys zip.1)

    pub zip-end : (i : ℕ) (xs : List A) (ys : List B) → length xs ≤ i → ZipTo i xs ys → AllZip R xs ys
    zip-end i [] [] h zip = tt
    zip-end i [] (y ∷ ys) h zip = absurd zip
    zip-end i (x ∷ xs) [] h zip = absurd zip
    zip-end zero (x ∷ xs) (y ∷ ys) h zip = absurd (omega arith)
    zip-end (suc i) (x ∷ xs) (y ∷ ys) h zip = (zip.0, zip-end i xs ys (omega arith) zip.1)

    pub zip-at : (i : ℕ) (xs : List A) (ys : List B) (d : A) (e : B) → i < length xs → ZipTo i xs ys → S (get_or xs i d) (get_or ys i e)
    zip-at i [] ys d e h zip = absurd (omega arith)
    zip-at i (x ∷ xs) [] d e h zip = absurd zip
    zip-at zero (x ∷ xs) (y ∷ ys) d e h zip = zip.0
    zip-at (suc i) (x ∷ xs) (y ∷ ys) d e h zip = zip-at i xs ys d e (omega arith) zip.1

    zip-suc : (i : ℕ) (xs : List A) (ys : List B) (d : A) (y : B) → i < length xs → ZipTo i xs ys → R (get_or xs i d) y → ZipTo (suc i) xs (set ys i y)
    zip-suc i [] ys d y h zip r = absurd (omega arith)
    zip-suc i (x ∷ xs) [] d y h zip r = absurd zip
    zip-suc zero (x ∷ xs) (z ∷ ys) d y h zip r = (r, zip.1)
    zip-suc (suc i) (x ∷ xs) (z ∷ ys) d y h zip r = (zip.0, zip-suc i xs ys d y (omega arith) zip.1 r)

    pub zip-more : (i : ℕ) (xs : List A) (ys : List B) (d : A) (y : B) → i < length xs → ZipTo i xs ys → R (get_or xs i d) y → ZipTo (i + 1) xs (set ys i y)
    zip-more i xs ys d y h zip r = rw add-one (zip-suc i xs ys d y h zip r)

-- from each pair with its hand to what holds of them
pub zip-map : {A B : Type 0} (Q R : A → B → Type 0) (xs : List A) (ys : List B) → ((i : ℕ) (d : A) (y : B) → i < length xs → Q (get_or xs i d) y → R (get_or xs i d) y) → AllZip Q xs ys → AllZip R xs ys
zip-map Q R [] [] f zip = tt
zip-map Q R [] (y ∷ ys) f zip = absurd zip
zip-map Q R (x ∷ xs) [] f zip = absurd zip
zip-map Q R (x ∷ xs) (y ∷ ys) f zip = (f 0 x y (omega arith) zip.0, zip-map Q R xs ys (λ i d z h. f (suc i) d z (omega arith)) zip.1)

-- what holds of each pair with its hand, by what holds of the pair with the hand before
pub zip-through : {A B C : Type 0} (Q : A → B → Type 0) (S : B → C → Type 0) (R : A → C → Type 0) (xs : List A) (ys : List B) (zs : List C)
    → ((x : A) (y : B) (z : C) → Q x y → S y z → R x z) → AllZip Q xs ys → AllZip S ys zs → AllZip R xs zs
zip-through Q S R [] [] [] f one two = tt
zip-through Q S R [] [] (z ∷ zs) f one two = absurd two
zip-through Q S R [] (y ∷ ys) zs f one two = absurd one
zip-through Q S R (x ∷ xs) [] zs f one two = absurd one
zip-through Q S R (x ∷ xs) (y ∷ ys) [] f one two = absurd two
zip-through Q S R (x ∷ xs) (y ∷ ys) (z ∷ zs) f one two = (f x y z one.0 two.0, zip-through Q S R xs ys zs f one.1 two.1)

-- a list that was written over as a whole has what was written
pub written-over : {A : Type 0} (n : ℕ) (was now : List A) → n ≡ length was → length now ≡ length was → take n (now ++ drop (length now) was) ≡ now
written-over n was now here same = ap (λ rest. take n (now ++ rest)) (drop_all (length now) was (omega arith)) ∙ ap (take n) (append-nil now) ∙ take_all n now (omega arith)

pub same-start : {A : Type 0} (R : A → A → Type 0) (xs : List A) → ZipTo R (λ was now. now ≡ was) 0 xs xs
same-start R [] = tt
same-start R (x ∷ xs) = (refl, same-start R xs)

or_left : (a b : Bool) → (a || b) ≡ false → a ≡ false
or_left true b h = absurd (cc)
or_left false b h = refl

or_right : (a b : Bool) → (a || b) ≡ false → b ≡ false
or_right true b h = absurd (cc)
or_right false b h = h

or_none : (a b : Bool) → a ≡ false → b ≡ false → (a || b) ≡ false
or_none a b x y = rw (x, y) refl

-- what the pair at a place writes is written by some pair
pub written-at : (i : ℕ) (ps : List Pair) (d : Pair) (q : ResourceId) → i < length ps → among (writes_of (get_or ps i d)) q ≡ true → written_by ps q ≡ true
written-at i ps d q h w = list_any_at (λ p. among (writes_of p) q) ps i d h w

-- what a pair writes, no pair before it writes
pub written-before : (i : ℕ) (ps : List Pair) (d : Pair) (q : ResourceId) → DoNotConflict ps → i < length ps → among (writes_of (get_or ps i d)) q ≡ true → written_by (take i ps) q ≡ false
written-before i [] d q apart h w = absurd (omega arith)
written-before zero (p ∷ ps) d q apart h w = refl
written-before (suc i) (p ∷ ps) d q apart h w =
    let beside = apart 0 (suc i) d (omega arith) (omega arith) in
    or_none (among (writes_of p) q) _ (or_right (among p.0.now q) _ (beside.1 q w)) (written-before i ps d q (AllPairs-tail AreBeside p ps apart) (omega arith) w)

-- what a pair writes, no pair after it writes
pub written-after : (i : ℕ) (p : Pair) (ps : List Pair) (q : ResourceId) → AllByRecursion (AreBeside p) ps → among (writes_of p) q ≡ true → written_by (take i ps) q ≡ false
written-after zero p ps q beside w = refl
written-after (suc i) p [] q beside w = refl
written-after (suc i) p (r ∷ ps) q beside w = or_none (among (writes_of r) q) _ (or_right (among r.0.now q) _ ((beside.0).0 q w)) (written-after i p ps q beside.1 w)

module _ {V : Type 0} where
  -- the hand holds what its pair writes, and nothing of it is out
  abbrev pub IsFilled : Table V → Pair → Table V → Type 0
  IsFilled table p hand = HoldsWritten table p hand × HasNothingOut hand

  -- one more pair's slots are left empty
  pub left-or : (a w : Bool) (t s u : Option (Slot V)) → s ≡ cond a (emptied t) t → u ≡ cond w (emptied s) s → u ≡ cond (a || w) (emptied t) t
  left-or true true t s u was is = is ∙ ap emptied was ∙ emptied-twice t
  left-or true false t s u was is = is ∙ was
  left-or false true t s u was is = is ∙ ap emptied was
  left-or false false t s u was is = is ∙ was

  -- a hand into which what a pair writes was moved holds what was there at first
  pub held-now : (a w : Bool) (t s h : Option (Slot V)) → (w ≡ true → a ≡ false) → s ≡ cond a (emptied t) t → h ≡ cond w s None → h ≡ cond w t None
  held-now a false t s h first was is = is
  held-now a true t s h first was is = is ∙ was ∙ ap (λ (b : Bool). cond b (emptied t) t) (first refl)

  -- what a map shows once the hands of the first pairs are put into it
  abbrev pub joined : ℕ → List Pair → List (Table V) → (ResourceId → Option (Slot V)) → ResourceId → Option (Slot V)
  joined zero ps hs m q = m q
  joined (suc i) [] hs m q = m q
  joined (suc i) (p ∷ ps) [] m q = m q
  joined (suc i) (p ∷ ps) (h ∷ hs) m q = joined i ps hs (λ r. cond (among (writes_of p) r) (slot_at h r) (m r)) q

  joined-suc : (i : ℕ) (ps : List Pair) (hs : List (Table V)) (m : ResourceId → Option (Slot V)) (d : Pair) (e : Table V) (q : ResourceId) → i < length ps → length ps ≡ length hs
      → joined (suc i) ps hs m q ≡ cond (among (writes_of (get_or ps i d)) q) (slot_at (get_or hs i e) q) (joined i ps hs m q)
  joined-suc i [] hs m d e q h same = absurd (omega arith)
  joined-suc i (p ∷ ps) [] m d e q h same = absurd (omega arith)
  joined-suc zero (p ∷ ps) (x ∷ hs) m d e q h same = refl
  joined-suc (suc i) (p ∷ ps) (x ∷ hs) m d e q h same = joined-suc i ps hs (λ r. cond (among (writes_of p) r) (slot_at x r) (m r)) d e q (omega arith) (omega arith)

  -- one pair more
  pub joined-more : (i : ℕ) (ps : List Pair) (hs : List (Table V)) (m : ResourceId → Option (Slot V)) (d : Pair) (e : Table V) (q : ResourceId) → i < length ps → length ps ≡ length hs
      → joined (i + 1) ps hs m q ≡ cond (among (writes_of (get_or ps i d)) q) (slot_at (get_or hs i e) q) (joined i ps hs m q)
  joined-more i ps hs m d e q h same = rw add-one (joined-suc i ps hs m d e q h same)

  -- what these pairs do not write stays
  pub joined-rest : (i : ℕ) (ps : List Pair) (hs : List (Table V)) (m : ResourceId → Option (Slot V)) (q : ResourceId) → written_by (take i ps) q ≡ false → joined i ps hs m q ≡ m q
  joined-rest zero ps hs m q h = refl
  joined-rest (suc i) [] hs m q h = refl
  joined-rest (suc i) (p ∷ ps) [] m q h = refl
  joined-rest (suc i) (p ∷ ps) (x ∷ hs) m q h =
      joined-rest i ps hs (λ r. cond (among (writes_of p) r) (slot_at x r) (m r)) q (or_right (among (writes_of p) q) _ h) ∙ ap (λ (b : Bool). cond b (slot_at x q) (m q)) (or_left (among (writes_of p) q) _ h)

  -- no slot comes or goes
  pub joined-slots : (c : ResourceId → Bool) (i : ℕ) (ps : List Pair) (hs : List (Table V)) (m : ResourceId → Option (Slot V)) → AllZip (λ p h. (q : ResourceId) → is_some (slot_at h q) ≡ (among (writes_of p) q && c q)) ps hs
      → ((q : ResourceId) → is_some (m q) ≡ c q) → (q : ResourceId) → is_some (joined i ps hs m q) ≡ c q
  joined-slots c zero ps hs m fit same q = same q
  joined-slots c (suc i) [] hs m fit same q = same q
  joined-slots c (suc i) (p ∷ ps) [] m fit same q = same q
  joined-slots c (suc i) (p ∷ ps) (x ∷ hs) m fit same q = joined-slots c i ps hs (λ r. cond (among (writes_of p) r) (slot_at x r) (m r)) fit.1 (λ r. here r (among (writes_of p) r) ((fit.0) r)) q where
    here : (r : ResourceId) (b : Bool) → is_some (slot_at x r) ≡ (b && c r) → is_some (cond b (slot_at x r) (m r)) ≡ c r
    here r true e = e
    here r false e = same r

  -- each pair's hand is there
  pub joined-all : (i : ℕ) (ps : List Pair) (hs : List (Table V)) (m n : ResourceId → Option (Slot V)) → DoNotConflict ps → length ps ≤ i → length ps ≡ length hs → ((q : ResourceId) → n q ≡ joined i ps hs m q)
      → AllZip (λ p h. (q : ResourceId) → IsTrue (among (writes_of p) q) → n q ≡ slot_at h q) ps hs
  joined-all i [] [] m n apart h same is = tt
  joined-all i [] (x ∷ hs) m n apart h same is = absurd (omega arith)
  joined-all i (p ∷ ps) [] m n apart h same is = absurd (omega arith)
  joined-all zero (p ∷ ps) (x ∷ hs) m n apart h same is = absurd (omega arith)
  joined-all (suc i) (p ∷ ps) (x ∷ hs) m n apart h same is = (
    (λ q w. is q ∙ joined-rest i ps hs (λ r. cond (among (writes_of p) r) (slot_at x r) (m r)) q (written-after i p ps q (AllPairs-head AreBeside p ps apart) w) ∙ ap (λ (b : Bool). cond b (slot_at x q) (m q)) w),
    joined-all i ps hs (λ r. cond (among (writes_of p) r) (slot_at x r) (m r)) n (AllPairs-tail AreBeside p ps apart) (omega arith) (omega arith) is,
  )
