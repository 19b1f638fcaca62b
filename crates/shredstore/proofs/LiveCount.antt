-- How many entities are live.
use Rattle.std.proofs.Common.{◌≡◌, ℕ, zero, suc, ◌+◌, ◌<◌, ◌≤◌, ◌==◌, ◌||◌, Bool, true, false, cond, nat_lt, List, [], ◌∷◌, length, refl, sym, ◌∙◌, ap, arith}
use Rattle.std.specs.List.{AllByRecursion, list_any}
use Rattle.std.specs.List.Sorted.{IsStrictlySortedBy}
use Rattle.std.specs.Ordering.{is_eq, nat_cmp}
use Rattle.std.specs.declared.cmp.Ordering.TheVariants.{Less, Equal, Greater}
use Rattle.std.proofs.lemmas.Bool.Decides.{nat_tests}
use Rattle.std.proofs.lemmas.List.Elements.{recursion_from_All}
use Rattle.std.proofs.lemmas.Map.Keys.{sorted_tail}
use Rattle.std.proofs.lemmas.Map.Views.{All-after_first}
use Rattle.shredstore.specs.Facts.{live_below}

-- whether the entity is one of these
abbrev Has : List ℕ → ℕ → Bool
Has keys entity = list_any (λ key. entity == key) keys

abbrev pub Holds : List ℕ → ℕ → Bool
Holds keys entity = list_any (λ key. is_eq (nat_cmp entity key)) keys

same-key : (entity key : ℕ) → is_eq (nat_cmp entity key) ≡ (entity == key)
same-key entity key = told (nat_lt entity key) refl (entity == key) refl where
  told : (a : Bool) → nat_lt entity key ≡ a → (b : Bool) → (entity == key) ≡ b → is_eq (cond a Less (cond b Equal Greater)) ≡ b
  told true less true same = absurd (grind (arith, nat_tests))
  told true less false same = refl
  told false less true same = refl
  told false less false same = refl

same-has : (keys : List ℕ) (entity : ℕ) → Holds keys entity ≡ Has keys entity
same-has [] entity = refl
same-has (key ∷ keys) entity = λ i. same-key entity key i || same-has keys entity i

live-same : (f g : ℕ → Bool) → ((entity : ℕ) → f entity ≡ g entity) → (n : ℕ) → live_below f n ≡ live_below g n
live-same f g same zero = refl
live-same f g same (suc n) = λ i. cond (same n i) 1 0 + live-same f g same n i

-- entities that are of just one kind are counted by kind
live-or : (f g : ℕ → Bool) → ((entity : ℕ) → f entity ≡ true → g entity ≡ true → ⊥) → (n : ℕ) → live_below (λ e. f e || g e) n ≡ live_below f n + live_below g n
live-or f g apart zero = refl
live-or f g apart (suc n) = told (f n) refl (g n) refl (live-or f g apart n) where
  told : (a : Bool) → f n ≡ a → (b : Bool) → g n ≡ b → live_below (λ e. f e || g e) n ≡ live_below f n + live_below g n → cond (a || b) 1 0 + live_below (λ e. f e || g e) n ≡ (cond a 1 0 + live_below f n) + (cond b 1 0 + live_below g n)
  told true e true h rest = absurd (apart n e h)
  told true e false h rest = omega (arith, rest)
  told false e true h rest = omega (arith, rest)
  told false e false h rest = omega (arith, rest)

live-false : (n : ℕ) → live_below (λ e. false) n ≡ 0
live-false zero = refl
live-false (suc n) = let rest = live-false n in omega (arith, rest)

live-none : (key n : ℕ) → n ≤ key → live_below (λ e. e == key) n ≡ 0
live-none key zero le = refl
live-none key (suc n) le = told (n == key) refl (live-none key n (omega (arith, le))) where
  told : (b : Bool) → (n == key) ≡ b → live_below (λ e. e == key) n ≡ 0 → cond b 1 0 + live_below (λ e. e == key) n ≡ 0
  told true e rest = absurd (let same : n ≡ key = grind (arith, nat_tests) in omega (arith, same, le))
  told false e rest = omega (arith, rest)

live-one : (key n : ℕ) → key < n → live_below (λ e. e == key) n ≡ 1
live-one key zero lt = absurd (omega (arith, lt))
live-one key (suc n) lt = told (n == key) refl (λ below. live-one key n below) where
  told : (b : Bool) → (n == key) ≡ b → (key < n → live_below (λ e. e == key) n ≡ 1) → cond b 1 0 + live_below (λ e. e == key) n ≡ 1
  told true e rest = let same : n ≡ key = grind (arith, nat_tests) in let none = live-none key n (omega (arith, same)) in omega (arith, none)
  told false e rest = let one = rest (grind (arith, nat_tests, lt)) in omega (arith, one)

-- a key is not among greater ones
not-among : (key : ℕ) (keys : List ℕ) → AllByRecursion (λ other. nat_cmp key other ≡ Less) keys → (entity : ℕ) → (entity == key) ≡ true → Has keys entity ≡ true → ⊥
not-among key [] less entity same there = absurd (cc)
not-among key (other ∷ keys) less entity same there = told (nat_lt key other) refl (key == other) refl (entity == other) refl less.0 (not-among key keys less.1 entity same) there where
  told : (a : Bool) → nat_lt key other ≡ a → (b : Bool) → (key == other) ≡ b → (c : Bool) → (entity == other) ≡ c → cond a Less (cond b Equal Greater) ≡ Less → (Has keys entity ≡ true → ⊥) → (c || Has keys entity) ≡ true → ⊥
  told true lt b e true at less rest there = absurd (let first : entity ≡ key = grind (arith, nat_tests) in let second : entity ≡ other = grind (arith, nat_tests) in let third : key < other = grind (arith, nat_tests) in omega (arith, first, second, third))
  told true lt b e false at less rest there = rest there
  told false lt true e c at less rest there = absurd (cc)
  told false lt false e c at less rest there = absurd (cc)

all-below : (next : ℕ) (keys : List ℕ) → ((entity : ℕ) → Has keys entity ≡ true → entity < next) → AllByRecursion (λ key. key < next) keys
all-below next [] below = tt
all-below next (key ∷ keys) below = (below key (self (key == key) refl), all-below next keys (λ entity there. below entity (behind (entity == key) (Has keys entity) there))) where
  self : (b : Bool) → (key == key) ≡ b → (b || Has keys key) ≡ true
  self true e = refl
  self false e = absurd (grind (arith, nat_tests))

  behind : (a b : Bool) → b ≡ true → (a || b) ≡ true
  behind true b is = refl
  behind false b is = is

live-keys : (next : ℕ) (keys : List ℕ) → IsStrictlySortedBy nat_cmp keys → AllByRecursion (λ key. key < next) keys → length keys ≡ live_below (Has keys) next
live-keys next [] sorted below = sym (live-false next)
live-keys next (key ∷ keys) sorted below =
    let first = live-one key next below.0 in
    let rest = live-keys next keys (sorted_tail nat_cmp key keys sorted) below.1 in
    let both = live-or (λ e. e == key) (Has keys) (not-among key keys (recursion_from_All (λ other. nat_cmp key other ≡ Less) keys (All-after_first nat_cmp key keys sorted))) next in
    omega (arith, first, rest, both)

-- keys in order, which are below the number, are as many as the entities below it that are among them
pub live-count : (next : ℕ) (keys : List ℕ) → IsStrictlySortedBy nat_cmp keys → ((entity : ℕ) → Holds keys entity ≡ true → entity < next) → length keys ≡ live_below (Holds keys) next
live-count next keys sorted below =
    live-keys next keys sorted (all-below next keys (λ entity there. below entity (same-has keys entity ∙ there))) ∙ sym (live-same (Holds keys) (Has keys) (same-has keys) next)

-- where there is no key, none is live
pub none-live : (keys : List ℕ) → length keys ≡ 0 → (entity : ℕ) → Holds keys entity ≡ false
none-live [] none entity = refl
none-live (key ∷ keys) none entity = absurd (omega (arith, none))

-- and the other way round
pub all-dead : (keys : List ℕ) → ((entity : ℕ) → Holds keys entity ≡ false) → length keys ≡ 0
all-dead [] dead = refl
all-dead (key ∷ keys) dead =
    let own : (key == key) ≡ true = grind (arith, nat_tests) in
    let no : true ≡ false = sym (ap (λ b. b || Holds keys key) (same-key key key ∙ own)) ∙ dead key in
    absurd (cc)
