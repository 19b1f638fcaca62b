-- Kept numbers before those that lie behind.
use Rattle.std.proofs.Common.{◌≡◌, ◌≢◌, ◌<◌, ℕ, zero, suc, Bool, true, false, ◌||◌, ◌==◌, Option, Some, None, cond, List, [], ◌∷◌, map, length, get_or, IsSome, IsTrue, refl, sym, ◌∙◌, ap, subst, arith}
use Rattle.std.proofs.Math.ListN.{set}
use Rattle.std.proofs.Math.Path.{fun_ext}
use Rattle.std.specs.List.{AllWithin, HoldsAt}
use Rattle.std.specs.Prelude.{nat_eq}
use Rattle.std.proofs.lemmas.Bool.Decides.{nat_tests}
use Rattle.shred_table.specs.Id.{same_id}
use Rattle.shred_table.proofs.Tables.Slots.{same_id-true}
use Rattle.std.proofs.lemmas.List.Elements.{All-head, All-tail}
use Rattle.std.specs.Option.{IfNone, IfSome, MatchOption, option_map}
use Rattle.shred_table.specs.Slots.{with_at}
use Rattle.shred_world.specs.Worked.{Held}
use Rattle.script_text.proofs.Changed.{put-same}
use Rattle.script_text.specs.Declares.{is_among}
use Rattle.script_text.specs.Place.{id_at, number_at}
use Rattle.script_text.specs.declared.value.Value.{Value}
use Rattle.script_engine.specs.declared.kept_numbers.KeptNumber.{KeptNumber}
use Rattle.script_engine.specs.Overlaid.{AreHeld, IsKeptAt, kept_place, of_number, overlaid}

-- numbers that are held change nothing
pub overlaid-held : (seen : Held Value) (kept : List KeptNumber) → AreHeld seen kept → overlaid kept seen ≡ seen
overlaid-held seen [] held = refl
overlaid-held seen (first ∷ rest) held =
    ap (λ under. with_at under (id_at first.place) (of_number first.number)) (overlaid-held seen rest (All-tail (λ (k : KeptNumber). number_at seen k.place ≡ Some k.number) first rest held))
    ∙ put-same seen first.place first.number (All-head (λ (k : KeptNumber). number_at seen k.place ≡ Some k.number) first rest held)

-- where a number was held one still is
pub held-still : (seen : Held Value) (kept : List KeptNumber) (place : ℕ) → IsSome (number_at seen place) → IsSome (number_at (overlaid kept seen) place)
held-still seen [] place held = held
held-still seen (first ∷ rest) place held = chosen (first.place == place) (held-still seen rest place held) where
  chosen : (b : Bool) → IsSome (number_at (overlaid rest seen) place) → IsSome (option_map (λ (v : Value). v.0) (cond b (of_number first.number) (overlaid rest seen (id_at place))))
  chosen true still = refl
  chosen false still = still

-- a number is held at each place of which one is kept
pub kept-held : (seen : Held Value) (kept : List KeptNumber) (place : ℕ) → IsTrue (is_among (map kept_place kept) place) → IsSome (number_at (overlaid kept seen) place)
kept-held seen [] place has = absurd (cc)
kept-held seen (first ∷ rest) place has = chosen (first.place == place) has (kept-held seen rest place) where
  chosen : (b : Bool) → IsTrue (b || is_among (map kept_place rest) place) → (IsTrue (is_among (map kept_place rest) place) → IsSome (number_at (overlaid rest seen) place))
      → IsSome (option_map (λ (v : Value). v.0) (cond b (of_number first.number) (overlaid rest seen (id_at place))))
  chosen true has behind = refl
  chosen false has behind = behind has

-- a number is held at each place of which one is kept that is held
pub held-places : (seen : Held Value) (kept : List KeptNumber) → AreHeld seen kept → (place : ℕ) → IsTrue (is_among (map kept_place kept) place) → IsSome (number_at seen place)
held-places seen [] held place has = absurd (cc)
held-places seen (first ∷ rest) held place has = chosen (first.place == place) refl (held-places seen rest (All-tail (λ (k : KeptNumber). number_at seen k.place ≡ Some k.number) first rest held) place) where
  chosen : (b : Bool) → (first.place == place) ≡ b → (IsTrue (is_among (map kept_place rest) place) → IsSome (number_at seen place)) → IsSome (number_at seen place)
  chosen true e later = let same : first.place ≡ place = grind (arith, e) in
      subst (λ (p : ℕ). IsSome (number_at seen p)) same (subst IsSome (sym (All-head (λ (k : KeptNumber). number_at seen k.place ≡ Some k.number) first rest held)) refl)
  chosen false e later = later (sym (ap (λ b. b || is_among (map kept_place rest) place) e) ∙ has)

-- the place of the first is in the list
pub has-first : (kept rest : List KeptNumber) (first : KeptNumber) → kept ≡ first ∷ rest → IsTrue (is_among (map kept_place kept) first.place)
has-first kept rest first is = subst (λ (l : List KeptNumber). IsTrue (is_among (map kept_place l) first.place)) (sym is) (ap (λ b. b || is_among (map kept_place rest) first.place) same) where
  same : (first.place == first.place) ≡ true
  same = grind (arith)

-- numbers that are held change nothing, before others that are held
pub overlaid-both : (seen : Held Value) (written read : List KeptNumber) → AreHeld seen written → AreHeld seen read → overlaid written (overlaid read seen) ≡ seen
overlaid-both seen written read first second = ap (overlaid written) (overlaid-held seen read second) ∙ overlaid-held seen written first

-- the first kept number of the place is found by its test
kept-found : (kept : List KeptNumber) (place at : ℕ) → at < length kept → HoldsAt (λ (k : KeptNumber). true ≡ nat_eq k.place place) kept at → AllWithin (λ (k : KeptNumber). false ≡ nat_eq k.place place) kept 0 at → IsKeptAt kept place at
kept-found [] place at below here before = absurd (omega (arith, below))
kept-found (k ∷ rest) place zero below here before = let test = here k in grind (arith, nat_tests)
kept-found (k ∷ rest) place (suc at) below here before =
    let test = before 0 k (omega arith) (omega arith) in
    let other : k.place ≢ place = grind (arith, nat_tests) in
    (other, kept-found rest place at (omega (arith, below)) here (λ j d low high. before (suc j) d (omega arith) (omega (arith, high))))

-- where the test finds none, none is kept of the place
kept-nowhere : (kept : List KeptNumber) (place : ℕ) → AllWithin (λ (k : KeptNumber). false ≡ nat_eq k.place place) kept 0 (length kept) → is_among (map kept_place kept) place ≡ false
kept-nowhere [] place none = refl
kept-nowhere (k ∷ rest) place none =
    let test : (k.place == place) ≡ false = sym (none 0 k (omega arith) (omega arith)) in
    rw test (kept-nowhere rest place (λ j d low high. none (suc j) d (omega arith) (omega (arith, high))))

pub kept-within : (kept : List KeptNumber) (place at : ℕ) → IsKeptAt kept place at → at < length kept
kept-within [] place at here = absurd here
kept-within (k ∷ rest) place zero here = omega arith
kept-within (k ∷ rest) place (suc at) here = let below = kept-within rest place at here.1 in omega (arith, below)

-- what a search for the place tells
pub kept-first : (kept : List KeptNumber) (place : ℕ) (found : Option ℕ)
    → MatchOption found (AllWithin (λ (k : KeptNumber). false ≡ nat_eq k.place place) kept 0 (length kept)) (λ at. (at < length kept) × HoldsAt (λ (k : KeptNumber). true ≡ nat_eq k.place place) kept at × AllWithin (λ (k : KeptNumber). false ≡ nat_eq k.place place) kept 0 at)
    → IfSome found (IsKeptAt kept place) × IfNone found (is_among (map kept_place kept) place ≡ false)
kept-first kept place None none = (tt, kept-nowhere kept place none)
kept-first kept place (Some at) found = (kept-found kept place at found.0 found.1 found.2, tt)

-- its number is the one that is held at the place
pub kept-number : (seen : Held Value) (kept : List KeptNumber) (place at : ℕ) (d : KeptNumber) → IsKeptAt kept place at → number_at (overlaid kept seen) place ≡ Some (get_or kept at d).number
kept-number seen [] place at d here = absurd here
kept-number seen (k ∷ rest) place zero d here =
    let same : (k.place == place) ≡ true = grind (arith, nat_tests) in
    ap (λ (b : Bool). option_map (λ (v : Value). v.0) (cond b (of_number k.number) (overlaid rest seen (id_at place)))) same
kept-number seen (k ∷ rest) place (suc at) d here =
    let differ = here.0 in
    let other : (k.place == place) ≡ false = grind (arith, nat_tests) in
    ap (λ (b : Bool). option_map (λ (v : Value). v.0) (cond b (of_number k.number) (overlaid rest seen (id_at place)))) other ∙ kept-number seen rest place at d here.1

-- a number in its place is as one that is put at the place
pub overlaid-set : (seen : Held Value) (kept : List KeptNumber) (place at : ℕ) (one : KeptNumber) → one.place ≡ place → IsKeptAt kept place at → overlaid (set kept at one) seen ≡ with_at (overlaid kept seen) (id_at place) (of_number one.number)
overlaid-set seen [] place at one same here = absurd here
overlaid-set seen (k ∷ rest) place zero one same here = fun_ext (λ q. rw (same, here) (twice (same_id (id_at place) q) (of_number one.number) (of_number k.number) (overlaid rest seen q))) where
  twice : (b : Bool) (n o r : Option Value) → cond b n r ≡ cond b n (cond b o r)
  twice true n o r = refl
  twice false n o r = refl
overlaid-set seen (k ∷ rest) place (suc at) one same here = fun_ext (λ q.
    ap (λ r. cond (same_id (id_at k.place) q) (of_number k.number) r) (ap (λ (held : Held Value). held q) (overlaid-set seen rest place at one same here.1))
    ∙ apart (same_id (id_at k.place) q) (same_id (id_at place) q) (of_number one.number) (of_number k.number) (overlaid rest seen q) (λ first second. here.0 (ap (λ id. id.dynamic_id) (same_id-true (id_at k.place) q first ∙ sym (same_id-true (id_at place) q second))))) where
      apart : (b c : Bool) (n o r : Option Value) → (b ≡ true → c ≡ true → ⊥) → cond b o (cond c n r) ≡ cond c n (cond b o r)
      apart true true n o r both = absurd (both refl refl)
      apart true false n o r both = refl
      apart false c n o r both = refl

pub places-set : (kept : List KeptNumber) (place at : ℕ) (one : KeptNumber) → one.place ≡ place → IsKeptAt kept place at → map kept_place (set kept at one) ≡ map kept_place kept
places-set [] place at one same here = absurd here
places-set (k ∷ rest) place zero one same here = ap (λ p. p ∷ map kept_place rest) (same ∙ sym here)
places-set (k ∷ rest) place (suc at) one same here = ap (λ ps. k.place ∷ ps) (places-set rest place at one same here.1)

-- what stands there is of the place
pub kept-place : (kept : List KeptNumber) (place at : ℕ) (d : KeptNumber) → IsKeptAt kept place at → (get_or kept at d).place ≡ place
kept-place [] place at d here = absurd here
kept-place (k ∷ rest) place zero d here = here
kept-place (k ∷ rest) place (suc at) d here = kept-place rest place at d here.1
