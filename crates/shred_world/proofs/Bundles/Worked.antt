-- Hands that are worked over one after the other, and what the view shows then.
use Rattle.std.proofs.Common.{◌≡◌, ℕ, zero, suc, ◌<◌, ◌≤◌, ◌+◌, Bool, true, false, ◌||◌, Option, None, cond, List, [], ◌∷◌, length, get_or, set, refl, sym, subst, ◌∙◌, ap, arith, IsTrue, add-one}
use Rattle.std.specs.List.{All, AllZip}
use Rattle.shred_table.specs.declared.id.Kind.{Kind}
use Rattle.shred_table.specs.declared.id.ResourceId.{ResourceId}
use Rattle.shred_table.specs.declared.table.Table.{Table}
use Rattle.shred_world.specs.Beside.{ShowsDeclared, part_slot}
use Rattle.shred_table.specs.Parts.{Pair, reads_of, writes_of, declares, HasNothingOut, IsJoined, HoldsSameIds}
use Rattle.shred_table.specs.Shown.{Lent, IsSameSlots}
use Rattle.shred_table.specs.Slots.{slot_at, slot_held, among}
use Rattle.shred_world.specs.Worked.{Works, IsWorkedOver, IsWorkedEach, IsWorked, part_held}

module _ {V W : Type 0} (kind : V → Kind) (works : Works V W) (behind : Lent V) where
  -- the hands below a place were worked over, and the others are as they were
  abbrev pub WorkedTo : ℕ → List Pair → List (Table V) → W → List (Table V) → W → Type 0
  WorkedTo i [] [] before [] after = after ≡ before
  WorkedTo i [] [] before (n ∷ left) after = ⊥
  WorkedTo i [] (h ∷ hands) before left after = ⊥
  WorkedTo i (p ∷ pairs) [] before left after = ⊥
  WorkedTo i (p ∷ pairs) (h ∷ hands) before [] after = ⊥
  WorkedTo zero (p ∷ pairs) (h ∷ hands) before (n ∷ left) after = (n ≡ h) × WorkedTo zero pairs hands before left after
  WorkedTo (suc i) (p ∷ pairs) (h ∷ hands) before (n ∷ left) after = (w : W) × IsWorkedOver kind works behind p h before n w × WorkedTo i pairs hands w left after

  pub worked-start : (ps : List Pair) (hs : List (Table V)) (w : W) → length ps ≡ length hs → WorkedTo 0 ps hs w hs w
  worked-start [] [] w same = refl
  worked-start [] (h ∷ hs) w same = absurd (omega arith)
  worked-start (p ∷ ps) [] w same = absurd (omega arith)
  worked-start (p ∷ ps) (h ∷ hs) w same = (refl, worked-start ps hs w (omega arith))

  pub worked-end : (i : ℕ) (ps : List Pair) (hs ns : List (Table V)) (b a : W) → length ps ≤ i → WorkedTo i ps hs b ns a → IsWorkedEach kind works behind ps hs b ns a
  worked-end i [] [] [] b a h to = to
  worked-end i [] [] (n ∷ ns) b a h to = absurd to
  worked-end i [] (x ∷ hs) ns b a h to = absurd to
  worked-end i (p ∷ ps) [] ns b a h to = absurd to
  worked-end i (p ∷ ps) (x ∷ hs) [] b a h to = absurd to
  worked-end zero (p ∷ ps) (x ∷ hs) (n ∷ ns) b a h to = absurd (omega arith)
  worked-end (suc i) (p ∷ ps) (x ∷ hs) (n ∷ ns) b a h to = (to.0, to.1, worked-end i ps hs ns to.0 a (omega arith) to.2)

  pub worked-at : (i : ℕ) (ps : List Pair) (hs ns : List (Table V)) (b a : W) (e : Table V) → i < length ps → WorkedTo i ps hs b ns a → get_or ns i e ≡ get_or hs i e
  worked-at i [] hs ns b a e h to = absurd (omega arith)
  worked-at i (p ∷ ps) [] ns b a e h to = absurd to
  worked-at i (p ∷ ps) (x ∷ hs) [] b a e h to = absurd to
  worked-at zero (p ∷ ps) (x ∷ hs) (n ∷ ns) b a e h to = to.0
  worked-at (suc i) (p ∷ ps) (x ∷ hs) (n ∷ ns) b a e h to = worked-at i ps hs ns to.0 a e (omega arith) to.2

  not-begun : (ps : List Pair) (hs ns : List (Table V)) (b a : W) → WorkedTo 0 ps hs b ns a → a ≡ b
  not-begun [] [] [] b a to = to
  not-begun [] [] (n ∷ ns) b a to = absurd to
  not-begun [] (x ∷ hs) ns b a to = absurd to
  not-begun (p ∷ ps) [] ns b a to = absurd to
  not-begun (p ∷ ps) (x ∷ hs) [] b a to = absurd to
  not-begun (p ∷ ps) (x ∷ hs) (n ∷ ns) b a to = not-begun ps hs ns b a to.1

  begun-with : (ps : List Pair) (hs ns : List (Table V)) (b a c : W) → WorkedTo 0 ps hs b ns a → WorkedTo 0 ps hs c ns c
  begun-with [] [] [] b a c to = refl
  begun-with [] [] (n ∷ ns) b a c to = absurd to
  begun-with [] (x ∷ hs) ns b a c to = absurd to
  begun-with (p ∷ ps) [] ns b a c to = absurd to
  begun-with (p ∷ ps) (x ∷ hs) [] b a c to = absurd to
  begun-with (p ∷ ps) (x ∷ hs) (n ∷ ns) b a c to = (to.0, begun-with ps hs ns b a c to.1)

  worked-suc : (i : ℕ) (ps : List Pair) (hs ns : List (Table V)) (b a : W) (d : Pair) (e n : Table V) (w : W) → i < length ps → WorkedTo i ps hs b ns a
      → IsWorkedOver kind works behind (get_or ps i d) (get_or hs i e) a n w → WorkedTo (suc i) ps hs b (set ns i n) w
  worked-suc i [] hs ns b a d e n w h to over = absurd (omega arith)
  worked-suc i (p ∷ ps) [] ns b a d e n w h to over = absurd to
  worked-suc i (p ∷ ps) (x ∷ hs) [] b a d e n w h to over = absurd to
  worked-suc zero (p ∷ ps) (x ∷ hs) (y ∷ ns) b a d e n w h to over =
      (w, subst (λ (s : W). IsWorkedOver kind works behind p x s n w) (not-begun ps hs ns b a to.1) over, begun-with ps hs ns b a w to.1)
  worked-suc (suc i) (p ∷ ps) (x ∷ hs) (y ∷ ns) b a d e n w h to over = (to.0, to.1, worked-suc i ps hs ns to.0 a d e n w (omega arith) to.2 over)

  -- one hand more
  pub worked-more : (i : ℕ) (ps : List Pair) (hs ns : List (Table V)) (b a : W) (d : Pair) (e n : Table V) (w : W) → i < length ps → WorkedTo i ps hs b ns a
      → IsWorkedOver kind works behind (get_or ps i d) (get_or hs i e) a n w → WorkedTo (i + 1) ps hs b (set ns i n) w
  worked-more i ps hs ns b a d e n w h to over = rw add-one (worked-suc i ps hs ns b a d e n w h to over)

  same-declared : (b : Bool) (x y : Option V) → (b ≡ true → x ≡ y) → cond b x None ≡ cond b y None
  same-declared true x y same = same refl
  same-declared false x y same = refl

  cond-either : (a : Bool) (x : Option V) → cond (a || true) x None ≡ x
  cond-either true x = refl
  cond-either false x = refl

  -- what a part leaves under an id that its pair writes
  left-written : (p : Pair) (n : Table V) (q : ResourceId) → among (writes_of p) q ≡ true → part_held kind behind p n q ≡ slot_held kind q (slot_at n q)
  left-written p n q w =
      ap (λ (b : Bool). cond (among (reads_of p) q || b) (slot_held kind q (cond b (slot_at n q) (behind q))) None) w ∙ cond-either (among (reads_of p) q) (slot_held kind q (slot_at n q))

  -- work over the hands of a view that was parted is work over what the view showed, and leaves what the view shows
  pub worked-apart : (old new : Lent V) (table : Table V) (ps : List Pair) (hs : List (Table V)) (b : W) (ns : List (Table V)) (a : W) → AllZip (ShowsDeclared behind old) ps hs → AllZip (IsJoined table) ps ns
      → All (λ p. (q : ResourceId) → IsTrue (among (writes_of p) q) → new q ≡ slot_at table q) ps
      → IsWorkedEach kind works behind ps hs b ns a → IsWorked works ps (λ q. slot_held kind q (old q)) b (λ q. slot_held kind q (new q)) a
  worked-apart old new table [] [] b [] a shown joined alone each = each
  worked-apart old new table [] [] b (n ∷ ns) a shown joined alone each = absurd each
  worked-apart old new table [] (h ∷ hs) b ns a shown joined alone each = absurd each
  worked-apart old new table (p ∷ ps) [] b ns a shown joined alone each = absurd each
  worked-apart old new table (p ∷ ps) (h ∷ hs) b [] a shown joined alone each = absurd each
  worked-apart old new table (p ∷ ps) (h ∷ hs) b (n ∷ ns) a shown joined alone each = (
    each.0,
    part_held kind behind p n,
    subst (λ (m : ResourceId → Option V). works b (reads_of p) (writes_of p) m each.0 (part_held kind behind p n))
        (λ i q. same-declared (declares p q) (slot_held kind q (part_slot behind p h q)) (slot_held kind q (old q)) (λ d. ap (slot_held kind q) ((shown.0) q d)) i)
        each.1.lies,
    λ q other. each.1.frame q other ∙ same-declared (declares p q) (slot_held kind q (part_slot behind p h q)) (slot_held kind q (old q)) (λ d. ap (slot_held kind q) ((shown.0) q d)),
    λ q w. ap (slot_held kind q) (alone 0 p (omega arith) q w ∙ (joined.0) q w) ∙ sym (left-written p n q w),
    worked-apart old new table ps hs each.0 ns a shown.1 joined.1 (λ i d below q w. alone (suc i) d (omega arith) q w) each.2,
  )

  pub each-slots : (ps : List Pair) (hs : List (Table V)) (b : W) (ns : List (Table V)) (a : W) → IsWorkedEach kind works behind ps hs b ns a → AllZip IsSameSlots hs ns
  each-slots [] [] b [] a each = tt
  each-slots [] [] b (n ∷ ns) a each = absurd each
  each-slots [] (h ∷ hs) b ns a each = absurd each
  each-slots (p ∷ ps) [] b ns a each = absurd each
  each-slots (p ∷ ps) (h ∷ hs) b [] a each = absurd each
  each-slots (p ∷ ps) (h ∷ hs) b (n ∷ ns) a each = (each.1.slots, each-slots ps hs each.0 ns a each.2)

  pub each-ids : (ps : List Pair) (hs : List (Table V)) (b : W) (ns : List (Table V)) (a : W) → IsWorkedEach kind works behind ps hs b ns a → AllZip (HoldsSameIds kind) hs ns
  each-ids [] [] b [] a each = tt
  each-ids [] [] b (n ∷ ns) a each = absurd each
  each-ids [] (h ∷ hs) b ns a each = absurd each
  each-ids (p ∷ ps) [] b ns a each = absurd each
  each-ids (p ∷ ps) (h ∷ hs) b [] a each = absurd each
  each-ids (p ∷ ps) (h ∷ hs) b (n ∷ ns) a each = (each.1.ids, each-ids ps hs each.0 ns a each.2)

  pub each-given_back : (ps : List Pair) (hs : List (Table V)) (b : W) (ns : List (Table V)) (a : W) → IsWorkedEach kind works behind ps hs b ns a → All HasNothingOut ns
  each-given_back [] [] b [] a each = λ i d below. absurd (omega arith)
  each-given_back [] [] b (n ∷ ns) a each = absurd each
  each-given_back [] (h ∷ hs) b ns a each = absurd each
  each-given_back (p ∷ ps) [] b ns a each = absurd each
  each-given_back (p ∷ ps) (h ∷ hs) b [] a each = absurd each
  each-given_back (p ∷ ps) (h ∷ hs) b (n ∷ ns) a each = λ i. elim i as (λ i. (d : Table V) → i < length (n ∷ ns) → HasNothingOut (get_or (n ∷ ns) i d)) [
    | zero ↦ λ d below. each.1.given_back
    | suc i ↦ λ d below. each-given_back ps hs each.0 ns a each.2 i d (omega arith)
  ]
