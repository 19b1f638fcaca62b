-- The forms that a word may have, and what it says in each.
use Rattle.std.specs.Prelude.{◌≡◌, ◌≢◌, ℕ, ◌<◌, ◌≤◌, ◌==◌, ◌||◌, ◌⊎◌, Bool, cond, ℤ, List, [], ◌^◌, length, drop, slice_index, codes, IsTrue, FitsSigned}
use Rattle.std.specs.Int.{w64}
use Rattle.std.specs.List.{AllPass}
use Rattle.std.specs.Char.{is_ascii_alphabetic, is_ascii_alphanumeric, is_ascii_digit}
use Rattle.std.specs.Str.Parse.{digits_value, signed_digits_value, starts_with_minus}
use Rattle.shred_run.specs.declared.system.RunningTime.{RunningTime}
use Rattle.shred_run.specs.declared.system.RunningTime.TheVariants.{VeryShort, Short, Average, Long, VeryLong}
use Rattle.shred_stage.specs.declared.dispatch.rule.Rule.{Rule}
use Rattle.shred_stage.specs.declared.dispatch.rule.Rule.TheVariants.{First, Ordered}

-- whether a byte is a letter, a digit or `_`
abbrev pub is_resource_byte : ℕ → Bool
is_resource_byte byte = is_ascii_alphanumeric byte || (byte == 95)

-- whether a byte is a letter, a digit, `_`, `-` or `/`
abbrev pub is_system_byte : ℕ → Bool
is_system_byte byte = is_ascii_alphanumeric byte || ((byte == 95) || ((byte == 45) || (byte == 47)))

-- 1 to 32 bytes, each of which passes
abbrev pub IsName : (ℕ → Bool) → List ℕ → Type 0
IsName passes word = (0 < length word) × (length word ≤ 32) × AllPass passes word

-- a resource's name: 1 to 32 letters, digits and `_`, the first a letter
abbrev pub IsResourceName : List ℕ → Type 0
IsResourceName word = IsName is_resource_byte word × IsTrue (is_ascii_alphabetic (slice_index word 0))

-- the word says this name of a system or batch: `-` says the empty name, and any other word says itself, of 1 to 32 letters, digits, `_`, `-` or `/`
abbrev pub NamesSystem : List ℕ → List ℕ → Type 0
NamesSystem word name = ((word ≡ codes "-") × (name ≡ [])) ⊎ ((word ≢ codes "-") × (name ≡ word) × IsName is_system_byte word)

-- one digit or more, and nothing else
abbrev pub AreDigits : List ℕ → Type 0
AreDigits word = (0 < length word) × AllPass is_ascii_digit word

-- a text without the `-` that it may begin with
abbrev pub without_minus : List ℕ → List ℕ
without_minus word = cond (starts_with_minus word) (drop 1 word) word

-- the word writes this whole number, within 64 bits with sign: 1 to 19 digits, which a `-` may precede
abbrev pub WritesInteger : List ℕ → ℤ → Type 0
WritesInteger word number = AreDigits (without_minus word) × (length (without_minus word) ≤ 19) × FitsSigned w64 number × (number ≡ signed_digits_value 10 word)

-- the word writes this count, in 1 to 7 digits, and it is no more than `most`
abbrev pub WritesCount : ℕ → List ℕ → ℕ → Type 0
WritesCount most word count = AreDigits word × (length word ≤ 7) × (count ≡ digits_value 10 word) × (count ≤ most)

-- the word is one digit or more, and this code is their value, within 32 bits
abbrev pub WritesCode : List ℕ → ℕ → Type 0
WritesCode word code = AreDigits word × (code < 2 ^ 32) × (code ≡ digits_value 10 word)

-- the word of each running time
abbrev pub time_word : RunningTime → List ℕ
time_word VeryShort = codes "very-short"
time_word Short = codes "short"
time_word Average = codes "average"
time_word Long = codes "long"
time_word VeryLong = codes "very-long"

-- the word of each rule of the planner
abbrev pub rule_word : Rule → List ℕ
rule_word First = codes "first"
rule_word Ordered = codes "ordered"
