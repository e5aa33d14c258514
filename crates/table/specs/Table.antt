-- Document 01, "Numbered examples": the rows marked T as one table. Mode 3 where not said. Definitions only.
use Rattle.std.specs.Prelude.{ℕ, List, [], ◌∷◌, ◌≡◌, pos, negsuc, ℤ, Float, Option, Some, None, Result, Ok, Err}
use Rattle.std.specs.Float.{binary32}
use Rattle.std.specs.Result.{result_unwrap_or}
use Rattle.std.specs.Float.Ieee.{of_bits}
use Rattle.registers.specs.declared.refusal.Refusal.{Refusal}
use Rattle.registers.specs.declared.refusal.Refusal.TheVariants.{Bounds, Room}
use Rattle.registers.specs.Refusals.{number, number_of}
use Rattle.bitfields.specs.Fr1.{with_clock}
use Rattle.binary32.specs.Floats.{whole}
use Rattle.convert.specs.declared.clock.Clock.{Clock}
use Rattle.convert.specs.declared.Setting.{Setting}
use Rattle.convert.specs.Phase as phase
use Rattle.convert.specs.Amplitude as amplitude
use Rattle.convert.specs.Clock.{clock_of}
use Rattle.profile.specs.declared.ProfileSerializer.{ProfileSerializer}
use Rattle.rules.specs.declared.Push.{Push}
use Rattle.rules.specs.Rules.{quarter}
use Rattle.profile.specs.Serializer.{fresh, new_of, push_of, finalized_of, stream_of, words_of}

-- what is asked: a profile's bytes or words once it is finalised, or each push's number and the length after it; a phase's word; an amplitude's ACR;
-- the FR1 of a clock, where FR1 was a number
pub data Asked : Type 0 where
  bytes : ℕ → List Push → Asked
  words : ℕ → List Push → Asked
  lengths : ℕ → List Push → Asked
  phase_word : Float → Asked
  acr : Float → Asked
  fr1 : Float → ℕ → ℕ → Asked

-- the definitions' own answers

abbrev pushed : ProfileSerializer → Push → ProfileSerializer
pushed s p = (push_of s p).serializer

abbrev all : ProfileSerializer → List Push → ProfileSerializer
all s [] = s
all s (p ∷ ps) = all (pushed s p) ps

abbrev steps : ProfileSerializer → List Push → List ℕ
steps s [] = []
steps s (p ∷ ps) = number_of (push_of s p).answer ∷ (pushed s p).length ∷ steps (pushed s p) ps

-- a new serializer; of a mode above 3, which no row has, an empty one of mode 0
abbrev new : ℕ → ProfileSerializer
new mode = result_unwrap_or (new_of mode) (fresh 0)

-- an answer's number and its value, zero beside a refusal
abbrev said : Result ℕ Refusal → List ℕ
said (Ok x) = 0 ∷ x ∷ []
said (Err e) = number e ∷ 0 ∷ []

abbrev word : Result Setting Refusal → Result ℕ Refusal
word (Ok s) = Ok s.word
word (Err e) = Err e

abbrev in_fr1 : ℕ → ℕ → Result Clock Refusal → Result ℕ Refusal
in_fr1 was multiplier (Ok c) = Ok (result_unwrap_or (with_clock was multiplier c.vco) 0)
in_fr1 was multiplier (Err e) = Err e

abbrev pub given : Asked → List ℕ
given (bytes mode ps) = stream_of (finalized_of (all (new mode) ps) 8)
given (words mode ps) = let s = all (new mode) ps in words_of (quarter s.length) (finalized_of s 8).bytes
given (lengths mode ps) = steps (new mode) ps
given (phase_word x) = said (Ok (phase.setting_of x).word)
given (acr x) = said (word (amplitude.setting_of x))
given (fr1 reference multiplier was) = said (in_fr1 was multiplier (clock_of reference multiplier))

-- ---- the table

-- an example's number, what is asked, and what the paper says
pub record Row : Type 0 where
  pub example : ℕ
  pub asked : Asked
  pub paper : List ℕ

abbrev row : ℕ → Asked → List ℕ → Row
row n a l = record { example = n; asked = a; paper = l }

abbrev push : ℕ → Option ℤ → Option ℕ → Option ℕ → Push
push m w p a = record { mask = m; word = w; phase = p; acr = a }

abbrev one : List Push
one = push 1 (Some (pos 0x0102_0304)) None None ∷ []

-- pushes of 14 and of 10 bytes
abbrev fourteen : Push
fourteen = push 1 (Some (pos 1)) (Some 2) (Some 3)

abbrev ten : Push
ten = push 2 (Some (pos 4)) (Some 5) None

abbrev bare : Push
bare = push 4 None None None

-- the number where nothing is refused, and two refusals' numbers
abbrev ok : ℕ
ok = 0

abbrev bounds : ℕ
bounds = number Bounds

abbrev room : ℕ
room = number Room

abbrev pub table : List Row
table =
    row 1 (bytes 3 one) (0x00 ∷ 0x16 ∷ 0x04 ∷ 0x01 ∷ 0x02 ∷ 0x03 ∷ 0x04 ∷ 0x07 ∷ 0x00 ∷ 0x00 ∷ 0x00 ∷ 0xf6 ∷ [])
    ∷ row 1 (words 3 one) (0x0104_1600 ∷ 0x0704_0302 ∷ 0xf600_0000 ∷ [])
    ∷ row 2 (bytes 0 (push 0 None None None ∷ [])) (0x00 ∷ 0x00 ∷ 0x00 ∷ 0xf0 ∷ [])
    ∷ row 3 (bytes 0 (push 15 None (Some 0x3fff) None ∷ [])) (0x00 ∷ 0xf0 ∷ 0x05 ∷ 0x3f ∷ 0xff ∷ 0x07 ∷ 0x00 ∷ 0x00 ∷ [])
    ∷ row 4 (bytes 3 (push 2 None None (Some 0x00_1200) ∷ [])) (0x00 ∷ 0x26 ∷ 0x06 ∷ 0x00 ∷ 0x12 ∷ 0x00 ∷ 0x00 ∷ 0xf6 ∷ [])
    ∷ row 5 (words 3 []) []
    ∷ row 6 (lengths 3 (fourteen ∷ ten ∷ push 4 (Some (pos 6)) None None ∷ [])) (ok ∷ 14 ∷ ok ∷ 24 ∷ room ∷ 24 ∷ [])
    ∷ row 6 (lengths 3 (fourteen ∷ ten ∷ bare ∷ [])) (ok ∷ 14 ∷ ok ∷ 24 ∷ ok ∷ 26 ∷ [])
    ∷ row 7 (bytes 3 (push 1 (Some (negsuc 0)) None None ∷ [])) (0x00 ∷ 0x16 ∷ 0x04 ∷ 0xff ∷ 0xff ∷ 0xff ∷ 0xff ∷ 0x07 ∷ 0x00 ∷ 0x00 ∷ 0x00 ∷ 0xf6 ∷ [])
    ∷ row 8 (phase_word (of_bits binary32 0x3e80_0000)) (ok ∷ 0x1000 ∷ [])
    ∷ row 8 (phase_word (of_bits binary32 0x4070_0000)) (ok ∷ 0x3000 ∷ [])
    ∷ row 8 (phase_word (whole 1)) (ok ∷ 0 ∷ [])
    ∷ row 8 (phase_word (whole 4)) (ok ∷ 0x3fff ∷ [])
    ∷ row 9 (acr (of_bits binary32 0x3f00_0000)) (ok ∷ 0x00_1200 ∷ [])
    ∷ row 9 (acr (whole 1)) (ok ∷ 0 ∷ [])
    ∷ row 10 (fr1 (whole 125000000) 4 0) (ok ∷ 0x90_0000 ∷ [])
    ∷ row 10 (fr1 (whole 10000000) 20 0) (ok ∷ 0xd0_0000 ∷ [])
    ∷ row 10 (fr1 (whole 10000000) 19 0) (ok ∷ 0x4c_0000 ∷ [])
    ∷ row 10 (fr1 (whole 10000000) 4 0) (bounds ∷ 0 ∷ [])
    ∷ []

-- the definitions give what the paper says, in each row
abbrev pub Holds : List Row → Type 0
Holds [] = Unit {0}
Holds (r ∷ rs) = (given r.asked ≡ r.paper) × Holds rs
