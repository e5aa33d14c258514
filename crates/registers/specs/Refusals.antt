-- The refusals, the numbers that come back for them, and their names. Definitions only.
use Rattle.std.specs.Prelude.{◌≡◌, ◌≢◌, ℕ, cond, eqb, List, [], codes, Result, Ok, Err, MatchResult}
use Rattle.registers.specs.declared.refusal.Refusal.{Refusal}
use Rattle.registers.specs.declared.refusal.Refusal.TheVariants.{Interface, Check, Bounds, Pin, Frequency, Mask, Mode, Word, Room, Address, Short, NotReady, Over}
use Rattle.registers.specs.declared.refusal.NoRefusal.{NoRefusal}

abbrev pub number : Refusal → ℕ
number Interface = 1  -- a configure, write or read reply says failed
number Check = 2  -- the CSR read in start-up differs from the one written
number Bounds = 3  -- clock, frequency or amplitude outside its rule
number Pin = 4  -- a pin reply says failed
number Frequency = 5  -- kept from the Rust's `Error`, never given
number Mask = 6  -- channel mask above 15
number Mode = 7  -- mode above 3
number Word = 8  -- a value too wide for its register or field
number Room = 9  -- no room: serializer, decoder and image say when
number Address = 10  -- first byte of a write above 0x18
number Short = 11  -- a write cut off by the end of the stream
number NotReady = 12  -- a frequency is set or read and the stored ratio is NaN, below 8 or above 4295
number Over = 13  -- a reply to a sequence that has ended

-- the number that comes back: 0 where nothing is refused
abbrev pub number_of : {T : Type 0} → Result T Refusal → ℕ
number_of (Ok value) = 0
number_of (Err refusal) = number refusal

-- an answer alone, without what it holds
abbrev pub answer_of : {T : Type 0} → Result T Refusal → Result Unit Refusal
answer_of (Ok value) = Ok tt
answer_of (Err refusal) = Err refusal

-- a refusal's name
abbrev pub name_of : Refusal → List ℕ
name_of Interface = codes "Interface"
name_of Check = codes "Check"
name_of Bounds = codes "Bounds"
name_of Pin = codes "Pin"
name_of Frequency = codes "Frequency"
name_of Mask = codes "Mask"
name_of Mode = codes "Mode"
name_of Word = codes "Word"
name_of Room = codes "Room"
name_of Address = codes "Address"
name_of Short = codes "Short"
name_of NotReady = codes "NotReady"
name_of Over = codes "Over"

-- the name of what came back
abbrev pub answer_name : {T : Type 0} → Result T Refusal → List ℕ
answer_name (Ok value) = codes "Ok"
answer_name (Err refusal) = name_of refusal

-- the name that goes with a number, and no letter where no refusal has it
abbrev pub name_at : ℕ → List ℕ
name_at n =
    cond (eqb n 0) (codes "Ok")
    (cond (eqb n 1) (name_of Interface)
    (cond (eqb n 2) (name_of Check)
    (cond (eqb n 3) (name_of Bounds)
    (cond (eqb n 4) (name_of Pin)
    (cond (eqb n 5) (name_of Frequency)
    (cond (eqb n 6) (name_of Mask)
    (cond (eqb n 7) (name_of Mode)
    (cond (eqb n 8) (name_of Word)
    (cond (eqb n 9) (name_of Room)
    (cond (eqb n 10) (name_of Address)
    (cond (eqb n 11) (name_of Short)
    (cond (eqb n 12) (name_of NotReady)
    (cond (eqb n 13) (name_of Over)
    [])))))))))))))

-- the refusal with a number, or that no refusal has it
abbrev pub Names : ℕ → Result Refusal NoRefusal → Type 0
Names n r = MatchResult r (λ refusal. number refusal ≡ n) (λ none. (none.0 ≡ n) × ((refusal : Refusal) → number refusal ≢ n))
