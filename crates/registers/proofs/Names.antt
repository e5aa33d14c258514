-- The names by number.
--     name_at_number   a refusal's number has its name
--     name_at_none     a number that is no refusal's has no letter
use Rattle.std.proofs.Common.{◌≡◌, ◌≢◌, ℕ, [], refl, sym}
use borrow.Author.Tests.{ne_eqb}
use Rattle.registers.specs.declared.refusal.Refusal.{Refusal}
use Rattle.registers.specs.declared.refusal.Refusal.TheVariants.{Interface, Check, Bounds, Pin, Frequency, Mask, Mode, Word, Room, Address, Short, NotReady, Over}
use Rattle.registers.specs.Refusals.{number, name_of, name_at}

pub name_at_number : (r : Refusal) → name_at (number r) ≡ name_of r
name_at_number Interface = refl
name_at_number Check = refl
name_at_number Bounds = refl
name_at_number Pin = refl
name_at_number Frequency = refl
name_at_number Mask = refl
name_at_number Mode = refl
name_at_number Word = refl
name_at_number Room = refl
name_at_number Address = refl
name_at_number Short = refl
name_at_number NotReady = refl
name_at_number Over = refl

pub name_at_none : (n : ℕ) → n ≢ 0 → ((r : Refusal) → number r ≢ n) → name_at n ≡ []
name_at_none n z h =
    let no : (r : Refusal) → n ≡ number r → ⊥ = λ r e. h r (sym e) in
    rw (ne_eqb n 0 z, ne_eqb n 1 (no Interface), ne_eqb n 2 (no Check), ne_eqb n 3 (no Bounds), ne_eqb n 4 (no Pin), ne_eqb n 5 (no Frequency), ne_eqb n 6 (no Mask), ne_eqb n 7 (no Mode), ne_eqb n 8 (no Word), ne_eqb n 9 (no Room), ne_eqb n 10 (no Address), ne_eqb n 11 (no Short), ne_eqb n 12 (no NotReady), ne_eqb n 13 (no Over))
