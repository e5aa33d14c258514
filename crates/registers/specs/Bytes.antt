-- Values go high byte first. Definitions only.
use Rattle.std.specs.Prelude.{ℕ, zero, suc, ◌+◌, ◌*◌, ◌/◌, ◌%◌, ◌^◌, cond, Result, Ok, Err, List, [], ◌∷◌, ◌++◌, leb, ltb, length, take, drop}
use Rattle.registers.specs.declared.refusal.Refusal.{Refusal}
use Rattle.registers.specs.declared.refusal.Refusal.TheVariants.{Word, Room, Short}

-- a value's last bytes, so many as the width, high byte first
unfoldable pub big_endian : ℕ → ℕ → List ℕ
big_endian zero value = []
big_endian (suc width) value = big_endian width (value / 256) ++ (value % 256) ∷ []

-- bytes read high byte first, behind what was read before
unfoldable pub value_from : ℕ → List ℕ → ℕ
value_from before [] = before
value_from before (b ∷ bs) = value_from (before * 256 + b) bs

abbrev pub value_of : List ℕ → ℕ
value_of bs = value_from 0 bs

-- a list with another laid over it from a place on
unfoldable pub laid : List ℕ → ℕ → List ℕ → List ℕ
laid d at s = take at d ++ s ++ drop (at + length s) d

-- a width above 4 is no register's: Word; fewer bytes than the width: Short
abbrev pub read_of : List ℕ → ℕ → ℕ → Result ℕ Refusal
read_of bytes at width =
    cond (ltb 4 width) (Err Word)
    (cond (ltb (length bytes) (at + width)) (Err Short) (Ok (value_of (take width (drop at bytes)))))

-- a width above 4, or a value too wide for it: Word; fewer bytes than the width: Room
abbrev pub write_of : ℕ → ℕ → ℕ → ℕ → Result (Unit {0}) Refusal
write_of size at width value =
    cond (ltb 4 width) (Err Word)
    (cond (leb (256 ^ width) value) (Err Word)
    (cond (ltb size (at + width)) (Err Room) (Ok tt)))
