-- Document 01, "Decoder": encoding takes the two lists, a count and a lent byte buffer. Definitions only.
use Rattle.std.specs.Prelude.{ℕ, zero, suc, ◌+◌, cond, List, [], ◌∷◌, ltb, length, Result, Ok, Err}
use Rattle.registers.specs.declared.refusal.Refusal.{Refusal}
use Rattle.registers.specs.declared.refusal.Refusal.TheVariants.{Word, Room, Address}
use Rattle.registers.specs.Registers.{Write, wrote, width_of, holds}

-- how many bytes a write takes; a bad one is Address, then Word
abbrev pub size_of : Write → Result ℕ Refusal
size_of w = cond (ltb 24 w.address) (Err Address) (cond (holds w.address w.value) (Ok (suc (width_of w.address))) (Err Word))

-- the place behind so many bytes, or Room if they don't fit
abbrev pub behind : ℕ → ℕ → Result ℕ Refusal → Result ℕ Refusal
behind size at (Ok n) = cond (ltb size (at + n)) (Err Room) (Ok (at + n))
behind size at (Err e) = Err e

-- one write laid at a place: its refusal, then Room, or the place behind it
abbrev pub lay_judged : ℕ → ℕ → Write → Result ℕ Refusal
lay_judged size at w = behind size at (size_of w)

-- the first n words of two lists, as writes
unfoldable pub pairs : ℕ → List ℕ → List ℕ → List Write
pairs zero a v = []
pairs (suc n) [] v = []
pairs (suc n) (x ∷ a) [] = []
pairs (suc n) (x ∷ a) (y ∷ v) = wrote x y ∷ pairs n a v

-- so many more, where nothing is refused
abbrev pub more : ℕ → Result ℕ Refusal → Result ℕ Refusal
more m (Ok n) = Ok (m + n)
more m (Err e) = Err e

abbrev pub plus : Result ℕ Refusal → Result ℕ Refusal → Result ℕ Refusal
plus (Ok m) r = more m r
plus (Err e) r = Err e

-- how many bytes the writes take, or the refusal of the first bad one
unfoldable pub sizes_of : List Write → Result ℕ Refusal
sizes_of [] = Ok 0
sizes_of (w ∷ ws) = plus (size_of w) (sizes_of ws)

-- Room first if a list is shorter than the count, then Address, then Word, at the first bad write, then Room if the bytes don't fit
abbrev pub encode_judged : ℕ → List ℕ → List ℕ → ℕ → Result ℕ Refusal
encode_judged n a v size =
    cond (ltb (length a) n) (Err Room) (cond (ltb (length v) n) (Err Room) (behind size 0 (sizes_of (pairs n a v))))
