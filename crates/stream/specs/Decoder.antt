-- Document 01, "Decoder". Definitions only.
use Rattle.std.specs.Prelude.{ℕ, zero, suc, cond, List, [], ◌∷◌, map, ◌≡◌, ltb, length, take, drop, Result, Ok, Err}
use Rattle.registers.specs.declared.refusal.Refusal.{Refusal}
use Rattle.registers.specs.declared.refusal.Refusal.TheVariants.{Room, Address, Short}
use Rattle.registers.specs.Registers.{Write, wrote, width_of}
use Rattle.registers.specs.Bytes.{value_of, laid}

-- the write at the front and the bytes behind it: a first byte above 0x18 is Address, too few bytes is Short
unfoldable pub first_of : List ℕ → Result (Write × List ℕ) Refusal
first_of [] = Err Short
first_of (a ∷ bs) =
    cond (ltb 24 a) (Err Address)
    (cond (ltb (length bs) (width_of a)) (Err Short) (Ok (wrote a (value_of (take (width_of a) bs)), drop (width_of a) bs)))

-- a write and what follows it, or a refusal, which is the last
abbrev pub item_then : (List ℕ → List (Result Write Refusal)) → Result (Write × List ℕ) Refusal → List (Result Write Refusal)
item_then go (Ok x) = Ok x.0 ∷ go x.1
item_then go (Err e) = Err e ∷ []

-- in at most n steps
unfoldable pub items_in : ℕ → List ℕ → List (Result Write Refusal)
items_in zero bs = []
items_in (suc n) [] = []
items_in (suc n) (a ∷ bs) = item_then (items_in n) (first_of (a ∷ bs))

-- from the front, each write up to the end or the first refusal; a step takes a byte or more, so these are steps enough
unfoldable pub items_of : List ℕ → List (Result Write Refusal)
items_of bs = items_in (length bs) bs

abbrev pub before : Write → Result (List Write) Refusal → Result (List Write) Refusal
before w (Ok ws) = Ok (w ∷ ws)
before w (Err e) = Err e

-- all of them, or the refusal
abbrev pub all_of : List (Result Write Refusal) → Result (List Write) Refusal
all_of [] = Ok []
all_of ((Ok w) ∷ rs) = before w (all_of rs)
all_of ((Err e) ∷ rs) = Err e

-- the writes up to the first refusal
abbrev pub taken : List (Result Write Refusal) → List Write
taken [] = []
taken ((Ok w) ∷ rs) = w ∷ taken rs
taken ((Err e) ∷ rs) = []

-- a stream's writes, or its first refusal
abbrev pub decode_of : List ℕ → Result (List Write) Refusal
decode_of bs = all_of (items_of bs)

-- a stream's writes up to its end or its first refusal
abbrev pub writes_of : List ℕ → List Write
writes_of bs = taken (items_of bs)

-- how many writes there are
abbrev pub count_of : Result (List Write) Refusal → Result ℕ Refusal
count_of (Ok ws) = Ok (length ws)
count_of (Err e) = Err e

-- Room if either buffer is shorter than the count
abbrev pub room_of : ℕ → ℕ → Result ℕ Refusal → Result ℕ Refusal
room_of m n (Ok count) = cond (ltb m count) (Err Room) (cond (ltb n count) (Err Room) (Ok count))
room_of m n (Err e) = Err e

-- into buffers of m and n words: the stream's refusal, then Room, or how many writes there are
abbrev pub decode_judged : List ℕ → ℕ → ℕ → Result ℕ Refusal
decode_judged bs m n = room_of m n (count_of (decode_of bs))

abbrev pub address_of : Write → ℕ
address_of w = w.address

abbrev pub value_in : Write → ℕ
value_in w = w.value

-- the buffers a and v hold the writes at their fronts, and are otherwise as they were
pub record Filled (ws : List Write) (a v a' v' : List ℕ) : Type 0 where
  pub addresses : a' ≡ laid a 0 (map address_of ws)
  pub values : v' ≡ laid v 0 (map value_in ws)
