-- Decoding takes an encoding back to its writes, and encoding takes what was decoded back to its bytes.
--     decode_encode   the encoding of good writes decodes to them
--     encode_decode   what decodes is the encoding of its writes
use Rattle.std.proofs.Common.{◌≡◌, ℕ, zero, suc, ◌^◌, ◌≤◌, ◌<◌, Bool, true, false, cond, List, [], ◌∷◌, ◌++◌, length, take, drop, refl, ap, ◌∙◌, arith, Result, Ok, Err}
use borrow.Author.Tests.{le-ltb, ltb-false}
use lib.Dec.{ltb}
use lib.ListN.{length-append, take-append-drop}
use lib.Seq.{take_at, drop_at, length-take-le}
use Rattle.registers.specs.declared.refusal.Refusal.{Refusal}
use Rattle.registers.specs.declared.refusal.Refusal.TheVariants.{Address, Short}
use Rattle.registers.specs.Registers.{Write, wrote, width_of}
use Rattle.registers.specs.Bytes.{big_endian, value_of}
use Rattle.registers.proofs.Bytes.{AllBytes, length_big_endian, value_big_endian, big_endian_value}
use Rattle.stream.specs.Streams.{write_bytes, encode, Good}
use Rattle.stream.specs.Decoder.{first_of, item_then, items_in, items_of, before, all_of, decode_of}
use Rattle.stream.proofs.Steps.{front, after, shorter, items_nil, items_ok}

-- ---- from writes to bytes and back

first_of_write : (w : Write) (rest : List ℕ) → w.address < 25 → w.value < 256 ^ width_of w.address → first_of (write_bytes w ++ rest) ≡ Ok (w, rest)
unfolding first_of write_bytes
first_of_write w rest h k =
    let n = width_of w.address in
    let e = length_big_endian n w.value in
    let l : n ≤ length (big_endian n w.value ++ rest) = rw length-append (omega arith) in
    rw (le-ltb 24 w.address (omega arith), le-ltb (length (big_endian n w.value ++ rest)) n l, take_at (big_endian n w.value) rest n e, value_big_endian n w.value k, drop_at (big_endian n w.value) rest n e)

pub decode_encode : (ws : List Write) → Good ws → decode_of (encode ws) ≡ Ok ws
unfolding encode
decode_encode [] g = ap all_of (items_nil [] refl)
decode_encode (w ∷ ws) g =
    ap all_of (items_ok (write_bytes w ++ encode ws) w (encode ws) (first_of_write w (encode ws) g.0 g.1)) ∙ ap (before w) (decode_encode ws g.2)

-- ---- from bytes to writes and back

all_take : (n : ℕ) (bs : List ℕ) → AllBytes bs → AllBytes (take n bs)
all_take zero bs p = tt
all_take (suc n) [] p = tt
all_take (suc n) (b ∷ bs) p = (p.0, all_take n bs p.1)

all_drop : (n : ℕ) (bs : List ℕ) → AllBytes bs → AllBytes (drop n bs)
all_drop zero bs p = p
all_drop (suc n) [] p = tt
all_drop (suc n) (b ∷ bs) p = all_drop n bs p.1

-- a write's own bytes, from the bytes that it was read from
write_again : (a : ℕ) (bs : List ℕ) → AllBytes bs → width_of a ≤ length bs → write_bytes (wrote a (value_of (take (width_of a) bs))) ++ drop (width_of a) bs ≡ a ∷ bs
unfolding write_bytes
write_again a bs p h =
    let e : big_endian (width_of a) (value_of (take (width_of a) bs)) ≡ take (width_of a) bs
    = rw (length-take-le (width_of a) bs h) at (big_endian_value (take (width_of a) bs) (all_take (width_of a) bs p)) in
    rw (e, take-append-drop)

-- what a first write was read from, by the two tests on its first byte
by_tests : (t u : Bool) (a : ℕ) (bs : List ℕ) (w : Write) (rest : List ℕ) → ltb (length bs) (width_of a) ≡ u → AllBytes bs
    → ◌≡◌ {A = Result (Write × List ℕ) Refusal} (cond t (Err Address) (cond u (Err Short) (Ok (wrote a (value_of (take (width_of a) bs)), drop (width_of a) bs)))) (Ok (w, rest))
    → (write_bytes w ++ rest ≡ a ∷ bs) × AllBytes rest
by_tests true u a bs w rest f p e = absurd (cc)
by_tests false true a bs w rest f p e = absurd (cc)
by_tests false false a bs w rest f p e =
    let x : wrote a (value_of (take (width_of a) bs)) ≡ w = ap front e in
    let y : drop (width_of a) bs ≡ rest = ap after e in
    rw (← x, ← y) (write_again a bs p (ltb-false (length bs) (width_of a) f), all_drop (width_of a) bs p)

first_again : (a : ℕ) (bs : List ℕ) (w : Write) (rest : List ℕ) → AllBytes bs → first_of (a ∷ bs) ≡ Ok (w, rest) → (write_bytes w ++ rest ≡ a ∷ bs) × AllBytes rest
unfolding first_of
first_again a bs w rest p e = by_tests (ltb 24 a) (ltb (length bs) (width_of a)) a bs w rest refl p e

abbrev Back : (List ℕ → List (Result Write Refusal)) → List ℕ → Type 0
Back go bs = (ws : List Write) → all_of (go bs) ≡ Ok ws → encode ws ≡ bs

-- the write that was read, and those behind it
one_back : (w : Write) (rest : List ℕ) (d : Result (List Write) Refusal) → ((ws : List Write) → d ≡ Ok ws → encode ws ≡ rest) → (ws : List Write) → before w d ≡ Ok ws → encode ws ≡ write_bytes w ++ rest
unfolding encode
one_back w rest (Ok us) h ws e = let p : w ∷ us ≡ ws = cc in rw (← p) (ap (λ bs. write_bytes w ++ bs) (h us refl))
one_back w rest (Err f) h ws e = absurd (cc)

by_first : (n a : ℕ) (bs : List ℕ) → AllBytes bs → ((rest : List ℕ) → AllBytes rest → length rest ≤ length bs → Back (items_in n) rest) → (r : Result (Write × List ℕ) Refusal)
    → first_of (a ∷ bs) ≡ r → (ws : List Write) → all_of (item_then (items_in n) r) ≡ Ok ws → encode ws ≡ a ∷ bs
by_first n a bs p h (Ok x) e ws z =
    let q = first_again a bs x.0 x.1 p e in
    one_back x.0 x.1 (all_of (items_in n x.1)) (h x.1 q.1 (shorter a bs x.0 x.1 e)) ws z ∙ q.0
by_first n a bs p h (Err f) e ws z = absurd (cc)

none_back : (ws : List Write) → ◌≡◌ {A = Result (List Write) Refusal} (Ok []) (Ok ws) → encode ws ≡ []
unfolding encode
none_back [] e = refl
none_back (w ∷ ws) e = absurd (cc)

to_writes : (n : ℕ) (bs : List ℕ) → AllBytes bs → length bs ≤ n → Back (items_in n) bs
unfolding items_in
to_writes zero [] p h ws z = none_back ws z
to_writes zero (a ∷ bs) p h ws z = absurd (omega arith)
to_writes (suc n) [] p h ws z = none_back ws z
to_writes (suc n) (a ∷ bs) p h ws z = by_first n a bs p.1 (λ rest q l. to_writes n rest q (omega arith)) (first_of (a ∷ bs)) refl ws z

pub encode_decode : (bs : List ℕ) (ws : List Write) → AllBytes bs → decode_of bs ≡ Ok ws → encode ws ≡ bs
unfolding items_of
encode_decode bs ws p z = to_writes (length bs) bs p (omega arith) ws z
