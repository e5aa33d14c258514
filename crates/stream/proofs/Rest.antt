-- The writes that a walk over two lists side by side has left, and how many bytes they take.
--     rest_all, rest_end, rest_cons    all, none, and one more
--     fault_clear, fault_none          a write is refused exactly if it names no register that holds its value
--     good_head                        the first of good writes is good, and so are the others
--     sizes_length                     good writes take as many bytes as their encoding has
use Rattle.std.proofs.Common.{◌≡◌, ℕ, zero, suc, ◌+◌, ◌^◌, ◌<◌, Bool, true, false, cond, List, [], ◌∷◌, length, take, refl, ap, ◌∙◌, arith, Result, Ok, Err, Option, Some, None, ◌⊎◌, inl, inr, Bor, Iter}
use borrow.Author.Tests.{lt-ltb, le-ltb, ltb-true, ltb-false}
use lib.Dec.{ltb}
use Rattle.registers.specs.declared.refusal.Refusal.{Refusal}
use Rattle.registers.specs.declared.refusal.Refusal.TheVariants.{Address, Word}
use Rattle.registers.specs.Registers.{Write, wrote, width_of, holds}
use Rattle.std.specs.declared.iter.Zip.{Zip}
use Rattle.std.specs.Iterator.Adapters.{zip_first, zip_second}
use Rattle.std.specs.Slice.Iter.{iter_rest}
use Rattle.std.proofs.iter.Yields.{fronts}
use Rattle.std.proofs.lemmas.Iterator.{zips}
use Rattle.std.proofs.lemmas.Slice.Zip.{Zip-more, either_empty_from_Zip}
use Rattle.stream.specs.Streams.{encode}
use Rattle.stream.specs.Encoder.{size_of, pairs, more, plus, sizes_of}
use Rattle.stream.proofs.Streams.{size_cons}

abbrev pub beside : List ℕ → List ℕ → List Write
beside a v = pairs (length a) a v

abbrev pub rest : Zip (Iter ℕ) (Iter ℕ) → List Write
rest z = beside (iter_rest (zip_first z)) (iter_rest (zip_second z))

take_beside : (n : ℕ) (a v : List ℕ) → beside (take n a) (take n v) ≡ pairs n a v
unfolding pairs
take_beside zero a v = refl
take_beside (suc n) [] v = refl
take_beside (suc n) (x ∷ a) [] = refl
take_beside (suc n) (x ∷ a) (y ∷ v) = ap (λ ws. wrote x y ∷ ws) (take_beside n a v)

pub rest_all : (z : Zip (Iter ℕ) (Iter ℕ)) (n : ℕ) (a v : List ℕ) → iter_rest (zip_first z) ≡ take n a → iter_rest (zip_second z) ≡ take n v → rest z ≡ pairs n a v
rest_all z n a v h k = rw (h, k) (take_beside n a v)

beside_none : (a : List ℕ) → beside a [] ≡ []
unfolding pairs
beside_none [] = refl
beside_none (x ∷ a) = refl

-- one turn of a walk over both: its write, or the end
module _ (s t : Zip (Iter ℕ) (Iter ℕ)) (r : Option (Bor ℕ × Bor ℕ)) where
  pub rest_cons : (p : Bor ℕ × Bor ℕ) → r ≡ Some p → zips fronts fronts s r t → rest s ≡ wrote p.0.now p.1.now ∷ rest t
  unfolding pairs
  rest_cons p e h = let k = Zip-more s t r p e h in rw (k.0, k.1)

  pub rest_end : r ≡ None → zips fronts fronts s r t → rest s ≡ []
  unfolding pairs
  rest_end e h = go (either_empty_from_Zip s t r e h)
    where
      go : (iter_rest (zip_first s) ≡ []) ⊎ (iter_rest (zip_second s) ≡ []) → rest s ≡ []
      go (inl p) = rw p
      go (inr p) = rw p (beside_none (iter_rest (zip_first s)))

pub fault_none : (w : Write) (n : ℕ) → size_of w ≡ Ok n → (w.address < 25) × (w.value < 256 ^ width_of w.address) × (n ≡ suc (width_of w.address))
fault_none w n = go (ltb 24 w.address) (holds w.address w.value) refl refl
  where
    go : (a b : Bool) → ltb 24 w.address ≡ a → holds w.address w.value ≡ b → ◌≡◌ {A = Result ℕ Refusal} (cond a (Err Address) (cond b (Ok (suc (width_of w.address))) (Err Word))) (Ok n)
        → (w.address < 25) × (w.value < 256 ^ width_of w.address) × (n ≡ suc (width_of w.address))
    go true b e f z = absurd (cc)
    go false true e f z = (omega (arith, ltb-false 24 w.address e), ltb-true w.value (256 ^ width_of w.address) f, cc)
    go false false e f z = absurd (cc)

pub fault_clear : (w : Write) → w.address < 25 → w.value < 256 ^ width_of w.address → size_of w ≡ Ok (suc (width_of w.address))
fault_clear w h k = rw (le-ltb 24 w.address (omega arith), lt-ltb w.value (256 ^ width_of w.address) k)

-- ---- how many bytes they take

plus_ok : (x y : Result ℕ Refusal) (n : ℕ) → plus x y ≡ Ok n → (j k : ℕ) × (x ≡ Ok j) × (y ≡ Ok k) × (n ≡ j + k)
plus_ok (Ok j) (Ok k) n e = (j, k, refl, refl, cc)
plus_ok (Ok j) (Err f) n e = absurd (cc)
plus_ok (Err f) y n e = absurd (cc)

pub sizes_length : (ws : List Write) (n : ℕ) → sizes_of ws ≡ Ok n → n ≡ length (encode ws)
unfolding sizes_of encode
sizes_length [] n e = cc
sizes_length (w ∷ ws) n e =
    let p = plus_ok (size_of w) (sizes_of ws) n e in
    p.4 ∙ (omega (arith, size_cons w ws, (fault_none w p.0 p.2).2, sizes_length ws p.1 p.3))

pub good_head : (w : Write) (ws : List Write) → sizes_of (w ∷ ws) ≡ Ok (length (encode (w ∷ ws))) → (size_of w ≡ Ok (suc (width_of w.address))) × (sizes_of ws ≡ Ok (length (encode ws)))
unfolding sizes_of
good_head w ws e =
    let p = plus_ok (size_of w) (sizes_of ws) (length (encode (w ∷ ws))) e in
    (p.2 ∙ ap Ok (fault_none w p.0 p.2).2, p.3 ∙ ap Ok (sizes_length ws p.1 p.3))

pub more_none : (r : Result ℕ Refusal) → more 0 r ≡ r
more_none (Ok n) = ap Ok (omega arith)
more_none (Err e) = refl

more_more : (m n : ℕ) (r : Result ℕ Refusal) → more (m + n) r ≡ more m (more n r)
more_more m n (Ok k) = ap Ok (omega arith)
more_more m n (Err e) = refl

-- so many counted before: one more is counted, or refused
module _ (w : Write) (ws rs : List Write) (m : ℕ) (h : rs ≡ w ∷ ws) where
  pub rest_more : (s : ℕ) → size_of w ≡ Ok s → more (m + s) (sizes_of ws) ≡ more m (sizes_of rs)
  unfolding sizes_of
  rest_more s e = rw (h, e) (more_more m s (sizes_of ws))

  pub rest_bad : (e : Refusal) → size_of w ≡ Err e → more m (sizes_of rs) ≡ Err e
  unfolding sizes_of
  rest_bad e f = rw (h, f)

pub rest_none : (m : ℕ) (rs : List Write) → rs ≡ [] → more m (sizes_of rs) ≡ Ok m
unfolding sizes_of
rest_none m rs h = rw h (ap Ok (omega arith))
