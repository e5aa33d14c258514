-- Lists laid over lists: within a list, to lay is to store, one after the other (lib.Seq's `sets`).
--     laid_sets     within a list, to lay is to store
--     laid_nil      laying nothing changes nothing
--     laid_front    at the front: the list, then what is left of the other
--     laid_laid     one list laid behind another
--     laid_ahead    one list laid before another that is there
--     laid_cons     the first stored, the others laid behind it
--     laid_before, laid_behind   what stands before and behind stays
--     laid_below    what stands up to its end
--     length_laid   laying keeps the length
--     sets_snoc     the last of a run of stores may go first
use mathlib.Core.Path.{◌≡◌, refl, sym, ap, ◌∙◌}
use mathlib.Core.List.{List, [], ◌∷◌, ◌++◌, append-nil, append_assoc}
use Prim.Native.Nat.{ℕ, suc, ◌+◌, ◌≤◌}
use native.Mathlib.Nat.{add-zero, zero-add, add-suc, suc-add}
use native.Mathlib.Numerals.{add-one}
use native.Mathlib.Omega.{arith}
use lib.ListN.{length, take, drop, set, length-append, length-set, take-append-drop}
use lib.Seq.{sets, sets-eq, length-sets, set_comm, take_at, drop_at, length-take-le}
use Rattle.registers.specs.Bytes.{laid}

pub laid_sets : (d : List ℕ) (at : ℕ) (s : List ℕ) → at + length s ≤ length d → laid d at s ≡ sets d at s
unfolding laid
laid_sets d at s h = sym (sets-eq s d at h)

pub laid_nil : (d : List ℕ) (at : ℕ) → laid d at [] ≡ d
unfolding laid
laid_nil d at = rw (add-zero, append-nil) (take-append-drop at d)

pub length_laid : (d : List ℕ) (at : ℕ) (s : List ℕ) → at + length s ≤ length d → length (laid d at s) ≡ length d
length_laid d at s h = ap length (laid_sets d at s h) ∙ length-sets d at s

pub sets_append : (d : List ℕ) (at : ℕ) (s t : List ℕ) → sets d at (s ++ t) ≡ sets (sets d at s) (at + length s) t
sets_append d at [] t = rw add-zero
sets_append d at (x ∷ s) t = rw (add-suc, ← (suc-add at (length s))) (sets_append (set d at x) (suc at) s t)

-- a store behind a run of stores may go first
sets_set : (d : List ℕ) (at : ℕ) (s : List ℕ) (k b : ℕ) → at + length s ≤ k → set (sets d at s) k b ≡ sets (set d k b) at s
sets_set d at [] k b h = refl
sets_set d at (x ∷ s) k b h =
    sets_set (set d at x) (suc at) s k b (omega arith) ∙ ap (λ (l : List ℕ). sets l (suc at) s) (set_comm d at k x b (omega arith))

pub sets_snoc : (d : List ℕ) (at : ℕ) (s : List ℕ) (b : ℕ) → sets d at (s ++ b ∷ []) ≡ sets (set d (at + length s) b) at s
sets_snoc d at s b = sets_append d at s (b ∷ []) ∙ sets_set d at s (at + length s) b (omega arith)

-- a run of stores behind another may go first
sets_sets : (d : List ℕ) (at : ℕ) (s : List ℕ) (k : ℕ) (t : List ℕ) → at + length s ≤ k → sets (sets d at s) k t ≡ sets (sets d k t) at s
sets_sets d at s k [] h = refl
sets_sets d at s k (b ∷ t) h = ap (λ (l : List ℕ). sets l (suc k) t) (sets_set d at s k b h) ∙ sets_sets (set d k b) at s (suc k) t (omega arith)

pub laid_front : (d s : List ℕ) → laid d 0 s ≡ s ++ drop (length s) d
unfolding laid
laid_front d s = rw zero-add

pub laid_ahead : (d : List ℕ) (at : ℕ) (s t : List ℕ) → at + length s + length t ≤ length d → laid (laid d (at + length s) t) at s ≡ laid d at (s ++ t)
laid_ahead d at s t h =
    ap (λ (l : List ℕ). laid l at s) (laid_sets d (at + length s) t h)
    ∙ laid_sets (sets d (at + length s) t) at s (rw length-sets (omega arith))
    ∙ sym (laid_sets d at (s ++ t) (rw length-append (omega arith)) ∙ sets_append d at s t ∙ sets_sets d at s (at + length s) t (omega arith))

pub laid_laid : (d : List ℕ) (at : ℕ) (s t : List ℕ) → at + length s + length t ≤ length d → laid (laid d at s) (at + length s) t ≡ laid d at (s ++ t)
laid_laid d at s t h =
    ap (λ (l : List ℕ). laid l (at + length s) t) (laid_sets d at s (omega arith))
    ∙ laid_sets (sets d at s) (at + length s) t (rw length-sets h)
    ∙ sym (laid_sets d at (s ++ t) (rw length-append (omega arith)) ∙ sets_append d at s t)

pub laid_cons : (d : List ℕ) (at x : ℕ) (s : List ℕ) → at + suc (length s) ≤ length d → laid d at (x ∷ s) ≡ laid (set d at x) (at + 1) s
laid_cons d at x s h =
    laid_sets d at (x ∷ s) h ∙ rw add-one (sym (laid_sets (set d at x) (suc at) s (rw length-set (omega arith))))

pub laid_before : (d : List ℕ) (at : ℕ) (s : List ℕ) → at ≤ length d → take at (laid d at s) ≡ take at d
unfolding laid
laid_before d at s h = rw append_assoc (take_at (take at d) (s ++ drop (at + length s) d) at (length-take-le at d h))

pub laid_behind : (d : List ℕ) (at : ℕ) (s : List ℕ) → at ≤ length d → drop (at + length s) (laid d at s) ≡ drop (at + length s) d
unfolding laid
laid_behind d at s h = drop_at (take at d ++ s) (drop (at + length s) d) (at + length s) (rw (length-append, length-take-le at d h))

pub laid_below : (d : List ℕ) (at : ℕ) (s : List ℕ) → at ≤ length d → take (at + length s) (laid d at s) ≡ take at d ++ s
unfolding laid
laid_below d at s h = take_at (take at d ++ s) (drop (at + length s) d) (at + length s) (rw (length-append, length-take-le at d h))
