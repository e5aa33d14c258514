-- What writes make of an image.
--     length_give, length_write, length_apply   it keeps its length
--     apply_append                              lists of writes go one after the other
--     give_stays                                a word that no selected channel's register stands at stays
--     misses                                    a word that no channel's register stands at is reached by no mask
--     selected_give                             a register from 0x03 up leaves the selection
--     selected_select                           CSR set to a mask selects it
--     past_stays                                feeding leaves the words from 91 on, whatever the stream
use mathlib.Core.Path.{◌≡◌, refl, sym, ap, ◌∙◌, subst}
use mathlib.Core.Logic.{◌≢◌}
use mathlib.Core.Bool.{Bool, true, false, cond, not, ◌&&◌, ◌||◌}
use mathlib.Core.List.{List, [], ◌∷◌, ◌++◌}
use Prim.Native.Nat.{ℕ, zero, suc, ◌+◌, ◌*◌, ◌≤◌, ◌<◌}
use native.Mathlib.Omega.{arith}
use borrow.Author.Tests.{ne_eqb}
use lib.Dec.{T, eqb, ltb, T_not, eqb_refl}
use lib.ListN.{length, get_or, set, length-set}
use lib.Seq.{get_or-set_other, get_or-set_same}
use Rattle.registers.proofs.Choice.{by}
use Rattle.registers.specs.Registers.{Write}
use Rattle.bitfields.specs.Csr.{byte_of}
use Rattle.std.proofs.Common.{Result, Ok, Err}
use Rattle.registers.specs.declared.refusal.Refusal.{Refusal}
use Rattle.stream.specs.Decoder.{items_of, all_of, taken, decode_of}
use Rattle.stream.proofs.Steps.{Named, items_named, taken_all}
use Rattle.image.specs.Feed.{applied, feed_of}
use Rattle.image.specs.Image.{selects, reaches, give_to, give, selected, select, write, apply}

-- ---- lengths

abbrev Long : List ℕ → List ℕ → Type 0
Long image image' = length image' ≡ length image

length_give_to : (n mask a v : ℕ) (image : List ℕ) → Long image (give_to n mask a v image)
length_give_to zero mask a v image = refl
length_give_to (suc i) mask a v image =
    let h = length_give_to i mask a v image in
    by (Long image) (selects mask i) (λ _. length-set (give_to i mask a v image) (22 * i + a) v ∙ h) (λ _. h)

pub length_give : (mask a v : ℕ) (image : List ℕ) → length (give mask a v image) ≡ length image
length_give mask a v image = length_give_to 4 mask a v image

pub length_write : (w : Write) (image : List ℕ) → length (write w image) ≡ length image
length_write w image = by (Long image) (ltb w.address 3) (λ _. length-set image w.address w.value) (λ _. length_give (selected image) w.address w.value image)

pub length_apply : (ws : List Write) (image : List ℕ) → length (apply ws image) ≡ length image
length_apply [] image = refl
length_apply (w ∷ ws) image = length_apply ws (write w image) ∙ length_write w image

-- ---- writes one after the other

pub apply_append : (xs ys : List Write) (image : List ℕ) → apply (xs ++ ys) image ≡ apply ys (apply xs image)
apply_append [] ys image = refl
apply_append (w ∷ xs) ys image = apply_append xs ys (write w image)

-- ---- what stays

pub apart : (m n : ℕ) → T (not (eqb m n)) → m ≢ n
apart m n t e = T_not (eqb m n) t (subst (λ (k : ℕ). T (eqb m k)) e (eqb_refl m))

first : (a : Bool) → T (not (a && true)) → T (not a)
first true t = t
first false t = tt

pub nor : (a b : Bool) → T (not (a || b)) → T (not a) × T (not b)
nor true b t = absurd t
nor false b t = (tt, t)

store_stays : (on : Bool) (k v : ℕ) (image : List ℕ) (j : ℕ) → T (not (eqb j k && on)) → get_or (cond on (set image k v) image) j 0 ≡ get_or image j 0
store_stays true k v image j t = get_or-set_other image k j v 0 (apart j k (first (eqb j k) t))
store_stays false k v image j t = refl

pub give_stays : (n mask a v : ℕ) (image : List ℕ) (j : ℕ) → T (not (reaches n mask a j)) → get_or (give_to n mask a v image) j 0 ≡ get_or image j 0
give_stays zero mask a v image j t = refl
give_stays (suc i) mask a v image j t =
    let h = nor (eqb j (22 * i + a) && selects mask i) (reaches i mask a j) t in
    store_stays (selects mask i) (22 * i + a) v (give_to i mask a v image) j h.0 ∙ give_stays i mask a v image j h.1

-- where no channel's register a stands, no mask reaches
pub misses : (n mask a j : ℕ) → ((i : ℕ) → i < n → j ≢ 22 * i + a) → T (not (reaches n mask a j))
misses zero mask a j h = tt
misses (suc i) mask a j h = rw (ne_eqb j (22 * i + a) (h i (omega arith))) (misses i mask a j (λ k l. h k (omega arith)))

pub selected_give : (mask a v : ℕ) (image : List ℕ) → 3 ≤ a → selected (give mask a v image) ≡ selected image
selected_give mask a v image h = rw (give_stays 4 mask a v image 0 (misses 4 mask a 0 (λ i l e. omega arith)))

pub selected_select : (mode mask : ℕ) (image : List ℕ) → 0 < length image → mode ≤ 3 → selected (select mode mask image) ≡ mask
selected_select mode mask image h k = rw (get_or-set_same image 0 (byte_of mode mask) 0 h) (omega arith)

past_write : (w : Write) (image : List ℕ) (j : ℕ) → w.address < 25 → 91 ≤ j → get_or (write w image) j 0 ≡ get_or image j 0
past_write w image j h k =
    by (λ (l : List ℕ). get_or l j 0 ≡ get_or image j 0) (ltb w.address 3) (λ _. get_or-set_other image w.address j w.value 0 (λ e. omega arith))
    (λ _. give_stays 4 (selected image) w.address w.value image j (misses 4 (selected image) w.address j (λ i l e. omega arith)))

past_taken : (rs : List (Result Write Refusal)) (image : List ℕ) (j : ℕ) → Named rs → 91 ≤ j → get_or (apply (taken rs) image) j 0 ≡ get_or image j 0
past_taken [] image j g k = refl
past_taken ((Ok w) ∷ rs) image j g k = past_taken rs (write w image) j g.1 k ∙ past_write w image j g.0 k
past_taken ((Err e) ∷ rs) image j g k = refl

past_applied : (rs : List (Result Write Refusal)) (d : Result (List Write) Refusal) (image : List ℕ) (j : ℕ) → all_of rs ≡ d → Named rs → 91 ≤ j → get_or (applied d image) j 0 ≡ get_or image j 0
past_applied rs (Ok ws) image j e g k = ap (λ us. get_or (apply us image) j 0) (sym (taken_all rs ws e)) ∙ past_taken rs image j g k
past_applied rs (Err f) image j e g k = refl

pub past_stays : (bytes image : List ℕ) (j : ℕ) → 91 ≤ j → get_or (feed_of bytes image) j 0 ≡ get_or image j 0
past_stays bytes image j k =
    by (λ (l : List ℕ). get_or l j 0 ≡ get_or image j 0) (ltb (length image) 91) (λ _. refl) (λ _. past_applied (items_of bytes) (decode_of bytes) image j refl (items_named bytes) k)
