-- A stream's items, one by one.
--     first_short                      a write that is cut off
--     items_nil, items_ok, items_err   the end, a write and what follows it, a refusal
--     items_most                       no more items than bytes
--     items_named, item_address        each write is of a register
--     taken_all                        where none is refused, what is taken is all
--     item_next, item_bad, item_end    a count, with the count of what is left
--     counted                          as many items as writes, where none is refused
--     next_laid                        a store of the next word leaves the others to be laid
use Rattle.std.proofs.Common.{◌≡◌, ℕ, zero, suc, ◌+◌, ◌<◌, ◌≤◌, List, [], ◌∷◌, length, take, drop, map, set, Bool, true, false, cond, refl, sym, ap, subst, ◌∙◌, arith, Result, Ok, Err}
use native.Mathlib.Nat.{zero-add}
use borrow.Author.Tests.{le-ltb, ltb-false}
use lib.Dec.{ltb}
use lib.ListN.{length-drop}
use Rattle.registers.specs.declared.refusal.Refusal.{Refusal}
use Rattle.registers.specs.declared.refusal.Refusal.TheVariants.{Address, Short}
use Rattle.registers.specs.Registers.{Write, wrote, width_of}
use Rattle.registers.specs.Bytes.{value_of, laid, read_of}
use Rattle.registers.proofs.Widths.{width_most}
use Rattle.registers.proofs.Laid.{laid_cons}
use Rattle.stream.specs.Decoder.{first_of, item_then, items_in, items_of, before, all_of, taken, count_of}
use Rattle.stream.specs.Encoder.{more}

-- a value that is cut off
pub first_short : (bytes : List ℕ) (a : ℕ) (bs : List ℕ) (e : Refusal) → bytes ≡ a ∷ bs → a ≤ 24 → read_of bs 0 (width_of a) ≡ Err e → first_of bytes ≡ Err e
unfolding first_of
first_short bytes a bs e q h z = rw q (go (ltb (length bs) (width_of a)) refl (rw (le-ltb 4 (width_of a) (width_most a), zero-add) at z))
  where
    go : (b : Bool) → ltb (length bs) (width_of a) ≡ b → ◌≡◌ {A = Result ℕ Refusal} (cond (ltb (length bs) (width_of a)) (Err Short) (Ok (value_of (take (width_of a) (drop 0 bs))))) (Err e)
        → ◌≡◌ {A = Result (Write × List ℕ) Refusal} (cond (ltb 24 a) (Err Address) (cond (ltb (length bs) (width_of a)) (Err Short) (Ok (wrote a (value_of (take (width_of a) bs)), drop (width_of a) bs)))) (Err e)
    go true f z = rw (le-ltb 24 a h, f) (let g : ◌≡◌ {A = Result ℕ Refusal} (Err Short) (Err e) = rw f at z in cc)
    go false f z = absurd (let g : ◌≡◌ {A = Result ℕ Refusal} (Ok (value_of (take (width_of a) (drop 0 bs)))) (Err e) = rw f at z in cc)

-- the write, and what is left, of a first write that is not refused
abbrev pub front : Result (Write × List ℕ) Refusal → Write
front (Ok x) = x.0
front (Err e) = wrote 0 0

abbrev pub after : Result (Write × List ℕ) Refusal → List ℕ
after (Ok x) = x.1
after (Err e) = []

-- what is left is shorter

shorter_by : (t u : Bool) (a : ℕ) (bs : List ℕ) (w : Write) (rest : List ℕ) (n : ℕ)
    → ◌≡◌ {A = Result (Write × List ℕ) Refusal} (cond t (Err Address) (cond u (Err Short) (Ok (wrote a (value_of (take n bs)), drop n bs)))) (Ok (w, rest)) → length rest ≤ length bs
shorter_by true u a bs w rest n e = absurd (cc)
shorter_by false true a bs w rest n e = absurd (cc)
shorter_by false false a bs w rest n e = let p : drop n bs ≡ rest = ap after e in rw (← p, length-drop) (omega arith)

pub shorter : (a : ℕ) (bs : List ℕ) (w : Write) (rest : List ℕ) → first_of (a ∷ bs) ≡ Ok (w, rest) → length rest ≤ length bs
unfolding first_of
shorter a bs w rest e = shorter_by (ltb 24 a) (ltb (length bs) (width_of a)) a bs w rest (width_of a) e

-- steps enough
same : (go go' : List ℕ → List (Result Write Refusal)) (a : ℕ) (bs : List ℕ) → ((cs : List ℕ) → length cs ≤ length bs → go cs ≡ go' cs) → (r : Result (Write × List ℕ) Refusal)
    → first_of (a ∷ bs) ≡ r → item_then go r ≡ item_then go' r
same go go' a bs h (Ok x) e = ap (λ rs. Ok x.0 ∷ rs) (h x.1 (shorter a bs x.0 x.1 e))
same go go' a bs h (Err f) e = refl

enough : (n m : ℕ) (bs : List ℕ) → length bs ≤ n → length bs ≤ m → items_in n bs ≡ items_in m bs
unfolding items_in
enough zero zero bs h k = refl
enough zero (suc m) [] h k = refl
enough zero (suc m) (a ∷ bs) h k = absurd (omega arith)
enough (suc n) zero [] h k = refl
enough (suc n) zero (a ∷ bs) h k = absurd (omega arith)
enough (suc n) (suc m) [] h k = refl
enough (suc n) (suc m) (a ∷ bs) h k = same (items_in n) (items_in m) a bs (λ cs l. enough n m cs (omega arith) (omega arith)) (first_of (a ∷ bs)) refl

pub items_nil : (bs : List ℕ) → length bs ≡ 0 → items_of bs ≡ []
unfolding items_of items_in
items_nil [] h = refl
items_nil (a ∷ bs) h = absurd (omega arith)

pub items_ok : (bs : List ℕ) (w : Write) (rest : List ℕ) → first_of bs ≡ Ok (w, rest) → items_of bs ≡ Ok w ∷ items_of rest
unfolding items_of items_in first_of
items_ok [] w rest e = absurd (cc)
items_ok (a ∷ bs) w rest e = rw e (ap (λ rs. Ok w ∷ rs) (enough (length bs) (length rest) rest (shorter a bs w rest e) (omega arith)))

pub items_err : (bs : List ℕ) (f : Refusal) → 0 < length bs → first_of bs ≡ Err f → items_of bs ≡ Err f ∷ []
unfolding items_of items_in
items_err [] f h e = absurd (omega arith)
items_err (a ∷ bs) f h e = rw e refl

most_on : (go : List ℕ → List (Result Write Refusal)) (a : ℕ) (bs : List ℕ) → ((cs : List ℕ) → length cs ≤ length bs → length (go cs) ≤ length cs) → (r : Result (Write × List ℕ) Refusal)
    → first_of (a ∷ bs) ≡ r → length (item_then go r) ≤ suc (length bs)
most_on go a bs h (Ok x) e = let p = shorter a bs x.0 x.1 e in omega (arith, h x.1 p)
most_on go a bs h (Err f) e = omega arith

most : (n : ℕ) (bs : List ℕ) → length bs ≤ n → length (items_in n bs) ≤ length bs
unfolding items_in
most zero bs h = omega arith
most (suc n) [] h = omega arith
most (suc n) (a ∷ bs) h = most_on (items_in n) a bs (λ cs l. most n cs (omega arith)) (first_of (a ∷ bs)) refl

pub items_most : (bs : List ℕ) → length (items_of bs) ≤ length bs
unfolding items_of
items_most bs = most (length bs) bs (omega arith)

-- ---- each a register's

by_test : (t u : Bool) (a : ℕ) (bs : List ℕ) (w : Write) (rest : List ℕ) → ltb 24 a ≡ t
    → ◌≡◌ {A = Result (Write × List ℕ) Refusal} (cond t (Err Address) (cond u (Err Short) (Ok (wrote a (value_of (take (width_of a) bs)), drop (width_of a) bs)))) (Ok (w, rest)) → w.address < 25
by_test true u a bs w rest f e = absurd (cc)
by_test false true a bs w rest f e = absurd (cc)
by_test false false a bs w rest f e = let p : a ≡ w.address = ap (λ r. (front r).address) e in omega (arith, ltb-false 24 a f)

first_address : (a : ℕ) (bs : List ℕ) (w : Write) (rest : List ℕ) → first_of (a ∷ bs) ≡ Ok (w, rest) → w.address < 25
unfolding first_of
first_address a bs w rest e = by_test (ltb 24 a) (ltb (length bs) (width_of a)) a bs w rest refl e

-- each write up to a refusal is of a register
abbrev pub Named : List (Result Write Refusal) → Type 0
Named [] = Unit {0}
Named ((Ok w) ∷ rs) = (w.address < 25) × Named rs
Named ((Err e) ∷ rs) = Unit {0}

named_on : (go : List ℕ → List (Result Write Refusal)) (a : ℕ) (bs : List ℕ) → ((cs : List ℕ) → Named (go cs)) → (r : Result (Write × List ℕ) Refusal) → first_of (a ∷ bs) ≡ r → Named (item_then go r)
named_on go a bs h (Ok x) e = (first_address a bs x.0 x.1 e, h x.1)
named_on go a bs h (Err f) e = tt

named : (n : ℕ) (bs : List ℕ) → Named (items_in n bs)
unfolding items_in
named zero bs = tt
named (suc n) [] = tt
named (suc n) (a ∷ bs) = named_on (items_in n) a bs (named n) (first_of (a ∷ bs)) refl

pub items_named : (bs : List ℕ) → Named (items_of bs)
unfolding items_of
items_named bs = named (length bs) bs

pub item_address : (bs : List ℕ) (w : Write) (rs : List (Result Write Refusal)) → items_of bs ≡ Ok w ∷ rs → w.address < 25
item_address bs w rs e = (subst Named e (items_named bs)).0

-- ---- counted

one_more : (n : ℕ) (w : Write) (d : Result (List Write) Refusal) → more (n + 1) (count_of d) ≡ more n (count_of (before w d))
one_more n w (Ok ws) = ap Ok (omega arith)
one_more n w (Err e) = refl

module _ (n : ℕ) (rs qs : List (Result Write Refusal)) where
  pub item_next : (w : Write) → rs ≡ Ok w ∷ qs → more (n + 1) (count_of (all_of qs)) ≡ more n (count_of (all_of rs))
  item_next w e = rw e (one_more n w (all_of qs))

  pub item_bad : (f : Refusal) → rs ≡ Err f ∷ qs → more n (count_of (all_of rs)) ≡ Err f
  item_bad f e = rw e

  pub item_end : rs ≡ [] → more n (count_of (all_of rs)) ≡ Ok n
  item_end e = rw e (ap Ok (omega arith))

counted_more : (n : ℕ) (w : Write) (rs : List (Result Write Refusal)) (d : Result (List Write) Refusal) → ((m : ℕ) → count_of d ≡ Ok m → length rs ≡ m) → count_of (before w d) ≡ Ok n → suc (length rs) ≡ n
counted_more n w rs (Ok ws) h e = let p : suc (length ws) ≡ n = cc in omega (arith, h (length ws) refl)
counted_more n w rs (Err f) h e = absurd (cc)

pub counted : (rs : List (Result Write Refusal)) (n : ℕ) → count_of (all_of rs) ≡ Ok n → length rs ≡ n
counted [] n e = cc
counted ((Ok w) ∷ rs) n e = counted_more n w rs (all_of rs) (counted rs) e
counted ((Err f) ∷ rs) n e = absurd (cc)

-- ---- all of them

taken_one : (w : Write) (rs : List (Result Write Refusal)) (d : Result (List Write) Refusal) → ((ws : List Write) → d ≡ Ok ws → taken rs ≡ ws) → (ws : List Write) → before w d ≡ Ok ws → w ∷ taken rs ≡ ws
taken_one w rs (Ok us) h ws e = let p : w ∷ us ≡ ws = cc in ap (λ us. w ∷ us) (h us refl) ∙ p
taken_one w rs (Err f) h ws e = absurd (cc)

pub taken_all : (rs : List (Result Write Refusal)) (ws : List Write) → all_of rs ≡ Ok ws → taken rs ≡ ws
taken_all [] ws e = cc
taken_all ((Ok w) ∷ rs) ws e = taken_one w rs (all_of rs) (taken_all rs) ws e
taken_all ((Err f) ∷ rs) ws e = absurd (cc)

-- ---- filled

taken_most : (f : Write → ℕ) (rs : List (Result Write Refusal)) → length (map f (taken rs)) ≤ length rs
taken_most f [] = omega arith
taken_most f ((Ok w) ∷ rs) = omega (arith, taken_most f rs)
taken_most f ((Err e) ∷ rs) = omega arith

pub next_laid : (f : Write → ℕ) (d whole : List ℕ) (i : ℕ) (rs qs : List (Result Write Refusal)) (w : Write) → rs ≡ Ok w ∷ qs → i + length rs ≤ length d
    → laid d i (map f (taken rs)) ≡ whole → laid (set d i (f w)) (i + 1) (map f (taken qs)) ≡ whole
next_laid f d whole i rs qs w e h k =
    let r : i + length (Ok w ∷ qs) ≤ length d = rw e at h in
    let p : laid d i (f w ∷ map f (taken qs)) ≡ whole = rw e at k in
    sym (laid_cons d i (f w) (map f (taken qs)) (omega (arith, taken_most f qs))) ∙ p
