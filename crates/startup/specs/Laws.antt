-- What the trait asks of start-up: it follows its table.
--     table_stays a record that moves on keeps its whole table, whatever its step
--     moves_on    past its table too: any record but one of the largest step moves on by one, with that table
use Rattle.std.specs.Prelude.{◌≡◌, ℕ, suc, ◌+◌, ◌-◌, ◌<◌, ◌≤◌, false, List, ◌∷◌, length, get_or, slice_get, Some, take, drop, ltb, refl}
use Rattle.std.proofs.Common.{sym, ap, ◌∙◌, arith}
use borrow.Author.Tests.{ltb-true, ltb-false, lt-ltb, le-ltb, eq-eqb, ne_eqb}
use lib.ListN.{get_or-append}
use Rattle.registers.proofs.Choice.{by}
use Rattle.bus.specs.declared.Action.{Action}
use Rattle.bus.specs.declared.Action.TheVariants.{Delay}
use Rattle.std.proofs.lemmas.Option.{slice_get-get_or}
use Rattle.bus.specs.Sequence.{Follows, stops}
use Rattle.startup.specs.declared.Startup.{Startup}
use Rattle.startup.specs.Startup.{table, csr, word, kept_of, plan, fr1_to, table_of}

-- FR1 has no part in the first 13 steps
early : (m c w w' k : ℕ) → k < 13 → slice_get (table m c w) k ≡ slice_get (table m c w') k
early m c w w' k h =
    let d = Delay 0 in
    let front : (w : ℕ) → get_or (table m c w) k d ≡ get_or (take 13 (table m c w)) k d = λ w. get_or-append (take 13 (table m c w)) (drop 13 (table m c w)) d k h in
    slice_get-get_or (table m c w) k d (omega (arith, h)) ∙ ap (λ (a : Action). Some a) (front w ∙ sym (front w')) ∙ sym (slice_get-get_or (table m c w') k d (omega (arith, h)))

fr1_here : (s : Startup) (vs : List ℕ) → slice_get (table_of s vs) s.step ≡ slice_get (plan.table s) s.step
fr1_here s vs =
    let P : ℕ → Type 0 = λ x. slice_get (table s.mode (csr s) (word s x)) s.step ≡ slice_get (plan.table s) s.step in
    by P (ltb s.step 13) (λ e. early s.mode (csr s) _ _ s.step (ltb-true s.step 13 e)) (λ e. refl)

fr1_then : (k v fr1 : ℕ) (vs : List ℕ) → fr1_to (k + 1) vs (kept_of k v fr1) ≡ fr1_to k (v ∷ vs) fr1
fr1_then k v fr1 vs =
    let G : ℕ → Type 0 = λ t. fr1_to (k + 1) vs (kept_of k v fr1) ≡ fr1_to k (v ∷ vs) fr1 in
    by G (ltb k 12) {x = 0} {y = 0}
    (λ e. let h = ltb-true k 12 e in let z : 12 - k ≡ suc (12 - (k + 1)) = omega arith in simp (lt-ltb (k + 1) 13 (omega arith), lt-ltb k 13 (omega arith), z))
    (λ e. let h = ltb-false k 12 e in by G (ltb k 13) {x = 0} {y = 0}
    (λ f. let i = ltb-true k 13 f in let z : 12 - k ≡ 0 = omega arith in simp (le-ltb (k + 1) 13 (omega arith), lt-ltb k 13 i, eq-eqb k 12 (omega arith), z))
    (λ f. let i = ltb-false k 13 f in simp (le-ltb (k + 1) 13 (omega arith), le-ltb k 13 i, ne_eqb k 12 (λ w. omega arith))))

-- n is the step after k
pub fr1_next : (k n v fr1 : ℕ) (vs : List ℕ) → n ≡ k + 1 → fr1_to n vs (kept_of k v fr1) ≡ fr1_to k (v ∷ vs) fr1
fr1_next k n v fr1 vs e = rw e (fr1_then k v fr1 vs)

-- 17 steps, of any record
pub many : (s : Startup) → length (plan.table s) ≡ 17
many s = refl

-- one that moves on by one keeps its whole table
keeps : (s : Startup) (v : ℕ) (vs : List ℕ) → plan.step (plan.onward s v) ≡ s.step + 1 → table_of (plan.onward s v) vs ≡ table_of s (v ∷ vs)
unfolding word
keeps s v vs k = ap (λ (x : ℕ). table s.mode (csr s) (word s x)) (fr1_next s.step (plan.step (plan.onward s v)) v s.fr1 vs k)

fr1_late : (k n v fr1 : ℕ) (vs : List ℕ) → 13 ≤ k → 13 ≤ n → fr1_to n vs (kept_of k v fr1) ≡ fr1_to k (v ∷ vs) fr1
fr1_late k n v fr1 vs h l = simp (le-ltb n 13 l, le-ltb k 13 h, ne_eqb k 12 (λ w. omega (arith, h, w)))

pub table_stays : (s : Startup) (v : ℕ) (vs : List ℕ) → table_of (plan.onward s v) vs ≡ table_of s (v ∷ vs)
unfolding word
table_stays s v vs =
    let G : ℕ → Type 0 = λ t. table_of (plan.onward s v) vs ≡ table_of s (v ∷ vs) in
    by G (ltb s.step 13) {x = 0} {y = 0}
    (λ e. let h = ltb-true s.step 13 e in keeps s v vs (omega (arith, h)))
    (λ e. let h = ltb-false s.step 13 e in ap (λ (x : ℕ). table s.mode (csr s) (word s x)) (fr1_late s.step (plan.step (plan.onward s v)) v s.fr1 vs h (omega (arith, h))))

-- a plan that goes wrong only past its table still `follows` it: `moves_on` alone refuses it
pub moves_on : (s : Startup) (v : ℕ) (vs : List ℕ) → s.step < 4294967295 → stops plan s v ≡ false
    → (plan.step (plan.onward s v) ≡ plan.step s + 1) × (table_of (plan.onward s v) vs ≡ table_of s (v ∷ vs))
moves_on s v vs h e = let k : plan.step (plan.onward s v) ≡ s.step + 1 = omega (arith, h) in (k, table_stays s v vs)

pub follows : Follows plan table_of
follows = record {
  long = λ s vs. refl;
  here = fr1_here;
  moves = λ s v vs h e. let k : plan.step (plan.onward s v) ≡ s.step + 1 = omega (arith, h) in (k, table_stays s v vs);
  over = λ s. omega arith;
}
