-- A host's loop over a sequence that follows a table of steps:
--     nothing_left   where nothing is handed out, no reply comes
--     ends_now       an answer that ends the sequence ends the run
--     goes_more      any other takes it a step on
--     brought_by     where a run brings a value, one of the replies brought it
use mathlib.Core.Path.{◌≡◌, refl, sym, ap, subst, ◌∙◌}
use mathlib.Core.Bool.{true}
use mathlib.Core.List.{List, [], ◌∷◌, ◌++◌}
use Prim.Native.Nat.{ℕ, ◌+◌, ◌-◌, ◌<◌}
use native.Mathlib.Omega.{arith}
use lib.ListN.{length}
use Rattle.std.specs.Prelude.{Result, Option, Some, None, Ok, Err}
use Rattle.registers.specs.declared.refusal.Refusal.{Refusal}
use Rattle.registers.specs.declared.refusal.Refusal.TheVariants.{Over}
use Rattle.bus.specs.declared.Action.{Action}
use Rattle.bus.specs.declared.Reply.{Reply}
use Rattle.bus.specs.Sequence.{Plan, Follows, Ran, action, answer, after, ends, first, brought, reached}
use Rattle.bus.proofs.Runs.{within, as_long, answered, goes_on, fine, answer_ends}

module _ {S A : Type 0} (q : Plan S A) (table_of : S → List ℕ → List Action) (F : Follows q table_of) where
  abbrev n : S → ℕ
  n s = length (q.table s)

  -- a step on, and a step less to go
  pub nearer : (s : S) (r : Reply) → answer q s r ≡ Ok None → (q.step s < n s) × (q.step (after q s r) ≡ q.step s + 1) × (n (after q s r) ≡ n s)
  nearer s r e =
      let k = fine q s r (ap ends e) in
      let h = (answered q s r k.0).1 in
      (h, rw (goes_on q s r k.0 k.1) (F.moves s r.value [] h k.1).0, rw (goes_on q s r k.0 k.1) (as_long q table_of F s r.value h k.1))

  pub shorter : (s : S) (r : Reply) {next : S} {got : Result (Option A) Refusal} → next ≡ after q s r → got ≡ answer q s r → got ≡ Ok None → n next - q.step next < n s - q.step s
  shorter s r k e t = let d = nearer s r (sym e ∙ t) in rw k (omega (arith, d.0, d.1, d.2))

  module _ {B : Type 0} (gives : B → Action → Reply → B → Type 0) where
    pub nothing_left : (s : S) (b : B) → action q s ≡ None → Ran q gives s b (Err Over) s b
    nothing_left s b e = record { replies = []; plays = refl; bounded = omega arith; brings = refl; leaves = refl; over = e }

    -- one action a, played on the bus, and the record after its reply
    module _ {s : S} {b : B} {a : Action} {r : Reply} {mid : B} {next : S} {got : Result (Option A) Refusal} (h : action q s ≡ Some a) (p : gives b a r mid) (k : next ≡ after q s r) (e : got ≡ answer q s r) where
      pub ends_now : (x : Result (Option A) Refusal) → got ≡ x → ends x ≡ true → Ran q gives s b (first x (Err Over)) next mid
      ends_now x is t =
          let here : answer q s r ≡ x = sym e ∙ is in
          let near : q.step s < n s = (within q s (a, h)).1 in
          record {
            replies = r ∷ [];
            plays = (a, h, mid, p, refl);
            bounded = omega arith;
            brings = ap (λ y. first y (Err Over)) (sym here);
            leaves = k;
            over = rw k (answer_ends q table_of F s r (rw here t));
          }

      pub goes_more : got ≡ Ok None → (result : Result A Refusal) (left : S) (end : B) → Ran q gives next mid result left end → Ran q gives s b result left end
      goes_more t result left end R =
          let none : answer q s r ≡ Ok None = sym e ∙ t in
          let d = nearer s r none in
          let rest = subst (λ (x : S). Ran q gives x mid result left end) k R in
          record {
            replies = r ∷ rest.replies;
            plays = (a, h, mid, p, rest.plays);
            bounded = omega (arith, d.0, d.1, d.2, rest.bounded);
            brings = rest.brings ∙ sym (ap (λ x. first x (brought q gives (after q s r) rest.replies)) none);
            leaves = rest.leaves;
            over = rest.over;
          }

-- a run that brings a value: some reply brought it
as_answer : {A : Type 0} → Result A Refusal → Result (Option A) Refusal
as_answer (Ok a) = Ok (Some a)
as_answer (Err n) = Err n

fails : {A : Type 0} → Result A Refusal → ℕ
fails (Ok a) = 0
fails (Err n) = 1

module _ {S A : Type 0} (q : Plan S A) {B : Type 0} (gives : B → Action → Reply → B → Type 0) where
  pub record Brought (s : S) (rs : List Reply) (a : A) : Type 0 where
    pub front : List Reply
    pub reply : Reply
    pub more : List Reply
    pub whole : rs ≡ front ++ reply ∷ more
    pub answered : answer q (reached q s front) reply ≡ Ok (Some a)

  pub brought_by : (s : S) (rs : List Reply) (a : A) → brought q gives s rs ≡ Ok a → Brought s rs a
  unfolding as_answer fails
  brought_by s [] a h = let z : ◌≡◌ {A = ℕ} 1 0 = ap fails h in absurd (omega (arith, z))
  brought_by s (r ∷ rs) a h = go (brought_by (after q s r) rs a) (answer q s r) refl h
    where
      go : (brought q gives (after q s r) rs ≡ Ok a → Brought (after q s r) rs a) → (x : Result (Option A) Refusal) → answer q s r ≡ x → first x (brought q gives (after q s r) rs) ≡ Ok a → Brought s (r ∷ rs) a
      go more (Ok None) e h = let k = more h in record { front = r ∷ k.front; reply = k.reply; more = k.more; whole = ap (λ (l : List Reply). r ∷ l) k.whole; answered = k.answered }
      go more (Ok (Some b)) e h = record { front = []; reply = r; more = rs; whole = refl; answered = e ∙ ap as_answer h }
      go more (Err n) e h = let z : ◌≡◌ {A = ℕ} 1 0 = ap fails h in absurd (omega (arith, z))
