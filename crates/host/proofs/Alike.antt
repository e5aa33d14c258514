-- Host's sequence is the kind's own, so what is proved of a kind's runs, whatever the replies are, holds of host's. Of each kind (Alike):
--     action     what is handed out is the kind's own action
--     answer     what a reply brings is what it brings the kind, as an outcome
--     after      the record after a reply is the kind's own
--     acts       so a run hands out what the kind's own hands out
--     reached    and leaves the kind's own record
-- and these are the four: startups, transfers, registers, self_tests.
use mathlib.Core.Path.{◌≡◌, refl}
use mathlib.Core.Bool.{Bool, true, false, cond}
use mathlib.Core.List.{List, [], ◌∷◌}
use Prim.Native.Nat.{ℕ}
use Rattle.std.specs.Prelude.{Option, Some, None, Result, Ok, Err, is_none}
use Rattle.std.specs.Result.{result_and}
use Rattle.registers.specs.declared.refusal.Refusal.{Refusal}
use Rattle.bus.specs.declared.Reply.{Reply}
use Rattle.bus.specs.Bus.{fault_of}
use Rattle.bus.specs.Sequence.{Plan, ends}
use Rattle.bus.specs.Sequence as bus
use Rattle.startup.specs.Startup as startup
use Rattle.driver.specs.Channel as channel
use Rattle.driver.specs.Register as register
use Rattle.self_test.specs.SelfTest as self-test
use Rattle.host.specs.declared.Kind.{Kind}
use Rattle.host.specs.declared.Kind.TheVariants.{Startup, Transfer, Register, SelfTest}
use Rattle.host.specs.declared.Outcome.{Outcome}
use Rattle.host.specs.declared.Outcome.TheVariants.{Driver, Float, Word, Passed}
use Rattle.host.specs.Host.{brings, plan}

-- a kind of sequence, with a plan of its own, is alike in host's
pub record Alike {S A : Type 0} (q : Plan S A) (kind : S → Kind) (outcome : A → Outcome) : Type 0 where
  pub action : (s : S) → bus.action plan (kind s) ≡ bus.action q s
  pub answer : (s : S) (r : Reply) → bus.answer plan (kind s) r ≡ brings outcome (bus.answer q s r)
  pub after : (s : S) (r : Reply) → bus.after plan (kind s) r ≡ kind (bus.after q s r)
  pub acts : (s : S) (rs : List Reply) → bus.acts plan (kind s) rs ≡ bus.acts q s rs
  pub reached : (s : S) (rs : List Reply) → bus.reached plan (kind s) rs ≡ kind (bus.reached q s rs)

module _ {S A : Type 0} (q : Plan S A) (kind : S → Kind) (outcome : A → Outcome) where
  -- what is wrong with a reply goes before the judgement
  and_brings : (x : Result (Unit {0}) Refusal) (j : Result (Option A) Refusal) → result_and x (brings outcome j) ≡ brings outcome (result_and x j)
  and_brings (Ok u) j = refl
  and_brings (Err refusal) j = refl

  -- an outcome ends a sequence exactly where what it is made of does
  ends_same : (x : Result (Option A) Refusal) → ends (brings outcome x) ≡ ends x
  ends_same (Ok None) = refl
  ends_same (Ok (Some a)) = refl
  ends_same (Err refusal) = refl

  choice : (a b : Bool) (x y z : S) → cond a (kind x) (cond b (kind y) (kind z)) ≡ kind (cond a x (cond b y z))
  choice true b x y z = refl
  choice false true x y z = refl
  choice false false x y z = refl

  -- it is enough that the plans are alike
  module _ (action : (s : S) → bus.action plan (kind s) ≡ bus.action q s) (judge : (s : S) (v : ℕ) → plan.judge (kind s) v ≡ brings outcome (q.judge s v))
      (onward : (s : S) (v : ℕ) → plan.onward (kind s) v ≡ kind (q.onward s v)) (ended : (s : S) → plan.ended (kind s) ≡ kind (q.ended s)) where
    answer : (s : S) (r : Reply) → bus.answer plan (kind s) r ≡ brings outcome (bus.answer q s r)
    unfolding bus.answer
    answer s r = rw (action s, judge s r.value) (and_brings (fault_of (bus.action q s) r) (q.judge s r.value))

    after : (s : S) (r : Reply) → bus.after plan (kind s) r ≡ kind (bus.after q s r)
    unfolding bus.after
    after s r = rw (action s, answer s r, ends_same (bus.answer q s r), onward s r.value, ended s) (choice (is_none (bus.action q s)) (ends (bus.answer q s r)) s (q.ended s) (q.onward s r.value))

    acts : (s : S) (rs : List Reply) → bus.acts plan (kind s) rs ≡ bus.acts q s rs
    acts s [] = rw (action s) refl
    acts s (r ∷ rs) = rw (action s, after s r, acts (bus.after q s r) rs) refl

    reached : (s : S) (rs : List Reply) → bus.reached plan (kind s) rs ≡ kind (bus.reached q s rs)
    reached s [] = refl
    reached s (r ∷ rs) = rw (after s r) (reached (bus.after q s r) rs)

    alike : Alike q kind outcome
    alike = record { action = action; answer = answer; after = after; acts = acts; reached = reached }

pub startups : Alike startup.plan Startup Driver
unfolding bus.action
startups = alike startup.plan Startup Driver (λ s. refl) (λ s v. refl) (λ s v. refl) (λ s. refl)

pub transfers : Alike channel.plan Transfer Float
unfolding bus.action
transfers = alike channel.plan Transfer Float (λ s. refl) (λ s v. refl) (λ s v. refl) (λ s. refl)

pub registers : Alike register.plan Register Word
unfolding bus.action
registers = alike register.plan Register Word (λ s. refl) (λ s v. refl) (λ s v. refl) (λ s. refl)

pub self_tests : Alike self-test.plan SelfTest Passed
unfolding bus.action
self_tests = alike self-test.plan SelfTest Passed (λ s. refl) (λ s v. refl) (λ s v. refl) (λ s. refl)
