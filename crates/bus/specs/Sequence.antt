-- A bus sequence: a record that hands out one action, takes one reply, and goes on. Whole runs, for any list of replies. Definitions only.
use Rattle.std.specs.Prelude.{◌≡◌, ℕ, ◌+◌, ◌-◌, ◌<◌, ◌≤◌, Bool, true, false, cond, List, [], ◌∷◌, ◌++◌, length, min, slice_get, is_none, Option, Some, None, Result, Ok, Err}
use Rattle.std.specs.Result.{result_and}
use Rattle.registers.specs.declared.refusal.Refusal.{Refusal}
use Rattle.registers.specs.declared.refusal.Refusal.TheVariants.{Over}
use Rattle.registers.specs.Registers as registers
use Rattle.bus.specs.declared.Action.{Action}
use Rattle.bus.specs.declared.Action.TheVariants.{Pin, Delay, Configure, Write, Read}
use Rattle.bus.specs.declared.Reply.{Reply}
use Rattle.bus.specs.Bus.{fault_of}

-- what a sequence is made of: whether a record is one of its own, or hand-made and out of range; its step; its table of steps, by what it holds;
-- its own judgement of a value that came back well (a refusal, what it hands back at its end, or nothing yet); the record moved on, and the record ended
pub record Plan (S : Type 0) (A : Type 0) : Type 0 where
  pub legal : S → Bool
  pub step : S → ℕ
  pub table : S → List Action
  pub judge : S → ℕ → Result (Option A) Refusal
  pub onward : S → ℕ → S
  pub ended : S → S

-- the step after another; of a hand-made record it may be the largest that there is, and stays
abbrev pub next : ℕ → ℕ
next step = min (step + 1) 4294967295

-- an answer ends the sequence, but for nothing yet
abbrev pub ends : {A : Type 0} → Result (Option A) Refusal → Bool
ends (Ok None) = false
ends (Ok (Some a)) = true
ends (Err refusal) = true

-- an action as a list: nothing is none
abbrev pub shown : Option Action → List Action
shown None = []
shown (Some a) = a ∷ []

abbrev pub values : List Reply → List ℕ
values [] = []
values (r ∷ rs) = r.value ∷ values rs

module _ {S A : Type 0} (q : Plan S A) where
  -- the table's entry at the step. A record that isn't one of its own, or whose step isn't, counts as ended: it hands out no action
  unfoldable pub action : S → Option Action
  action s = cond (q.legal s) (slice_get (q.table s) (q.step s)) None

  -- whether it stops at a value that came back well
  abbrev pub stops : S → ℕ → Bool
  stops s v = ends (q.judge s v)

  -- what a reply brings: what is wrong with it, or else the judgement
  unfoldable pub answer : S → Reply → Result (Option A) Refusal
  answer s r = result_and (fault_of (action s) r) (q.judge s r.value)

  -- the record after a reply: one that has ended stays; what is wrong with the reply ends it, and so does the sequence's own judgement
  unfoldable pub after : S → Reply → S
  after s r = cond (is_none (action s)) s (cond (ends (answer s r)) (q.ended s) (q.onward s r.value))

  -- the actions handed out: before each reply, and after the last. A host may go on replying to a sequence that has ended
  abbrev pub acts : S → List Reply → List Action
  acts s [] = shown (action s)
  acts s (r ∷ rs) = shown (action s) ++ acts (after s r) rs

  -- the record after some replies
  abbrev pub reached : S → List Reply → S
  reached s [] = s
  reached s (r ∷ rs) = reached (after s r) rs

-- the law of a sequence: it follows its table, step by step. table_of s vs is a record's whole table, where vs are the values still to come
pub record Follows {S A : Type 0} (q : Plan S A) (table_of : S → List ℕ → List Action) : Type 0 where
  pub long : (s : S) (vs : List ℕ) → length (table_of s vs) ≡ length (q.table s)
  pub here : (s : S) (vs : List ℕ) → slice_get (table_of s vs) (q.step s) ≡ slice_get (q.table s) (q.step s)
  pub moves : (s : S) (v : ℕ) (vs : List ℕ) → q.step s < length (q.table s) → stops q s v ≡ false
      → (q.step (q.onward s v) ≡ q.step s + 1) × (table_of (q.onward s v) vs ≡ table_of s (v ∷ vs))
  pub over : (s : S) → length (q.table (q.ended s)) ≤ q.step (q.ended s)

-- the first answer that ends a sequence; Over where there is none
abbrev pub first : {A : Type 0} → Result (Option A) Refusal → Result A Refusal → Result A Refusal
first (Ok None) rest = rest
first (Ok (Some a)) rest = Ok a
first (Err refusal) rest = Err refusal

-- a host's run on a bus that may reply so to an action (gives): each action is played, and its reply given back
module _ {S A : Type 0} (q : Plan S A) {B : Type 0} (gives : B → Action → Reply → B → Type 0) where
  abbrev pub brought : S → List Reply → Result A Refusal
  brought s [] = Err Over
  brought s (r ∷ rs) = first (answer q s r) (brought (after q s r) rs)

  abbrev pub Plays : S → B → List Reply → B → Type 0
  Plays s b [] end = end ≡ b
  Plays s b (r ∷ rs) end = (a : Action) × (action q s ≡ Some a) × (mid : B) × gives b a r mid × Plays (after q s r) mid rs end

  -- some replies came, no more than the table has steps left; the result is what they brought, and the sequence has ended
  pub record Ran (s : S) (b : B) (result : Result A Refusal) (left : S) (end : B) : Type 0 where
    pub replies : List Reply
    pub plays : Plays s b replies end
    pub bounded : length replies ≤ length (q.table s) - q.step s
    pub brings : result ≡ brought s replies
    pub leaves : left ≡ reached q s replies
    pub over : action q left ≡ None

-- the register writes among some actions, in order
abbrev pub writes : List Action → List registers.Write
writes [] = []
writes (Pin pin high ∷ rest) = writes rest
writes (Delay us ∷ rest) = writes rest
writes (Configure mode ∷ rest) = writes rest
writes (Write a v ∷ rest) = registers.wrote a v ∷ writes rest
writes (Read a ∷ rest) = writes rest
