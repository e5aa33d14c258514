-- Whole runs, for any list of replies, of a sequence that follows a table of steps.
--     stands          a record of its own hands out its table's entry at its step
--     not_own         any other hands out nothing, and neither does one past its table (beyond)
--     within          a record with an action is one of its own, and its step is within its table; so is one whose reply is good (answered)
--     some_below      what is wrong with a reply is Over only where there is no action
--     good_some       where a reply is good there was an action
--     judges          a good reply brings what the sequence's own judgement says; what was brought well was so judged (brings)
--     refuses         a bad one brings what is wrong with it
--     over_stays      an ended sequence answers Over, and its record stays
--     hands_nothing   and it hands out nothing, whatever is replied
--     in_order        what a run hands out is the beginning of the table, from the step where it starts
--     so_far          while it has an action, it is the table up to that
--     first           from step 0 on, it is the table's first entries
--     complete        where the last step is answered well, it is all of that
--     in_time         after as many replies as the table has steps left, it has ended
--     carried         what every step carries over, a run carries over
--     along           good replies lead it along the records that they move it to
--     fault_ends      a reply with a fault ends the sequence
--     stop_ends       and so does one at which the sequence stops
--     failed_fault    a failed reply has one, but to a delay
--     failed_stops    so nothing is handed out after it
--     nothing_after   nor after any reply that ends the sequence
use mathlib.Core.Path.{◌≡◌, refl, sym, ap, subst, ◌∙◌}
use mathlib.Core.Logic.{◌⊎◌, inl, inr, ⊎_elim}
use mathlib.Core.Bool.{Bool, true, false, cond, false≢true}
use mathlib.Core.List.{List, [], ◌∷◌, ◌++◌, append-nil}
use Prim.Native.Nat.{ℕ, suc, ◌+◌, ◌<◌, ◌≤◌}
use native.Mathlib.Numerals.{add-one}
use native.Mathlib.Omega.{arith}
use lib.ListN.{length, drop, take, length-append, length-drop, drop_of_length-le}
use lib.Seq.{drop-cons, take-append_seam}
use Rattle.std.specs.Prelude.{Option, Some, None, Result, Ok, Err, is_ok, slice_get}
use Rattle.std.proofs.lemmas.Option.{slice_get_past, slice_get_within, get_or_from_slice_get}
use Rattle.std.specs.Result.{result_and}
use Rattle.registers.proofs.Choice.{by}
use Rattle.registers.specs.declared.refusal.Refusal.{Refusal}
use Rattle.registers.specs.declared.refusal.Refusal.TheVariants.{Over}
use Rattle.registers.specs.Refusals.{number_of}
use Rattle.bus.specs.declared.Action.{Action}
use Rattle.bus.specs.declared.Action.TheVariants.{Pin, Delay, Configure, Write, Read}
use Rattle.bus.specs.declared.Reply.{Reply}
use Rattle.registers.specs.Registers.{holds}
use Rattle.bus.specs.Bus.{fault_of}
use Rattle.bus.specs.Sequence.{shown, values, Plan, Follows, action, stops, answer, after, ends, next, acts, reached}

-- ---- actions and replies

abbrev pub good : ℕ → Reply
good v = record { failed = false; value = v }

abbrev pub failed : ℕ → Reply
failed v = record { failed = true; value = v }

-- there is an action
abbrev pub Here : Option Action → Type 0
Here x = (a : Action) × (x ≡ Some a)

pub shows : (x : Option Action) → (x ≡ None) ⊎ Here x
shows None = inl refl
shows (Some a) = inr (a, refl)

none_some : {a : Action} → None ≡ Some a → ⊥
none_some e = let z : ◌≡◌ {A = List Action} [] (_ ∷ []) = ap shown e in let n : ◌≡◌ {A = ℕ} 0 1 = ap length z in omega arith

pub not_nothing : {x : Option Action} → Here x → x ≡ None → ⊥
not_nothing h e = none_some (sym e ∙ h.1)

-- the number of what is wrong with a reply; 0 where nothing is
abbrev Below : Result (Unit {0}) Refusal → Type 0
Below f = number_of f < 13

below : (a : Action) (r : Reply) → Below (fault_of (Some a) r)
below (Pin p h) r = by Below r.failed (λ e. omega arith) (λ e. omega arith)
below (Delay n) r = omega arith
below (Configure m) r = by Below r.failed (λ e. omega arith) (λ e. omega arith)
below (Write a v) r = by Below r.failed (λ e. omega arith) (λ e. omega arith)
below (Read a) r = by Below r.failed (λ e. omega arith) (λ e. by Below (holds a r.value) (λ f. omega arith) (λ f. omega arith))

-- its number is below Over's, wherever there is an action
pub some_below : (x : Option Action) (r : Reply) → Here x → number_of (fault_of x r) < 13
some_below x r h = rw h.1 (below h.0 r)

no_fault : {f : Result (Unit {0}) Refusal} → f ≡ Ok tt → number_of f ≡ 0
no_fault e = ap number_of e

pub failed_fault : (x : Option Action) (v : ℕ) → ((n : ℕ) → x ≡ Some (Delay n) → ⊥) → fault_of x (failed v) ≡ Ok tt → ⊥
failed_fault None v h e = omega (arith, no_fault e)
failed_fault (Some (Pin p l)) v h e = omega (arith, no_fault e)
failed_fault (Some (Delay n)) v h e = h n refl
failed_fault (Some (Configure m)) v h e = omega (arith, no_fault e)
failed_fault (Some (Write a w)) v h e = omega (arith, no_fault e)
failed_fault (Some (Read a)) v h e = omega (arith, no_fault e)

-- the step after one that is not the largest
pub next_is : (k n : ℕ) → k < n → n ≤ 4294967295 → next k ≡ k + 1
next_is k n h l = omega arith

-- ---- a record and its action

module _ {S A : Type 0} (q : Plan S A) where
  pub beyond : (s : S) → length (q.table s) ≤ q.step s → action q s ≡ None
  unfolding action
  beyond s h = by (λ (x : Option Action). x ≡ None) (q.legal s) (λ _. slice_get_past (q.table s) (q.step s) h) (λ _. refl)

  pub not_own : (s : S) → q.legal s ≡ false → action q s ≡ None
  unfolding action
  not_own s e = rw e

  pub stands : (s : S) → q.legal s ≡ true → slice_get (q.table s) (q.step s) ≡ action q s
  unfolding action
  stands s e = rw e

  pub within : (s : S) → Here (action q s) → (q.legal s ≡ true) × (q.step s < length (q.table s))
  unfolding action
  within s h =
      by (λ (x : Option Action). x ≡ Some h.0 → (q.legal s ≡ true) × (q.step s < length (q.table s))) (q.legal s) (λ e g. (e, slice_get_within (q.table s) (q.step s) h.0 g)) (λ _ g. absurd (none_some g)) h.1

  pub good_some : (s : S) (r : Reply) → fault_of (action q s) r ≡ Ok tt → Here (action q s)
  good_some s r e = ⊎_elim (λ (z : action q s ≡ None). absurd (omega (arith, no_fault e, ap (λ (a : Option Action). number_of (fault_of a r)) z))) (λ (sh : Here (action q s)). sh) (shows (action q s))

  pub answered : (s : S) (r : Reply) → fault_of (action q s) r ≡ Ok tt → (q.legal s ≡ true) × (q.step s < length (q.table s))
  answered s r e = within s (good_some s r e)

  pub over_stays : (s : S) (r : Reply) → action q s ≡ None → (fault_of (action q s) r ≡ Err Over) × (after q s r ≡ s)
  unfolding after
  over_stays s r e = (rw e, rw e)

  pub hands_nothing : (s : S) (rs : List Reply) → action q s ≡ None → acts q s rs ≡ []
  hands_nothing s [] e = ap shown e
  hands_nothing s (r ∷ rs) e = rw (ap shown e, (over_stays s r e).1) (hands_nothing s rs e)

  rests : (s : S) (rs : List Reply) → action q s ≡ None → reached q s rs ≡ s
  rests s [] e = refl
  rests s (r ∷ rs) e = rw (over_stays s r e).1 (rests s rs e)

  pub reached_append : (s : S) (xs ys : List Reply) → reached q s (xs ++ ys) ≡ reached q (reached q s xs) ys
  reached_append s [] ys = refl
  reached_append s (x ∷ xs) ys = reached_append (after q s x) xs ys

  -- where there is an action, what the reply brings decides
  pub turns : (s : S) (r : Reply) → Here (action q s) → after q s r ≡ cond (ends (answer q s r)) (q.ended s) (q.onward s r.value)
  unfolding after
  turns s r sh = rw sh.1 refl

  -- it does not end the sequence only where the reply is good and the sequence does not stop
  pub fine : (s : S) (r : Reply) → ends (answer q s r) ≡ false → (fault_of (action q s) r ≡ Ok tt) × (stops q s r.value ≡ false)
  unfolding answer
  fine s r = go (fault_of (action q s) r)
    where
      go : (f : Result (Unit {0}) Refusal) → ends (result_and f (q.judge s r.value)) ≡ false → (f ≡ Ok tt) × (stops q s r.value ≡ false)
      go (Ok u) e = (refl, e)
      go (Err refusal) e = absurd (false≢true (sym e))

  -- a good reply brings the judgement, and a bad one what is wrong with it
  pub judges : (s : S) (r : Reply) → fault_of (action q s) r ≡ Ok tt → answer q s r ≡ q.judge s r.value
  unfolding answer
  judges s r e = rw e refl

  pub refuses : (s : S) (r : Reply) (refusal : Refusal) → fault_of (action q s) r ≡ Err refusal → answer q s r ≡ Err refusal
  unfolding answer
  refuses s r refusal e = rw e refl

  -- what is brought well was judged so, and the reply was good
  pub brings : (s : S) (r : Reply) (x : Option A) → answer q s r ≡ Ok x → (fault_of (action q s) r ≡ Ok tt) × (q.judge s r.value ≡ Ok x)
  unfolding answer
  brings s r x = go (fault_of (action q s) r)
    where
      go : (f : Result (Unit {0}) Refusal) → result_and f (q.judge s r.value) ≡ Ok x → (f ≡ Ok tt) × (q.judge s r.value ≡ Ok x)
      go (Ok u) e = (refl, e)
      go (Err refusal) e = absurd (false≢true (ap is_ok e))

  pub goes_on : (s : S) (r : Reply) → fault_of (action q s) r ≡ Ok tt → stops q s r.value ≡ false → after q s r ≡ q.onward s r.value
  goes_on s r e t = rw (turns s r (good_some s r e), judges s r e, t) refl

  pub ends_it : (s : S) (r : Reply) → Here (action q s) → ends (answer q s r) ≡ true → after q s r ≡ q.ended s
  ends_it s r h e = rw (turns s r h, e) refl

  pub nothing_after : (s : S) (rs : List Reply) (r : Reply) (more : List Reply) → action q (after q (reached q s rs) r) ≡ None → acts q s (rs ++ r ∷ more) ≡ acts q s rs
  nothing_after s [] r more e = rw (hands_nothing (after q s r) more e, append-nil)
  nothing_after s (r' ∷ rs) r more e = ap (λ (l : List Action). shown (action q s) ++ l) (nothing_after (after q s r') rs r more e)

  -- good replies from the k-th record on, each of which moves it to the next
  abbrev pub Along : (ℕ → S) → ℕ → List Reply → Type 0
  Along at k [] = Unit {0}
  Along at k (r ∷ rs) = (fault_of (action q (at k)) r ≡ Ok tt) × (stops q (at k) r.value ≡ false) × (q.onward (at k) r.value ≡ at (suc k)) × Along at (suc k) rs

  pub along : (at : ℕ → S) (k : ℕ) (rs : List Reply) → Along at k rs → reached q (at k) rs ≡ at (k + length rs)
  along at k [] l = ap at (omega arith)
  along at k (r ∷ rs) l = rw (goes_on (at k) r l.0 l.1 ∙ l.2) (along at (suc k) rs l.3 ∙ ap at (omega arith))

-- ---- a table of steps

module _ {S A : Type 0} (q : Plan S A) (table_of : S → List ℕ → List Action) (F : Follows q table_of) where
  -- the steps of a record's table, and each moves on by one with as many
  abbrev n : S → ℕ
  n s = length (q.table s)

  pub as_long : (s : S) (v : ℕ) → q.step s < n s → stops q s v ≡ false → n (q.onward s v) ≡ n s
  as_long s v h e = sym (F.long (q.onward s v) []) ∙ ap length (F.moves s v [] h e).1 ∙ F.long s (v ∷ [])

  -- a reply to an action ends the sequence, or moves it on
  turn : (s : S) (r : Reply) → Here (action q s) → (action q (after q s r) ≡ None) ⊎ ((stops q s r.value ≡ false) × (after q s r ≡ q.onward s r.value))
  turn s r sh =
      let P : S → Type 0 = λ x. (action q x ≡ None) ⊎ ((stops q s r.value ≡ false) × (x ≡ q.onward s r.value)) in
      subst P (sym (turns q s r sh)) (by P (ends (answer q s r)) (λ _. inl (beyond q (q.ended s) (F.over s))) (λ e. inr ((fine q s r e).1, refl)))

  -- by one entry
  moved : (s : S) (r : Reply) (vs : List ℕ) → Here (action q s) → stops q s r.value ≡ false → after q s r ≡ q.onward s r.value → (q.step (after q s r) ≡ q.step s + 1) × (table_of (after q s r) vs ≡ table_of s (r.value ∷ vs))
  moved s r vs sh e p = let m = F.moves s r.value vs (within q s sh).1 e in (rw p m.0, rw p m.1)

  -- the table from a record's step on: its action, and the rest
  unroll : (s : S) (vs : List ℕ) (h : Here (action q s)) → h.0 ∷ drop (suc (q.step s)) (table_of s vs) ≡ drop (q.step s) (table_of s vs)
  unroll s vs h =
      let i = q.step s in
      let T = table_of s vs in
      let got : slice_get T i ≡ Some h.0 = F.here s vs ∙ stands q s (within q s h).0 ∙ h.1 in
      sym (drop-cons T i h.0 (slice_get_within T i h.0 got) ∙ ap (λ (a : Action). a ∷ drop (suc i) T) (get_or_from_slice_get T i h.0 h.0 got))

  pub in_order : (s : S) (rs : List Reply) → (l : List Action) × (acts q s rs ++ l ≡ drop (q.step s) (table_of s (values rs)))
  in_order s [] =
      ⊎_elim (λ (e : action q s ≡ None). (drop (q.step s) (table_of s []), rw (ap shown e))) (λ (sh : Here (action q s)). (drop (suc (q.step s)) (table_of s []), rw sh.1 (unroll s [] sh))) (shows (action q s))
  in_order s (r ∷ rs) =
      let vs = values (r ∷ rs) in
      ⊎_elim (λ (e : action q s ≡ None). (drop (q.step s) (table_of s vs), rw (hands_nothing q s (r ∷ rs) e)))
      (λ (sh : Here (action q s)). ⊎_elim
      (λ (e : action q (after q s r) ≡ None). (drop (suc (q.step s)) (table_of s vs), rw (sh.1, hands_nothing q (after q s r) rs e) (unroll s vs sh)))
      (λ (t : (stops q s r.value ≡ false) × (after q s r ≡ q.onward s r.value)).
      let m = moved s r (values rs) sh t.0 t.1 in let k = in_order (after q s r) rs in (k.0, rw (sh.1, k.1, m.0, m.1, add-one) (unroll s vs sh)))
      (turn s r sh)) (shows (action q s))

  -- a run whose last record has an action: each reply has moved it on
  moving : (s : S) (r : Reply) (rs : List Reply) → Here (action q (reached q s (r ∷ rs))) → Here (action q s) × (stops q s r.value ≡ false) × (after q s r ≡ q.onward s r.value)
  moving s r rs h =
      let still : (t : S) (rs : List Reply) → Here (action q (reached q t rs)) → action q t ≡ None → ⊥ = λ t rs h e. not_nothing h (ap (action q) (rests q t rs e) ∙ e) in
      ⊎_elim (λ (e : action q s ≡ None). absurd (still s (r ∷ rs) h e))
      (λ (sh : Here (action q s)). ⊎_elim (λ (e : action q (after q s r) ≡ None). absurd (still (after q s r) rs h e)) (λ (t : (stops q s r.value ≡ false) × (after q s r ≡ q.onward s r.value)). (sh, t.0, t.1)) (turn s r sh))
      (shows (action q s))

  pub carried : {B : Type 0} (f : S → List ℕ → B) → ((s : S) (v : ℕ) (vs : List ℕ) → q.step s < n s → stops q s v ≡ false → f (q.onward s v) vs ≡ f s (v ∷ vs))
      → (s : S) (rs : List Reply) → Here (action q (reached q s rs)) → f (reached q s rs) [] ≡ f s (values rs)
  carried f h s [] sh = refl
  carried {B} f h s (r ∷ rs) sh = let t = moving s r rs sh in carried f h (after q s r) rs sh ∙ ap (λ (x : S). f x (values rs)) t.2 ∙ h s r.value (values rs) (within q s t.0).1 t.1

  pub so_far : (s : S) (rs : List Reply) → Here (action q (reached q s rs)) → acts q s rs ++ drop (suc (q.step (reached q s rs))) (table_of s (values rs)) ≡ drop (q.step s) (table_of s (values rs))
  so_far s [] sh = rw sh.1 (unroll s [] sh)
  so_far s (r ∷ rs) h =
      let t = moving s r rs h in
      let m = moved s r (values rs) t.0 t.1 t.2 in
      let k = so_far (after q s r) rs h in
      rw (t.0.1, ← m.1, k, m.0, m.1, add-one) (unroll s (values (r ∷ rs)) t.0)

  pub first : (s : S) (rs : List Reply) → q.step s ≡ 0 → Here (action q (reached q s rs)) → acts q s rs ≡ take (suc (q.step (reached q s rs))) (table_of s (values rs))
  first s rs z sh =
      let t = reached q s rs in
      let T = table_of s (values rs) in
      let e : acts q s rs ++ drop (suc (q.step t)) T ≡ T = so_far s rs sh ∙ ap (λ (k : ℕ). drop k T) z in
      let l : length (acts q s rs) + length (drop (suc (q.step t)) T) ≡ n s = sym (length-append (acts q s rs) (drop (suc (q.step t)) T)) ∙ ap length e ∙ F.long s (values rs) in
      let d = length-drop (suc (q.step t)) T in
      let k : length (acts q s rs) ≡ suc (q.step t) = omega (arith, l, d, F.long s (values rs), carried (λ s vs. n s) (λ s v vs h e. as_long s v h e) s rs sh, (within q t sh).1) in
      sym (take-append_seam (acts q s rs) (drop (suc (q.step t)) T)) ∙ ap (λ (x : List Action). take (length (acts q s rs)) x) e ∙ ap (λ (i : ℕ). take i T) k

  pub complete : (s : S) (rs : List Reply) (r : Reply) (more : List Reply) → fault_of (action q (reached q s rs)) r ≡ Ok tt → suc (q.step (reached q s rs)) ≡ length (q.table (reached q s rs))
      → acts q s (rs ++ r ∷ more) ≡ drop (q.step s) (table_of s (values rs))
  complete s rs r more e h =
      let t = reached q s rs in
      let sh = good_some q t r e in
      let over : action q (after q t r) ≡ None = ⊎_elim (λ (z : action q (after q t r) ≡ None). z)
      (λ (m : (stops q t r.value ≡ false) × (after q t r ≡ q.onward t r.value)). beyond q (after q t r) (omega (arith, h, (moved t r [] sh m.0 m.1).0, ap n m.1 ∙ as_long t r.value (within q t sh).1 m.0))) (turn t r sh) in
      let rest : drop (suc (q.step t)) (table_of s (values rs)) ≡ [] = drop_of_length-le (table_of s (values rs)) {i = suc (q.step t)} (rw (F.long s (values rs), ← carried (λ s vs. n s) (λ s v vs h e. as_long s v h e) s rs sh) (omega (arith, h))) in
      nothing_after q s rs r more over ∙ sym (append-nil (acts q s rs)) ∙ ap (λ (l : List Action). acts q s rs ++ l) (sym rest) ∙ so_far s rs sh

  pub in_time : (s : S) (rs : List Reply) → length (q.table s) ≤ q.step s + length rs → action q (reached q s rs) ≡ None
  in_time s [] h = beyond q s (omega arith)
  in_time s (r ∷ rs) h =
      ⊎_elim (λ (e : action q s ≡ None). ap (action q) (rests q s (r ∷ rs) e) ∙ e)
      (λ (sh : Here (action q s)). ⊎_elim
      (λ (e : action q (after q s r) ≡ None). ap (action q) (rests q (after q s r) rs e) ∙ e)
      (λ (t : (stops q s r.value ≡ false) × (after q s r ≡ q.onward s r.value)). in_time (after q s r) rs (omega (arith, h, (moved s r [] sh t.0 t.1).0, ap n t.1 ∙ as_long s r.value (within q s sh).1 t.0)))
      (turn s r sh)) (shows (action q s))

  -- what a reply brings ends the sequence, and so it has ended
  pub answer_ends : (s : S) (r : Reply) → ends (answer q s r) ≡ true → action q (after q s r) ≡ None
  answer_ends s r e = ⊎_elim (λ (z : action q s ≡ None). rw (over_stays q s r z).1 z) (λ (sh : Here (action q s)). rw (turns q s r sh, e) (beyond q (q.ended s) (F.over s))) (shows (action q s))

  pub fault_ends : (s : S) (r : Reply) → (fault_of (action q s) r ≡ Ok tt → ⊥) → action q (after q s r) ≡ None
  fault_ends s r h = by (λ (t : Bool). action q (after q s r) ≡ None) (ends (answer q s r)) {x = true} {y = true} (answer_ends s r) (λ e. absurd (h (fine q s r e).0))

  pub stop_ends : (s : S) (r : Reply) → fault_of (action q s) r ≡ Ok tt → stops q s r.value ≡ true → action q (after q s r) ≡ None
  stop_ends s r e t = answer_ends s r (ap ends (judges q s r e) ∙ t)

  pub failed_stops : (s : S) (rs : List Reply) (v : ℕ) (more : List Reply) → ((m : ℕ) → action q (reached q s rs) ≡ Some (Delay m) → ⊥) → acts q s (rs ++ failed v ∷ more) ≡ acts q s rs
  failed_stops s rs v more h = let t = reached q s rs in nothing_after q s rs (failed v) more (fault_ends t (failed v) (failed_fault (action q t) v h))
