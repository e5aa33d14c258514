-- What a line of a pulse script says. Definitions only.
use Rattle.std.specs.Prelude.{ℕ, zero, suc, Bool, true, false, cond, List, codes, bytes_eq}
use Rattle.std.specs.Prelude.{Result, Ok, Err, Option, Some, None}
use Rattle.std.specs.Prelude.{is_some}
use Rattle.rules.specs.Rules.{signed_of}
use Rattle.rules.specs.declared.Push.{Push}
use Rattle.notation.specs.Results.{and_then}
use Rattle.notation.specs.Numbers.{number_of}
use Rattle.notation.specs.Words.{next_of, part, none}
use Rattle.notation.specs.declared.words.Span.{Span}
use Rattle.notation.specs.declared.Reason.{Reason}
use Rattle.notation.specs.declared.Reason.TheVariants as reason
use Rattle.notation.specs.declared.Fault.{Fault}
use Rattle.notation.specs.declared.Line.{Line}
use Rattle.notation.specs.declared.Line.TheVariants as line
use Rattle.notation.specs.declared.Field.{Field}
use Rattle.notation.specs.declared.Field.TheVariants.{Word, Phase, Acr}

-- a fault of a part of the line
abbrev pub bad_at : Reason → Span → Fault
bad_at r s = record { reason = r; part = s }

-- a value with the place behind it
abbrev pub with_place : {A : Type 0} → Result A Fault → ℕ → Result (A × ℕ) Fault
with_place (Ok a) at = Ok (a, at)
with_place (Err f) at = Err f

-- a part's number with the place behind it, or why it is none
abbrev pub got_of : Span → Result ℕ Reason → Result (ℕ × ℕ) Fault
got_of s (Ok v) = Ok (v, s.end)
got_of s (Err r) = Err (bad_at r s)

-- the next word as a number
unfoldable pub value_of : List ℕ → ℕ → Bool → Result (ℕ × ℕ) Fault
value_of l at signed = let s = next_of l at in got_of s (number_of signed (part l s))

-- a step, if no word stands behind it
unfoldable pub alone_of : List ℕ → ℕ → Line → Result Line Fault
alone_of l at step = let s = next_of l at in cond (none s) (Ok step) (Err (bad_at reason.More s))

-- a mode, whose number stands behind its name
unfoldable pub mode_of : List ℕ → ℕ → Result Line Fault
mode_of l at = and_then (value_of l at false) (λ v. alone_of l v.1 (line.Mode v.0))

-- ---- the fields of a push

-- a field by its name
unfoldable pub named_of : List ℕ → Option Field
named_of w =
    cond (bytes_eq w (codes "word")) (Some Word)
    (cond (bytes_eq w (codes "phase")) (Some Phase)
    (cond (bytes_eq w (codes "acr")) (Some Acr)
    None))

-- whether a field's number may have a minus sign
abbrev pub takes_sign : Field → Bool
takes_sign Word = true
takes_sign Phase = false
takes_sign Acr = false

-- whether a push has a field already
abbrev pub has_of : Push → Field → Bool
has_of p Word = is_some p.word
has_of p Phase = is_some p.phase
has_of p Acr = is_some p.acr

-- a push with a field
abbrev pub with_of : Push → Field → ℕ → Push
with_of p Word v = record p { word = Some (signed_of v) }
with_of p Phase v = record p { phase = Some v }
with_of p Acr v = record p { acr = Some v }

-- a field that is known must not be there already; its number stands behind its name
abbrev pub add_by : List ℕ → Push → Span → Option Field → Result (Push × ℕ) Fault
add_by l p s (Some f) =
    cond (has_of p f) (Err (bad_at reason.Twice s))
    (and_then (value_of l s.end (takes_sign f)) (λ v. Ok (with_of p f v.0, v.1)))
add_by l p s None = Err (bad_at reason.Field s)

-- a push with the field that a part of the line names, and the place behind the field's number
unfoldable pub add_of : List ℕ → Push → Span → Result (Push × ℕ) Fault
add_of l p s = add_by l p s (named_of (part l s))

-- the fields of a push from a place on, in so many looks
unfoldable pub fields_of : ℕ → List ℕ → Push → ℕ → Result Push Fault
fields_of zero l p at = Ok p
fields_of (suc n) l p at =
    let s = next_of l at in cond (none s) (Ok p) (and_then (add_of l p s) (λ m. fields_of n l m.0 m.1))

-- a push of no field yet
abbrev pub bare : ℕ → Push
bare mask = record { mask = mask; word = None; phase = None; acr = None }

-- a push, whose mask stands behind its name: no field comes twice, so the fourth look finds the end or a fault
unfoldable pub push_of : List ℕ → ℕ → Result Line Fault
push_of l at =
    and_then (value_of l at false) (λ v. and_then (fields_of 4 l (bare v.0) v.1) (λ p. Ok (line.Push p)))

-- ---- lines

-- a step by its name, which is a part of the line
unfoldable pub step_of : List ℕ → Span → List ℕ → Result Line Fault
step_of l s w =
    cond (bytes_eq w (codes "push")) (push_of l s.end)
    (cond (bytes_eq w (codes "mode")) (mode_of l s.end)
    (cond (bytes_eq w (codes "finalize")) (alone_of l s.end line.Finalize)
    (cond (bytes_eq w (codes "show")) (alone_of l s.end line.Show)
    (Err (bad_at reason.Step s)))))

-- what a line says, or why it cannot be read
unfoldable pub line_of : List ℕ → Result Line Fault
line_of l = let s = next_of l 0 in cond (none s) (Ok line.Blank) (step_of l s (part l s))
