-- Why a line cannot be read, in a sentence behind the part of it that is meant. Definitions only.
use Rattle.std.specs.Prelude.{ℕ, List, codes}
use Rattle.notation.specs.declared.Reason.{Reason}
use Rattle.notation.specs.declared.Reason.TheVariants.{Step, Missing, Digits, Large, Negative, Field, Twice, More}

abbrev pub sentence_of : Reason → List ℕ
sentence_of Step = codes "is no step: a line starts with mode, push, finalize or show"
sentence_of Missing = codes "a number is missing at the end"
sentence_of Digits = codes "is no number: write 10, 0x0A or, for a word, -10"
sentence_of Large = codes "does not fit into 32 bits"
sentence_of Negative = codes "is negative, and only a word may be"
sentence_of Field = codes "is no field: a push takes word, phase and acr"
sentence_of Twice = codes "comes twice"
sentence_of More = codes "is too much: the step ends before it (a comment starts with #)"
