-- The floats that the code writes out are those of the rules.
use mathlib.Core.Path.{◌≡◌, refl}
use lib.Ieee.{binary32, of_bits, of_int}
use Rattle.binary32.specs.Floats.{whole}

pub none : of_bits binary32 0 ≡ whole 0
unfolding of_bits of_int
none = refl

pub one : of_bits binary32 1065353216 ≡ whole 1
unfolding of_bits of_int
one = refl

pub eight : of_bits binary32 1090519040 ≡ whole 8
unfolding of_bits of_int
eight = refl

pub full : of_bits binary32 1149239296 ≡ whole 1024
unfolding of_bits of_int
full = refl

pub most_ratio : of_bits binary32 1166424064 ≡ whole 4295
unfolding of_bits of_int
most_ratio = refl

pub turn : of_bits binary32 1182793728 ≡ whole 16384
unfolding of_bits of_int
turn = refl

pub mega_1 : of_bits binary32 1232348160 ≡ whole 1000000
unfolding of_bits of_int
mega_1 = refl

pub mega_10 : of_bits binary32 1259902592 ≡ whole 10000000
unfolding of_bits of_int
mega_10 = refl

pub mega_100 : of_bits binary32 1287568416 ≡ whole 100000000
unfolding of_bits of_int
mega_100 = refl

pub mega_125 : of_bits binary32 1290693416 ≡ whole 125000000
unfolding of_bits of_int
mega_125 = refl

pub mega_200 : of_bits binary32 1295957024 ≡ whole 200000000
unfolding of_bits of_int
mega_200 = refl

pub mega_500 : of_bits binary32 1307470632 ≡ whole 500000000
unfolding of_bits of_int
mega_500 = refl

pub all_words : of_bits binary32 1333788672 ≡ whole 4294967296
unfolding of_bits of_int
all_words = refl

pub ruleset literals = (none, one, eight, full, most_ratio, turn, mega_1, mega_10, mega_100, mega_125, mega_200, mega_500, all_words)
