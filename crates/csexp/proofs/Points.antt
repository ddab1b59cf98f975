-- The points of 01 about texts ("Points on either side of a line", 1 to 3), computed. As an item `()` is refused by its shape (2), not by
-- its text: it is a term, the list with nothing in it.
use mathlib.Core.Path.{◌≡◌, refl}
use mathlib.Core.Bool.{true, false}
use mathlib.Core.List.{[]}
use Rattle.csexp.specs.Text.{text}
use Rattle.csexp.specs.Term.{atom, list, nil, cons, digits, decimal, write, levels}
use Rattle.csexp.specs.Read.{got, run, number, mark, bytes, string, term, read}
use Rattle.csexp.specs.Limits.{item_bytes, item_levels, whole_of}

-- 3:abc
pub point_1 : read (text "3:abc") ≡ got (atom (text "abc")) []
unfolding read term string number run mark bytes
point_1 = refl

pub point_1_whole : whole_of item_bytes item_levels (text "3:abc") ≡ true
unfolding whole_of read term string number run mark bytes levels
point_1_whole = refl

-- 03:abc
pub point_2 : whole_of item_bytes item_levels (text "03:abc") ≡ false
unfolding whole_of read term string number run mark bytes levels
point_2 = refl

-- the empty text, and ()
pub point_3_empty : whole_of item_bytes item_levels [] ≡ false
unfolding whole_of read term
point_3_empty = refl

pub point_3_list : read (text "()") ≡ got (list nil) []
unfolding read term
point_3_list = refl

pub point_3_whole : whole_of item_bytes item_levels (text "()") ≡ true
unfolding whole_of read term levels
point_3_whole = refl

-- (1:a()), written and read
pub nested_written : write (list (cons (atom (text "a")) (cons (list nil) nil))) ≡ text "(1:a())"
unfolding write decimal digits
nested_written = refl

pub nested_read : read (text "(1:a())") ≡ got (list (cons (atom (text "a")) (cons (list nil) nil))) []
unfolding read term string number run mark bytes
nested_read = refl
