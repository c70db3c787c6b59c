-- Which refusal numbers belong together, by what refuses. No other definition says so.
-- Assumes nothing.
use Rattle.std.specs.Prelude.{ℕ, Bool, false, ◌||◌, List, [], ◌∷◌, eqb}

-- 01, Replies: what the header check refuses, from "file under 12 bytes" to "records don't end at the file's end"
abbrev pub header_numbers : List ℕ
header_numbers = 1 ∷ 2 ∷ 3 ∷ 4 ∷ 5 ∷ 6 ∷ 7 ∷ 8 ∷ 9 ∷ []

-- what a record is refused for, from "record ends too soon" to "unused record bits set"; 02, Ask 2: "16 stays for the count, 23 is a number not rising, 24 a
-- number not below N, 25 a size byte"
abbrev pub record_numbers : List ℕ
record_numbers = 12 ∷ 13 ∷ 14 ∷ 15 ∷ 16 ∷ 17 ∷ 18 ∷ 23 ∷ 24 ∷ 25 ∷ []

-- what a call adds: "Only 10 and 11 depend on the call's other arguments. For flips 21 comes next."
abbrev pub call_numbers : List ℕ
call_numbers = 10 ∷ 11 ∷ 21 ∷ []

-- the writer's: "Order: 4 with place 0 ..., 19, 10 ..., 20 ..., 10"
abbrev pub writer_numbers : List ℕ
writer_numbers = 4 ∷ 10 ∷ 19 ∷ 20 ∷ []

-- 02, Ask 1: of a phased record, "22, after 20"
abbrev pub phased_writer_numbers : List ℕ
phased_writer_numbers = 4 ∷ 10 ∷ 19 ∷ 20 ∷ 22 ∷ []

abbrev pub among : List ℕ → ℕ → Bool
among [] number = false
among (n ∷ ns) number = eqb number n || among ns number
