-- What code below the public calls is given: the bytes of an index, the bytes of the data that it speaks of, and the layout that they stand for.
-- A file in one piece is both. `held` is what the data holds; K is the number of variants to a block. Assumes nothing.
use Rattle.std.specs.Prelude.{◌≡◌, ℕ, ◌≤◌, List, length, drop}
use Rattle.format.specs.Layout.{first_record, Layout, fixed_of, arrays_of, joined, in_parts, LayoutObeys}

-- 01, The header: "Records stand one after another from the header's end to the file's end"
pub record Stored (K : ℕ) (index held : List ℕ) (l : Layout) : Type 0 where
  pub obeys : LayoutObeys K l
  -- the index is the layout's header, and what may stand after it
  pub after : List ℕ
  pub index_is : index ≡ in_parts K (fixed_of l) (arrays_of K l) after
  -- the data holds the records, from where the first of them starts to its end
  pub data_long : first_record K (fixed_of l) ≤ length held
  pub data_is : drop (first_record K (fixed_of l)) held ≡ joined l.bodies
