-- Columns cut and put together: what fits still fits, and each undoes the other.
-- Assumes nothing.
use mathlib.Core.Path.{◌≡◌, refl, ap, ◌∙◌}
use Prim.Native.Nat.{ℕ, ◌+◌, ◌-◌}
use mathlib.Core.Bool.{Bool, true, false}
use mathlib.Core.List.{List, [], ◌∷◌, ◌++◌}
use lib.ListN.{length, take, drop, length-append, length-drop, take-append-drop}
use lib.Seq.{take_at, drop_at, take-nil, drop-nil, length-take-le}
use native.Mathlib.Omega.{arith}
use Rattle.format.specs.Base.{pick}
use Rattle.format.specs.Layout.{Form, flag_count, Columns, take_columns, drop_columns, join_columns, ColumnsFit}
use Rattle.format.proofs.Rules.{by_test, below_append, below_take, below_drop}

-- ---- flags

-- an empty list, by its length
pub no_element : (xs : List ℕ) → length xs ≡ 0 → xs ≡ []
no_element [] e = refl
no_element (x ∷ xs) e = absurd (omega arith)

-- flags are counted block by block
pub flag_count_add : (form : Form) (n m : ℕ) → flag_count form (n + m) ≡ flag_count form n + flag_count form m
flag_count_add form n m = go form.flags_stored
  where
    go : (t : Bool) → pick t (n + m) 0 ≡ pick t n 0 + pick t m 0
    go true = refl
    go false = refl

-- no variants have no flags
pub flag_count_zero : (form : Form) → flag_count form 0 ≡ 0
flag_count_zero form = by_test (λ (n : ℕ). n ≡ 0) form.flags_stored (λ t. refl) (λ t. refl)

-- the flags of the first n variants, stored or not
flags_taken : (form : Form) (n m : ℕ) (flags : List ℕ) → length flags ≡ flag_count form (n + m) → length (take n flags) ≡ flag_count form n
flags_taken form n m flags e = go form.flags_stored e
  where
    go : (t : Bool) → length flags ≡ pick t (n + m) 0 → length (take n flags) ≡ pick t n 0
    go true e = length-take-le n flags (omega arith)
    go false e = ap (λ (xs : List ℕ). length (take n xs)) (no_element flags e) ∙ ap length (take-nil n)

-- and those after them
flags_dropped : (form : Form) (n m : ℕ) (flags : List ℕ) → length flags ≡ flag_count form (n + m) → length (drop n flags) ≡ flag_count form m
flags_dropped form n m flags e = length-drop n flags ∙ go form.flags_stored e
  where
    go : (t : Bool) → length flags ≡ pick t (n + m) 0 → length flags - n ≡ pick t m 0
    go true e = omega arith
    go false e = omega arith

-- flags put together, cut where they were joined
flags_first : (form : Form) (n m : ℕ) (flags more : List ℕ) → length flags ≡ flag_count form n → length more ≡ flag_count form m
    → take n (flags ++ more) ≡ flags
flags_first form n m flags more e d = go form.flags_stored e d
  where
    go : (t : Bool) → length flags ≡ pick t n 0 → length more ≡ pick t m 0 → take n (flags ++ more) ≡ flags
    go true e d = take_at flags more n e
    go false e d = rw (no_element flags e, no_element more d) (take-nil n)

flags_rest : (form : Form) (n m : ℕ) (flags more : List ℕ) → length flags ≡ flag_count form n → length more ≡ flag_count form m → drop n (flags ++ more) ≡ more
flags_rest form n m flags more e d = go form.flags_stored e d
  where
    go : (t : Bool) → length flags ≡ pick t n 0 → length more ≡ pick t m 0 → drop n (flags ++ more) ≡ more
    go true e d = drop_at flags more n e
    go false e d = rw (no_element flags e, no_element more d) (drop-nil n)

-- ---- what fits still fits

pub columns_taken : (form : Form) (n m : ℕ) (c : Columns) → ColumnsFit form (n + m) c → ColumnsFit form n (take_columns n c)
columns_taken form n m c h = record {
  types_count = length-take-le n c.types (omega (arith, h.types_count));
  lengths_count = length-take-le n c.lengths (omega (arith, h.lengths_count));
  flags_count = flags_taken form n m c.flags h.flags_count;
  types_small = below_take _ n c.types h.types_small;
  lengths_small = below_take _ n c.lengths h.lengths_small;
  flags_small = below_take 2 n c.flags h.flags_small;
}

pub columns_dropped : (form : Form) (n m : ℕ) (c : Columns) → ColumnsFit form (n + m) c → ColumnsFit form m (drop_columns n c)
columns_dropped form n m c h = record {
  types_count = length-drop n c.types ∙ omega (arith, h.types_count);
  lengths_count = length-drop n c.lengths ∙ omega (arith, h.lengths_count);
  flags_count = flags_dropped form n m c.flags h.flags_count;
  types_small = below_drop _ n c.types h.types_small;
  lengths_small = below_drop _ n c.lengths h.lengths_small;
  flags_small = below_drop 2 n c.flags h.flags_small;
}

pub columns_joined : (form : Form) (n m : ℕ) (c d : Columns) → ColumnsFit form n c → ColumnsFit form m d → ColumnsFit form (n + m) (join_columns c d)
columns_joined form n m c d h g = record {
  types_count = length-append c.types d.types ∙ omega (arith, h.types_count, g.types_count);
  lengths_count = length-append c.lengths d.lengths ∙ omega (arith, h.lengths_count, g.lengths_count);
  flags_count = length-append c.flags d.flags ∙ omega (arith, h.flags_count, g.flags_count, flag_count_add form n m);
  types_small = below_append _ c.types d.types h.types_small g.types_small;
  lengths_small = below_append _ c.lengths d.lengths h.lengths_small g.lengths_small;
  flags_small = below_append 2 c.flags d.flags h.flags_small g.flags_small;
}

-- ---- each undoes the other

pub columns_whole : (n : ℕ) (c : Columns) → join_columns (take_columns n c) (drop_columns n c) ≡ c
columns_whole n c = rw (take-append-drop n c.types, take-append-drop n c.lengths, take-append-drop n c.flags) refl

pub columns_first : (form : Form) (n m : ℕ) (c d : Columns) → ColumnsFit form n c → ColumnsFit form m d → take_columns n (join_columns c d) ≡ c
columns_first form n m c d h g =
    rw (
      take_at c.types d.types n h.types_count,
      take_at c.lengths d.lengths n h.lengths_count,
      flags_first form n m c.flags d.flags h.flags_count g.flags_count,
    ) refl

pub columns_rest : (form : Form) (n m : ℕ) (c d : Columns) → ColumnsFit form n c → ColumnsFit form m d → drop_columns n (join_columns c d) ≡ d
columns_rest form n m c d h g =
    rw (
      drop_at c.types d.types n h.types_count,
      drop_at c.lengths d.lengths n h.lengths_count,
      flags_rest form n m c.flags d.flags h.flags_count g.flags_count,
    ) refl
