-- Counting a list.
-- Assumes nothing.
use mathlib.Core.Path.{◌≡◌, sym, ap}
use Prim.Native.Nat.{ℕ, ◌+◌, ◌-◌, ◌*◌, ◌≤◌, ◌<◌}
use native.Mathlib.Omega.{arith}
use native.Mathlib.Nat.{add-zero}
use mathlib.Core.List.{List, []}
use mathlib.Core.Bool.{Bool, true, false}
use lib.ListN.{length, get_or, length-append}
use mir.Syntax.{w64}
use mir.Val.{Fits}
use lib.Dec.{eqb}
use borrow.Author.Tests.{eq-eqb, ne_eqb}
use Rattle.format.specs.Base.{pick}
use Rattle.format.specs.Limits.{most_samples}
use Rattle.format.specs.Varint.{varint_bytes}
use Rattle.format.specs.Difflist.{Entry}
use Rattle.format.specs.Writer.{unless}
use Rattle.format.proofs.Rules.{by_test}
use Rattle.format.proofs.VarintLaws.{varint_length}
use Rattle.write_parts.specs.Parts.{part_from, part_bytes, entry_bytes, after_entry, GroupFits, sample_bytes, after_sample}
use Rattle.write_parts.specs.Rows.{base_row, row, listed_entries, RowsFit}
use Rattle.write_parts.specs.declared.Base.{Base}
use Rattle.write_parts.specs.declared.Part.TheVariants.{Steps}
use Rattle.write_parts.specs.declared.Group.{Group}
use Rattle.write_parts.proofs.RowLaws.{listed_at, listed_turn, listed_done}
use Rattle.write_parts.proofs.PartLaws.{from, sample_turn, fits_sample, fits_start}
use Rattle.write_list.specs.Sizes.{Counts, Measured}
use Rattle.write_list.specs.declared.Counted.{Counted}

-- ---- one entry

pub size_first : (group : Group) (sample : ℕ) → group.room ≡ 0 → 0 ≡ length (entry_bytes Steps 0 group sample)
unfolding entry_bytes
size_first group sample z = simp (eq-eqb group.room 0 z)

pub size_step : (group : Group) (sample r : ℕ) → (group.room ≡ 0 → ⊥) → r ≡ length (varint_bytes (sample - group.before))
    → r ≡ length (entry_bytes Steps 0 group sample)
unfolding entry_bytes
size_step group sample r z e = simp (ne_eqb group.room 0 z) e

pub ruleset step_size_laws = (size_first, size_step)

-- ---- one sample

entry_few : (group : Group) (sample : ℕ) → length (entry_bytes Steps 0 group sample) ≤ 5
unfolding entry_bytes
entry_few group sample =
    by_test (λ (bs : List ℕ). length bs ≤ 5) (eqb group.room 0) (λ t. omega arith) (λ t. (varint_length (sample - group.before)).1)

module _ (base value i : ℕ) (counted : Counted) where
  module _ (bytes : ℕ) (s : bytes ≡ length (entry_bytes Steps 0 counted.group i)) where
    pub steps_fit : counted.steps ≤ 5 * most_samples → Fits w64 (counted.steps + bytes)
    steps_fit h = record { fits = omega (arith, entry_few counted.group i) }

    pub counts_listed : (after : Group) → after ≡ after_entry counted.group i → (value ≡ base → ⊥)
        → Counts base value i counted (record { group = after; count = counted.count + 1; steps = counted.steps + bytes })
    counts_listed after a d =
        let f : eqb value base ≡ false = ne_eqb value base d in
        record { moved = simp f a; counts = simp f; sizes = simp f (ap (◌+◌ counted.steps) s) }

  pub counts_base : value ≡ base → Counts base value i counted counted
  counts_base e =
      let f : eqb value base ≡ true = eq-eqb value base e in
      record { moved = simp f; counts = simp f (sym (add-zero counted.count)); sizes = simp f (sym (add-zero counted.steps)) }

pub ruleset counts_laws = (steps_fit, counts_listed, counts_base)

-- ---- the loop

count_turn : (same : Bool) (e : Entry) (es : List Entry) → length (unless same e es) ≡ pick same 0 1 + length es
count_turn true e es = omega arith
count_turn false e es = omega arith

one_at_most : (same : Bool) → pick same 0 1 ≤ 1
one_at_most true = omega arith
one_at_most false = omega arith

sample_few : (base value i : ℕ) (group : Group) → length (sample_bytes Steps 0 base value group i) ≤ 5
sample_few base value i group = by_test (λ (bs : List ℕ). length bs ≤ 5) (eqb value base) (λ t. omega arith) (λ t. entry_few group i)

-- before sample i
pub record Going (b : Base) (anchor categories : List ℕ) (counted : Counted) (i : ℕ) : Type 0 where
  pub fits : GroupFits counted.group i
  pub rows : RowsFit b anchor categories
  pub few : counted.count ≤ i
  pub short : counted.steps ≤ 5 * i
  pub counts : counted.count + length (listed_at b anchor categories i) ≡ length (listed_entries b anchor categories)
  pub sizes : counted.steps + length (from Steps 0 counted.group (listed_at b anchor categories i))
      ≡ length (part_bytes Steps 0 (listed_entries b anchor categories))

pub count_start : (b : Base) (anchor categories : List ℕ) → RowsFit b anchor categories
    → Going b anchor categories (record { group = record { room = 0; size = 0; before = 0; begun = 0 }; count = 0; steps = 0 }) 0
count_start b anchor categories f =
    record { fits = fits_start; rows = f; few = omega arith; short = omega arith; counts = omega arith; sizes = omega arith }

module _ {b : Base} {anchor categories : List ℕ} {counted : Counted} {i : ℕ} (v : Going b anchor categories counted i) where
  pub count_next : (base value : ℕ) → value ≡ get_or (row b categories) i 0 → base ≡ get_or (base_row b anchor categories) i 0 → i < length categories
      → {r : Counted} → Counts base value i counted r → Going b anchor categories r (i + 1)
  count_next base value ev eb h {r} p =
      let es : List Entry = listed_at b anchor categories (i + 1) in
      let e : listed_at b anchor categories i ≡ unless (eqb value base) (record { sample = i; value = value }) es
      = listed_turn b anchor categories i v.rows base value ev eb h in
      let out : List ℕ = sample_bytes Steps 0 base value counted.group i in
      let more : List ℕ = from Steps 0 (after_sample base value counted.group i) es in
      record {
        fits = rw p.moved (fits_sample base value counted.group i v.fits);
        rows = v.rows;
        few = omega (arith, p.counts, v.few, one_at_most (eqb value base));
        short = omega (arith, p.sizes, v.short, sample_few base value i counted.group);
        counts = omega (arith, p.counts, rw (e, count_turn (eqb value base)) at v.counts);
        sizes = rw p.moved (omega (arith, p.sizes, rw (e, sample_turn Steps 0 base value, length-append out more) at v.sizes));
      }

  pub count_end : length categories ≤ i → Measured (listed_entries b anchor categories) counted
  unfolding part_from
  count_end h =
      let e : listed_at b anchor categories i ≡ [] = listed_done b anchor categories i v.rows h in
      record { count_is = omega (arith, rw e at v.counts); steps_are = omega (arith, rw e at v.sizes) }

pub ruleset measure_laws = (count_start, count_next, count_end)
