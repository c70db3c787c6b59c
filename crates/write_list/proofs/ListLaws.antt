-- The parts that the passes write are the format's, and together its list.
-- Assumes nothing.
use mathlib.Core.Path.{◌≡◌, refl, sym, ap, ◌∙◌}
use Prim.Native.Nat.{ℕ, zero, suc, ◌+◌, ◌-◌, ◌*◌, ◌/◌, ◌^◌, ◌≤◌, ◌<◌}
use native.Mathlib.Omega.{arith}
use native.Mathlib.Nat.{mul-le-mul_right}
use mathlib.Core.List.{List, [], ◌∷◌, ◌++◌, append_assoc, append-nil}
use mathlib.Core.Bool.{Bool, true, false}
use lib.ListN.{length, length-append}
use mir.Syntax.{w64}
use mir.Val.{Fits}
use Rattle.std.specs.Int.{div_ceil}
use lib.Dec.{eqb}
use Rattle.format.specs.Limits.{most_samples}
use Rattle.format.specs.Varint.{varint_within, varint_bytes}
use Rattle.format.specs.Numbers.{number_bytes, numbers_bytes}
use Rattle.format.specs.Packed.{two, packed_after, packed}
use Rattle.format.specs.Difflist.{Entry, groups, number_width, heads, sizes_after, size_bytes, values, steps, list_parts, list_bytes}
use Rattle.format.specs.Writer.{unless, differences}
use Rattle.format.proofs.VarintLaws.{varint_length}
use Rattle.format.proofs.NumbersLaws.{numbers_length}
use Rattle.format.proofs.PackedLaws.{packed_length}
use Rattle.format.proofs.EntriesLaws.{heads_count, sizes_count, values_length}
use Rattle.write_bytes.specs.Written.{Wrote}
use Rattle.base_list.proofs.ShapeLaws.{width_few}
use Rattle.write_bytes.proofs.WrittenLaws.{wrote_both, wrote_room}
use Rattle.write_parts.specs.Rows.{base_row, row, listed_entries, RowsFit}
use Rattle.write_parts.specs.declared.Base.{Base}
use Rattle.write_parts.specs.Parts.{part_from, part_bytes}
use Rattle.write_parts.specs.declared.Part.TheVariants.{Heads, Sizes, Steps}
use Rattle.write_list.specs.Values.{values_bytes}
use Rattle.write_list.specs.Sizes.{Measured, SizeOf}
use Rattle.write_list.specs.declared.Counted.{Counted}

-- ---- each part

heads_part : (width room size before begun : ℕ) (es : List Entry)
    → part_from Heads width room size before begun es ≡ numbers_bytes width (heads room es)
unfolding part_from heads numbers_bytes
heads_part width room size before begun [] = refl
heads_part width zero size before begun (e ∷ es) =
    ap (λ (xs : List ℕ). number_bytes width e.sample ++ xs) (heads_part width 63 0 e.sample 1 es)
heads_part width (suc room) size before begun (e ∷ es) = heads_part width room (size + length (varint_bytes (e.sample - before))) e.sample 1 es

sizes_from : (width room size before : ℕ) (es : List Entry) → part_from Sizes width room size before 1 es ≡ sizes_after room size before es
unfolding part_from sizes_after
sizes_from width room size before [] = refl
sizes_from width zero size before (e ∷ es) = ap (λ (xs : List ℕ). (size - 63) ∷ xs) (sizes_from width 63 0 e.sample es)
sizes_from width (suc room) size before (e ∷ es) = sizes_from width room (size + length (varint_bytes (e.sample - before))) e.sample es

sizes_part : (width : ℕ) (es : List Entry) → part_bytes Sizes width es ≡ size_bytes es
unfolding part_from size_bytes
sizes_part width [] = refl
sizes_part width (e ∷ es) = sizes_from width 63 0 e.sample es

steps_part : (width room size before begun : ℕ) (es : List Entry) → part_from Steps width room size before begun es ≡ steps room before es
unfolding part_from steps
steps_part width room size before begun [] = refl
steps_part width zero size before begun (e ∷ es) = steps_part width 63 0 e.sample 1 es
steps_part width (suc room) size before begun (e ∷ es) =
    ap (λ (xs : List ℕ). varint_bytes (e.sample - before) ++ xs) (steps_part width room (size + length (varint_bytes (e.sample - before))) e.sample 1 es)

-- ---- one part after another

module _ (width : ℕ) (es : List Entry) where
  abbrev hs : List ℕ
  hs = part_bytes Heads width es

  abbrev zs : List ℕ
  zs = part_bytes Sizes width es

  abbrev vs : List ℕ
  vs = values_bytes es

  abbrev ss : List ℕ
  ss = part_bytes Steps width es

  list_is : varint_bytes (length es) ++ (hs ++ (zs ++ (vs ++ ss))) ≡ list_bytes width es
  unfolding list_parts
  list_is = rw (heads_part width 0 0 0 0 es, sizes_part width es, steps_part width 0 0 0 0 es)

module _ (width : ℕ) (es : List Entry) (to : List ℕ) (at count : ℕ) (k : count ≡ length es) (fit : at + length (list_bytes width es) ≤ length to) where
  fit_parts : at + length (varint_bytes count ++ (hs width es ++ (zs width es ++ (vs width es ++ ss width es)))) ≤ length to
  fit_parts = rw (k, list_is width es) fit

  pub room_0 : at + length (varint_bytes count) ≤ length to
  room_0 = omega (arith, fit_parts, length-append (varint_bytes count) (hs width es ++ (zs width es ++ (vs width es ++ ss width es))))

  module _ {r₁ : ℕ} {m₁ : List ℕ} (a : Wrote to at (varint_bytes count) r₁ m₁) where
    pub room_1 : r₁ + length (part_bytes Heads width es) ≤ length m₁
    room_1 = wrote_room (hs width es) (zs width es ++ (vs width es ++ ss width es)) fit_parts a

    module _ {r₂ : ℕ} {m₂ : List ℕ} (b : Wrote m₁ r₁ (part_bytes Heads width es) r₂ m₂) where
      pub room_2 : r₂ + length (part_bytes Sizes width es) ≤ length m₂
      room_2 = wrote_room (zs width es) (vs width es ++ ss width es) (rw (append_assoc (varint_bytes count)) fit_parts) (wrote_both a b)

      module _ {r₃ : ℕ} {m₃ : List ℕ} (c : Wrote m₂ r₂ (part_bytes Sizes width es) r₃ m₃) where
        pub room_3 : r₃ + length (values_bytes es) ≤ length m₃
        room_3 = wrote_room (vs width es) (ss width es) (simp append_assoc fit_parts) (wrote_both (wrote_both a b) c)

        module _ {r₄ : ℕ} {m₄ : List ℕ} (d : Wrote m₃ r₃ (values_bytes es) r₄ m₄) where
          pub room_4 : r₄ + length (part_bytes Steps width es) ≤ length m₄
          room_4 = wrote_room (ss width es) [] (simp (append_assoc, append-nil) fit_parts) (wrote_both (wrote_both (wrote_both a b) c) d)

          pub all_written : {r₅ : ℕ} {m₅ : List ℕ} → Wrote m₄ r₄ (part_bytes Steps width es) r₅ m₅ → Wrote to at (list_bytes width es) r₅ m₅
          all_written e = rw (list_is width es) at (rw k at (simp append_assoc at (wrote_both (wrote_both (wrote_both (wrote_both a b) c) d) e)))

-- ---- how much there is at most

listed_few : (i : ℕ) (base_list row_list : List ℕ) → length (differences i base_list row_list) ≤ length base_list
unfolding differences
listed_few i [] row_list = omega arith
listed_few i (b ∷ base_list) [] = omega arith
listed_few i (b ∷ base_list) (c ∷ row_list) = go (eqb c b) (differences (suc i) base_list row_list) (listed_few (suc i) base_list row_list)
  where
    go : (same : Bool) (es : List Entry) → length es ≤ length base_list → length (unless same (record { sample = i; value = c }) es) ≤ suc (length base_list)
    go true es h = omega arith
    go false es h = omega arith

listed_most : (b : Base) (anchor categories : List ℕ) → RowsFit b anchor categories → length (listed_entries b anchor categories) ≤ most_samples
listed_most b anchor categories f = omega (arith, listed_few 0 (base_row b anchor categories) (row b categories), f.each, f.few)

pub count_few : (b : Base) (anchor categories : List ℕ) (count : ℕ) → RowsFit b anchor categories → count ≡ length (listed_entries b anchor categories)
    → count < 2 ^ 32
count_few b anchor categories count f e = omega (arith, listed_most b anchor categories f)

pub ruleset list_laws = (room_0, room_1, room_2, count_few)

steps_few : (width room size before begun : ℕ) (es : List Entry) → length (part_from Steps width room size before begun es) ≤ 5 * length es
unfolding part_from
steps_few width room size before begun [] = omega arith
steps_few width zero size before begun (e ∷ es) = omega (arith, steps_few width 63 0 e.sample 1 es)
steps_few width (suc room) size before begun (e ∷ es) =
    let d : ℕ = e.sample - before in
    let more : List ℕ = part_from Steps width room (size + length (varint_bytes d)) e.sample 1 es in
    omega (arith, steps_few width room (size + length (varint_bytes d)) e.sample 1 es, (varint_length d).1, length-append (varint_bytes d) more)

-- ---- the size of the list

list_length : (w : ℕ) (es : List Entry)
    → length (list_bytes w es)
    ≡ length (varint_bytes (length es)) + w * groups (length es) + (groups (length es) - 1) + (length es + 3) / 4 + length (steps 0 0 es)
unfolding list_parts
list_length w es =
    let a = numbers_length w (heads 0 es) in
    let b : w * length (heads 0 es) ≡ w * groups (length es) = ap (◌*◌ w) (heads_count es) in
    let c = packed_length two (length es) (values es) (values_length es) in
    omega (
      arith,
      a,
      b,
      c,
      sizes_count es,
      length-append (varint_bytes (length es)) (numbers_bytes w (heads 0 es) ++ (size_bytes es ++ (packed two (values es) ++ steps 0 0 es))),
      length-append (numbers_bytes w (heads 0 es)) (size_bytes es ++ (packed two (values es) ++ steps 0 0 es)),
      length-append (size_bytes es) (packed two (values es) ++ steps 0 0 es),
      length-append (packed two (values es)) (steps 0 0 es),
    )

-- what is counted is small
pub record Few (counted : Counted) : Type 0 where
  pub count_few : counted.count ≤ most_samples
  pub steps_few : counted.steps ≤ 5 * most_samples

pub few_counted : (b : Base) (anchor categories : List ℕ) (counted : Counted) → Measured (listed_entries b anchor categories) counted
    → RowsFit b anchor categories → Few counted
few_counted b anchor categories counted m f =
    let es : List Entry = listed_entries b anchor categories in
    record {
      count_few = omega (arith, m.count_is, listed_most b anchor categories f);
      steps_few = omega (arith, m.steps_are, steps_few 0 0 0 0 0 es, listed_most b anchor categories f);
    }

pub count_most : (counted : Counted) → Few counted → counted.count ≤ most_samples
count_most counted f = f.count_few

pub count_below : (counted : Counted) → Few counted → counted.count < 2 ^ 32
count_below counted f = omega (arith, f.count_few)

pub count_fits : (counted : Counted) (more : ℕ) → Few counted → more ≤ 64 → Fits w64 (counted.count + more)
count_fits counted more f h = record { fits = omega (arith, f.count_few) }

-- and so is each sum of the parts' sizes: g heads of w bytes, v for the count
module _ (samples : ℕ) (counted : Counted) (g : ℕ) (k : g ≡ groups counted.count) (w : ℕ) (e : w ≡ number_width samples) where
  heads_most : w * g ≤ 2 * g
  heads_most = rw e (mul-le-mul_right g (width_few samples))

  pub heads_fit : Few counted → Fits w64 (w * g)
  heads_fit f = record { fits = omega (arith, heads_most, f.count_few) }

  module _ (v : ℕ) (c : v ≡ length (varint_bytes counted.count)) where
    pub with_heads : Few counted → Fits w64 (v + w * g)
    with_heads f = record { fits = omega (arith, heads_most, varint_length counted.count, f.count_few) }

    pub with_sizes : Few counted → Fits w64 (v + w * g + (g - 1))
    with_sizes f = record { fits = omega (arith, heads_most, varint_length counted.count, f.count_few) }

    -- and n bytes of values
    module _ (n : ℕ) (q : n ≡ div_ceil counted.count 4) where
      pub with_values : Few counted → Fits w64 (v + w * g + (g - 1) + n)
      with_values f = record { fits = omega (arith, heads_most, varint_length counted.count, f.count_few) }

      pub with_steps : Few counted → Fits w64 (v + w * g + (g - 1) + n + counted.steps)
      with_steps f = record { fits = omega (arith, heads_most, varint_length counted.count, f.count_few, f.steps_few) }

      pub size_some : (es : List Entry) → Measured es counted
          → SizeOf samples es (record { count = counted.count; bytes = v + w * g + (g - 1) + n + counted.steps })
      size_some es m =
          let s : counted.steps ≡ length (steps 0 0 es) = m.steps_are ∙ ap length (steps_part 0 0 0 0 0 es) in
          let r : n ≡ (counted.count + 3) / 4 = omega arith in
          record { count_is = m.count_is; bytes_are = rw (e, c, k, s, r, m.count_is) (sym (list_length (number_width samples) es)) }

pub size_none : (samples : ℕ) (es : List Entry) (counted : Counted) → Measured es counted → counted.count ≡ 0
    → SizeOf samples es (record { count = counted.count; bytes = 1 })
unfolding list_parts heads size_bytes values steps numbers_bytes packed_after varint_within
size_none samples es counted m z = record { count_is = m.count_is; bytes_are = none es (sym m.count_is ∙ z) }
  where
    none : (xs : List Entry) → length xs ≡ 0 → 1 ≡ length (list_bytes (number_width samples) xs)
    none [] e = refl
    none (x ∷ xs) e = absurd (omega arith)

pub ruleset few_laws = (few_counted, count_most, count_below, count_fits)

pub ruleset list_size_laws = (few_laws, heads_fit, with_heads, with_sizes, with_values, with_steps, size_some, size_none)

-- no list is longer
pub list_most : (samples : ℕ) (b : Base) (anchor categories : List ℕ) → RowsFit b anchor categories
    → length (list_bytes (number_width samples) (listed_entries b anchor categories)) ≤ 400000
list_most samples b anchor categories f =
    let es : List Entry = listed_entries b anchor categories in
    let w : number_width samples * groups (length es) ≤ 2 * groups (length es) = mul-le-mul_right (groups (length es)) (width_few samples) in
    let s : length (part_bytes Steps 0 es) ≡ length (steps 0 0 es) = ap length (steps_part 0 0 0 0 0 es) in
    omega (arith, list_length (number_width samples) es, steps_few 0 0 0 0 0 es, (varint_length (length es)).1, listed_most b anchor categories f)
