-- A part of a list, sample by sample.
-- Assumes nothing.
use mathlib.Core.Path.{◌≡◌, refl, sym, ◌∙◌}
use Prim.Native.Nat.{ℕ, zero, suc, ◌+◌, ◌-◌, ◌≤◌, ◌<◌}
use native.Mathlib.Omega.{arith}
use native.Mathlib.Numerals.{sub-one}
use mathlib.Core.List.{List, [], ◌∷◌, ◌++◌}
use mathlib.Core.Bool.{Bool, true, false}
use lib.ListN.{length, get_or, length-append}
use lib.Seq.{sets, length-sets}
use lib.Dec.{eqb}
use borrow.Author.Tests.{ne_eqb, eqb-false}
use Rattle.format.specs.Base.{pick}
use Rattle.format.specs.Difflist.{Entry}
use Rattle.format.specs.Writer.{unless}
use Rattle.format.proofs.Rules.{by_test}
use Rattle.format.proofs.VarintLaws.{varint_length}
use Rattle.write_bytes.specs.Written.{Wrote}
use Rattle.write_bytes.proofs.WrittenLaws.{sets_append}
use Rattle.write_parts.specs.Parts.{part_from, part_bytes, entry_bytes, after_entry, GroupFits, sample_bytes, after_sample, Passed}
use Rattle.write_parts.specs.Rows.{base_row, row, listed_entries, RowsFit}
use Rattle.write_parts.specs.declared.Base.{Base}
use Rattle.write_parts.specs.declared.Part.{Part}
use Rattle.write_parts.specs.declared.Group.{Group}
use Rattle.write_parts.specs.declared.Moved.{Moved}
use Rattle.write_parts.proofs.RowLaws.{listed_at, listed_turn, listed_done}

-- the part of the entries from here on
abbrev pub from : Part → ℕ → Group → List Entry → List ℕ
from part width group es = part_from part width group.room group.size group.before group.begun es

-- one entry
entry_turn : (part : Part) (width room size before begun : ℕ) (e : Entry) (es : List Entry)
    → part_from part width room size before begun (e ∷ es)
    ≡ entry_bytes part width (record { room = room; size = size; before = before; begun = begun }) e.sample
    ++ from part width (after_entry (record { room = room; size = size; before = before; begun = begun }) e.sample) es
unfolding part_from entry_bytes after_entry
entry_turn part width zero size before begun e es = refl
entry_turn part width (suc room) size before begun e es = simp (ne_eqb (suc room) 0 (λ o. omega arith), sub-one)

-- one sample, listed unless its value is its base's
pub sample_turn : (part : Part) (width base value i : ℕ) (group : Group) (es : List Entry)
    → from part width group (unless (eqb value base) (record { sample = i; value = value }) es)
    ≡ sample_bytes part width base value group i ++ from part width (after_sample base value group i) es
sample_turn part width base value i group es = go (eqb value base)
  where
    go : (same : Bool) → from part width group (unless same (record { sample = i; value = value }) es)
        ≡ pick same [] (entry_bytes part width group i) ++ from part width (pick same group (after_entry group i)) es
    go true = refl
    go false = entry_turn part width group.room group.size group.before group.begun (record { sample = i; value = value }) es

-- where a pass is after a sample
fits_entry : (group : Group) (i : ℕ) → GroupFits group i → GroupFits (after_entry group i) (i + 1)
unfolding after_entry
fits_entry group i f =
    by_test (λ (g : Group). GroupFits g (i + 1)) (eqb group.room 0)
    (λ t. record { upto = omega arith; idle = λ o. absurd (omega arith); least = λ o. omega arith; most = omega arith; later = omega arith })
    (λ t.
    let z : group.room ≡ 0 → ⊥ = eqb-false group.room 0 t in
    record {
      upto = omega (arith, f.upto);
      idle = λ o. absurd (omega arith);
      least = λ o. omega (arith, f.least (λ b. z (f.idle b)), (varint_length (i - group.before)).0);
      most = omega (arith, f.most, (varint_length (i - group.before)).1);
      later = omega arith;
    })

pub fits_sample : (base value : ℕ) (group : Group) (i : ℕ) → GroupFits group i → GroupFits (after_sample base value group i) (i + 1)
fits_sample base value group i f =
    by_test (λ (g : Group). GroupFits g (i + 1)) (eqb value base)
    (λ t. record { upto = f.upto; idle = f.idle; least = f.least; most = f.most; later = omega (arith, f.later) })
    (λ t. fits_entry group i f)

pub fits_start : GroupFits (record { room = 0; size = 0; before = 0; begun = 0 }) 0
fits_start = record { upto = omega arith; idle = λ o. refl; least = λ o. absurd (o refl); most = omega arith; later = omega arith }

-- ---- the loop

module _ (part : Part) (width : ℕ) (b : Base) (anchor categories : List ℕ) where
  -- the whole part, and what is left of it at sample i
  abbrev pub whole : List ℕ
  whole = part_bytes part width (listed_entries b anchor categories)

  abbrev pub left_at : Group → ℕ → List ℕ
  left_at group i = from part width group (listed_at b anchor categories i)

-- before sample i
pub record Going (part : Part) (width : ℕ) (b : Base) (anchor categories to₀ : List ℕ) (at : ℕ) (to : List ℕ) (group : Group) (place i : ℕ) : Type 0 where
  pub fits : GroupFits group i
  pub rows : RowsFit b anchor categories
  pub room : at + length (whole part width b anchor categories) ≤ length to₀
  pub keeps : length to ≡ length to₀
  pub ends : place + length (left_at part width b anchor categories group i) ≡ at + length (whole part width b anchor categories)
  pub same : sets to place (left_at part width b anchor categories group i) ≡ sets to₀ at (whole part width b anchor categories)

pub part_start : (part : Part) (width : ℕ) (b : Base) (anchor categories to : List ℕ) (at : ℕ) → RowsFit b anchor categories
    → at + length (whole part width b anchor categories) ≤ length to
    → Going part width b anchor categories to at to (record { room = 0; size = 0; before = 0; begun = 0 }) at 0
part_start part width b anchor categories to at f h = record { fits = fits_start; rows = f; room = h; keeps = refl; ends = refl; same = refl }

module _ {part : Part} {width : ℕ} {b : Base} {anchor categories to₀ : List ℕ} {at : ℕ} {to : List ℕ} {group : Group} {place i : ℕ}
    (v : Going part width b anchor categories to₀ at to group place i) where
  module _ (base value : ℕ) (ev : value ≡ get_or (row b categories) i 0) (eb : base ≡ get_or (base_row b anchor categories) i 0)
      (h : i < length categories) where
    abbrev out : List ℕ
    out = sample_bytes part width base value group i

    abbrev next : List ℕ
    next = left_at part width b anchor categories (after_sample base value group i) (i + 1)

    turn : left_at part width b anchor categories group i ≡ out ++ next
    turn =
        rw (listed_turn b anchor categories i v.rows base value ev eb h)
        (sample_turn part width base value i group (listed_at b anchor categories (i + 1)))

    pub part_room : place + length (sample_bytes part width base value group i) ≤ length to
    part_room = omega (arith, rw (turn, length-append out) at v.ends, v.room, v.keeps)

    pub part_next : {r : Moved} {after : List ℕ}
        → Passed to place (sample_bytes part width base value group i) (after_sample base value group i) r after
        → Going part width b anchor categories to₀ at after r.group r.at (i + 1)
    part_next {r} {after} p =
        rw (p.moved, p.wrote.place, p.wrote.same)
        (record {
          fits = fits_sample base value group i v.fits;
          rows = v.rows;
          room = v.room;
          keeps = length-sets to place out ∙ v.keeps;
          ends = omega (arith, rw (turn, length-append out next) at v.ends);
          same = sym (sets_append out next to place) ∙ (rw turn at v.same);
        })

  pub part_end : length categories ≤ i → Wrote to₀ at (whole part width b anchor categories) place to
  unfolding part_from
  part_end h =
      let e : listed_at b anchor categories i ≡ [] = listed_done b anchor categories i v.rows h in
      record { place = omega (arith, rw e at v.ends); same = rw e at v.same }

pub ruleset part_laws = (part_start, part_room, part_end)
