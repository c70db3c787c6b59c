-- Refusals 7 and 9, and acceptance, where there are no blocks.
-- Assumes nothing.
use Rattle.std.specs.Prelude.{Ok, Err}
use mathlib.Core.Path.{◌≡◌, refl, sym, ap, ◌∙◌}
use Prim.Native.Nat.{ℕ, ◌+◌, ◌-◌, ◌*◌, ◌/◌, ◌≤◌}
use native.Mathlib.Nat.{mul-le-mul}
use mathlib.Core.Bool.{Bool, true, false, not}
use mathlib.Core.List.{List, []}
use lib.ListN.{length, drop}
use lib.Dec.{eqb}
use mir.Syntax.{w64}
use mir.Val.{Fits}
use native.Mathlib.Omega.{arith}
use Rattle.format.specs.declared.Fields.{Fields}
use Rattle.format.specs.declared.Refusal.{Refusal}
use Rattle.format.specs.Base.{pick, ok, refused, refusal, refuse, need, named}
use Rattle.format.specs.Packed.{one, packed_size}
use Rattle.format.specs.Limits.{most_variants, most_samples}
use Rattle.format.specs.Layout.{Fixed, unblocked, fixed_size, form_of, flag_count, Arrays, sum, header_end, first_record}
use Rattle.format.specs.Reply.{summary, header_left}
use Rattle.format.specs.Variant.{no_variant}
use Rattle.head_index.specs.NumbersAt.{unused_bits}
use Rattle.head_index.specs.Rules.{unused_arrays, after_fixed, after_offsets}
use Rattle.head_index.specs.Known.{Passed}
use Rattle.head_index.proofs.RefusalsByIndex.{arrays_size_unblocked}
use Rattle.head_index.proofs.RefusalsByIndexRecords.{unblocked_goes_on, unblocked_lengths_sum}
use Rattle.head_blocks.specs.Parts.{fixed}
use Rattle.head_blocks.proofs.Answers.{granted, denied}
use Rattle.head_check.specs.Ready.{Held}
use Rattle.head_check.proofs.Handed.{ranges, held_variants, held_samples, refused_as, seven, beyond_7, nine_end, accepts}

-- the one array
unused_flags : (f : Fixed) (bs : List ℕ) → unblocked f.mode ≡ true
    → unused_arrays 65536 f bs
    ≡ need (eqb (unused_bits one (flag_count (form_of f) f.variants) (drop 12 bs)) 0) 7 (12 + packed_size one (flag_count (form_of f) f.variants) - 1)
    (ok tt [])
unfolding unused_arrays
unused_flags f bs e = simp e

-- records of one size
pub records_small : (m n : ℕ) → m ≤ most_variants → n ≤ most_samples → m * ((n + 3) / 4) ≤ 274877906944
records_small m n h l = mul-le-mul {n₁ = m} {m₁ = (n + 3) / 4} {n₂ = 16777216} {m₂ = 16384} h (omega arith)

module _ {bs : List ℕ} {f : Fields} (h : Held bs f) where
  module _ {size : ℕ} (s : size ≡ fixed_size (fixed f)) where
    all_records : f.variants * size ≤ 274877906944
    all_records = rw s (records_small f.variants f.samples (ranges h.ready).variants_most (ranges h.ready).samples_most)

    pub records_fit : Fits w64 (f.variants * size)
    records_fit = omega (arith, all_records)

    pub records_end_fits : {first : ℕ} → first ≤ 134217728 → Fits w64 (first + f.variants * size)
    records_end_fits l = omega (arith, all_records)

  module _ (mode : unblocked f.mode ≡ true) where
    -- the header ends with that array
    flags_end : 12 + packed_size one (pick (eqb (f.form / 64) 3) f.variants 0) ≡ header_end 65536 (fixed f)
    flags_end = sym (rw (arrays_size_unblocked 65536 (fixed f) mode) refl)

    pub flags_inside : 12 + packed_size one (pick (eqb (f.form / 64) 3) f.variants 0) ≤ length bs
    flags_inside = rw flags_end h.fits

    module _ {clear : Bool} (d : clear ≡ eqb (unused_bits one (pick (eqb (f.form / 64) 3) f.variants 0) (drop 12 bs)) 0) where
      -- 7
      pub flags_7 : {why : Refusal} {end : ℕ} → not clear ≡ true → end ≡ header_end 65536 (fixed f)
          → why ≡ named (no_variant f.variants) (refusal 7 (end - 1))
          → header_left (Err why) ≡ summary (after_fixed 65536 bs)
      flags_7 {end = end} c e z =
          let u : unused_arrays 65536 (fixed f) bs ≡ refuse 7 (end - 1)
          = unused_flags (fixed f) bs mode ∙ simp (denied d c) (ap (λ (x : ℕ). refuse 7 (x - 1)) (flags_end ∙ sym e)) in
          refused_as (after_fixed 65536 bs) (seven h (end - 1) u ∙ ap refused (sym z))

      module _ (c : not clear ≡ false) where
        passed : (a : Arrays) × Passed 65536 bs a
        passed = beyond_7 h (unused_flags (fixed f) bs mode ∙ simp (granted d c))

        goes_on : after_fixed 65536 bs ≡ after_offsets 65536 bs passed.0
        goes_on = unblocked_goes_on 65536 bs passed.0 (rw h.ready.same mode) passed.1

        total : sum passed.0.columns.lengths ≡ f.variants * fixed_size (fixed f)
        total = rw h.ready.same at (unblocked_lengths_sum 65536 bs passed.0 (rw h.ready.same mode) passed.1)

        module _ {first size : ℕ} (e : first ≡ first_record 65536 (fixed f)) (s : size ≡ fixed_size (fixed f)) where
          -- 9
          pub records_9 : {why : Refusal} → (first + f.variants * size ≡ length bs → ⊥) → why ≡ named (no_variant f.variants) (refusal 9 (length bs))
              → header_left (Err why) ≡ summary (after_fixed 65536 bs)
          records_9 n z =
              refused_as (after_fixed 65536 bs) (nine_end h passed.0 passed.1 goes_on (λ q. n (rw (e, s, ← total) q)) ∙ ap refused (sym z))

          -- accepted
          pub records_accepted : first + f.variants * size ≡ length bs → header_left (Ok f) ≡ summary (after_fixed 65536 bs)
          records_accepted n = accepts h passed.0 passed.1 goes_on (rw (total, ← e, ← s) n)

pub ruleset unblocked_laws = (held_variants, held_samples, records_fit, records_end_fits, flags_inside, flags_7, records_9, records_accepted)
