-- Refusals 1 to 6.
-- Assumes nothing.
use Rattle.std.specs.Prelude.{Result, Err}
use mathlib.Core.Path.{◌≡◌, refl, sym, ap, ◌∙◌}
use Prim.Native.Nat.{ℕ, ◌≤◌, ◌<◌}
use mathlib.Core.Bool.{true, false}
use mathlib.Core.List.{List}
use lib.ListN.{length, drop}
use lib.Dec.{eqb}
use native.Mathlib.Omega.{arith}
use borrow.Author.Tests.{eq-eqb, ne_eqb}
use Rattle.format.specs.declared.Fields.{Fields}
use Rattle.format.specs.declared.Refusal.{Refusal}
use Rattle.format.specs.Base.{Bytes, refused, refusal, named, refuse_of}
use Rattle.format.specs.Limits.{most_samples, most_variants}
use Rattle.format.specs.Layout.{Fixed, fields_of, from_1_to, mode_covered, form_allowed, header_end}
use Rattle.format.specs.Header.{need_fixed, read_layout}
use Rattle.format.specs.Reply.{summary, header_left, header_call}
use Rattle.format.specs.Variant.{no_variant}
use Rattle.head_index.specs.NumbersAt.{number_at, fixed_at}
use Rattle.head_index.specs.Rules.{after_fixed}
use Rattle.head_index.proofs.RefusalsByIndex.{refusal_1, refusals_2_to_5, refusal_6, form_byte_at, passed_2_to_5}
use Rattle.head_blocks.specs.Parts.{fixed}
use Rattle.head_blocks.proofs.Answers.{holds, fails, granted, denied}
use Rattle.head_blocks.proofs.Sizes.{known_bytes}
use Rattle.head_check.specs.Ready.{FieldsPassed, Held}
use Rattle.head_check.proofs.Handed.{most_variants_passed, refused_as, names}

-- a refusal of the whole check
refuses : (bs : List ℕ) (said : Refusal) {why : Refusal} → why ≡ said → read_layout 65536 bs ≡ refused said → header_left (Err why) ≡ header_call 65536 bs
unfolding header_call
refuses bs said z e = refused_as (read_layout 65536 bs) (e ∙ ap refused (sym z))

-- 1
pub short : (bs : List ℕ) {why : Refusal} → length bs < 12 → why ≡ refusal 1 (length bs) → header_left (Err why) ≡ header_call 65536 bs
short bs h z = refuses bs (refusal 1 (length bs)) z (refusal_1 65536 bs h)

-- 2

module _ (bs : List ℕ) {magic : ℕ} (m : magic ≡ number_at 2 (drop 0 bs)) where
  pub is_magic : magic ≡ 0x1b6c → (fixed_at bs).magic ≡ 0x1b6c
  unfolding fixed_at
  is_magic e = sym m ∙ e

  pub other_magic : {why : Refusal} → 12 ≤ length bs → (magic ≡ 0x1b6c → ⊥) → why ≡ refusal 2 0 → header_left (Err why) ≡ header_call 65536 bs
  unfolding need_fixed fixed_at
  other_magic h n z = refuses bs (refusal 2 0) z (refusals_2_to_5 65536 bs h ∙ simp (ne_eqb (fixed_at bs).magic 0x1b6c (λ e. n (m ∙ e))))

pub ruleset magic_laws = (short, is_magic, other_magic)

-- 3 to 5

module _ (bs : List ℕ) {f : Fields} (e : f ≡ fields_of (fixed_at bs)) (h : 12 ≤ length bs) (right : (fixed_at bs).magic ≡ 0x1b6c) where
  one : eqb (fixed_at bs).magic 0x1b6c ≡ true
  one = eq-eqb (fixed_at bs).magic 0x1b6c right

  pub other_mode : {why : Refusal} → mode_covered f.mode ≡ false → why ≡ refusal 3 2 → header_left (Err why) ≡ header_call 65536 bs
  unfolding need_fixed
  other_mode t z = refuses bs (refusal 3 2) z (refusals_2_to_5 65536 bs h ∙ simp (one, rw e at t))

  module _ (mode : mode_covered f.mode ≡ true) where
    pub other_variants : {why : Refusal} → from_1_to most_variants f.variants ≡ false → why ≡ refusal 4 3
        → header_left (Err why) ≡ header_call 65536 bs
    unfolding need_fixed
    other_variants t z = refuses bs (refusal 4 3) z (refusals_2_to_5 65536 bs h ∙ simp (one, rw e at mode, rw e at t))

    module _ (variants : from_1_to most_variants f.variants ≡ true) where
      pub other_samples : {why : Refusal} → from_1_to most_samples f.samples ≡ false → why ≡ refusal 4 7
          → header_left (Err why) ≡ header_call 65536 bs
      unfolding need_fixed
      other_samples t z = refuses bs (refusal 4 7) z (refusals_2_to_5 65536 bs h ∙ simp (one, rw e at mode, rw e at variants, rw e at t))

      module _ (samples : from_1_to most_samples f.samples ≡ true) where
        pub other_form : {why : Refusal} → form_allowed f.mode f.form ≡ false → why ≡ named (no_variant f.variants) (refusal 5 11)
            → header_left (Err why) ≡ header_call 65536 bs
        unfolding need_fixed
        other_form t z =
            refuses bs (named (no_variant f.variants) (refusal 5 11)) z
            (refusals_2_to_5 65536 bs h ∙ simp (one, rw e at mode, rw e at variants, rw e at samples, rw e at t)
            (ap (λ (z : Fields). refuse_of (no_variant z.variants) 5 11) (sym e)))

        -- all passed
        pub ready : form_allowed f.mode f.form ≡ true → Bytes bs → FieldsPassed bs f
        ready form y =
            let same : fixed_at bs ≡ fixed f = rw (e, ← right) refl in
            record {
              long = h;
              bytes = y;
              same = same;
              obeys = record {
                magic = refl;
                mode = mode;
                variants = variants;
                samples = samples;
                form = form;
                form_byte = omega (arith, form_byte_at bs y h, ap (λ (z : Fixed). z.form) same);
              };
            }

-- what is left of the check decides
pub goes_on : (bs : List ℕ) (f : Fields) (r : Result Fields Refusal) → f ≡ fields_of (fixed_at bs) → FieldsPassed bs f
    → header_left r ≡ summary (after_fixed 65536 bs) → header_left r ≡ header_call 65536 bs
unfolding header_call
goes_on bs f r e p q = q ∙ ap summary (sym (passed_2_to_5 65536 bs p.long (rw p.same p.obeys)))

pub ruleset passed_laws = (granted, denied, known_bytes, other_mode, other_variants, other_samples, other_form, ready, goes_on)

-- 6

module _ {bs : List ℕ} {f : Fields} (r : FieldsPassed bs f) {end : ℕ} (e : end ≡ header_end 65536 (fixed f)) where
  pub inside : {why : Refusal} → length bs < end → why ≡ named (no_variant f.variants) (refusal 6 (length bs))
      → header_left (Err why) ≡ summary (after_fixed 65536 bs)
  inside l z =
      refused_as (after_fixed 65536 bs)
      (refusal_6 65536 bs r.long (rw (r.same, ← e) l) ∙ names r 6 (length bs) ∙ ap refused (sym z))

  pub whole : end ≤ length bs → Held bs f
  whole l = record { ready = r; fits = rw (← e) l }

pub ruleset arrays_laws = (holds, fails, most_variants_passed, inside, whole)
