-- What a lookup replies and leaves, by what the opening and the record were found to be.
-- Assumes nothing.
use Rattle.std.specs.Prelude.{Result, Ok, Err, ⊤}
use mathlib.Core.Path.{◌≡◌, refl, sym, ap, ◌∙◌}
use Prim.Native.Nat.{ℕ, ◌≤◌, ◌<◌}
use mathlib.Core.List.{List, ◌++◌}
use lib.ListN.{length, drop, get_or, replicate}
use lib.Dec.{ltb}
use lib.Seq.{get_or-take}
use native.Mathlib.Omega.{arith}
use borrow.Author.Tests.{lt-ltb, le-ltb}
use Rattle.format.specs.declared.FileVariant.{FileVariant}
use Rattle.format.specs.declared.Fields.{Fields}
use Rattle.format.specs.declared.Refusal.{Refusal}
use Rattle.format.specs.Base.{Out, refusal, bind, need_of, named}
use Rattle.format.specs.Limits.{variants_to_a_block}
use Rattle.format.specs.Layout.{Layout}
use Rattle.format.specs.File.{read_variant}
use Rattle.format.specs.Reply.{Lookup, verdict, refusal_of, given, work_after, samples_of, holds_row, lookup_left, lookup_call, need_sample}
use Rattle.call_open.specs.Open.{open_at_out, OpenAt, OpeningAt}
use Rattle.call_open.proofs.Callers.{shut_at, ready_at, through_at, open_samples, open_at_is, samples_are}
use Rattle.read_file.specs.Rows.{HasVariantRow, VariantRead}
use Rattle.read_file.proofs.Replies.{refused_row}
use Rattle.call_read.proofs.RowLaws.{variant_row, refused_as, filled_as}

abbrev lookup_from : ℕ → ℕ → List ℕ → Out (List ℕ) → Lookup
lookup_from N sample work m = record {
  verdict = verdict m;
  category = given (λ (row : List ℕ). get_or row sample 0) 0 m;
  work = work_after N (refusal_of m) work;
}

-- 11, of a sample; then the record
abbrev sample_read : FileVariant → ℕ → Layout → Out (List ℕ)
sample_read v sample l = need_sample v sample l (read_variant variants_to_a_block l v)

module _ (file : List ℕ) (v : FileVariant) (sample : ℕ) (work : List ℕ) (r : Result Fields Refusal) (e : OpeningAt file v (length work) r) where
  -- the reply, by what was opened
  looks : (m : Out Layout) → open_at_out variants_to_a_block file v (length work) ≡ m
      → lookup_from (samples_of variants_to_a_block file) sample work (bind m (λ l left. sample_read v sample l))
      ≡ lookup_call variants_to_a_block file v sample work
  unfolding lookup_call
  looks m s =
      ap (lookup_from (samples_of variants_to_a_block file) sample work)
      (sym (through_at file (length work) (holds_row work) (λ l. refl) v (sample_read v sample)
      ∙ ap (λ (m : Out Layout). bind m (λ l left. sample_read v sample l)) s))

  -- 1 to 11
  pub lookup_shut : (why : Refusal) → r ≡ Err why → lookup_left (Err why) work ≡ lookup_call variants_to_a_block file v sample work
  lookup_shut why q = let s = shut_at file v (length work) r why e q in simp s.keeps at (looks _ s.is)

  module _ (f : Fields) (q : r ≡ Ok f) where
    o : OpenAt file v (length work) f
    o = ready_at file v (length work) r f e q

    abbrev l : Layout
    l = o.has.layout

    n : f.samples ≡ l.samples
    n = open_samples file (length work) f o.has

    pub has_variant_row : HasVariantRow file file f v work
    has_variant_row = variant_row file v (length work) f o work (omega (arith, o.has.room))

    pub room_work : (work₁ : List ℕ) → length work₁ ≡ length work → f.samples ≤ length work₁
    room_work work₁ same = omega (arith, o.has.room)

    pub sample_in : (work₁ : List ℕ) → length work₁ ≡ length work → sample < f.samples → sample < length work₁
    sample_in work₁ same t = omega (arith, o.has.room)

    calls : lookup_from f.samples sample work (need_of v (ltb sample f.samples) 11 0 (read_variant variants_to_a_block l v))
        ≡ lookup_call variants_to_a_block file v sample work
    calls = rw (samples_are file (length work) f o.has, ← n) at (looks _ (open_at_is file v (length work) f o))

    -- 11, of a sample
    pub no_sample : (why : Refusal) → why ≡ named v (refusal 11 0) → f.samples ≤ sample
        → lookup_left (Err why) work ≡ lookup_call variants_to_a_block file v sample work
    no_sample why z t = rw z (rw (le-ltb sample f.samples t) at calls)

    module _ (t : sample < f.samples) (got : Result ⊤ Refusal) (work₁ : List ℕ) (d : VariantRead file file f v work got work₁) where
      reads : lookup_from f.samples sample work (read_variant variants_to_a_block l v) ≡ lookup_call variants_to_a_block file v sample work
      reads = rw (lt-ltb sample f.samples t) at calls

      -- 12 to 18 and 23 to 25
      pub lookup_refused : (why : Refusal) → got ≡ Err why → lookup_left (Err why) work₁ ≡ lookup_call variants_to_a_block file v sample work
      lookup_refused why s =
          let x = refused_as file v (length work) f o work got work₁ d why s in
          rw (refused_row d why s) (rw (x.is, x.clears) at reads)

      pub lookup_accepted : (work₂ : List ℕ) → got ≡ Ok tt → length work₁ ≡ length work
          → work₂ ≡ replicate f.samples 0 ++ drop f.samples work₁
          → lookup_left (Ok (get_or work₁ sample 0)) work₂ ≡ lookup_call variants_to_a_block file v sample work
      lookup_accepted work₂ s same b =
          let x = filled_as file v (length work) f o work got work₁ d s same (omega arith) in
          let at : get_or x.value sample 0 ≡ get_or work₁ sample 0 = rw (← x.front) (rw get_or-take) in
          rw (b, x.rest, ← at) (rw x.is at reads)

pub ruleset lookup_laws = (lookup_shut, has_variant_row, room_work, sample_in, no_sample, lookup_refused, lookup_accepted)
