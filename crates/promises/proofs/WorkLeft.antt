-- What a call leaves in its work area, by the number of its reply.
-- Assumes nothing.
use mathlib.Core.Path.{◌≡◌, refl}
use Prim.Native.Nat.{ℕ, ◌≤◌}
use mathlib.Core.Bool.{Bool, true, false, ◌&&◌}
use mathlib.Core.List.{List, [], ◌∷◌}
use lib.ListN.{length, take, drop, replicate, length-append, length-drop, length-replicate}
use lib.Seq.{take_at, drop_at}
use native.Mathlib.Omega.{arith}
use borrow.Author.Tests.{leb-true}
use Rattle.format.specs.declared.FileVariant.{FileVariant}
use Rattle.format.specs.declared.Refusal.{Refusal}
use Rattle.format.specs.Base.{pick, Out, ok, refused, bind, need_of}
use Rattle.format.specs.Classes.{among}
use Rattle.format.specs.Layout.{Layout}
use Rattle.format.specs.Header.{read_layout}
use Rattle.format.specs.Body.{Body, body_categories, body_phases}
use Rattle.format.specs.File.{variant_as}
use Rattle.format.specs.Reply.{refusal_of, given, emptied, work_after, samples_of, holds_row, holds_set, with_layout, checked, check_out, check_call}
use Rattle.format.specs.Reply.{need_variant, out_as, read_as, read_call, phases_call, lookup_out, lookup_call, flip_out, flip_call}
use Rattle.format.specs.Variant.{no_variant}
use Rattle.format.proofs.Rules.{never_both, both}
use Rattle.format.proofs.Refuses.{Refuses, HeaderNumber}
use Rattle.format.proofs.HeaderRefusals.{header_refusals}
use Rattle.format.proofs.CallRefusals.{header_keeps_work}

-- 01: "After 1 to 11 and 21 the work area is unchanged"
abbrev pub unchanged_after : List ℕ
unchanged_after = 1 ∷ 2 ∷ 3 ∷ 4 ∷ 5 ∷ 6 ∷ 7 ∷ 8 ∷ 9 ∷ 10 ∷ 11 ∷ 21 ∷ []

-- "after every other reply its first N bytes are zero and the rest unchanged"
pub record WorkLeft (N number : ℕ) (lent left : List ℕ) : Type 0 where
  pub unchanged : among unchanged_after number ≡ true → left ≡ lent
  pub first_zero : among unchanged_after number ≡ false → take N left ≡ replicate N 0
  pub rest_unchanged : drop N left ≡ drop N lent
  pub same_length : length left ≡ length lent

-- what was emptied had N bytes
work_left : (N : ℕ) (why : Refusal) (work : List ℕ) → (among unchanged_after why.number ≡ false → N ≤ length work)
    → WorkLeft N why.number work (work_after N why work)
work_left N why work room = go (among unchanged_after why.number) refl room
  where
    go : (b : Bool) → among unchanged_after why.number ≡ b → (b ≡ false → N ≤ length work) → WorkLeft N why.number work (pick b work (emptied N work))
    go true e r = record { unchanged = λ t. refl; first_zero = λ t. never_both e t; rest_unchanged = refl; same_length = refl }
    go false e r = record {
      unchanged = λ t. never_both t e;
      first_zero = λ t. take_at (replicate N 0) (drop N work) N (length-replicate N 0);
      rest_unchanged = drop_at (replicate N 0) (drop N work) N (length-replicate N 0);
      same_length = omega (arith, length-append (replicate N 0) (drop N work), length-replicate {A = ℕ} N 0, length-drop N work, r refl);
    }

-- a call that goes past the header and the sizes has a work area of N bytes
sized_for : {A : Type 0} (K : ℕ) (file : List ℕ) (sized : Layout → Bool) (next : Layout → Out A) (work : List ℕ)
    → ((l : Layout) → sized l ≡ true → l.samples ≤ length work)
    → among unchanged_after (refusal_of (with_layout K file sized next)).number ≡ false → samples_of K file ≤ length work
sized_for K file sized next work room e = header (read_layout K file) (header_refusals K file) e
  where
    buffers : (l : Layout) (b : Bool) → sized l ≡ b
        → among unchanged_after (refusal_of (need_of (no_variant (length l.bodies)) b 10 0 (next l))).number ≡ false → l.samples ≤ length work
    buffers l true t q = room l t
    buffers l false t q = never_both refl q

    header : (out : Out Layout) → Refuses HeaderNumber out
        → among unchanged_after (refusal_of (bind out (λ l left. need_of (no_variant (length l.bodies)) (sized l) 10 0 (next l)))).number ≡ false
        → given (λ (l : Layout). l.samples) 0 out ≤ length work
    header (ok l left) r q = buffers l (sized l) refl q
    header (refused why) r q = never_both (header_keeps_work why.number r) q

holds : (work : List ℕ) (l : Layout) → holds_row work l ≡ true → l.samples ≤ length work
holds work l t = leb-true l.samples (length work) t

-- ---- the calls that are lent a work area

pub check_work : (K : ℕ) (file work : List ℕ)
    → WorkLeft (samples_of K file) (check_call K file work).reply.verdict.refusal.number work (check_call K file work).work
unfolding check_call
check_work K file work =
    work_left (samples_of K file) (refusal_of (check_out K file work)) work (sized_for K file (holds_row work) (checked K) work (holds work))

-- a reading of categories or of phases
as_work : (what : ℕ → List ℕ → Body → List ℕ) (K : ℕ) (file : List ℕ) (v : FileVariant) (output work : List ℕ)
    → WorkLeft (samples_of K file) (read_as what K file v output work).verdict.refusal.number work (read_as what K file v output work).work
as_work what K file v output work =
    work_left (samples_of K file) (refusal_of (out_as what K file v output work)) work
    (sized_for K file (λ (l : Layout). holds_row output l && holds_row work l) (λ (l : Layout). need_variant v l (variant_as what K l v)) work (λ l t.
    holds work l (both (holds_row output l) (holds_row work l) t).1))

pub phases_work : (K : ℕ) (file : List ℕ) (v : FileVariant) (output work : List ℕ)
    → WorkLeft (samples_of K file) (phases_call K file v output work).verdict.refusal.number work (phases_call K file v output work).work
unfolding phases_call
phases_work K file v output work = as_work body_phases K file v output work

pub read_work : (K : ℕ) (file : List ℕ) (v : FileVariant) (output work : List ℕ)
    → WorkLeft (samples_of K file) (read_call K file v output work).verdict.refusal.number work (read_call K file v output work).work
unfolding read_call
read_work K file v output work = as_work body_categories K file v output work

pub lookup_work : (K : ℕ) (file : List ℕ) (v : FileVariant) (sample : ℕ) (work : List ℕ)
    → WorkLeft (samples_of K file) (lookup_call K file v sample work).verdict.refusal.number work (lookup_call K file v sample work).work
unfolding lookup_call
lookup_work K file v sample work =
    work_left (samples_of K file) (refusal_of (lookup_out K file v sample work)) work
    (sized_for K file (holds_row work) _ work (holds work))

pub flip_work : (K : ℕ) (file set work : List ℕ)
    → WorkLeft (samples_of K file) (flip_call K file set work).verdict.refusal.number work (flip_call K file set work).work
unfolding flip_call
flip_work K file set work =
    work_left (samples_of K file) (refusal_of (flip_out K file set work)) work
    (sized_for K file (λ (l : Layout). holds_set set l && holds_row work l) _ work (λ l t.
    holds work l (both (holds_set set l) (holds_row work l) t).1))
