-- DEMAND 3 of calls one after another: from one flip that was accepted it follows that the next is accepted too, and what it leaves.
-- Assumes nothing.
use mathlib.Core.Path.{◌≡◌, refl, sym, ap, ap₂, ◌∙◌, subst, fun_ext}
use Prim.Native.Nat.{ℕ, zero, ◌≤◌, ◌<◌}
use mathlib.Core.Bool.{Bool, true, false, ◌&&◌}
use mathlib.Core.List.{List, [], ◌++◌}
use lib.ListN.{length, take, drop}
use lib.Seq.{take_at, drop_at}
use lib.Dec.{ltb, leb}
use native.Mathlib.Omega.{arith}
use borrow.Author.Tests.{ltb-true}
use Rattle.format.specs.declared.FileVariant.{FileVariant}
use Rattle.format.specs.Base.{Bytes, Out, ok, bind, need_of}
use Rattle.format.specs.Category.{just_one}
use Rattle.format.specs.Body.{Body}
use Rattle.format.specs.Variant.{file_variant, no_variant}
use Rattle.format.specs.Layout.{Layout}
use Rattle.format.specs.File.{File, layout_of_file, file_bytes, Obeys, variant_as, flip_file, pgen_file, flip_bytes}
use Rattle.format.specs.Reply.{Read, verdict, refusal_of, given, work_after, samples_of, holds_row, need_variant, member, check_out, check_call}
use Rattle.format.specs.Reply.{out_as, read_as, flip_call}
use Rattle.format.proofs.Rules.{Holds, never_both}
use Rattle.format.proofs.FlipBodiesLaws.{flip_count}
use Rattle.format.proofs.ContainerLaws
use Rattle.format.proofs.FlipLaws.{flip_obeys, pgen_laws, flip_xor, flip_twice}
use Rattle.format.proofs.HeaderLaws.{layout_read_back}
use Rattle.format.proofs.FileLaws.{file_unique}
use Rattle.promises.proofs.CallLaws.{counted, passes}
use Rattle.promises.proofs.ReadExactly.{VariantReads, variant_as_written}
use Rattle.promises.proofs.Readings.{row_as, IsReading}
use Rattle.promises.proofs.FlipExactly.{IsSet, MayFlip, flip_passes, flip_exactly}

-- ---- a read and the same read of the flipped file

-- reply and work area are the same, and all of the output but the first N bytes of an accepted read: there a member's are exchanged, categories 0 and 2 or
-- phases 1 and 2
pub record ReadsExchanged (exchange : Bool → List ℕ → List ℕ) (is_member : Bool) (N : ℕ) (before now : Read) : Type 0 where
  pub same_verdict : now.verdict ≡ before.verdict
  pub same_work : now.work ≡ before.work
  pub exchanged : before.verdict.accepted ≡ true → take N now.output ≡ exchange is_member (take N before.output)
  pub rest_same : drop N now.output ≡ drop N before.output
  pub refused_alike : before.verdict.accepted ≡ false → now.output ≡ before.output

-- what a read leaves, by what was read
abbrev reading : ℕ → List ℕ → List ℕ → Out (List ℕ) → Read
reading N output work out = record {
  verdict = verdict out;
  output = given (λ (row : List ℕ). row ++ drop N output) output out;
  work = work_after N (refusal_of out) work;
}

-- the tests of a read, of a file of M variants: of the buffers' sizes and of the variant
abbrev tested : ℕ → Bool → Bool → List ℕ → Out (List ℕ)
tested M sized there row = need_of (no_variant M) sized 10 0 (need_of (no_variant M) there 11 0 (ok row []))

compared : (exchange : Bool → List ℕ → List ℕ) → ((b : Bool) (row : List ℕ) → length (exchange b row) ≡ length row)
    → (b sized there : Bool) (M N : ℕ) (row output work : List ℕ) → (there ≡ true → length row ≡ N)
    → ReadsExchanged exchange b N (reading N output work (tested M sized there row)) (reading N output work (tested M sized there (exchange b row)))
compared exchange as_long b true true M N row output work n =
    let turned : length (exchange b row) ≡ N = as_long b row ∙ n refl in
    record {
      same_verdict = refl;
      same_work = refl;
      exchanged = λ t. take_at (exchange b row) (drop N output) N turned ∙ sym (ap (exchange b) (take_at row (drop N output) N (n refl)));
      rest_same = drop_at (exchange b row) (drop N output) N turned ∙ sym (drop_at row (drop N output) N (n refl));
      refused_alike = λ t. never_both refl t;
    }
compared exchange as_long b true false M N row output work n =
    record { same_verdict = refl; same_work = refl; exchanged = λ t. never_both t refl; rest_same = refl; refused_alike = λ t. refl }
compared exchange as_long b false there M N row output work n =
    record { same_verdict = refl; same_work = refl; exchanged = λ t. never_both t refl; rest_same = refl; refused_alike = λ t. refl }

module _ (K : ℕ) (p : zero < K) where
  -- the refusal's number, and the file as a flip leaves it
  abbrev pub number : List ℕ → List ℕ → List ℕ → ℕ
  number file set work = (flip_call K file set work).verdict.refusal.number

  abbrev pub after : List ℕ → List ℕ → List ℕ → List ℕ
  after file set work = (flip_call K file set work).file

  -- ---- a flip that may be made

  -- what it leaves, on the bytes and as a file
  left_bytes : (file set work : List ℕ) (f : File) → Bytes set → MayFlip K file set work f → after file set work ≡ flip_bytes K (member set) file
  unfolding flip_call
  left_bytes file set work f z m = ap (given (λ (l : Layout). flip_bytes K (member set) file) file) (flip_passes K file set work p z f m)

  left_file : (file set work : List ℕ) (f : File) → Bytes set → MayFlip K file set work f → after file set work ≡ file_bytes K (flip_file (member set) f)
  unfolding flip_bytes
  left_file file set work f z m =
      left_bytes file set work f z m
      ∙ ContainerLaws.stored_flip (pgen_file K) (pgen_laws K p) (member set) file f m.obeys m.written

  flip_accepted : (file set work : List ℕ) (f : File) → Bytes set → MayFlip K file set work f → number file set work ≡ 0
  unfolding flip_call
  flip_accepted file set work f z m = ap (λ (out : Out Layout). (refusal_of out).number) (flip_passes K file set work p z f m)

  -- N of a file that obeys
  samples_are : (file : List ℕ) (f : File) → Obeys K f → file ≡ file_bytes K f → samples_of K file ≡ f.samples
  unfolding file_bytes
  samples_are file f h w =
      ap (λ (bs : List ℕ). samples_of K bs) w
      ∙ ap (given (λ (l : Layout). l.samples) 0) (layout_read_back K (layout_of_file f) p h.layout)

  -- the next one, of a set and with a work area that are in order
  next_may : (file set work : List ℕ) (f : File) → Bytes set → MayFlip K file set work f → (second work₂ : List ℕ) → IsSet (length f.bodies) second
      → f.samples ≤ length work₂ → MayFlip K (after file set work) second work₂ (flip_file (member set) f)
  next_may file set work f z m second work₂ s r = record {
    obeys = flip_obeys K (member set) f m.obeys;
    written = left_file file set work f z m;
    is_set = subst (λ (M : ℕ). IsSet M second) (sym (flip_count (member set) (file_variant 0) false f.bodies)) s;
    room = r;
  }

  -- ---- a read of a file that obeys

  module _ (what : ℕ → List ℕ → Body → List ℕ) (exchange : Bool → List ℕ → List ℕ) (kept : IsReading K what exchange) where
    read_of_file : (f : File) (v : FileVariant) (output work : List ℕ) → Obeys K f
        → out_as what K (file_bytes K f) v output work
        ≡ tested (length f.bodies) (leb f.samples (length output) && leb f.samples (length work)) (ltb v.0 (length f.bodies)) (row_as what f v)
    unfolding file_bytes
    read_of_file f v output work h =
        let l : Layout = layout_of_file f in
        let sized : Bool = leb f.samples (length output) && leb f.samples (length work) in
        ap (λ (out : Out Layout). bind out (λ m left.
        need_of (no_variant (length m.bodies)) (holds_row output m && holds_row work m) 10 0 (need_variant v m (variant_as what K m v))))
        (layout_read_back K l p h.layout)
        ∙ ap (λ (M : ℕ). need_of (no_variant M) sized 10 0 (need_of (no_variant M) (ltb v.0 M) 11 0 (variant_as what K l v))) (counted f)
        ∙ ap (need_of (no_variant (length f.bodies)) sized 10 0) (go (ltb v.0 (length f.bodies)) refl)
      where
        go : (b : Bool) → ltb v.0 (length f.bodies) ≡ b
            → need_of (no_variant (length f.bodies)) b 11 0 (variant_as what K (layout_of_file f) v)
            ≡ need_of (no_variant (length f.bodies)) b 11 0 (ok (row_as what f v) [])
        go true t = kept.reads f v h (ltb-true v.0 (length f.bodies) t)
        go false t = refl

    -- a row has N numbers
    row_counted : (file : List ℕ) (f : File) (v : FileVariant) → Bytes file → Obeys K f → file ≡ file_bytes K f → v.0 < length f.bodies
        → length (row_as what f v) ≡ f.samples
    unfolding file_bytes
    row_counted file f v y h w there =
        let l : Layout = layout_of_file f in
        let reads : VariantReads what K l v (row_as what f v)
        = subst (Holds (λ (x left : List ℕ). VariantReads what K l v x)) (kept.reads f v h there) (variant_as_written K file p y l h.layout w what v) in
        kept.wide l v (row_as what f v) h.layout (omega (arith, counted f)) reads

  -- ---- one call after another

  module _ (file set work : List ℕ) (y : Bytes file) (z : Bytes set) (q : number file set work ≡ 0) where
    -- what the first call was accepted for
    first : (f : File) × MayFlip K file set work f
    first = (flip_exactly K file set work p z y).0 q

    room_for : (lent : List ℕ) → samples_of K file ≤ length lent → first.0.samples ≤ length lent
    room_for lent r = subst (λ (N : ℕ). N ≤ length lent) (samples_are file first.0 first.1.obeys first.1.written) r

    -- DEMAND 3: "the file is still accepted": a whole-file check of what the flip left
    pub flip_call_checked : (work₂ : List ℕ) → samples_of K file ≤ length work₂ → (check_call K (after file set work) work₂).reply.verdict.refusal.number ≡ 0
    unfolding check_call
    flip_call_checked work₂ r =
        ap (λ (out : Out Layout). (refusal_of out).number)
        (ap (λ (bs : List ℕ). check_out K bs work₂) (left_file file set work first.0 z first.1)
        ∙ passes K (flip_file (member set) first.0) work₂ p (flip_obeys K (member set) first.0 first.1.obeys) (room_for work₂ r))

    -- DEMAND 3: a flip that was accepted, then one with the same set: it is accepted, and "twice restores the file"
    pub flip_call_twice : (work₂ : List ℕ) → samples_of K file ≤ length work₂
        → (number (after file set work) set work₂ ≡ 0) × (after (after file set work) set work₂ ≡ file)
    flip_call_twice work₂ r =
        let f : File = first.0 in
        let m : MayFlip K (after file set work) set work₂ (flip_file (member set) f)
        = next_may file set work f z first.1 set work₂ first.1.is_set (room_for work₂ r) in (
          flip_accepted (after file set work) set work₂ (flip_file (member set) f) z m,
          left_bytes (after file set work) set work₂ (flip_file (member set) f) z m
              ∙ ap (flip_bytes K (member set)) (left_bytes file set work f z first.1)
              ∙ flip_twice K (member set) file p y,
        )

    -- DEMAND 3: two sets that are accepted each. One after the other they are accepted, the set of those in just one of the two is accepted, and this
    -- leaves byte for byte what they leave
    pub flip_call_xor : (second work₂ both work₃ : List ℕ) → Bytes second → Bytes both → number file second work₂ ≡ 0
        → length both ≡ length set → ((v : FileVariant) → member both v ≡ just_one (member second v) (member set v)) → samples_of K file ≤ length work₃
        → (number (after file set work) second work₂ ≡ 0) × (number file both work₃ ≡ 0)
        × (after (after file set work) second work₂ ≡ after file both work₃)
    flip_call_xor second work₂ both work₃ z₂ z₃ q₂ n e r =
        let f : File = first.0 in
        let g = (flip_exactly K file second work₂ p z₂ y).0 q₂ in
        let same : g.0 ≡ f = file_unique K g.0 f p g.1.obeys first.1.obeys (sym g.1.written ∙ first.1.written) in
        let m₂ : MayFlip K file second work₂ f = subst (MayFlip K file second work₂) same g.1 in
        let m : MayFlip K (after file set work) second work₂ (flip_file (member set) f)
        = next_may file set work f z first.1 second work₂ m₂.is_set m₂.room in
        let m₃ : MayFlip K file both work₃ f = record {
          obeys = first.1.obeys;
          written = first.1.written;
          is_set = record {
            sized = n ∙ first.1.is_set.sized;
            none_past = λ v a. e v ∙ ap₂ just_one (m₂.is_set.none_past v a) (first.1.is_set.none_past v a);
          };
          room = room_for work₃ r;
        } in (
          flip_accepted (after file set work) second work₂ (flip_file (member set) f) z₂ m,
          flip_accepted file both work₃ f z₃ m₃,
          left_bytes (after file set work) second work₂ (flip_file (member set) f) z₂ m
              ∙ ap (flip_bytes K (member second)) (left_bytes file set work f z first.1)
              ∙ flip_xor K (member second) (member set) file p y
              ∙ ap (λ (x : FileVariant → Bool). flip_bytes K x file) (sym (fun_ext e))
              ∙ sym (left_bytes file both work₃ f z₃ m₃),
        )

    -- what is read once the set is flipped, of any variant and with any buffers
    module _ (what : ℕ → List ℕ → Body → List ℕ) (exchange : Bool → List ℕ → List ℕ) (kept : IsReading K what exchange)
        (v : FileVariant) (output work₂ : List ℕ) where
      abbrev f : File
      f = first.0

      abbrev sized : Bool
      sized = leb f.samples (length output) && leb f.samples (length work₂)

      abbrev there : Bool
      there = ltb v.0 (length f.bodies)

      before_is : read_as what K file v output work₂ ≡ reading f.samples output work₂ (tested (length f.bodies) sized there (row_as what f v))
      before_is =
          ap₂ (λ (N : ℕ) (out : Out (List ℕ)). reading N output work₂ out) (samples_are file f first.1.obeys first.1.written)
          (ap (λ (bs : List ℕ). out_as what K bs v output work₂) first.1.written ∙ read_of_file what exchange kept f v output work₂ first.1.obeys)

      turned : (b : Bool) → there ≡ b
          → need_of (no_variant (length f.bodies)) b 11 0 (ok (row_as what (flip_file (member set) f) v) [])
          ≡ need_of (no_variant (length f.bodies)) b 11 0 (ok (exchange (member set v) (row_as what f v)) [])
      turned true t = ap (λ (r : List ℕ). ok r []) (kept.flips (member set) f v first.1.obeys (ltb-true v.0 (length f.bodies) t))
      turned false t = refl

      now_is : read_as what K (after file set work) v output work₂
          ≡ reading f.samples output work₂ (tested (length f.bodies) sized there (exchange (member set v) (row_as what f v)))
      now_is =
          let g : File = flip_file (member set) f in
          let h : Obeys K g = flip_obeys K (member set) f first.1.obeys in
          let w : after file set work ≡ file_bytes K g = left_file file set work f z first.1 in
          ap₂ (λ (N : ℕ) (out : Out (List ℕ)). reading N output work₂ out) (samples_are (after file set work) g h w)
          (ap (λ (bs : List ℕ). out_as what K bs v output work₂) w
          ∙ read_of_file what exchange kept g v output work₂ h
          ∙ ap (λ (M : ℕ). tested M sized (ltb v.0 M) (row_as what g v)) (flip_count (member set) (file_variant 0) false f.bodies)
          ∙ ap (need_of (no_variant (length f.bodies)) sized 10 0) (turned there refl))

      -- DEMAND 3: "members read with categories 0 and 2 exchanged", phases 1 and 2 too, whatever else a read gives as before
      pub flip_call_reads : ReadsExchanged exchange (member set v) (samples_of K file)
          (read_as what K file v output work₂) (read_as what K (after file set work) v output work₂)
      flip_call_reads =
          let N_is : samples_of K file ≡ f.samples = samples_are file f first.1.obeys first.1.written in
          let now : Read = read_as what K (after file set work) v output work₂ in
          subst (λ (N : ℕ). ReadsExchanged exchange (member set v) N (read_as what K file v output work₂) now) (sym N_is)
          (subst (λ (b : Read). ReadsExchanged exchange (member set v) f.samples b now) (sym before_is)
          (subst (ReadsExchanged exchange (member set v) f.samples _) (sym now_is)
          (compared exchange kept.as_long (member set v) sized there (length f.bodies) f.samples (row_as what f v) output work₂ (λ t.
          row_counted what exchange kept file f v y first.1.obeys first.1.written (ltb-true v.0 (length f.bodies) t)))))

      -- "all others as before"
      pub flip_call_others : member set v ≡ false → read_as what K (after file set work) v output work₂ ≡ read_as what K file v output work₂
      flip_call_others n =
          now_is
          ∙ ap (λ (r : List ℕ). reading f.samples output work₂ (tested (length f.bodies) sized there r))
          (ap (λ (b : Bool). exchange b (row_as what f v)) n ∙ kept.none (row_as what f v))
          ∙ sym before_is
