-- A flip: accepted exactly when the file obeys, the set has a bit for each variant and no other, and the work area has N bytes.
-- Assumes nothing.
use mathlib.Core.Path.{◌≡◌, refl, sym, ap, ◌∙◌, subst}
use Prim.Native.Nat.{ℕ, zero, suc, ◌+◌, ◌-◌, ◌*◌, ◌/◌, ◌%◌, ◌^◌, ◌≤◌, ◌<◌}
use native.Mathlib.Nat.{zero-add, suc-add, div-eq_of_lt, pow-suc, div-div-eq-div-mul, zero-div}
use mathlib.Core.Bool.{false, ◌&&◌}
use mathlib.Core.Logic.{◌↔◌}
use mathlib.Core.List.{List, [], ◌∷◌}
use lib.ListN.{length, get_or, get_or-eq_default}
use lib.Dec.{eqb, leb}
use native.Mathlib.Omega.{arith}
use borrow.Author.Tests.{leb-true, eqb-true, le-leb, eq-eqb}
use Rattle.format.specs.declared.FileVariant.{FileVariant}
use Rattle.format.specs.Base.{Bytes, Out, ok, refused, map_out, need_of}
use Rattle.format.specs.Limits.{most_samples}
use Rattle.format.specs.Body.{Body}
use Rattle.format.specs.Variant.{file_variant, no_variant}
use Rattle.format.specs.Layout.{Layout, first_record, fixed_of}
use Rattle.format.specs.Header.{read_layout}
use Rattle.format.specs.File.{File, layout_of_file, file_bytes, Obeys, file_of, read_all, read_file}
use Rattle.format.specs.Reply.{refusal_of, holds_row, holds_set, checked, member, past_last, flip_out, flip_call}
use Rattle.format.proofs.Rules.{Holds, by_bind, by_map, both, never_both, split, by_need_of}
use Rattle.format.proofs.OffsetsLaws.{from_1_to_most}
use Rattle.format.proofs.HeaderLaws.{layout_read_back}
use Rattle.format.proofs.FileLaws.{records_read_back, IsFile, file_as_written}
use Rattle.format.proofs.CallRefusals.{flip_numbers, flip_refusals}
use Rattle.promises.proofs.CallLaws.{accepted, passed_of, itself, counted}

-- ---- what a set is

-- 01: "a flip set exactly ceil(M/8)" bytes; "The set has bit v for variant v"; 21 is given where it "has bits past the last variant"
pub record IsSet (M : ℕ) (set : List ℕ) : Type 0 where
  pub sized : length set ≡ (M + 7) / 8
  pub none_past : (v : FileVariant) → M ≤ v.0 → member set v ≡ false

-- a quotient by the next power of two is half of it
halved : (x k : ℕ) → x / 2 ^ suc k ≡ x / 2 ^ k / 2
halved x k = ap (λ (n : ℕ). x / n) (pow-suc 2 k) ∙ sym (div-div-eq-div-mul x (2 ^ k) 2)

-- where no bit is left from bit k on, none is left from a later one on
none_further : (x k i : ℕ) → x / 2 ^ k ≡ 0 → x / 2 ^ (i + k) ≡ 0
none_further x k zero e = rw zero-add e
none_further x k (suc i) e = rw suc-add (halved x (i + k) ∙ ap (λ (q : ℕ). q / 2) (none_further x k i e))

-- where none is left from bit i + k on, and those from bit k to there are clear, none is left from bit k on
none_left : (x k i : ℕ) → x / 2 ^ (i + k) ≡ 0 → ((j : ℕ) → k ≤ j → j < i + k → eqb (x / 2 ^ j % 2) 1 ≡ false) → x / 2 ^ k ≡ 0
none_left x k zero e clear = rw zero-add at e
none_left x k (suc i) e clear =
    let half : x / 2 ^ (i + k) / 2 ≡ 0 = sym (halved x (i + k)) ∙ (rw suc-add at e) in
    let even : x / 2 ^ (i + k) % 2 ≡ 1 → ⊥ = λ o. never_both (eq-eqb (x / 2 ^ (i + k) % 2) 1 o) (clear (i + k) (omega arith) (omega arith)) in
    none_left x k i (split (x / 2 ^ (i + k)) 0 (λ a. omega arith) (λ a. absurd (even (omega arith)))) (λ j a b. clear j a (omega arith))

byte_below : (i : ℕ) (bs : List ℕ) → Bytes bs → get_or bs i 0 < 256
byte_below i [] y = omega arith
byte_below zero (b ∷ bs) y = y.0
byte_below (suc i) (b ∷ bs) y = byte_below i bs y.1

module _ (M : ℕ) (set : List ℕ) (sized : length set ≡ (M + 7) / 8) where
  -- no bit past the last variant, by what is left of the last byte
  none_past_last : past_last M set ≡ 0 → (v : FileVariant) → M ≤ v.0 → member set v ≡ false
  none_past_last e v m =
      ap (λ (q : ℕ). eqb (q % 2) 1) {x = get_or set (v.0 / 8) 0 / 2 ^ (v.0 % 8)} {y = 0}
      (split (v.0 / 8) (M / 8)
      (λ a.
      let same : v.0 / 8 ≡ M / 8 = omega arith in
      let on : v.0 % 8 ≡ (v.0 % 8 - M % 8) + M % 8 = omega arith in
      rw (same, on) (none_further (get_or set (M / 8) 0) (M % 8) (v.0 % 8 - M % 8) e))
      (λ a. ap (λ (b : ℕ). b / 2 ^ (v.0 % 8)) (get_or-eq_default set 0 (omega arith)) ∙ zero-div (2 ^ (v.0 % 8))))

  -- and back
  none_is_left : Bytes set → ((v : FileVariant) → M ≤ v.0 → member set v ≡ false) → past_last M set ≡ 0
  none_is_left y none =
      let x : ℕ = get_or set (M / 8) 0 in
      let k : ℕ = M % 8 in
      let all : (8 - k) + k ≡ 8 = omega arith in
      none_left x k (8 - k) (rw all (div-eq_of_lt (byte_below (M / 8) set y))) (λ j a b.
      let v : ℕ = M / 8 * 8 + j in
      let there : v / 8 ≡ M / 8 = omega arith in
      let bit : v % 8 ≡ j = omega arith in
      rw (there, bit) at (none (file_variant v) (omega arith)))

-- ---- the call

-- what a flip is accepted for
pub record MayFlip (K : ℕ) (file set work : List ℕ) (f : File) : Type 0 where
  pub obeys : Obeys K f
  pub written : file ≡ file_bytes K f
  pub is_set : IsSet (length f.bodies) set
  pub room : f.samples ≤ length work

-- all records of a file that obeys pass
records_pass : (K : ℕ) (f : File) → Obeys K f → checked K (layout_of_file f) ≡ ok (layout_of_file f) []
unfolding read_all
records_pass K f h =
    let l : Layout = layout_of_file f in
    ap (map_out (λ (bodies : List Body). l))
    (records_read_back f.samples (file_variant 0) (first_record K (fixed_of l)) [] f.bodies
    (from_1_to_most most_samples f.samples h.layout.fixed.samples) h.bodies)

-- so of such a file a flip looks at the set and the work area
flip_of_file : (K : ℕ) (f : File) (set work : List ℕ) → zero < K → Obeys K f
    → flip_out K (file_bytes K f) set work
    ≡ need_of (no_variant (length f.bodies)) (eqb (length set) ((length f.bodies + 7) / 8) && leb f.samples (length work)) 10 0
    (need_of (no_variant (length f.bodies)) (eqb (past_last (length f.bodies) set) 0) 21 0 (ok (layout_of_file f) []))
unfolding file_bytes
flip_of_file K f set work p h =
    simp (layout_read_back K (layout_of_file f) p h.layout, counted f, records_pass K f h)

-- a flip that is accepted has checked the whole file
pub flip_whole : (K : ℕ) (file set work : List ℕ) → zero < K → Bytes file
    → Holds (λ (l : Layout) (left : List ℕ). (f : File) × Obeys K f × (file ≡ file_bytes K f)) (flip_out K file set work)
unfolding read_file
flip_whole K file set work p y =
    let Q : Layout → List ℕ → Type 0 = λ l left. (f : File) × Obeys K f × (file ≡ file_bytes K f) in
    by_bind (λ (l : Layout) (left : List ℕ). read_layout K file ≡ ok l left) Q (read_layout K file) _ (itself (read_layout K file)) (λ l left e.
    by_need_of Q _ (holds_set set l && holds_row work l) 10 0 _ (λ t.
    by_need_of Q _ (eqb (past_last (length l.bodies) set) 0) 21 0 (checked K l) (λ u.
    by_map (λ (bodies : List Body) (rest : List ℕ). read_all K l ≡ ok bodies rest) Q (read_all K l) (λ (bodies : List Body). l)
    (itself (read_all K l)) (λ bodies rest d.
    let w : IsFile K file (file_of l bodies) rest = subst (Holds (IsFile K file)) (read_is l left e bodies rest d) (file_as_written K file p y) in
    (file_of l bodies, w.obeys, w.written)))))
  where
    read_is : (l : Layout) (left : List ℕ) → read_layout K file ≡ ok l left → (bodies : List Body) (rest : List ℕ) → read_all K l ≡ ok bodies rest
        → read_file K file ≡ ok (file_of l bodies) rest
    read_is l left e bodies rest d = simp (e, d)

module _ (K : ℕ) (file set work : List ℕ) (p : zero < K) (y : Bytes set) where
  pub flip_passes : (f : File) → MayFlip K file set work f → flip_out K file set work ≡ ok (layout_of_file f) []
  flip_passes f m =
      ap (λ (bs : List ℕ). flip_out K bs set work) m.written
      ∙ flip_of_file K f set work p m.obeys
      ∙ simp (
        eq-eqb (length set) ((length f.bodies + 7) / 8) m.is_set.sized,
        le-leb f.samples (length work) m.room,
        eq-eqb (past_last (length f.bodies) set) 0 (none_is_left (length f.bodies) set m.is_set.sized y m.is_set.none_past),
      )

  may_flip : Bytes file → Holds (λ (l : Layout) (left : List ℕ). (f : File) × MayFlip K file set work f) (flip_out K file set work)
  may_flip z = go (flip_out K file set work) refl (flip_whole K file set work p z)
    where
      tests : (f : File) → Obeys K f → file ≡ file_bytes K f → (l : Layout) (left : List ℕ) → flip_out K file set work ≡ ok l left
          → MayFlip K file set work f
      tests f h w l left e =
          let M : ℕ = length f.bodies in
          let sizes = passed_of _ (eqb (length set) ((M + 7) / 8) && leb f.samples (length work)) 10 0 _ l left
          (sym (flip_of_file K f set work p h) ∙ ap (λ (bs : List ℕ). flip_out K bs set work) (sym w) ∙ e) in
          let each = both (eqb (length set) ((M + 7) / 8)) (leb f.samples (length work)) sizes.0 in
          let sized : length set ≡ (M + 7) / 8 = eqb-true (length set) ((M + 7) / 8) each.0 in
          let none : past_last M set ≡ 0 = eqb-true (past_last M set) 0 (passed_of _ (eqb (past_last M set) 0) 21 0 _ l left sizes.1).0 in
          record {
            obeys = h;
            written = w;
            is_set = record { sized = sized; none_past = none_past_last M set sized none };
            room = leb-true f.samples (length work) each.1;
          }

      go : (m : Out Layout) → flip_out K file set work ≡ m → Holds (λ (l : Layout) (left : List ℕ). (f : File) × Obeys K f × (file ≡ file_bytes K f)) m
          → Holds (λ (l : Layout) (left : List ℕ). (f : File) × MayFlip K file set work f) m
      go (refused why) e h = tt
      go (ok l left) e h = (h.0, tests h.0 h.1 h.2 l left e)

  -- DEMAND 2 of the flip: it is accepted exactly when the file is the bytes of a file that obeys, the set is one of its variants, and the work area has N
  -- bytes
  pub flip_exactly : Bytes file → ((flip_call K file set work).verdict.refusal.number ≡ 0) ↔ ((f : File) × MayFlip K file set work f)
  unfolding flip_call
  flip_exactly z = (
    λ e.
        let a = accepted flip_numbers refl (flip_out K file set work) (flip_refusals K file set work p z) e in
        subst (Holds (λ (l : Layout) (left : List ℕ). (f : File) × MayFlip K file set work f)) a.2 (may_flip z),
    λ h. ap (λ (out : Out Layout). (refusal_of out).number) (flip_passes h.0 h.1),
  )
