-- A file that the whole-file check accepts: the pass begins with it as it is, and leaves it with the phases of members flipped.
-- Assumes nothing.
use mathlib.Core.Path.{◌≡◌, refl, sym, ap, ap₂, ◌∙◌, subst}
use Prim.Native.Nat.{ℕ, suc, ◌+◌, ◌/◌, ◌%◌, ◌≤◌, ◌<◌}
use native.Mathlib.Nat.{mod-lt}
use native.Mathlib.Omega.{arith}
use mathlib.Core.Bool.{Bool, true, false, not, ◌&&◌}
use mathlib.Core.List.{List, [], ◌∷◌, ◌++◌, map}
use lib.ListN.{length, get_or, drop, replicate, length-map}
use lib.Dec.{lit<}
use borrow.Author.Tests.{lt-ltb}
use Rattle.format.specs.declared.Fields.{Fields}
use Rattle.format.specs.declared.FileVariant.{FileVariant}
use Rattle.format.specs.Base.{pick, Bytes}
use Rattle.format.specs.Limits.{most_samples, most_variants, variants_to_a_block}
use Rattle.format.specs.Phase.{Phases, no_phases, phased, has_phases, flip_phases}
use Rattle.format.specs.Body.{type_phased, Body, body_type, body_leans, body_bytes}
use Rattle.format.specs.Variant.{file_variant, next_variant, in_block}
use Rattle.format.specs.Packed.{four, eight, limit}
use Rattle.format.specs.Layout.{unblocked, form_of, fields_of, first_record, header_bytes, Layout, fixed_of, arrays_of, body_lengths, in_parts, layout_bytes}
use Rattle.format.specs.Layout.{TypesAllowed}
use Rattle.format.specs.File.{File, layout_of_file, file_bytes, BodiesFit, Obeys}
use Rattle.format.proofs.Rules.{never_both, split}
use Rattle.format.proofs.OffsetsLaws.{offsets_fit, from_1_to_most}
use Rattle.format.proofs.ArraysLaws.{header_length}
use Rattle.format.proofs.PackedLaws.{limit_positive}
use Rattle.format.proofs.BodyLaws.{body_phased}
use Rattle.format.proofs.FileLaws.{file_exactly}
use Rattle.format.proofs.FlipTypeLaws.{body_allowed}
use Rattle.head_index.specs.VariantsAt.{type_at}
use Rattle.head_blocks.specs.Parts.{fixed}
use Rattle.head_blocks.proofs.Sizes.{known_bytes}
use Rattle.head_records.specs.Extent.{record_type}
use Rattle.head_records.proofs.FoundLaws.{types_found, sizes_found}
use Rattle.flip_phase.specs.Accepted.{Accepted}
use Rattle.flip_phase.specs.AllRecords.{turn_all, records_bytes, phases_turned, turned_if_read, phases_flipped}
use Rattle.flip_phase.specs.AllRecords.{NonePhased, PhasedIfAny, AllPassed}
use Rattle.flip_phase.proofs.PassLaws.{first_leans, Turning, turning_last}

abbrev K : ℕ
K = variants_to_a_block

-- a file's first record leans on nothing
first_stands : (N : ℕ) (bodies : List Body) → BodiesFit N [] bodies → TypesAllowed K (file_variant 0) (map body_type bodies) → first_leans bodies ≡ false
first_stands N [] f t = refl
first_stands N (body ∷ bodies) f t = go (body_leans body) (sym (body_allowed N [] body (in_block K (file_variant 0)) f.0) ∙ t.0)
  where
    go : (b : Bool) → not (true && b) ≡ true → b ≡ false
    go true e = never_both e refl
    go false e = refl

-- records without phase tracks stay
none_turned : (N : ℕ) (member : FileVariant → Bool) (anchor : List ℕ) (v : FileVariant) (bodies : List Body) → BodiesFit N anchor bodies
    → ((i : ℕ) → i < length bodies → type_phased (get_or (map body_type bodies) i 0) ≡ false) → turn_all member v bodies ≡ bodies
none_turned N member anchor v [] f none = refl
none_turned N member anchor v (body ∷ bodies) f none =
    ap₂ ◌∷◌
    (ap (λ (ps : Phases). record { main = body.main; phases = ps }) (go body.phases (sym (body_phased N anchor body f.0) ∙ none 0 (omega arith))))
    (none_turned N member _ (next_variant v) bodies f.1 (λ i l. none (suc i) (omega arith)))
  where
    go : (ps : Phases) → has_phases ps ≡ false → flip_phases (member v) ps ≡ ps
    go no_phases e = refl
    go (phased t) e = never_both refl e

-- ---- in terms of the file's own fields

module _ (member : FileVariant → Bool) (bs : List ℕ) (g : File) (h : Obeys K g) (written : bs ≡ file_bytes K g)
    (read : phases_flipped K member bs ≡ phases_turned K member g) where
  abbrev l : Layout
  l = layout_of_file g

  abbrev f : Fields
  f = fields_of (fixed_of l)

  abbrev top : List ℕ
  top = header_bytes K (fixed_of l) (arrays_of K l)

  counted : length l.bodies ≡ length g.bodies
  counted = length-map g.bodies (body_bytes g.samples)

  begins : (row : List ℕ) → g.samples ≤ length row → (start : ℕ) → start ≡ first_record K (fixed_of l)
      → Turning member f (phases_flipped K member bs) (length bs) row bs row start 0 0
  unfolding file_bytes layout_bytes in_parts phases_turned
  begins row room start e =
      let stands : first_leans g.bodies ≡ false = first_stands g.samples g.bodies h.bodies h.layout.types in
      record {
        top = top;
        types = l.types;
        lengths = body_lengths l;
        typed = λ records u lt. types_found K l (lit< tt) h.layout records u lt;
        sized = λ records u lt. sizes_found K l (lit< tt) h.layout records u lt;
        done = [];
        rest = g.bodies;
        types_left = refl;
        lengths_left = refl;
        all = omega (arith, counted);
        is = written;
        start_is = omega (arith, e, header_length K (fixed_of l) (arrays_of K l) (lit< tt) (offsets_fit K l (lit< tt) h.layout) h.layout.columns);
        becomes = sym read;
        anchor = [];
        fit = h.bodies;
        front = λ q. never_both q stands;
        counted = λ q. never_both q stands;
        behind = refl;
        kept = refl;
        long = refl;
        room = room;
        variants = from_1_to_most most_variants (fixed_of l).variants h.layout.fixed.variants;
        samples = from_1_to_most most_samples g.samples h.layout.fixed.samples;
      }

  none_flips : NonePhased bs f → bs ≡ phases_flipped K member bs
  unfolding file_bytes layout_bytes in_parts phases_turned
  none_flips n =
      let typed : (i : ℕ) → i < length g.bodies → type_phased (get_or l.types i 0) ≡ false
      = λ i lt.
      let lt' : i < length l.bodies = omega (arith, counted) in
      ap type_phased
      (sym (ap (λ (x : List ℕ). record_type K (fixed_of l) x (file_variant i)) written
      ∙ types_found K l (lit< tt) h.layout (records_bytes g.samples g.bodies) (file_variant i) lt'))
      ∙ n.none i lt' in
      written
      ∙ ap (λ (bodies : List Body). top ++ records_bytes g.samples bodies)
      (sym (none_turned g.samples member [] (file_variant 0) g.bodies h.bodies typed))
      ∙ sym read

-- ---- in the code's own terms

module _ (bs : List ℕ) (y : Bytes bs) (f : Fields) (w : Accepted K bs f) where
  exactly : Obeys K w.whole × (bs ≡ file_bytes K w.whole)
  exactly = (file_exactly K bs w.whole (lit< tt) y).0 w.accepted

  read_as : (member : FileVariant → Bool) → phases_flipped K member bs ≡ phases_turned K member w.whole
  unfolding phases_flipped
  read_as member = ap (turned_if_read K member bs) w.accepted

  pub some_variants : f.variants ≤ most_variants
  some_variants =
      rw (ap (λ (z : Fields). z.variants) w.fields_are)
      (from_1_to_most most_variants (fixed_of (layout_of_file w.whole)).variants exactly.0.layout.fixed.variants)

  pub turning_first : (member : FileVariant → Bool) (row : List ℕ) → f.samples ≤ length row → (start : ℕ) → start ≡ first_record K (fixed f)
      → Turning member f (phases_flipped K member bs) (length bs) row bs row start 0 0
  turning_first member =
      subst (λ (z : Fields). (row : List ℕ) → z.samples ≤ length row → (start : ℕ) → start ≡ first_record K (fixed z)
      → Turning member z (phases_flipped K member bs) (length bs) row bs row start 0 0)
      (sym w.fields_are) (begins member bs w.whole exactly.0 exactly.1 (read_as member))

  none_flipped : (member : FileVariant → Bool) → NonePhased bs f → bs ≡ phases_flipped K member bs
  none_flipped member =
      subst (λ (z : Fields). NonePhased bs z → bs ≡ phases_flipped K member bs) (sym w.fields_are)
      (none_flips member bs w.whole exactly.0 exactly.1 (read_as member))

  pub none_passed : (any : Bool) → PhasedIfAny bs f any → any ≡ false → (member : FileVariant → Bool) (row row₁ : List ℕ)
      → row₁ ≡ replicate f.samples 0 ++ drop f.samples row → AllPassed member f.samples row bs bs row₁
  none_passed any p e member row row₁ d = record { file_is = none_flipped member (p.none e); row_is = d }

pub all_passed : {member : FileVariant → Bool} {f : Fields} {bs : List ℕ} {size : ℕ} {row file row₁ : List ℕ} {start v h : ℕ}
    → Turning member f (phases_flipped K member bs) size row file row₁ start v h → f.variants ≤ v → (row₂ : List ℕ)
    → row₂ ≡ replicate f.samples 0 ++ drop f.samples row₁ → AllPassed member f.samples row bs file row₂
all_passed {f = f} i l row₂ e = record { file_is = turning_last i l; row_is = e ∙ ap (◌++◌ (replicate f.samples 0)) i.behind }

-- ---- the scan of the types

pub record Scanned (file : List ℕ) (f : Fields) (v : ℕ) : Type 0 where
  pub none : (u : ℕ) → u < v → type_phased (record_type K (fixed f) file (file_variant u)) ≡ false
  pub few : f.variants ≤ most_variants

pub scan_starts : (file : List ℕ) (f : Fields) → f.variants ≤ most_variants → Scanned file f 0
scan_starts file f l = record { none = λ u k. absurd (omega arith); few = l }

module _ {file : List ℕ} {f : Fields} {v : ℕ} (i : Scanned file f v) where
  pub scan_on : (type : ℕ) → type ≡ record_type K (fixed f) file (file_variant v) → (b : Bool) → b ≡ type_phased type → b ≡ false → Scanned file f (v + 1)
  scan_on type t b e q = record {
    none = λ u k.
        split v u
        (λ j. let same : u ≡ v = omega arith in rw same (ap type_phased (sym t) ∙ sym e ∙ q))
        (λ j. i.none u j);
    few = i.few;
  }

  pub scan_ends : f.variants ≤ v → PhasedIfAny file f false
  scan_ends l = record { none = λ e. record { none = λ u k. i.none u (omega arith) } }

pub scan_stops : (file : List ℕ) (f : Fields) → PhasedIfAny file f true
scan_stops file f = record { none = λ e. never_both refl e }

-- a type of 4 bits has no bit 4, and where there are no blocks every type is 0
low_type : (type : ℕ) → type < 16 → type_phased type ≡ false
low_type type l = let z : type / 16 ≡ 0 = omega arith in rw z refl

pub none_of_4_bits : (file : List ℕ) (f : Fields) → f.form % 16 < 4 → PhasedIfAny file f false
unfolding record_type type_at
none_of_4_bits file f h =
    record { none = λ e. record { none = λ v l. go (unblocked f.mode) (type_at K (fixed f) file (file_variant v)) (small (file_variant v)) } }
  where
    small : (v : FileVariant) → type_at K (fixed f) file v < 16
    small v =
        subst (λ (b : Bool). type_at K (fixed f) file v < limit (pick b four eight)) (lt-ltb (f.form % 16) 4 h)
        (mod-lt _ (limit_positive (form_of (fixed f)).type_bits))

    go : (b : Bool) (type : ℕ) → type < 16 → type_phased (pick b 0 type) ≡ false
    go true type l = refl
    go false type l = low_type type l

pub ruleset scan_laws = (none_of_4_bits, scan_starts, scan_on, scan_ends, scan_stops)

pub ruleset records_laws = (known_bytes, some_variants, turning_first, all_passed)

pub ruleset file_laws = (known_bytes, some_variants, none_passed)
