-- A layout that an index and its data stand for, stepped through: what each step gives is what a read of its variant gives.
-- Assumes nothing.
use Rattle.std.specs.Prelude.{Result, Ok, Err, is_ok, ⊤}
use mathlib.Core.Path.{◌≡◌, refl, sym, ap, ◌∙◌, subst}
use Prim.Native.Nat.{ℕ, suc, ◌+◌, ◌≤◌, ◌<◌}
use mathlib.Core.Bool.{Bool, true, false, not, ◌&&◌, ◌||◌}
use mathlib.Core.List.{List, [], ◌++◌}
use lib.ListN.{length, take, drop, get_or, replicate, length-append, length-drop, length-replicate}
use lib.Seq.{take_at, drop_at, length-take-le}
use lib.Dec.{lit<}
use native.Mathlib.Omega.{arith}
use Rattle.format.specs.declared.FileVariant.{FileVariant}
use Rattle.format.specs.declared.Refusal.{Refusal}
use Rattle.format.specs.Base.{pick, Bytes, Out, ok, refused, bind, map_out}
use Rattle.format.specs.Limits.{variants_to_a_block}
use Rattle.format.specs.Body.{Body, type_leans, body_categories, read_body}
use Rattle.format.specs.Variant.{file_variant, next_variant, in_block, anchor}
use Rattle.format.specs.Layout.{fields_of, Layout, LayoutObeys, fixed_of, record_start, type_allowed}
use Rattle.format.specs.File.{type_of, variant_leans, read_over, read_variant, over_as, variant_as}
use Rattle.format.specs.Reply.{verdict, answer, given}
use Rattle.format.proofs.Rules.{by_test}
use Rattle.format.proofs.Refuses.{Refuses, RecordNumber}
use Rattle.format.proofs.AnchorLaws.{type_allowed_in, anchor_after_leaning, anchor_after_standing}
use Rattle.format.proofs.FileLaws.{one_type_each}
use Rattle.format.proofs.CallRefusals.{variant_refusals}
use Rattle.head_index.specs.Stored.{Stored}
use Rattle.head_index.proofs.StoredLaws.{stored_bodies}
use Rattle.head_index.proofs.InOrderLaws.{stands_alike}
use Rattle.head_index.proofs.RecordTurns.{record_over, row_count}
use Rattle.head_records.specs.Extent.{record_type, record_size}
use Rattle.head_records.proofs.AcceptedLaws.{type_is}
use Rattle.head_places.specs.declared.Place.{Place}
use Rattle.head_places.specs.Located.{HasLayout, place_in, Located}
use Rattle.head_places.proofs.AcceptedLaws.{end_inside, place_is}
use Rattle.read_file.specs.Rows.{row_replied}
use Rattle.read_file.proofs.Cut.{body_is_bytes, recorded_is}
use Rattle.read_file.proofs.LentLaws.{read_too}
use Rattle.call_rows.specs.declared.Rows.{Rows}
use Rattle.call_rows.specs.Calls.{anchor_reply, anchor_told, type_follows, next_record, Left, alone, leaning, read_at, over_nothing, over_anchor}
use Rattle.call_rows.specs.Calls.{stepped, next_row_in}
use Rattle.call_rows.proofs.StateLaws.{reply_of_ok, reply_of_record, state_fine}
use Rattle.call_rows.proofs.RecordLaws.{record_there, next_is}
use Rattle.read_record.specs.Recorded.{named_left}

abbrev K : ℕ
K = variants_to_a_block

-- the state before variant v of a layout
abbrev pub state : Layout → ℕ → Result ⊤ Refusal → Rows
state l v reply = record { fields = fields_of (fixed_of l); variant = file_variant v; start = record_start K l (file_variant v); anchor = reply }

-- how an anchor reads is what the state and the work area tell
pub data Told (N : ℕ) (reply : Result ⊤ Refusal) (work : List ℕ) (m : Out (List ℕ)) : Type 0 where
  was_accepted : (left : List ℕ) → anchor_reply reply ≡ Ok tt → m ≡ ok (take N work) left → Told N reply work m
  was_refused : (why : Refusal) → anchor_reply reply ≡ Err why → RecordNumber why.number → m ≡ refused why → Told N reply work m

-- so the state tells of an anchor
pub told_known : {N : ℕ} {reply : Result ⊤ Refusal} {work : List ℕ} {m : Out (List ℕ)} → Told N reply work m → anchor_told reply ≡ true
unfolding anchor_told
told_known (was_accepted left z e) = rw z refl
told_known (was_refused why q c e) = rw q c

-- the state and the work area stand before variant v; work₀ is the work area at the start
pub record Before (l : Layout) (work₀ : List ℕ) (v : ℕ) (rows : Rows) (work : List ℕ) : Type 0 where
  pub reply : Result ⊤ Refusal
  pub state_is : rows ≡ state l v reply
  pub reached : v ≤ length l.bodies
  pub holds : length work ≡ length work₀
  pub rest_is : drop l.samples work ≡ drop l.samples work₀
  pub told : v < length l.bodies → variant_leans l (file_variant v) ≡ true
      → Told l.samples reply work (read_over K l [] (anchor K l.types (file_variant v)))

-- what a step leaves is what the read m gives, and the next variant's turn has come
pub record Stepped (l : Layout) (work₀ : List ℕ) (v : ℕ) (output : List ℕ) (m : Out (List ℕ)) (left : Left) : Type 0 where
  pub verdict_is : left.verdict ≡ verdict m
  pub output_is : left.output ≡ given (λ (row : List ℕ). row ++ drop l.samples output) output m
  pub next : Before l work₀ (suc v) left.rows left.work

-- what a row holds behind its first N bytes
behind : (N : ℕ) (first row : List ℕ) → length first ≡ N → N ≤ length row
    → (length (first ++ drop N row) ≡ length row) × (drop N (first ++ drop N row) ≡ drop N row)
behind N first row e h = (omega (arith, length-append first (drop N row), length-drop N row), drop_at first (drop N row) N e)

-- two tests that hold; one that is asked only where another holds
pair : (a b : Bool) → a ≡ true → b ≡ true → a && b ≡ true
pair a b p q = rw (p, q) refl

only_where : (a b : Bool) → (a ≡ true → b ≡ true) → not a || b ≡ true
only_where true b k = k refl
only_where false b k = refl

module _ (index held : List ℕ) (y : Bytes held) (l : Layout) (a : Stored K index held l) (v : ℕ) (b : v < length l.bodies) where
  abbrev N : ℕ
  N = l.samples

  abbrev here : FileVariant
  here = file_variant v

  abbrev at : Place
  at = place_in l here

  -- ---- the record is found

  abbrev has : HasLayout index held (fields_of (fixed_of l))
  has = record { layout = l; stored = a; fields_are = refl }

  obeys : LayoutObeys K l
  obeys = a.obeys

  abbrev located : Located index held (fields_of (fixed_of l)) here at
  located = record { has = has; below = b; is = refl }

  abbrev size : ℕ
  size = record_size K (fixed_of l) index here

  abbrev type : ℕ
  type = record_type K (fixed_of l) index here

  found_place : ◌≡◌ {A = Place} (record { start = record_start K l here; end = record_start K l here + size; record_type = type }) at
  found_place = place_is has b refl refl refl

  same_type : type ≡ type_of l here
  same_type = type_is a {f = fields_of (fixed_of l)} refl here b

  type_is_allowed : type_allowed (in_block K here) type ≡ true
  type_is_allowed =
      ap (type_allowed (in_block K here)) same_type
      ∙ type_allowed_in K l.types (lit< tt) obeys.types here (omega (arith, one_type_each K l obeys))

  module _ (reply : Result ⊤ Refusal) where
    abbrev st : Rows
    st = state l v reply

    pub follows : (variant_leans l here ≡ true → anchor_told reply ≡ true) → type_follows st type ≡ true
    unfolding type_follows
    follows k =
        pair (type_allowed (in_block K here) type) (not (type_leans type) || anchor_told reply) type_is_allowed
        (only_where (type_leans type) (anchor_told reply) (λ t. k (ap type_leans (sym same_type) ∙ t)))

    pub found_there : (output work : ℕ) → N ≤ output → N ≤ work → type_follows st type ≡ true → next_record st index held output work ≡ ok at []
    found_there output work o w t =
        sym (record_there st index held t (end_inside has b refl refl)
        ∙ next_is st index held output work (state_fine st output work obeys.fixed.variants obeys.fixed.samples o w b))
        ∙ ap (λ (p : Place). ok p []) found_place

    -- and read
    over_row : (row : List ℕ) → read_at st held at row ≡ row_replied N row (read_over K l (take N row) here)
    unfolding over_as
    over_row row =
        ap (named_left here) (recorded_is located row)
        ∙ read_too N here row (read_body (record_start K l (next_variant here)) N (take N row) (type_of l here) (get_or l.bodies v []))

    -- ---- what a step leaves

    module _ (work₀ work output : List ℕ) (h : length work ≡ length work₀) (rest : drop N work ≡ drop N work₀)
        (o : N ≤ length output) (w : N ≤ length work) where
      left_is : type_follows st type ≡ true → next_row_in st index held output work
          ≡ pick (variant_leans l here) (over_anchor st held at output work) (over_nothing st held at output work)
      unfolding next_row_in
      left_is t = ap (stepped st held output work) (found_there (length output) (length work) o w t)

      more_types : suc v < length l.bodies → suc v < length l.types
      more_types m = omega (arith, one_type_each K l obeys)

      -- ---- a record that leans on none

      module _ (s : variant_leans l here ≡ false) where
        stands_is : read_variant K l here ≡ read_over K l [] here
        unfolding variant_as
        stands_is = rw s refl

        alike : read_over K l [] here ≡ read_over K l (take N work) here
        unfolding over_as
        alike = stands_alike K l (lit< tt) obeys v (take N work) (body_is_bytes has y v) s

        count : (row left : List ℕ) → read_over K l (take N work) here ≡ ok row left → length row ≡ N
        unfolding over_as
        count row left e = go (record_over K l v (take N work)) refl e
          where
            go : (m : Out Body) → record_over K l v (take N work) ≡ m → map_out (body_categories N (take N work)) m ≡ ok row left → length row ≡ N
            go (refused other) q e = absurd (let z : ◌≡◌ {A = ℕ} 0 1 = cc in omega arith)
            go (ok body rest) q e =
                let r : row ≡ body_categories N (take N work) body = cc in
                ap length r ∙ row_count K l (lit< tt) obeys v (take N work) body rest (body_is_bytes has y v) q s

        -- the next one that leans, leans on it
        lent : suc v < length l.bodies → variant_leans l (file_variant (suc v)) ≡ true
            → read_over K l [] (anchor K l.types (file_variant (suc v))) ≡ read_over K l (take N work) here
        lent m u = ap (read_over K l []) (anchor_after_standing K l.types (lit< tt) obeys.types here (more_types m) u s) ∙ alike

        alone_step : (m : Out (List ℕ)) → read_over K l (take N work) here ≡ m → Refuses RecordNumber m
            → Stepped l work₀ v output m (alone st at.end output (row_replied N work m))
        alone_step (ok row left) e k =
            let n : length row ≡ N = count row left e in
            let front : take N (row ++ drop N work) ≡ row = take_at row (drop N work) N n in
            let kept = behind N row work n w in
            record {
              verdict_is = refl;
              output_is = ap (λ (z : List ℕ). z ++ drop N output) front;
              next = record {
                reply = Ok tt;
                state_is = refl;
                reached = omega arith;
                holds = kept.0 ∙ h;
                rest_is = kept.1 ∙ rest;
                told = λ m u. was_accepted left reply_of_ok (lent m u ∙ e ∙ ap (λ (z : List ℕ). ok z left) (sym front));
              };
            }
        alone_step (refused other) e k =
            let kept = behind N (replicate N 0) work (length-replicate N 0) w in
            record {
              verdict_is = refl;
              output_is = refl;
              next = record {
                reply = Err other;
                state_is = refl;
                reached = omega arith;
                holds = kept.0 ∙ h;
                rest_is = kept.1 ∙ rest;
                told = λ m u. was_refused other (reply_of_record other k) k (lent m u ∙ e);
              };
            }

        stands : Stepped l work₀ v output (read_variant K l here) (over_nothing st held at output work)
        stands =
            let all : Refuses RecordNumber (read_variant K l here)
            = variant_refusals K l (lit< tt) obeys (stored_bodies K index held l a y) body_categories here b in
            rw (stands_is ∙ alike, over_row work)
            (alone_step (read_over K l (take N work) here) refl (subst (Refuses RecordNumber) (stands_is ∙ alike) all))

      -- ---- one that leans

      module _ (t : variant_leans l here ≡ true) (k : Told N reply work (read_over K l [] (anchor K l.types here))) where
        leans_is : read_variant K l here ≡ bind (read_over K l [] (anchor K l.types here)) (λ lent left. read_over K l lent here)
        unfolding variant_as
        leans_is = rw t refl

        -- the same anchor stays for the next
        goes_on : Before l work₀ (suc v) (state l (suc v) reply) work
        goes_on = record {
          reply = reply;
          state_is = refl;
          reached = omega arith;
          holds = h;
          rest_is = rest;
          told = λ m u.
              subst (λ (x : FileVariant). Told N reply work (read_over K l [] x))
              (sym (anchor_after_leaning K l.types (lit< tt) obeys.types here (more_types m) u t)) k;
        }

        abbrev copied : List ℕ
        copied = take N work ++ drop N output

        over_copy : read_at st held at copied ≡ row_replied N copied (read_over K l (take N work) here)
        over_copy = over_row copied
            ∙ ap (λ (row : List ℕ). row_replied N copied (read_over K l row here)) (take_at (take N work) (drop N output) N (length-take-le N work w))

        leaning_step : (m : Out (List ℕ)) → Stepped l work₀ v output m (leaning st at.end output work (row_replied N copied m))
        leaning_step (ok row left) = record {
          verdict_is = refl;
          output_is = ap (λ (z : List ℕ). row ++ z) (drop_at (take N work) (drop N output) N (length-take-le N work w));
          next = goes_on;
        }
        leaning_step (refused other) = record { verdict_is = refl; output_is = refl; next = goes_on }

        over : Stepped l work₀ v output (read_variant K l here) (over_anchor st held at output work)
        over = go k
          where
            go : Told N reply work (read_over K l [] (anchor K l.types here))
                → Stepped l work₀ v output (read_variant K l here) (over_anchor st held at output work)
            go (was_accepted left z e) =
                rw (leans_is, e, ap is_ok z, over_copy) (leaning_step (read_over K l (take N work) here))
            go (was_refused why q c e) =
                rw (leans_is, e, ap is_ok q) (record { verdict_is = ap (λ (r : Result ⊤ Refusal). verdict (answer r)) q; output_is = refl; next = goes_on })

      step : (variant_leans l here ≡ true → Told N reply work (read_over K l [] (anchor K l.types here)))
          → Stepped l work₀ v output (read_variant K l here) (next_row_in st index held output work)
      step k =
          rw (left_is (follows (λ t. told_known (k t))))
          (by_test (Stepped l work₀ v output (read_variant K l here)) (variant_leans l here) (λ t. over t (k t)) stands)

-- so from any state that stands before a variant
pub steps : (index held : List ℕ) → Bytes held → (l : Layout) → Stored K index held l → (work₀ : List ℕ) → l.samples ≤ length work₀
    → (v : ℕ) (rows : Rows) (work output : List ℕ) → Before l work₀ v rows work → v < length l.bodies → l.samples ≤ length output
    → Stepped l work₀ v output (read_variant K l (file_variant v)) (next_row_in rows index held output work)
steps index held y l a work₀ w₀ v rows work output k b o =
    rw k.state_is
    (step index held y l a v b k.reply work₀ work output k.holds k.rest_is o (omega (arith, k.holds)) (k.told b))
