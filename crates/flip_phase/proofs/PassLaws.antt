-- The pass over all records: what is flipped already, what is to come, and what the row holds.
-- Assumes nothing.
use mathlib.Core.Path.{◌≡◌, refl, sym, ap, ◌∙◌, subst}
use Prim.Native.Nat.{ℕ, suc, ◌+◌, ◌≤◌, ◌<◌}
use native.Mathlib.Nat.{add-zero}
use native.Mathlib.Numerals.{add-one}
use native.Mathlib.Omega.{arith}
use mathlib.Core.Bool.{Bool, true, false}
use mathlib.Core.List.{List, [], ◌∷◌, ◌++◌, map, append_assoc}
use lib.ListN.{length, get_or, take, drop, length-append}
use lib.Seq.{get_or-drop, drop-drop}
use mir.Syntax.{w64}
use mir.Val.{Fits}
use Rattle.format.specs.declared.Fields.{Fields}
use Rattle.format.specs.declared.FileVariant.{FileVariant}
use Rattle.format.specs.Limits.{most_samples, most_variants, variants_to_a_block}
use Rattle.format.specs.Phase.{heterozygous_count, phases_bytes}
use Rattle.format.specs.Track.{track_bytes}
use Rattle.format.specs.Body.{type_leans, Body, body_type, body_leans, body_bytes, BodyFits, body_categories}
use Rattle.format.specs.Variant.{file_variant}
use Rattle.format.specs.Layout.{joined}
use Rattle.format.specs.File.{next_anchor, BodiesFit}
use Rattle.format.proofs.Rules.{never_both}
use Rattle.format.proofs.BodyLaws.{body_leans_typed}
use Rattle.format.proofs.RowLaws.{row_anchor_unused, body_fits_anchor_unused}
use Rattle.format.proofs.PhaseFlipLaws.{flip_phases_length}
use Rattle.head_blocks.specs.Parts.{fixed}
use Rattle.head_places.specs.declared.Place.{Place}
use Rattle.head_records.specs.Extent.{record_type, record_size}
use Rattle.flip_phase.specs.OneRecord.{turn_phases, RecordThere, CountHeld, Passed}
use Rattle.flip_phase.specs.AllRecords.{turn_all, records_bytes, LeansIfAny}

abbrev K : ℕ
K = variants_to_a_block

-- whether the first of some records leans
abbrev pub first_leans : List Body → Bool
first_leans [] = false
first_leans (body ∷ bodies) = body_leans body

-- `top` is the header, which tells the types and the sizes whatever the records are. The records from v on, which starts at `start`, are as they were;
-- flipped, they make `whole` of the file. Where the next one leans, the row holds what it leans on, with h heterozygous calls.
pub record Turning (member : FileVariant → Bool) (f : Fields) (whole : List ℕ) (size : ℕ) (row₀ file row : List ℕ) (start v h : ℕ) : Type 0 where
  pub top : List ℕ
  pub types : List ℕ
  pub lengths : List ℕ
  pub typed : (records : List ℕ) (u : FileVariant) → u.0 < f.variants → record_type K (fixed f) (top ++ records) u ≡ get_or types u.0 0
  pub sized : (records : List ℕ) (u : FileVariant) → u.0 < f.variants → record_size K (fixed f) (top ++ records) u ≡ get_or lengths u.0 0
  pub done : List ℕ
  pub rest : List Body
  pub types_left : drop v types ≡ map body_type rest
  pub lengths_left : drop v lengths ≡ map length (map (body_bytes f.samples) rest)
  pub all : v + length rest ≡ f.variants
  pub is : file ≡ top ++ (done ++ records_bytes f.samples rest)
  pub start_is : start ≡ length top + length done
  pub becomes : top ++ (done ++ records_bytes f.samples (turn_all member (file_variant v) rest)) ≡ whole
  pub anchor : List ℕ
  pub fit : BodiesFit f.samples anchor rest
  pub front : first_leans rest ≡ true → take f.samples row ≡ anchor
  pub counted : first_leans rest ≡ true → h ≡ heterozygous_count anchor
  pub behind : drop f.samples row ≡ drop f.samples row₀
  pub kept : length file ≡ size
  pub long : length row ≡ length row₀
  pub room : f.samples ≤ length row
  pub variants : f.variants ≤ most_variants
  pub samples : f.samples ≤ most_samples

-- the first of what is left of a column, and the rest
pub first_left : (xs : List ℕ) (i y : ℕ) (ys : List ℕ) → drop i xs ≡ y ∷ ys → get_or xs i 0 ≡ y
first_left xs i y ys e = ap (λ (j : ℕ). get_or xs j 0) (sym (add-zero i)) ∙ sym (get_or-drop i xs 0 0) ∙ ap (λ (l : List ℕ). get_or l 0 0) e

pub rest_left : (xs : List ℕ) (i y : ℕ) (ys : List ℕ) → drop i xs ≡ y ∷ ys → drop (suc i) xs ≡ ys
rest_left xs i y ys e = ap (λ (j : ℕ). drop j xs) (sym (add-one i)) ∙ sym (drop-drop 1 i xs) ∙ ap (drop 1) e

-- a record's phases flipped take as many bytes
pub turned_length : (N : ℕ) (own : Bool) (body : Body) → length (body_bytes N (turn_phases own body)) ≡ length (body_bytes N body)
turned_length N own body =
    length-append (track_bytes N body.main) _
    ∙ ap (λ (n : ℕ). length (track_bytes N body.main) + n) (flip_phases_length own body.phases)
    ∙ sym (length-append (track_bytes N body.main) (phases_bytes body.phases))

module _ {member : FileVariant → Bool} {f : Fields} {whole : List ℕ} {long : ℕ} {row₀ file row : List ℕ} {start v h : ℕ}
    (i : Turning member f whole long row₀ file row start v h) where
  abbrev N : ℕ
  N = f.samples

  -- at the end all is flipped
  pub turning_last : f.variants ≤ v → file ≡ whole
  unfolding joined
  turning_last l = go i.rest refl i.all
    where
      go : (rest : List Body) → i.rest ≡ rest → v + length rest ≡ f.variants → file ≡ whole
      go [] e a =
          i.is
          ∙ ap (λ (bodies : List Body). i.top ++ (i.done ++ records_bytes N bodies)) e
          ∙ sym (ap (λ (bodies : List Body). i.top ++ (i.done ++ records_bytes N (turn_all member (file_variant v) bodies))) e)
          ∙ i.becomes
      go (body ∷ bodies) e a = absurd (omega arith)

  module _ (m : v < f.variants) where
    -- there is a record
    record Next : Type 0 where
      pub body : Body
      pub bodies : List Body
      pub is : i.rest ≡ body ∷ bodies

    next : Next
    next = go i.rest refl i.all
      where
        go : (rest : List Body) → i.rest ≡ rest → v + length rest ≡ f.variants → Next
        go [] e a = absurd (omega arith)
        go (body ∷ bodies) e a = record { body = body; bodies = bodies; is = e }

    abbrev body : Body
    body = next.body

    abbrev bodies : List Body
    bodies = next.bodies

    fit : BodiesFit N i.anchor (body ∷ bodies)
    fit = subst (BodiesFit N i.anchor) next.is i.fit

    -- the file, by what stands before the record, the record and what stands after it
    parts : file ≡ (i.top ++ i.done) ++ (body_bytes N body ++ records_bytes N bodies)
    unfolding joined
    parts =
        i.is ∙ ap (λ (rest : List Body). i.top ++ (i.done ++ records_bytes N rest)) next.is
        ∙ sym (append_assoc i.top i.done (body_bytes N body ++ records_bytes N bodies))

    type_is : (type : ℕ) → type ≡ record_type K (fixed f) file (file_variant v) → type ≡ body_type body
    type_is type e =
        e ∙ ap (λ (bs : List ℕ). record_type K (fixed f) bs (file_variant v)) i.is ∙ i.typed _ (file_variant v) m
        ∙ first_left i.types v (body_type body) (map body_type bodies) (i.types_left ∙ ap (map body_type) next.is)

    size_is : (size : ℕ) → size ≡ record_size K (fixed f) file (file_variant v) → size ≡ length (body_bytes N body)
    size_is size e =
        e ∙ ap (λ (bs : List ℕ). record_size K (fixed f) bs (file_variant v)) i.is ∙ i.sized _ (file_variant v) m
        ∙ first_left i.lengths v (length (body_bytes N body)) (map length (map (body_bytes N) bodies))
        (i.lengths_left ∙ ap (λ (rest : List Body). map length (map (body_bytes N) rest)) next.is)

    -- its anchor's categories are at the front of the row if it leans; else it fits over any
    body_fits : BodyFits N (take N row) body
    body_fits = go (body_leans body) refl
      where
        go : (b : Bool) → body_leans body ≡ b → BodyFits N (take N row) body
        go true e = subst (λ (a : List ℕ). BodyFits N a body) (sym (i.front (ap first_leans next.is ∙ e))) fit.0
        go false e = body_fits_anchor_unused N i.anchor (take N row) body e fit.0

    module _ (size : ℕ) (s : size ≡ record_size K (fixed f) file (file_variant v)) where
      pub end_inside : start + size ≤ length file
      end_inside =
          omega (
            arith,
            size_is size s,
            i.start_is,
            ap length parts,
            length-append (i.top ++ i.done) (body_bytes N body ++ records_bytes N bodies),
            length-append i.top i.done,
            length-append (body_bytes N body) (records_bytes N bodies),
          )

      pub end_fits : Fits w64 long → Fits w64 (start + size)
      end_fits l = omega (arith, end_inside, i.kept)

      module _ (type : ℕ) (t : type ≡ record_type K (fixed f) file (file_variant v)) where
        abbrev place : Place
        place = record { start = start; end = start + size; record_type = type }

        abbrev there : RecordThere N place row file
        there = record {
          few = i.samples;
          room = i.room;
          before = i.top ++ i.done;
          body = body;
          after = records_bytes N bodies;
          fits = body_fits;
          type_is = type_is type t;
          start_is = length-append i.top i.done ∙ sym i.start_is;
          end_is = ap (λ (n : ℕ). start + n) (size_is size s);
          is = parts;
        }

        pub record_there : (p : Place) → p ≡ place → RecordThere N p row file
        record_there p e = rw e there

        leans_here : type_leans type ≡ body_leans body
        leans_here = ap type_leans (type_is type t) ∙ body_leans_typed N i.anchor body fit.0

        held : (p : Place) → p ≡ place → type_leans p.record_type ≡ true → h ≡ heterozygous_count (take N row)
        held p e q =
            let leans : first_leans i.rest ≡ true
            = ap first_leans next.is ∙ sym leans_here ∙ sym (ap (λ (z : Place). type_leans z.record_type) e) ∙ q in
            i.counted leans ∙ ap heterozygous_count (sym (i.front leans))

        pub count_held : (p : Place) → p ≡ place → CountHeld N p row h
        count_held p e = record { counted = held p e }

        module _ (p : Place) (e : p ≡ place) (own leant : Bool) (o : own ≡ member (file_variant v)) (b : LeansIfAny file f (file_variant (v + 1)) leant)
            (later row₁ : List ℕ) (r : ℕ) (d : Passed N p row own leant file later row₁ r) where
          at_place : Passed N place row own leant file later row₁ r
          at_place = subst (λ (q : Place). Passed N q row own leant file later row₁ r) e d

          abbrev new : List ℕ
          new = body_bytes N (turn_phases (member (file_variant v)) body)

          turned : later ≡ (i.top ++ i.done) ++ (new ++ records_bytes N bodies)
          turned =
              at_place.turned.turned there
              ∙ ap (λ (z : Bool). (i.top ++ i.done) ++ (body_bytes N (turn_phases z body) ++ records_bytes N bodies)) o

          types_next : drop (v + 1) i.types ≡ map body_type bodies
          types_next = rw (add-one v) (rest_left i.types v (body_type body) (map body_type bodies) (i.types_left ∙ ap (map body_type) next.is))

          left_next : v + 1 + length bodies ≡ f.variants
          left_next = omega (arith, i.all, ap length next.is)

          -- what the next one leans on, if it leans
          abbrev carried : List ℕ
          carried = next_anchor (body_leans body) i.anchor (body_categories N i.anchor body)

          -- the code's own answer then
          leant_is : first_leans bodies ≡ true → leant ≡ true
          leant_is q = go carried bodies types_next left_next fit.1 q
            where
              go : (anchor : List ℕ) (bodies : List Body) → drop (v + 1) i.types ≡ map body_type bodies → v + 1 + length bodies ≡ f.variants
                  → BodiesFit N anchor bodies → first_leans bodies ≡ true → leant ≡ true
              go anchor [] t a g q = never_both q refl
              go anchor (x ∷ xs) t a g q =
                  let lt : v + 1 < f.variants = omega arith in
                  b.is lt
                  ∙ ap (λ (bs : List ℕ). type_leans (record_type K (fixed f) bs (file_variant (v + 1)))) i.is
                  ∙ ap type_leans (i.typed _ (file_variant (v + 1)) lt ∙ first_left i.types (v + 1) (body_type x) (map body_type xs) t)
                  ∙ body_leans_typed N anchor x g.0 ∙ q

          front_next : first_leans bodies ≡ true → take N row₁ ≡ carried
          front_next q = at_place.front (leant_is q) there ∙ go (body_leans body) refl
            where
              go : (z : Bool) → body_leans body ≡ z
                  → next_anchor z (take N row) (body_categories N (take N row) body) ≡ next_anchor z i.anchor (body_categories N i.anchor body)
              go true l = i.front (ap first_leans next.is ∙ l)
              go false l = row_anchor_unused N (take N row) i.anchor body l

          pub turning_next : length later ≡ length file → length row₁ ≡ length row → Turning member f whole long row₀ later row₁ (start + size) (v + 1) r
          unfolding joined
          turning_next k j = record {
            top = i.top;
            types = i.types;
            lengths = i.lengths;
            typed = i.typed;
            sized = i.sized;
            done = i.done ++ new;
            rest = bodies;
            types_left = types_next;
            lengths_left =
                rw (add-one v)
                (rest_left i.lengths v (length (body_bytes N body)) (map length (map (body_bytes N) bodies))
                (i.lengths_left ∙ ap (λ (rest : List Body). map length (map (body_bytes N) rest)) next.is));
            all = left_next;
            is = turned ∙ (simp append_assoc);
            start_is = omega (arith, size_is size s, i.start_is, length-append i.done new, turned_length N (member (file_variant v)) body);
            becomes =
                ap (λ (j : ℕ). i.top ++ ((i.done ++ new) ++ records_bytes N (turn_all member (file_variant j) bodies))) (add-one v)
                ∙ ap (◌++◌ i.top) (append_assoc i.done new (records_bytes N (turn_all member (file_variant (suc v)) bodies)))
                ∙ sym (ap (λ (rest : List Body). i.top ++ (i.done ++ records_bytes N (turn_all member (file_variant v) rest))) next.is)
                ∙ i.becomes;
            anchor = carried;
            fit = fit.1;
            front = front_next;
            counted = λ q. at_place.count (leant_is q) ∙ ap heterozygous_count (front_next q);
            behind = at_place.rest ∙ i.behind;
            kept = k ∙ i.kept;
            long = j ∙ i.long;
            room = omega (arith, i.room);
            variants = i.variants;
            samples = i.samples;
          }

pub leans_any : (file : List ℕ) (f : Fields) (u : FileVariant) → u.0 < f.variants → (type : ℕ) → type ≡ record_type K (fixed f) file u
    → (leans : Bool) → leans ≡ type_leans type → LeansIfAny file f u leans
leans_any file f u l type t leans e = record { is = λ k. e ∙ ap type_leans t; none = λ k. absurd (omega arith) }

pub leans_none : (file : List ℕ) (f : Fields) (u : FileVariant) → f.variants ≤ u.0 → LeansIfAny file f u false
leans_none file f u l = record { is = λ k. absurd (omega arith); none = λ k. refl }

pub ruleset leans_laws = (leans_any, leans_none)

pub ruleset pass_laws = (turning_last, end_inside, end_fits, record_there, count_held, turning_next)
