-- A file in one piece is accepted exactly when it is stored as its own index and data. An index and its data stand for one layout; how long they are.
-- Assumes nothing.
use mathlib.Core.Path.{◌≡◌, refl, sym, ap, ap₂, ◌∙◌, subst}
use mathlib.Core.Logic.{◌↔◌}
use Prim.Native.Nat.{ℕ, zero, ◌+◌, ◌≤◌, ◌<◌}
use mathlib.Core.List.{List, [], ◌∷◌, ◌++◌, map}
use lib.ListN.{length, drop, length-append, length-drop}
use lib.Seq.{drop_at}
use native.Mathlib.Omega.{arith}
use Rattle.format.specs.Base.{Bytes, ok}
use Rattle.format.specs.Layout.{sum, header_end, header_bytes, first_record, Layout, fixed_of, body_lengths, arrays_of, joined, in_parts}
use Rattle.format.specs.Layout.{layout_bytes, LayoutObeys}
use Rattle.format.specs.Header.{Header, header_of, read_header, read_data, read_layout}
use Rattle.format.proofs.Rules.{below_drop}
use Rattle.format.proofs.ArraysLaws.{header_length}
use Rattle.format.proofs.OffsetsLaws.{offsets_fit}
use Rattle.format.proofs.HeaderLaws.{header_read_back, data_read_back, layout_read_back, header_exactly}
use Rattle.format.proofs.FileLaws.{AllBytes, joined_bytes}
use Rattle.head_index.specs.Stored.{Stored}

-- ---- a file in one piece

-- the bytes of a layout that obeys
pub stored_layout : (K : ℕ) (l : Layout) → zero < K → LayoutObeys K l → Stored K (layout_bytes K l) (layout_bytes K l) l
unfolding layout_bytes in_parts
stored_layout K l p h =
    let header : List ℕ = header_bytes K (fixed_of l) (arrays_of K l) in
    let n : length header ≡ header_end K (fixed_of l) = header_length K (fixed_of l) (arrays_of K l) p (offsets_fit K l p h) h.columns in
    record {
      obeys = h;
      after = joined l.bodies;
      index_is = refl;
      data_long = omega (arith, n, length-append header (joined l.bodies));
      data_is = drop_at header (joined l.bodies) (first_record K (fixed_of l)) n;
    }

-- a file that the header check accepts
pub stored_whole : (K : ℕ) (bs : List ℕ) (l : Layout) → zero < K → Bytes bs → read_layout K bs ≡ ok l [] → Stored K bs bs l
stored_whole K bs l p y e =
    let h = (header_exactly K bs l p y).0 e in
    subst (λ (file : List ℕ). Stored K file file l) (sym h.1) (stored_layout K l p h.0)

-- so is one that is stored as its own index and data
pub stored_read : (K : ℕ) (bs : List ℕ) (l : Layout) → zero < K → Stored K bs bs l → read_layout K bs ≡ ok l []
unfolding layout_bytes in_parts
stored_read K bs l p s =
    let header : List ℕ = header_bytes K (fixed_of l) (arrays_of K l) in
    let start : ℕ = first_record K (fixed_of l) in
    let n : length header ≡ start = header_length K (fixed_of l) (arrays_of K l) p (offsets_fit K l p s.obeys) s.obeys.columns in
    let rest : s.after ≡ joined l.bodies = sym (ap (drop start) s.index_is ∙ drop_at header s.after start n) ∙ s.data_is in
    let written : bs ≡ layout_bytes K l = s.index_is ∙ ap (λ (z : List ℕ). header ++ z) rest in
    ap (read_layout K) written ∙ layout_read_back K l p s.obeys

pub stored_exactly : (K : ℕ) (bs : List ℕ) (l : Layout) → zero < K → Bytes bs → (read_layout K bs ≡ ok l []) ↔ Stored K bs bs l
stored_exactly K bs l p y = (λ e. stored_whole K bs l p y e, λ s. stored_read K bs l p s)

-- ---- what they stand for

-- one layout
pub stored_one : (K : ℕ) (index held : List ℕ) (l m : Layout) → zero < K → Stored K index held l → Stored K index held m → l ≡ m
stored_one K index held l m p s t =
    let a : read_header K index ≡ ok (header_of K l) s.after = ap (read_header K) s.index_is ∙ header_read_back K l s.after p s.obeys in
    let b : read_header K index ≡ ok (header_of K m) t.after = ap (read_header K) t.index_is ∙ header_read_back K m t.after p t.obeys in
    let header : header_of K l ≡ header_of K m = cc in
    let records : joined l.bodies ≡ joined m.bodies
    = sym s.data_is ∙ ap (λ (h : Header). drop (first_record K h.fixed) held) header ∙ t.data_is in
    let c : read_data K 0 (header_of K l) (joined l.bodies) ≡ ok l [] = data_read_back K 0 l in
    let d : read_data K 0 (header_of K l) (joined l.bodies) ≡ ok m [] = ap₂ (read_data K 0) header records ∙ data_read_back K 0 m in
    cc

-- bodies that are bytes
pub stored_bodies : (K : ℕ) (index held : List ℕ) (l : Layout) → Stored K index held l → Bytes held → AllBytes l.bodies
stored_bodies K index held l s y =
    joined_bytes l.bodies (subst Bytes s.data_is (below_drop 256 (first_record K (fixed_of l)) held y))

-- ---- how long they are

-- joined bodies are as long as the sum of their lengths
joined_length : (bodies : List (List ℕ)) → length (joined bodies) ≡ sum (map length bodies)
unfolding joined sum
joined_length [] = refl
joined_length (body ∷ bodies) = length-append body (joined bodies) ∙ omega (arith, joined_length bodies)

module _ (K : ℕ) (index held : List ℕ) (l : Layout) (s : Stored K index held l) where
  -- the header lies in the index
  pub stored_header : zero < K → header_end K (fixed_of l) ≤ length index
  unfolding in_parts
  stored_header p =
      let header : List ℕ = header_bytes K (fixed_of l) (arrays_of K l) in
      let n : length header ≡ header_end K (fixed_of l)
      = header_length K (fixed_of l) (arrays_of K l) p (offsets_fit K l p s.obeys) s.obeys.columns in
      omega (arith, n, length-append header s.after, ap length s.index_is)

  -- the records end where the data does
  pub stored_data : first_record K (fixed_of l) + sum (body_lengths l) ≡ length held
  stored_data =
      omega (arith, s.data_long, length-drop (first_record K (fixed_of l)) held, ap length s.data_is, joined_length l.bodies)
