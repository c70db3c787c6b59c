-- What the pass over the phases keeps: every byte before the first record.
-- Assumes nothing.
use mathlib.Core.Path.{◌≡◌, sym, ap, ◌∙◌}
use Prim.Native.Nat.{ℕ, zero, ◌<◌}
use native.Mathlib.Omega.{arith}
use mathlib.Core.Bool.{Bool}
use mathlib.Core.List.{List, []}
use lib.ListN.{length, get_or, get_or-append}
use Rattle.format.specs.declared.FileVariant.{FileVariant}
use Rattle.format.specs.Base.{Bytes, Out, ok}
use Rattle.format.specs.Variant.{file_variant}
use Rattle.format.specs.Layout.{first_record, header_bytes, Layout, fixed_of, arrays_of, in_parts, layout_bytes}
use Rattle.format.specs.File.{File, layout_of_file, file_bytes, Obeys, read_file}
use Rattle.format.proofs.OffsetsLaws.{offsets_fit}
use Rattle.format.proofs.ArraysLaws.{header_length}
use Rattle.format.proofs.FileLaws.{file_exactly}
use Rattle.flip_phase.specs.AllRecords.{turn_all, records_bytes, phases_turned, turned_if_read, phases_flipped}

module _ (K : ℕ) (member : FileVariant → Bool) (bs : List ℕ) (g : File) (p : zero < K) (y : Bytes bs) (e : read_file K bs ≡ ok g []) (place : ℕ) where
  abbrev l : Layout
  l = layout_of_file g

  abbrev top : List ℕ
  top = header_bytes K (fixed_of l) (arrays_of K l)

  exactly : Obeys K g × (bs ≡ file_bytes K g)
  exactly = (file_exactly K bs g p y).0 e

  pub phases_keep : place < first_record K (fixed_of l) → get_or (phases_flipped K member bs) place 0 ≡ get_or bs place 0
  unfolding phases_flipped phases_turned file_bytes layout_bytes in_parts
  phases_keep before =
      let size : length top ≡ first_record K (fixed_of l)
      = header_length K (fixed_of l) (arrays_of K l) p (offsets_fit K l p exactly.0.layout) exactly.0.layout.columns in
      let inside : place < length top = omega arith in
      ap (λ (o : Out File). get_or (turned_if_read K member bs o) place 0) e
      ∙ get_or-append top (records_bytes g.samples (turn_all member (file_variant 0) g.bodies)) 0 place inside
      ∙ sym (get_or-append top (records_bytes g.samples g.bodies) 0 place inside)
      ∙ ap (λ (x : List ℕ). get_or x place 0) (sym exactly.1)
