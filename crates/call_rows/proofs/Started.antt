-- What a state tells that a start call gave.
-- Assumes nothing.
use mathlib.Core.Path.{◌≡◌, refl, ap, ◌∙◌}
use Prim.Native.Nat.{ℕ, ◌≤◌}
use mathlib.Core.Bool.{Bool, true, false}
use mathlib.Core.List.{List, []}
use lib.ListN.{length}
use lib.Dec.{lit<}
use native.Mathlib.Omega.{arith}
use borrow.Author.Tests.{leb-true}
use Rattle.format.specs.Base.{Bytes, Out, ok, refused, bind, need_of}
use Rattle.format.specs.Limits.{variants_to_a_block}
use Rattle.format.specs.Layout.{fields_of, Layout, fixed_of}
use Rattle.format.specs.Header.{read_layout}
use Rattle.format.specs.Reply.{holds_row}
use Rattle.format.specs.Variant.{no_variant}
use Rattle.format.proofs.Rules.{Holds}
use Rattle.format.proofs.HeaderLaws.{IsLayout, layout_as_written}
use Rattle.call_rows.specs.declared.Rows.{Rows}
use Rattle.call_rows.specs.Calls.{first_row, start_rows_call}

pub record FromStart (file work : List ℕ) (rows : Rows) : Type 0 where
  pub layout : Layout
  pub is_accepted : read_layout variants_to_a_block file ≡ ok layout []
  pub room : layout.samples ≤ length work
  pub rows_are : rows ≡ first_row (fields_of (fixed_of layout))

pub from_start : (file work : List ℕ) (rows : Rows) → Bytes file → start_rows_call file work ≡ ok rows [] → FromStart file work rows
unfolding start_rows_call
from_start file work rows y e = go (read_layout variants_to_a_block file) refl (layout_as_written variants_to_a_block file (lit< tt) y) e
  where
    sized : (l : Layout) → read_layout variants_to_a_block file ≡ ok l [] → (b : Bool) → holds_row work l ≡ b
        → need_of (no_variant (length l.bodies)) b 10 0 (ok (first_row (fields_of (fixed_of l))) []) ≡ ok rows [] → FromStart file work rows
    sized l a true h q = record { layout = l; is_accepted = a; room = leb-true l.samples (length work) h; rows_are = cc }
    sized l a false h q = absurd (let z : ◌≡◌ {A = ℕ} 0 1 = cc in omega arith)

    go : (m : Out Layout) → read_layout variants_to_a_block file ≡ m → Holds (IsLayout variants_to_a_block file) m
        → bind m (λ l left. need_of (no_variant (length l.bodies)) (holds_row work l) 10 0 (ok (first_row (fields_of (fixed_of l))) [])) ≡ ok rows []
        → FromStart file work rows
    go (ok l left) a w q = sized l (a ∙ ap (ok l) w.ended) (holds_row work l) refl q
    go (refused why) a w q = absurd (let z : ◌≡◌ {A = ℕ} 0 1 = cc in omega arith)
