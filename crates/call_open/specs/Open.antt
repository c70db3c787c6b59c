-- The contract of an opening: what its caller learns from each reply.
-- Assumes nothing.
use Rattle.std.specs.Prelude.{◌≡◌, ℕ, ◌≤◌, ◌<◌, true, List, [], leb, Result, Ok, Err}
use Rattle.format.specs.declared.FileVariant.{FileVariant}
use Rattle.format.specs.declared.Fields.{Fields}
use Rattle.format.specs.declared.Refusal.{Refusal}
use Rattle.format.specs.Base.{Bytes, Out, ok, refused, bind}
use Rattle.format.specs.Limits.{variants_to_a_block}
use Rattle.format.specs.Layout.{fields_of, Layout, fixed_of}
use Rattle.format.specs.Header.{read_layout}
use Rattle.format.specs.Reply.{with_layout, need_variant, keeps_work}
use Rattle.head_index.specs.Stored.{Stored}

-- 1 to 9, then 10: `lent` bytes hold a byte for each sample
abbrev pub open_out : ℕ → List ℕ → ℕ → Out Layout
open_out K file lent = with_layout K file (λ (l : Layout). leb l.samples lent) (λ (l : Layout). ok l [])

-- then 11
abbrev pub open_at_out : ℕ → List ℕ → FileVariant → ℕ → Out Layout
open_at_out K file v lent = bind (open_out K file lent) (λ l left. need_variant v l (ok l []))

-- Ok: the file has a layout, of which it is the index and the data; these are its fields, and `lent` bytes hold a row.
pub record Open (file : List ℕ) (lent : ℕ) (f : Fields) : Type 0 where
  pub bytes : Bytes file
  pub layout : Layout
  pub accepted : read_layout variants_to_a_block file ≡ ok layout []
  pub stored : Stored variants_to_a_block file file layout
  pub fields_are : f ≡ fields_of (fixed_of layout)
  pub room : f.samples ≤ lent

-- and it has the variant
pub record OpenAt (file : List ℕ) (v : FileVariant) (lent : ℕ) (f : Fields) : Type 0 where
  pub has : Open file lent f
  pub below : v.0 < f.variants

-- Err: this is why, and the work area stays
pub record Shut (m : Out Layout) (why : Refusal) : Type 0 where
  pub is : m ≡ refused why
  pub keeps : keeps_work why.number ≡ true

-- the contracts: what each reply means
unfoldable pub Opening : List ℕ → ℕ → Result Fields Refusal → Type 0
Opening file lent (Ok f) = Open file lent f
Opening file lent (Err why) = Shut (open_out variants_to_a_block file lent) why

unfoldable pub OpeningAt : List ℕ → FileVariant → ℕ → Result Fields Refusal → Type 0
OpeningAt file v lent (Ok f) = OpenAt file v lent f
OpeningAt file v lent (Err why) = Shut (open_at_out variants_to_a_block file v lent) why
