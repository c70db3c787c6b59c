-- A byte at a place of a list.
-- Assumes nothing.
use Rattle.std.specs.Prelude.{Ok, Err}
use mathlib.Core.Path.{◌≡◌, refl, sym, ◌∙◌}
use Prim.Native.Nat.{ℕ, suc, ◌+◌, ◌-◌, ◌*◌, ◌≤◌, ◌<◌}
use mathlib.Core.List.{List}
use lib.ListN.{length, drop, get_or, length-drop, drop_of_length-le}
use lib.Seq.{drop-cons}
use native.Mathlib.Omega.{arith}
use Rattle.format.specs.declared.Refusal.{Refusal}
use Rattle.format.specs.Base.{refusal, place_of}
use Rattle.format.specs.Numbers.{read_number}
use Rattle.format.proofs.Exits.{ok_parts}
use Rattle.format.proofs.Rules.{split}
pub use Rattle.head_index.proofs.ByIndex.{bytes_of}
use Rattle.base_cursor.specs.Steps.{byte_at}
use Rattle.base_cursor.specs.declared.Cursor.{Cursor}

-- where what is left of a list begins
pub here : (l : List ℕ) (at : ℕ) → at ≤ length l → place_of (length l) (drop at l) ≡ at
here l at h = simp length-drop (omega arith)

pub byte_there : (l : List ℕ) (at : ℕ) → at < length l → Ok (get_or l at 0, record { at = at + 1 }) ≡ byte_at l at
unfolding byte_at read_number
byte_there l at h =
    let e : length l - length (drop (suc at) l) ≡ at + 1 = simp length-drop (omega arith) in
    let z : 0 * 256 + get_or l at 0 ≡ get_or l at 0 = omega arith in
    rw (drop-cons l at 0 h, e, z)

pub byte_short : (l : List ℕ) (at : ℕ) → length l ≤ at → (why : Refusal) → why ≡ refusal 12 (length l) → Err why ≡ byte_at l at
unfolding byte_at read_number
byte_short l at h why e = rw (e, drop_of_length-le l h)

pub ruleset byte_laws = (byte_there, byte_short)

-- what is known where a byte was read
pub record ByteRead (l : List ℕ) (at b : ℕ) (next : Cursor) : Type 0 where
  pub inside : at < length l
  pub value : b ≡ get_or l at 0
  pub moved : next ≡ record { at = at + 1 }

pub byte_read : (l : List ℕ) (at b : ℕ) (next : Cursor) → Ok (b, next) ≡ byte_at l at → ByteRead l at b next
byte_read l at b next e =
    split (suc at) (length l) (λ h. let q = ok_parts (e ∙ sym (byte_there l at h)) in record { inside = h; value = q.0; moved = q.1 })
    (λ h. let q = byte_short l at (omega arith) _ refl in let z : ◌≡◌ {A = ℕ} 0 1 = cc in absurd (omega arith))

-- and where none was
pub record ByteRefused (l : List ℕ) (at : ℕ) (why : Refusal) : Type 0 where
  pub outside : length l ≤ at
  pub is : why ≡ refusal 12 (length l)

pub byte_refused : (l : List ℕ) (at : ℕ) (why : Refusal) → Err why ≡ byte_at l at → ByteRefused l at why
byte_refused l at why e =
    split (suc at) (length l) (λ h. let q = byte_there l at h in let z : ◌≡◌ {A = ℕ} 0 1 = cc in absurd (omega arith))
    (λ h.
    let g : length l ≤ at = omega arith in
    let q = byte_short l at g _ refl in record { outside = g; is = cc })
