-- Difference lists: read back, as written, accepted exactly when they obey.
-- Assumes nothing.
use mathlib.Core.Path.{◌≡◌, subst}
use Prim.Native.Nat.{ℕ, ◌-◌, ◌^◌, ◌≤◌, ◌<◌, zero-le}
use mathlib.Core.Logic.{◌↔◌}
use mathlib.Core.List.{List, ◌++◌, append_assoc}
use lib.ListN.{length}
use lib.Dec.{leb}
use native.Mathlib.Omega.{arith}
use borrow.Author.Tests.{le-leb}
use Rattle.format.specs.Base.{Bytes, ok}
use Rattle.format.specs.Varint.{varint_bytes, read_varint}
use Rattle.format.specs.Numbers.{numbers_bytes, read_numbers, read_bytes}
use Rattle.format.specs.Packed.{two, packed, read_packed}
use Rattle.format.specs.Difflist.{Entry, Rule, Rising, groups, heads, size_bytes, values, steps, list_parts, list_bytes, read_first}
use Rattle.format.specs.Difflist.{read_parts, read_list}
use Rattle.format.proofs.Rules.{Holds, by_need, by_bind, weaken, below_after}
use Rattle.format.proofs.VarintLaws.{varint_read_back, varint_as_written, IsVarint}
use Rattle.format.proofs.NumbersLaws.{numbers_read_back, numbers_as_written, AreNumbers, bytes_read_back, bytes_as_written, AreBytes}
use Rattle.format.proofs.PackedLaws.{packed_read_back, packed_as_written, ArePacked}
use Rattle.format.proofs.EntriesLaws.{heads_count, sizes_count, values_length, values_below, heads_below, rising_length, first_read_back}
use Rattle.format.proofs.EntriesLaws.{first_as_written, AreAllEntries}

-- ---- read back

-- a list that obeys, written out, is read as itself
pub list_read_back : (rule : Rule) (w end : ℕ) (es : List Entry) (left : List ℕ) → rule.samples < 2 ^ 32 → rule.samples ≤ 256 ^ w → Rising rule 0 es
    → read_list rule w end (list_bytes w es ++ left) ≡ ok es left
unfolding read_list list_parts read_parts
list_read_back rule w end es left m l g =
    let L : ℕ = length es in
    let hs : List ℕ = heads 0 es in
    let zs : List ℕ = size_bytes es in
    let vs : List ℕ = values es in
    let left₃ : List ℕ = steps 0 0 es ++ left in
    let left₂ : List ℕ = packed two vs ++ left₃ in
    let left₁ : List ℕ = zs ++ left₂ in
    let fits : L ≤ rule.samples = omega (arith, rising_length rule 0 es zero-le g) in
    let f₀ : read_varint end (varint_bytes L ++ (numbers_bytes w hs ++ left₁)) ≡ ok L (numbers_bytes w hs ++ left₁)
    = varint_read_back end L (numbers_bytes w hs ++ left₁) (omega arith) in
    let f₁ : read_numbers end w (groups L) (numbers_bytes w hs ++ left₁) ≡ ok hs left₁
    = numbers_read_back end w (groups L) hs left₁ (heads_count es) (heads_below rule (256 ^ w) 0 0 es l g) in
    let f₂ : read_bytes end (groups L - 1) left₁ ≡ ok zs left₂ = rw sizes_count at (bytes_read_back end zs left₂) in
    let f₃ : read_packed end two L left₂ ≡ ok vs left₃ = packed_read_back end two L vs left₃ (values_length es) (values_below rule 0 es g) in
    simp (append_assoc, f₀, le-leb L rule.samples fits, f₁, f₂, f₃, first_read_back)

-- ---- as written

-- what obeys the format: a list that rises below the samples and holds only what it may, written out
pub record IsList (rule : Rule) (w : ℕ) (bs : List ℕ) (es : List Entry) (left : List ℕ) : Type 0 where
  pub written : bs ≡ list_bytes w es ++ left
  pub rising : Rising rule 0 es

-- whatever list was read obeys, and the bytes are that list written out
pub list_as_written : (rule : Rule) (w end : ℕ) (bs : List ℕ) → Bytes bs → Holds (IsList rule w bs) (read_list rule w end bs)
unfolding read_list read_parts list_parts
list_as_written rule w end bs y =
    by_bind (IsVarint bs) (IsList rule w bs) (read_varint end bs) _ (varint_as_written end bs y) (λ L left i.
    by_need (IsList rule w bs) (leb L rule.samples) _ _ _ (λ t.
    let y₀ : Bytes left = below_after 256 (varint_bytes L) left (rw i.0 at y) in
    by_bind (AreNumbers w (groups L) left) (IsList rule w bs) (read_numbers end w (groups L) left) _ (numbers_as_written end w (groups L) left y₀)
    (λ hs left₁ j.
    let y₁ : Bytes left₁ = below_after 256 (numbers_bytes w hs) left₁ (rw j.0 at y₀) in
    by_bind (AreBytes (groups L - 1) left₁) (IsList rule w bs) (read_bytes end (groups L - 1) left₁) _ (bytes_as_written end (groups L - 1) left₁)
    (λ zs left₂ k.
    let y₂ : Bytes left₂ = below_after 256 zs left₂ (rw k.0 at y₁) in
    by_bind (ArePacked two L left₂) (IsList rule w bs) (read_packed end two L left₂) _ (packed_as_written end two L left₂ y₂) (λ vs left₃ m.
    let y₃ : Bytes left₃ = below_after 256 (packed two vs) left₃ (rw m.written at y₂) in
    weaken (AreAllEntries rule hs zs vs left₃) (IsList rule w bs) (read_first rule _ hs zs vs left₃)
    (λ es rest o.
    let c : length es ≡ L = cc (values_length es) in
    record {
      written = simp (append_assoc, c, i.0, j.0, k.0, m.written, o.the_heads, o.the_sizes, o.the_values, o.the_steps);
      rising = o.rising;
    })
    (first_as_written rule _ hs zs vs left₃ m.small y₃))))))

-- ---- accepted exactly when it obeys the format

-- bytes are accepted as a list exactly when they are that list written out
pub list_exactly : (rule : Rule) (w end : ℕ) (bs : List ℕ) (es : List Entry) (left : List ℕ) → rule.samples < 2 ^ 32 → rule.samples ≤ 256 ^ w → Bytes bs
    → (read_list rule w end bs ≡ ok es left) ↔ IsList rule w bs es left
list_exactly rule w end bs es left m l y =
    (λ e. subst (Holds (IsList rule w bs)) e (list_as_written rule w end bs y), λ h. rw h.written (list_read_back rule w end es left m l h.rising))
