-- Bytes written one after another.
-- Assumes nothing.
use mathlib.Core.Path.{◌≡◌, refl, sym, ap, ◌∙◌}
use Prim.Native.Nat.{ℕ, suc, ◌+◌, ◌≤◌}
use native.Mathlib.Omega.{arith}
use native.Mathlib.Nat.{add-zero, zero-add}
use mathlib.Core.List.{List, [], ◌∷◌, ◌++◌}
use lib.ListN.{length, set, drop, length-append}
use lib.Seq.{sets, length-sets, sets-eq}
use Rattle.write_bytes.specs.Written.{Wrote}

pub sets_append : (xs ys to : List ℕ) (at : ℕ) → sets to at (xs ++ ys) ≡ sets (sets to at xs) (at + length xs) ys
sets_append [] ys to at = ap (λ (k : ℕ). sets to k ys) (sym (add-zero at))
sets_append (x ∷ xs) ys to at =
    let e : suc at + length xs ≡ at + suc (length xs) = omega arith in
    sets_append xs ys (set to at x) (suc at) ∙ ap (λ (k : ℕ). sets (sets (set to at x) (suc at) xs) k ys) e

-- nothing written
pub wrote_nothing : (to : List ℕ) (at : ℕ) → Wrote to at [] at to
wrote_nothing to at = record { place = sym (add-zero at); same = refl }

-- first xs, then ys after them
pub wrote_both : {to : List ℕ} {at : ℕ} {xs : List ℕ} {r : ℕ} {mid : List ℕ} {ys : List ℕ} {s : ℕ} {after : List ℕ}
    → Wrote to at xs r mid → Wrote mid r ys s after → Wrote to at (xs ++ ys) s after
wrote_both {to} {at} {xs} {r} {mid} {ys} {s} {after} a b =
    record {
      place = omega (arith, a.place, b.place, length-append xs ys);
      same = b.same ∙ rw (a.place, a.same) (sym (sets_append xs ys to at));
    }

pub wrote_length : {to : List ℕ} {at : ℕ} {xs : List ℕ} {r : ℕ} {after : List ℕ} → Wrote to at xs r after → length after ≡ length to
wrote_length {to} {at} {xs} w = ap length w.same ∙ length-sets to at xs

-- after xs there is room for ys
pub wrote_room : {to : List ℕ} {at : ℕ} {xs : List ℕ} {r : ℕ} {mid : List ℕ} (ys zs : List ℕ) → at + length (xs ++ (ys ++ zs)) ≤ length to
    → Wrote to at xs r mid → r + length ys ≤ length mid
wrote_room {to} {at} {xs} {r} {mid} ys zs h w = omega (arith, wrote_length w, w.place, length-append xs (ys ++ zs), length-append ys zs)

-- 01, Replies: "bytes past it are untouched": written from the output's start
pub wrote_front : {to : List ℕ} {xs : List ℕ} {r : ℕ} {after : List ℕ} → length xs ≤ length to → Wrote to 0 xs r after → after ≡ xs ++ drop (length xs) to
wrote_front {to} {xs} h w =
    let fits : 0 + length xs ≤ length to = omega arith in
    let e : 0 + length xs ≡ length xs = zero-add (length xs) in
    w.same ∙ (rw e at (sets-eq xs to 0 fits))
