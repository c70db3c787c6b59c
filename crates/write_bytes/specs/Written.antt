-- What a writing function leaves.
-- Assumes nothing.
use Rattle.std.specs.Prelude.{◌≡◌, ℕ, ◌+◌, List, length}
use Rattle.std.proofs.lemmas.List.Edits.{sets}

-- 01, Replies: "It replies with the byte count; bytes past it are untouched." The bytes stand at `at`, r is the place after them, all others are as before.
pub record Wrote (before : List ℕ) (at : ℕ) (bytes : List ℕ) (r : ℕ) (after : List ℕ) : Type 0 where
  pub place : r ≡ at + length bytes
  pub same : after ≡ sets before at bytes
