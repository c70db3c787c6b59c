-- What naming a variant does to a reply.
-- Assumes nothing.
use Rattle.std.specs.Prelude.{Result, Err, ⊤}
use mathlib.Core.Path.{◌≡◌, ap, sym, ◌∙◌}
use Rattle.format.specs.declared.FileVariant.{FileVariant}
use Rattle.format.specs.declared.Refusal.{Refusal}
use Rattle.format.specs.Base.{named}
use Rattle.format.specs.Reply.{named_reply}

-- a refused reply, once its refusal is named
pub refused_named : (v : FileVariant) (reply : Result ⊤ Refusal) (why later : Refusal) → reply ≡ Err why → later ≡ named v why → Err later ≡ named_reply v reply
refused_named v reply why later q n = ap Err n ∙ sym (ap (named_reply v) q)
