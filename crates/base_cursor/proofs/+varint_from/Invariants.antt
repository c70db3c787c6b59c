use Rattle.base_cursor.proofs.+varint_from.Given as goal

-- proposed from what the function passes where it calls itself
abbrev pub decreases-varint_from : goal.decreases-varint_from
decreases-varint_from l = l.more
