-- Three lists that are lent to be filled: that a struct still holds the same.
use Rattle.std.specs.Prelude.{◌≡◌}
use Rattle.report.specs.declared.report_block.LentLists.{LentLists}

abbrev pub SameLists : LentLists → LentLists → Type 0
SameLists a b = (b.fractions.ghost_name ≡ a.fractions.ghost_name) × (b.losses.ghost_name ≡ a.losses.ghost_name) × (b.words.ghost_name ≡ a.words.ghost_name)
