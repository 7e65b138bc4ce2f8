-- What a state's test has to know of a sum, in one number: how many locals it has, and the definition whose text holds it (02, note 6). Assumes nothing:
-- these are definitions.
use Rattle.std.specs.Prelude.{ℕ, ◌+◌, ◌*◌, ◌/◌, ◌%◌}
use Rattle.model.specs.Resolved.{Sum}

-- 02, note 6: how many numbers stand for each definition, more than a sum has locals
abbrev pub scope_width : ℕ
scope_width = 16

-- at most 8 locals and 64 definitions
unfoldable pub scope_of : Sum → ℕ
scope_of s = s.locals + s.definition * scope_width

-- its parts
unfoldable pub locals_in : ℕ → ℕ
locals_in k = k % scope_width

unfoldable pub definition_in : ℕ → ℕ
definition_in k = k / scope_width
