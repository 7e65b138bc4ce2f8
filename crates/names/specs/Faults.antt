-- The faults that questions 7, 8 and 9 look for, and the earlier of two answers (01, Opening a text). Assumes nothing: these are definitions.
use Rattle.std.specs.Prelude.{List, Bool, true, false, cond, ◌&&◌, ℕ, eqb, None, Some}
use Rattle.token.specs.Questions.{Found}
use Rattle.token.specs.Kind as kind
use Rattle.grammar.specs.Syntax
use Rattle.model.specs.Lists.{earlier}
use Rattle.model.specs.Sites.{Scope, Site, Variable, Definition, names}
use Rattle.model.specs.Limits.{site_beyond, tree_beyond}
use Rattle.model.specs.Fresh.{site_repeated, not_new}
use Rattle.model.specs.Given.{site_wrong, not_given}
use Rattle.names.specs.declared.Question.{Question}
use Rattle.names.specs.declared.Question.TheVariants.{Limits, Fresh, Given}

-- the earlier of two answers
unfoldable pub earlier_of : Found → Found → Found
earlier_of (Some k) f = earlier k f
earlier_of None f = f

-- 7: a token's kind and contents are those of a name or a decimal beyond its limit, which leaves no contents
unfoldable pub left_out : ℕ → ℕ → ℕ → Bool
left_out k low high = cond (eqb k kind.name) (eqb low 0) (eqb k kind.decimal && eqb high 0)

-- 8 and 9 compare names
unfoldable pub asks_names : Question → Bool
asks_names Limits = false
asks_names Fresh = true
asks_names Given = true

-- 7, 8, 9: the tokens at fault at a site with its scope; w: the bytes of each token
unfoldable pub site_faults : Question → (ℕ → List ℕ) → List Variable → List Definition → Scope → Site → List ℕ
site_faults Limits w vs ds sc x = site_beyond w sc x
site_faults Fresh w vs ds sc x = site_repeated w (names vs) sc x
site_faults Given w vs ds sc x = site_wrong w vs ds sc x

-- 7, but for names and decimals, which the tokens alone tell; 8; 9
unfoldable pub tree_faults : Question → (ℕ → List ℕ) → Syntax.Model → List ℕ
tree_faults Limits w m = tree_beyond w m
tree_faults Fresh w m = not_new w m
tree_faults Given w m = not_given w m
