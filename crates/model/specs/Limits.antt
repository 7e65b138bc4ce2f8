-- Question 7 (01, Opening a text): the tokens that are beyond a limit. Assumes nothing: these are definitions.
use Rattle.std.specs.Prelude.{List, [], ◌∷◌, ◌++◌, Bool, true, false, cond, not, ◌&&◌, ℕ, suc, ◌-◌, eqb, leb, ltb, length, drop, None, Some}
use Rattle.value.specs.Range.{value_of, Value}
use Rattle.word.specs.Name.{longest}
use Rattle.word.specs.Number.{worth}
use Rattle.token.specs.Kind as kind
use Rattle.token.specs.Token.{Mark, tokens}
use Rattle.token.specs.Contents.{bytes_of, few_digits}
use Rattle.grammar.specs.Syntax
use Rattle.model.specs.Lists.{each, when}
use Rattle.model.specs.Sites.{Scope, Site, whole, value, scale, bound, branch, call, number_sites, Variable, Definition, names, titles, variables, definitions, starts, over_sites}
use Rattle.model.specs.Words.{word_of, whole_of}

-- 01, question 7: how large a count may be
abbrev pub count_limit : ℕ
count_limit = 256

-- 01, question 7: how many variables, definitions, parameters of one definition, locals together and branches of one sum there may be
abbrev pub variable_limit : ℕ
variable_limit = 64

abbrev pub definition_limit : ℕ
definition_limit = 64

abbrev pub parameter_limit : ℕ
parameter_limit = 6

abbrev pub local_limit : ℕ
local_limit = 8

abbrev pub branch_limit : ℕ
branch_limit = 16

unfoldable pub is_missing : Value → Bool
is_missing (Some z) = false
is_missing None = true

-- a name of more than 16 bytes, or a decimal with too many digits
unfoldable pub word_beyond : List ℕ → Mark → Bool
word_beyond text m =
    cond (eqb m.kind kind.name) (ltb longest (length (bytes_of text m)))
    (eqb m.kind kind.decimal && not (few_digits (bytes_of text m)))

-- their tokens; k is the number of the first token
unfoldable pub words_beyond : List ℕ → ℕ → List Mark → List ℕ
words_beyond text k [] = []
words_beyond text k (m ∷ ms) = when (word_beyond text m) k ++ words_beyond text (suc k) ms

module _ (w : ℕ → List ℕ) where
  -- a whole number beyond the range of values
  unfoldable pub whole_beyond : Bool → ℕ → List ℕ
  whole_beyond b k = when (is_missing (value_of (whole_of w b k))) k

  -- at a site: a whole number, a local with eight before it, a branch with sixteen before it
  unfoldable pub site_beyond : Scope → Site → List ℕ
  site_beyond sc (whole b k) = whole_beyond b k
  site_beyond sc (value k) = []
  site_beyond sc (scale k) = []
  site_beyond sc (bound ks n) = drop (local_limit - length sc) ks
  site_beyond sc (branch i k) = when (leb branch_limit i) k
  site_beyond sc (call k n) = []

  unfoldable pub variable_beyond : Variable → List ℕ
  variable_beyond v = each (site_beyond []) (number_sites v.number)

  -- a parameter with six before it
  unfoldable pub definition_beyond : Definition → List ℕ
  definition_beyond d = drop parameter_limit d.params

  unfoldable pub wholes_beyond : Syntax.Wholes → List ℕ
  wholes_beyond (Syntax.last_whole b k) = whole_beyond b k
  wholes_beyond (Syntax.next_whole b k r) = whole_beyond b k ++ wholes_beyond r

  unfoldable pub starts_beyond : Syntax.Starts → List ℕ
  starts_beyond Syntax.no_starts = []
  starts_beyond (Syntax.starts r) = wholes_beyond r

  -- a count above 256
  unfoldable pub start_beyond : Syntax.Start → List ℕ
  start_beyond (Syntax.once k s) = starts_beyond s
  start_beyond (Syntax.counted c k s) = when (ltb count_limit (worth 0 (w c))) c ++ starts_beyond s

  unfoldable pub tree_beyond : Syntax.Model → List ℕ
  tree_beyond m =
      drop variable_limit (names (variables m)) ++ each variable_beyond (variables m)
      ++ (drop definition_limit (titles (definitions m)) ++ each definition_beyond (definitions m))
      ++ (over_sites w site_beyond m ++ each start_beyond (starts m))

-- 7: every token beyond a limit
unfoldable pub beyond : List ℕ → Syntax.Model → List ℕ
beyond text m = words_beyond text 0 (tokens text) ++ tree_beyond (word_of text) m
