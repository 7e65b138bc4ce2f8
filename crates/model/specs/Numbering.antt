-- How many sums the parts of a syntax tree have, and that these are numbered from n on in the order in which the tree holds them (01, State and rule machine: a sum is numbered
-- by its first token). Assumes nothing: these are definitions.
use Rattle.std.specs.Prelude.{◌≡◌, List, [], ◌∷◌, ℕ, ◌+◌}
use Rattle.grammar.specs.Syntax
use Rattle.model.specs.Sites.{Definition}

-- ---- how many sums there are

abbrev mutual
  pub count_sum : Syntax.Sum → ℕ
  count_sum (Syntax.sum n b) = 1 + count_branches b

  pub count_branches : Syntax.Branches → ℕ
  count_branches (Syntax.last_branch b) = count_branch b
  count_branches (Syntax.next_branch b r) = count_branch b + count_branches r

  pub count_branch : Syntax.Branch → ℕ
  count_branch (Syntax.branch k g a r n) = count_next n

  pub count_next : Syntax.Next → ℕ
  count_next Syntax.stop = 0
  count_next (Syntax.dot c) = count_cont c

  pub count_cont : Syntax.Cont → ℕ
  count_cont (Syntax.proceed s) = count_sum s
  count_cont (Syntax.call k a) = 0
  count_cont (Syntax.group k c) = count_conts c

  pub count_conts : Syntax.Conts → ℕ
  count_conts (Syntax.last_cont c) = count_cont c
  count_conts (Syntax.next_cont c r) = count_cont c + count_conts r

abbrev pub count_sums : Syntax.Sums → ℕ
count_sums (Syntax.last_sum s) = count_sum s
count_sums (Syntax.next_sum s r) = count_sum s + count_sums r

abbrev pub count_definitions : List Definition → ℕ
count_definitions [] = 0
count_definitions (d ∷ ds) = count_sums d.sums + count_definitions ds

-- ---- their numbers are n, n + 1, and so on

abbrev mutual
  pub SumFrom : Syntax.Sum → ℕ → Type 0
  SumFrom (Syntax.sum k b) n = (k ≡ n) × BranchesFrom b (n + 1)

  pub BranchesFrom : Syntax.Branches → ℕ → Type 0
  BranchesFrom (Syntax.last_branch b) n = BranchFrom b n
  BranchesFrom (Syntax.next_branch b r) n = BranchFrom b n × BranchesFrom r (n + count_branch b)

  pub BranchFrom : Syntax.Branch → ℕ → Type 0
  BranchFrom (Syntax.branch k g a r x) n = NextFrom x n

  pub NextFrom : Syntax.Next → ℕ → Type 0
  NextFrom Syntax.stop n = Unit {0}
  NextFrom (Syntax.dot c) n = ContFrom c n

  pub ContFrom : Syntax.Cont → ℕ → Type 0
  ContFrom (Syntax.proceed s) n = SumFrom s n
  ContFrom (Syntax.call k a) n = Unit {0}
  ContFrom (Syntax.group k c) n = ContsFrom c n

  pub ContsFrom : Syntax.Conts → ℕ → Type 0
  ContsFrom (Syntax.last_cont c) n = ContFrom c n
  ContsFrom (Syntax.next_cont c r) n = ContFrom c n × ContsFrom r (n + count_cont c)

abbrev pub SumsFrom : Syntax.Sums → ℕ → Type 0
SumsFrom (Syntax.last_sum s) n = SumFrom s n
SumsFrom (Syntax.next_sum s r) n = SumFrom s n × SumsFrom r (n + count_sum s)

abbrev pub DefinitionsFrom : List Definition → ℕ → Type 0
DefinitionsFrom [] n = Unit {0}
DefinitionsFrom (d ∷ ds) n = SumsFrom d.sums n × DefinitionsFrom ds (n + count_sums d.sums)
