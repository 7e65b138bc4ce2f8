-- What evaluation and the numbers of a state come to, with literal numbers, by computation, one to a row: each operator, relation and join, a local as a scale, the order of
-- a continuation's processes, the numbers of a state.
use Rattle.std.specs.Prelude.{◌≡◌, refl, [], ◌∷◌, Bool, true, false, ℕ, ℤ, pos, negsuc, take, Some}
use Rattle.std.proofs.Math.Option.{Option, some, Option-elim}
use Rattle.value.specs.Range.{value_of, Value}
use Rattle.value.specs.Arithmetic.{sum_of, difference_of, product_of, abs_of, max_of, min_of}
use Rattle.grammar.specs.Grammar.{Relation, less, at_most, greater, at_least, same, differs}
use Rattle.grammar.specs.Syntax.{Op, plus, minus, times, maximum, minimum, Join, without, union, inter}
use Rattle.model.specs.Resolved
use Rattle.rules.specs.Offers as offers
use Rattle.machine.specs.Evaluate as evaluate
use Rattle.machine.specs.Evaluate.{given, eval_expr, eval_set, eval_cond, eval_rate}
use Rattle.machine.specs.Offer as offer
use Rattle.machine.specs.Offer.{Process}
use Rattle.machine.specs.State.{State, padded, flatten, process_numbers, state_numbers}
use Rattle.machine.specs.Specimens.{sheet}

-- two constants joined by an operator
abbrev applied : Op → ℤ → ℤ → Value
applied o x y = eval_expr [] (Resolved.binary o (Resolved.constant x) (Resolved.constant y))

-- whether v is in two ranges that are joined
abbrev holds : Join → (a b c d v : ℕ) → Option Bool
holds j a b c d v =
    given (eval_set [] (Resolved.joined j (Resolved.range (Resolved.constant (pos a)) (Resolved.constant (pos b))) (Resolved.range (Resolved.constant (pos c)) (Resolved.constant (pos d)))))
    (λ s. some (offers.within s (pos v)))

-- whether a relation holds
abbrev compared : Relation → ℕ → ℕ → Option Bool
compared r x y = eval_cond [] (Resolved.compare false r (Resolved.constant (pos x)) (Resolved.constant (pos y)))

-- a process of sum n with one local; the sheet's definitions have one sum each, of the same number
abbrev process : ℕ → ℕ → Process
process n z = record { sum = n; locals = pos z ∷ []; definition = n }

-- two processes of the sheet, and no pair
abbrev two : State
two = record { processes = process 0 5 ∷ process 1 7 ∷ []; pairs = [] }

pub rows :
    -- operators: the right side is taken from the left
    (applied plus (pos 7) (pos 2) ≡ Some (pos 9))
    × (applied minus (pos 7) (pos 2) ≡ Some (pos 5))
    × (applied minus (pos 2) (pos 7) ≡ Some (negsuc 4))
    × (applied times (pos 7) (negsuc 1) ≡ Some (negsuc 13))
    × (applied maximum (negsuc 6) (pos 2) ≡ Some (pos 2))
    × (applied minimum (negsuc 6) (pos 2) ≡ Some (negsuc 6))
    × (eval_expr [] (Resolved.absolute (Resolved.constant (negsuc 6))) ≡ Some (pos 7))
    × (eval_expr (pos 4 ∷ pos 6 ∷ []) (Resolved.local_at 1) ≡ Some (pos 6))
    -- sets: 1..4 and 3..6, joined
    × (holds union 1 4 3 6 2 ≡ some true)
    × (holds union 1 4 3 6 6 ≡ some true)
    × (holds union 1 4 3 6 7 ≡ some false)
    × (holds inter 1 4 3 6 2 ≡ some false)
    × (holds inter 1 4 3 6 3 ≡ some true)
    × (holds inter 1 4 3 6 5 ≡ some false)
    × (holds without 1 4 3 6 2 ≡ some true)
    × (holds without 1 4 3 6 3 ≡ some false)
    × (holds without 1 4 3 6 5 ≡ some false)
    -- relations
    × (compared less 1 2 ≡ some true)
    × (compared less 2 2 ≡ some false)
    × (compared at_most 2 2 ≡ some true)
    × (compared at_most 3 2 ≡ some false)
    × (compared greater 3 2 ≡ some true)
    × (compared greater 2 2 ≡ some false)
    × (compared at_least 2 2 ≡ some true)
    × (compared at_least 1 2 ≡ some false)
    × (compared same 2 2 ≡ some true)
    × (compared same 2 3 ≡ some false)
    × (compared differs 2 3 ≡ some true)
    × (compared differs 2 2 ≡ some false)
    -- rates: a local as scale counts whole numbers
    × (eval_rate (pos 3 ∷ []) (Resolved.plain (Resolved.scale_local 0)) ≡ some 30000)
    × (eval_rate (pos 3 ∷ []) (Resolved.scaled (Resolved.scale_local 0) (Resolved.constant (pos 2))) ≡ some 60000)
    × (eval_rate (pos 3 ∷ []) (Resolved.scaled (Resolved.fixed (pos 2500)) (Resolved.local_at 0)) ≡ some 7500)
    -- a continuation's processes, left to right: a sum keeps the locals, a call has its arguments
    × (offer.next_processes sheet (pos 5 ∷ []) (Resolved.enter 1 ∷ Resolved.call 0 (Resolved.constant (pos 8) ∷ []) ∷ Resolved.enter 0 ∷ [])
    ≡ process 1 5 ∷ process 0 8 ∷ process 0 5 ∷ [])
    -- the numbers of a state: both counts, then the processes, of which unused numbers are 0
    × (take 12 (state_numbers two)
    ≡ pos 2 ∷ pos 0 ∷ pos 0 ∷ pos 5 ∷ pos 0 ∷ pos 0 ∷ pos 0 ∷ pos 0 ∷ pos 0 ∷ pos 0 ∷ pos 0 ∷ pos 0 ∷ [])
    × (process_numbers (process 1 7) ≡ pos 1 ∷ pos 7 ∷ pos 0 ∷ pos 0 ∷ pos 0 ∷ pos 0 ∷ pos 0 ∷ pos 0 ∷ pos 0 ∷ pos 1 ∷ [])
unfolding
    eval_expr evaluate.apply evaluate.with_value evaluate.valued given sum_of difference_of product_of abs_of max_of min_of value_of eval_set evaluate.joined offers.within
    eval_cond evaluate.related eval_rate evaluate.eval_scale evaluate.in_rate offer.next_processes offer.part_processes offer.called offer.process_at offer.definition_of offer.or_zero
    state_numbers padded flatten process_numbers Option-elim
rows = (refl, refl, refl, refl, refl, refl, refl, refl, refl, refl, refl, refl, refl, refl, refl, refl, refl, refl, refl, refl, refl, refl, refl, refl, refl, refl, refl, refl, refl, refl, refl, refl, refl, refl, refl)
