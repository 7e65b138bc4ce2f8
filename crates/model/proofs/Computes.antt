-- What opening computes of a text whose derivation is given: the definitions that a computation goes through, named once. Assumes nothing.
use mathlib.Core.Path.{◌≡◌, ap, ◌∙◌}
use mathlib.Core.List.{List, []}
use Prim.Native.Nat.{ℕ}
use Rattle.std.specs.Prelude.{Ok}
use Rattle.value.specs.Range.{value_of}
use Rattle.word.specs.Number.{worth, ten_thousandths}
use Rattle.token.specs.Bytes.{within, is_blank, is_letter, is_digit, is_sign, sort_of, belongs, lead, starts, inside, skips, gap}
use Rattle.token.specs.Token.{pairs, same_bytes, word_kind, pointed, name_tok, number_tok, sign_tok, by_sort, token_at, next_token, also, Mark, marks, tokens, column, kinds_of}
use Rattle.token.specs.Contents.{few_digits}
use Rattle.token.specs.Questions.{too_long, allowed, stray_byte, outside, too_deep, bytes_judged, Judged}
use Rattle.token.specs.Questions as bytes
use Rattle.grammar.specs.Grammar.{Model, Reads, flat_whole, flat_number, flat_expr, flat_terms, flat_term, flat_factors, flat_atom, flat_exprs, flat_args, flat_part, flat_parts, flat_set, relation_kind, flat_test, flat_ands, flat_ors, flat_cond, flat_scale, flat_rate, flat_values, flat_sets, flat_names, flat_channel, flat_action, flat_gate, flat_prefix, flat_next, flat_cont, flat_item, flat_items, flat_choices, flat_sums, flat_body, flat_params, flat_wholes, flat_starts, flat_start, flat_system, flat_definitions, flat_model}
use Rattle.grammar.specs.Machine.{table, rows_of, is_may, find, onto, step, ending, onward, run, Out, bad, start}
use Rattle.grammar.specs.Syntax
use Rattle.grammar.specs.Syntax.{wide, literal_at, number_at, expr_at, terms_at, term_at, factors_at, atom_at, exprs_at, args_at, part_at, parts_at, set_at, test_at, ands_at, conjunction_at, ors_at, cond_at, scale_at, rate_at, values_at, sets_at, count_names, names_at, channel_at, action_at, gate_at, sums_prefix, sums_next, sums_cont, sums_item, sums_items, sums_choices, branch_at, next_at, cont_at, item_at, conts_at, branches_at, sum_at, sums_at, body_at, sums_sums, sums_body, params_at, wholes_at, starts_at, start_at, system_at, definitions_at, model_at, syntax_of}
use Rattle.grammar.proofs.Judged.{wrong}
use Rattle.model.specs.Lists
use Rattle.model.specs.Sites
use Rattle.model.specs.Words
use Rattle.model.specs.Limits
use Rattle.model.specs.Fresh
use Rattle.model.specs.Given
use Rattle.model.specs.Resolved
use Rattle.model.specs.Opening
use Rattle.model.specs.Opening.{Opening, refused, byte_place, tree_judged, opening}
use Rattle.model.proofs.Opens.{goes-wrong, fits}

-- questions 2 to 4
unfoldable pub judged_bytes : List ℕ → Judged
unfolding bytes_judged bytes.asked bytes.opened too_long allowed stray_byte outside too_deep inside starts within
judged_bytes text = bytes_judged text

-- a text's tokens, and their kinds
unfoldable pub tokens_in : List ℕ → List Mark
unfolding tokens marks also next_token token_at by_sort name_tok number_tok sign_tok word_kind same_bytes pairs pointed gap inside skips starts lead belongs sort_of is_blank is_letter is_digit is_sign within
    column
tokens_in text = tokens text

unfoldable pub kinds_in : List ℕ → List ℕ
unfolding tokens_in
kinds_in text = kinds_of (tokens_in text)

-- the kinds that a derivation is written as
unfoldable pub written : Model → List ℕ
unfolding flat_whole flat_number flat_expr flat_terms flat_term flat_factors flat_atom flat_exprs flat_args flat_part flat_parts flat_set relation_kind flat_test flat_ands flat_ors flat_cond flat_scale flat_rate
    flat_values flat_sets flat_names flat_channel flat_action flat_gate flat_prefix flat_next flat_cont flat_item flat_items flat_choices flat_sums flat_body flat_params flat_wholes flat_starts flat_start flat_system
    flat_definitions flat_model
written d = flat_model d []

-- what the machine says of the kinds
unfoldable pub ran : List ℕ → Out
unfolding run onward step onto find table rows_of is_may ending
ran ts = run 0 start ts

-- the syntax tree of a derivation
unfoldable pub tree_of : Model → Syntax.Model
unfolding wide literal_at number_at expr_at terms_at term_at factors_at atom_at exprs_at args_at part_at parts_at set_at test_at ands_at conjunction_at ors_at cond_at scale_at rate_at values_at sets_at count_names names_at
    channel_at action_at gate_at sums_prefix sums_next sums_cont sums_item sums_items sums_choices branch_at next_at cont_at item_at conts_at branches_at sum_at sums_at body_at sums_sums sums_body params_at wholes_at starts_at
    start_at system_at definitions_at model_at syntax_of
tree_of d = syntax_of d

-- the sites of a tree
unfoldable pub sites_of : (ℕ → List ℕ) → Syntax.Model → List Sites.Sited
unfolding Lists.each Lists.when Lists.any Lists.every_other Lists.earlier Lists.least Sites.expr_sites Sites.exprs_sites Sites.set_sites Sites.cond_sites Sites.gate_sites Sites.number_sites Sites.scale_sites Sites.rate_sites
    Sites.is_lone Sites.item_sites Sites.channel_sites Sites.values_sites Sites.sets_sites Sites.count_sets Sites.tokens_of Sites.action_sites Sites.bindings Sites.count_exprs Sites.count_args Sites.args_sites
    Sites.within Sites.branch_sites Sites.next_sites Sites.branches_sites Sites.sum_sites Sites.cont_sites Sites.conts_sites Sites.sums_sites Sites.params_of Sites.definitions_in Sites.system_in
    Sites.variables Sites.definitions Sites.system Sites.starts_in Sites.starts Sites.definition_sites Sites.sites Sites.over_sites Sites.names Sites.titles
sites_of w s = Sites.sites w s

-- questions 7, 8, 9
unfoldable pub beyond_in : List ℕ → Syntax.Model → List ℕ
unfolding sites_of value_of worth few_digits Words.nth Words.place_of Words.word_of Words.same Words.whole_of Words.decimal_of Limits.is_missing Limits.word_beyond Limits.words_beyond Limits.whole_beyond
    Limits.site_beyond Limits.variable_beyond Limits.definition_beyond Limits.wholes_beyond Limits.starts_beyond Limits.start_beyond Limits.tree_beyond Limits.beyond
beyond_in text s = Limits.beyond text s

unfoldable pub not_new_in : (ℕ → List ℕ) → Syntax.Model → List ℕ
unfolding sites_of Fresh.repeated Fresh.site_repeated Fresh.definition_repeated Fresh.not_new
not_new_in w s = Fresh.not_new w s

unfoldable pub not_given_in : (ℕ → List ℕ) → Syntax.Model → List ℕ
unfolding sites_of Given.or_else Given.is_value Given.is_given Given.takes Given.count_wholes Given.count_starts Given.place_in Given.variable_named Given.meaning Given.definition_named Given.is_callable
    Given.site_wrong Given.start_wrong Given.not_given
not_given_in w s = Given.not_given w s

-- the resolved model
unfoldable pub resolved_from : (ℕ → List ℕ) → Syntax.Model → Resolved.Model
unfolding sites_of not_given_in worth ten_thousandths Words.nth Words.place_of Words.word_of Words.same Words.whole_of Words.decimal_of Resolved.is_channel_name Resolved.item_use Resolved.channel_use Resolved.action_use
    Resolved.branch_uses Resolved.next_uses Resolved.branches_uses Resolved.sum_uses Resolved.cont_uses Resolved.conts_uses Resolved.sums_uses Resolved.definition_uses Resolved.firsts
    Resolved.channel_names Resolved.or_zero Resolved.definition_number Resolved.sum_number Resolved.sum_numbers Resolved.defined Resolved.list_of Resolved.number_value Resolved.number_scale
    Resolved.value_named Resolved.scale_named Resolved.resolve_expr Resolved.resolve_set Resolved.resolve_cond Resolved.resolve_gate Resolved.resolve_scale Resolved.resolve_rate Resolved.item_named
    Resolved.resolve_item Resolved.resolve_channel Resolved.resolve_values Resolved.resolve_sets Resolved.resolve_action Resolved.resolve_args Resolved.resolve_call Resolved.parts_of Resolved.parts_in Resolved.resolve_next
    Resolved.resolve_branch Resolved.resolve_branches Resolved.sum_tree Resolved.branches_tree Resolved.branch_tree Resolved.next_tree Resolved.cont_tree Resolved.conts_tree Resolved.sums_tree
    Resolved.all_sums Resolved.whole_values Resolved.start_values Resolved.resolve_start Resolved.resolved
resolved_from w s = Resolved.resolved w s

-- the place of a token
unfoldable pub placed : List ℕ → ℕ → ℕ
unfolding tokens_in Opening.byte_place Words.place_of Words.nth
placed text k = byte_place text k

-- questions 6 to 10
unfoldable pub judged_tree : List ℕ → Model → Opening
unfolding tokens_in tree_of beyond_in not_new_in not_given_in resolved_from placed Opening.too_many Opening.sums_in Opening.processes_at_start Opening.start_token Opening.system_token Opening.crowded Opening.asked_of_text
    Opening.tree_judged
judged_tree text d = tree_judged text (syntax_of d)

module _ (text : List ℕ) where
  -- a text with a derivation opens to what questions 6 to 10 answer
  pub opens-so : (d : Model) (o : Opening) → judged_bytes text ≡ Ok tt → written d ≡ kinds_in text → judged_tree text d ≡ o → opening text ≡ o
  unfolding judged_bytes written kinds_in judged_tree Reads
  opens-so d o p r t = fits text d p r ∙ t

  -- a text at which the machine stops is refused there
  pub stops_so : (k p : ℕ) → judged_bytes text ≡ Ok tt → ran (kinds_in text) ≡ bad k → placed text k ≡ p → opening text ≡ refused 5 p
  unfolding judged_bytes kinds_in ran placed
  stops_so k p b r e = goes-wrong text k b (wrong (kinds_of (tokens text)) k r) ∙ ap (refused 5) e
