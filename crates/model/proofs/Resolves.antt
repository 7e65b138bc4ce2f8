-- What stands in one scope resolves to something well formed, where no site of it is at fault. By induction on the trees, from what a name stands for.
use mathlib.Core.Path.{◌≡◌, refl, sym, ◌∙◌}
use mathlib.Core.List.Memᴰ.{append_left as left}
use mathlib.Core.List.Memᴰ.{append_right as right}
use mathlib.Core.List.Memᴰ.{head}
use mathlib.Core.List.{List, [], ◌∷◌, ◌++◌, Memᴰ as In}
use mathlib.Core.Bool.{Bool, true, false, cond, ◌&&◌}
use Prim.Native.Nat.{ℕ, ◌+◌, ◌≤◌, ◌<◌}
use native.Mathlib.Nat.{mul-le-mul_right}
use native.Mathlib.Omega.{arith}
use lib.IntN.{ℤ, pos, nat_abs, ◌*ℤ◌}
use lib.ListN.{length}
use Rattle.value.specs.Range.{InRange}
use Rattle.value.proofs.Sizes.{abs-mul}
use Rattle.value.proofs.Bounds.{in_size}
use Rattle.word.specs.Number.{unit}
use Rattle.grammar.specs.Syntax
use Rattle.model.specs.Sites.{Scope, whole, value, scale, bound, expr_sites, exprs_sites, set_sites, cond_sites, gate_sites, scale_sites, rate_sites, is_lone, item_sites, channel_sites, values_sites, sets_sites, count_sets, count_args, count_exprs, args_sites, action_sites, bindings, tokens_of, Variable, Definition}
use Rattle.model.specs.Words.{whole_of}
use Rattle.model.specs.Limits.{local_limit}
use Rattle.model.specs.Given.{Meaning, local, variable, nothing, is_value, is_given, meaning, place_in}
use Rattle.model.specs.Resolved
use Rattle.model.specs.Resolved.{is_channel_name, item_use, channel_use, action_use, or_zero, list_of, number_value, number_scale, value_named, scale_named, resolve_expr, resolve_set, resolve_cond, resolve_gate, resolve_scale, resolve_rate, item_named, resolve_item, resolve_channel, resolve_values, resolve_sets, resolve_action, resolve_args}
use Rattle.model.specs.Good.{Every, scale_limit, GoodExpr, GoodSet, GoodCond, GoodGate, GoodScale, GoodRate, OneOrTwo, GoodItem, GoodName, GoodValues, GoodSets, GoodAction, names_bound}
use Rattle.model.specs.Faultless.{scale_of, AllFine, FineNumber}
use Rattle.model.proofs.Members.{not-both, got-below}
use Rattle.model.proofs.Meanings.{Means, a_local, a_variable, unknown, means}

-- ---- how large a scale can be

pub whole-scale : (z : ℤ) → InRange z → nat_abs (z *ℤ pos unit) ≤ scale_limit
whole-scale z h = rw (abs-mul z (pos unit)) (mul-le-mul_right unit (in_size z h))

module _ (w : ℕ → List ℕ) (vs : List Variable) (ds : List Definition) (cs : List ℕ) where
  module _ (numbers : (v : Variable) → In v vs → FineNumber w vs ds cs v.number) (sc : Scope) where
    abbrev n : ℕ
    n = length sc

    -- ---- names

    number-good : (v : Syntax.Number) → FineNumber w vs ds cs v → is_value (variable v) ≡ true → GoodExpr n (Resolved.constant (number_value w vs ds cs v))
    unfolding is_value GoodExpr number_value
    number-good (Syntax.number b false k) h e = h
    number-good (Syntax.number b true k) h e = not-both e refl

    named-good : {k : ℕ} (o : Meaning) → Means w k vs sc o → is_value o ≡ true → GoodExpr n (value_named w vs ds cs o)
    unfolding is_value GoodExpr value_named
    named-good o (a_local i g e) h = got-below sc i g
    named-good o (a_variable {v = v} l i e) h = number-good v.number (numbers v i) h
    named-good o (unknown l f) h = not-both h refl

    scale-fixed : (v : Syntax.Number) → FineNumber w vs ds cs v → nat_abs (number_scale w vs ds cs v) ≤ scale_limit
    unfolding number_scale
    scale-fixed (Syntax.number b false k) h = whole-scale (whole_of w b k) h
    scale-fixed (Syntax.number b true k) h = h

    scaled-good : {k : ℕ} (o : Meaning) → Means w k vs sc o → is_given o ≡ true → GoodScale n (scale_named w vs ds cs o)
    unfolding is_given GoodScale scale_named
    scaled-good o (a_local i g e) h = got-below sc i g
    scaled-good o (a_variable {v = v} l i e) h = scale-fixed v.number (numbers v i)
    scaled-good o (unknown l f) h = not-both h refl

    -- ---- expressions, sets, conditions, rates

    pub expr-good : (e : Syntax.Expr) → AllFine w vs ds cs sc (expr_sites e) → GoodExpr n (resolve_expr w vs ds cs sc e)
    unfolding expr_sites resolve_expr GoodExpr
    expr-good (Syntax.literal b k) h = h (whole b k) (head refl)
    expr-good (Syntax.named k) h = named-good _ (means w k vs sc) (h (value k) (head refl))
    expr-good (Syntax.absolute e) h = expr-good e h
    expr-good (Syntax.binary o e f) h = (expr-good e (λ x i. h x (left (expr_sites f) i)), expr-good f (λ x i. h x (right (expr_sites e) i)))

    pub exprs-good : (r : Syntax.Exprs) → AllFine w vs ds cs sc (exprs_sites r) → Every (GoodExpr n) (list_of (resolve_expr w vs ds cs sc) r)
    unfolding exprs_sites list_of Every
    exprs-good (Syntax.last_expr e) h = (expr-good e h, tt)
    exprs-good (Syntax.next_expr e r) h = (expr-good e (λ x i. h x (left (exprs_sites r) i)), exprs-good r (λ x i. h x (right (expr_sites e) i)))

    pub args-good : (a : Syntax.Args) → AllFine w vs ds cs sc (args_sites a) → Every (GoodExpr n) (resolve_args w vs ds cs sc a)
    unfolding args_sites resolve_args Every
    args-good Syntax.no_args h = tt
    args-good (Syntax.args r) h = exprs-good r h

    exprs-count : (r : Syntax.Exprs) → length (list_of (resolve_expr w vs ds cs sc) r) ≡ count_exprs r
    unfolding list_of count_exprs
    exprs-count (Syntax.last_expr e) = refl
    exprs-count (Syntax.next_expr e r) = let h = exprs-count r in omega arith

    pub args_count : (a : Syntax.Args) → length (resolve_args w vs ds cs sc a) ≡ count_args a
    unfolding resolve_args count_args
    args_count Syntax.no_args = refl
    args_count (Syntax.args r) = exprs-count r

    set-good : (s : Syntax.Set) → AllFine w vs ds cs sc (set_sites s) → GoodSet n (resolve_set w vs ds cs sc s)
    unfolding set_sites resolve_set GoodSet
    set-good (Syntax.single e) h = expr-good e h
    set-good (Syntax.range e f) h = (expr-good e (λ x i. h x (left (expr_sites f) i)), expr-good f (λ x i. h x (right (expr_sites e) i)))
    set-good (Syntax.joined j s r) h = (set-good s (λ x i. h x (left (set_sites r) i)), set-good r (λ x i. h x (right (set_sites s) i)))

    cond-good : (c : Syntax.Cond) → AllFine w vs ds cs sc (cond_sites c) → GoodCond n (resolve_cond w vs ds cs sc c)
    unfolding cond_sites resolve_cond GoodCond
    cond-good (Syntax.compare b r e f) h = (expr-good e (λ x i. h x (left (expr_sites f) i)), expr-good f (λ x i. h x (right (expr_sites e) i)))
    cond-good (Syntax.both c d) h = (cond-good c (λ x i. h x (left (cond_sites d) i)), cond-good d (λ x i. h x (right (cond_sites c) i)))
    cond-good (Syntax.either c d) h = (cond-good c (λ x i. h x (left (cond_sites d) i)), cond-good d (λ x i. h x (right (cond_sites c) i)))

    pub gate-good : (g : Syntax.Gate) → AllFine w vs ds cs sc (gate_sites g) → GoodGate n (resolve_gate w vs ds cs sc g)
    unfolding gate_sites resolve_gate GoodGate
    gate-good Syntax.no_gate h = tt
    gate-good (Syntax.gate c) h = cond-good c h

    scale-good : (s : Syntax.Scale) → ((v : Syntax.Number) → s ≡ Syntax.fixed v → FineNumber w vs ds cs v) → AllFine w vs ds cs sc (scale_sites s) → GoodScale n (resolve_scale w vs ds cs sc s)
    unfolding scale_sites resolve_scale GoodScale
    scale-good (Syntax.fixed v) f h = scale-fixed v (f v refl)
    scale-good (Syntax.named_scale k) f h = scaled-good _ (means w k vs sc) (h (scale k) (head refl))

    pub rate-good : (r : Syntax.Rate) → ((v : Syntax.Number) → scale_of r ≡ Syntax.fixed v → FineNumber w vs ds cs v) → AllFine w vs ds cs sc (rate_sites r) → GoodRate n (resolve_rate w vs ds cs sc r)
    unfolding rate_sites resolve_rate GoodRate
    rate-good (Syntax.plain s) f h = scale-good s f h
    rate-good (Syntax.scaled s e) f h = (scale-good s f (λ x i. h x (left (expr_sites e) i)), expr-good e (λ x i. h x (right (scale_sites s) i)))

    -- ---- actions

    -- channel names that are used here have their numbers
    abbrev pub Known : List ℕ → Type 0
    Known ks = (k : ℕ) → In k ks → or_zero (place_in w k 0 cs) < length cs

    -- a name that is no channel name is a value
    no-channel : (v : Syntax.Number) → is_channel_name (variable v) ≡ false → is_value (variable v) ≡ true
    unfolding is_channel_name is_value
    no-channel (Syntax.number b false k) e = refl
    no-channel (Syntax.number b true k) e = not-both refl e

    given-value : (o : Meaning) → is_channel_name o ≡ false → is_value o ≡ true
    unfolding is_channel_name is_value
    given-value (local i) e = refl
    given-value (variable v) e = no-channel v e
    given-value nothing e = not-both refl e

    sets-count : (s : Syntax.Sets) → length (resolve_sets w vs ds cs sc s) ≡ count_sets s
    unfolding resolve_sets count_sets
    sets-count (Syntax.one_set s) = refl
    sets-count (Syntax.two_sets s r) = refl

    -- in a model with as many channel names
    module _ (M : Resolved.Model) (counted : M.channels ≡ length cs) where
      name-good : (k : ℕ) (lone : Bool) → is_lone w k ≡ lone → AllFine w vs ds cs sc (cond lone [] (value k ∷ [])) → Known (cond (lone && is_channel_name (meaning w vs sc k)) (k ∷ []) [])
          → GoodItem M n (cond (lone && is_channel_name (meaning w vs sc k)) (Resolved.name (or_zero (place_in w k 0 cs))) (Resolved.number (value_named w vs ds cs (meaning w vs sc k))))
      unfolding GoodItem
      name-good k false e h u = named-good _ (means w k vs sc) (h (value k) (head refl))
      name-good k true e h u = by (is_channel_name (meaning w vs sc k)) refl u
        where
          by : (c : Bool) → is_channel_name (meaning w vs sc k) ≡ c → Known (cond c (k ∷ []) []) → GoodItem M n (cond c (Resolved.name (or_zero (place_in w k 0 cs))) (Resolved.number (value_named w vs ds cs (meaning w vs sc k))))
          by true f u = rw counted (u k (head refl))
          by false f u = named-good _ (means w k vs sc) (given-value _ f)

      item-good : (c : Syntax.Expr) → AllFine w vs ds cs sc (item_sites w c) → Known (item_use w vs sc c) → GoodItem M n (resolve_item w vs ds cs sc c)
      unfolding item_sites item_use resolve_item item_named GoodItem
      item-good (Syntax.literal b k) h u = expr-good (Syntax.literal b k) h
      item-good (Syntax.named k) h u = name-good k (is_lone w k) refl h u
      item-good (Syntax.absolute e) h u = expr-good (Syntax.absolute e) h
      item-good (Syntax.binary o e f) h u = expr-good (Syntax.binary o e f) h

      channel-good : (c : Syntax.Channel) → AllFine w vs ds cs sc (channel_sites w c) → Known (channel_use w vs sc c) → GoodName M n (resolve_channel w vs ds cs sc c)
      unfolding channel_sites channel_use resolve_channel GoodName
      channel-good (Syntax.one_item e) h u = item-good e h u
      channel-good (Syntax.two_items e f) h u = (item-good e (λ x i. h x (left (item_sites w f) i)) (λ x i. u x (left (item_use w vs sc f) i)), item-good f (λ x i. h x (right (item_sites w e) i)) (λ x i. u x (right (item_use w vs sc e) i)))
      channel-good (Syntax.three_items e f g) h u = (
        item-good e (λ x i. h x (left (item_sites w f ++ item_sites w g) i)) (λ x i. u x (left (item_use w vs sc f ++ item_use w vs sc g) i)),
        item-good f (λ x i. h x (right (item_sites w e) (left (item_sites w g) i))) (λ x i. u x (right (item_use w vs sc e) (left (item_use w vs sc g) i))),
        item-good g (λ x i. h x (right (item_sites w e) (right (item_sites w f) i))) (λ x i. u x (right (item_use w vs sc e) (right (item_use w vs sc f) i))),
      )

      one : {A : Type 0} {x : A} → OneOrTwo (x ∷ [])
      one = record { one = omega arith; two = omega arith }

      two : {A : Type 0} {x y : A} → OneOrTwo (x ∷ y ∷ [])
      two = record { one = omega arith; two = omega arith }

      values-good : (c : Resolved.Channel) → GoodName M n c → (v : Syntax.Values) → AllFine w vs ds cs sc (values_sites v) → GoodValues M n c (resolve_values w vs ds cs sc v)
      unfolding values_sites resolve_values Every
      values-good c g (Syntax.one_value e) h = record { channel = g; number = one; values = (expr-good e h, tt) }
      values-good c g (Syntax.two_values e f) h =
          record { channel = g; number = two; values = (expr-good e (λ x i. h x (left (expr_sites f) i)), (expr-good f (λ x i. h x (right (expr_sites e) i)), tt)) }

      sets-good : (c : Resolved.Channel) → GoodName M n c → (s : Syntax.Sets) → AllFine w vs ds cs sc (sets_sites s) → GoodSets M n c (resolve_sets w vs ds cs sc s)
      unfolding sets_sites resolve_sets Every
      sets-good c g (Syntax.one_set s) h = record { channel = g; number = one; sets = (set-good s h, tt) }
      sets-good c g (Syntax.two_sets s r) h =
          record { channel = g; number = two; sets = (set-good s (λ x i. h x (left (set_sites r) i)), (set-good r (λ x i. h x (right (set_sites s) i)), tt)) }

      pub action-good : (a : Syntax.Action) → AllFine w vs ds cs sc (action_sites w a) → Known (action_use w vs sc a) → GoodAction M n (resolve_action w vs ds cs sc a)
      unfolding action_sites action_use resolve_action GoodAction
      action-good (Syntax.wait k) h u = tt
      action-good (Syntax.launch c v) h u = values-good _ (channel-good c (λ x i. h x (left (values_sites v) i)) u) v (λ x i. h x (right (channel_sites w c) i))
      action-good (Syntax.kill c v) h u = values-good _ (channel-good c (λ x i. h x (left (values_sites v) i)) u) v (λ x i. h x (right (channel_sites w c) i))
      action-good (Syntax.receive c s) h u = sets-good _ (channel-good c (λ x i. h x (left (sets_sites s) i)) u) s (λ x i. h x (right (channel_sites w c) i))
      action-good (Syntax.bind c s ns) h u =
          sets-good _ (channel-good c (λ x i. h x (left (bound (tokens_of ns) (count_sets s) ∷ []) (left (sets_sites s) i))) u) s (λ x i. h x (left (bound (tokens_of ns) (count_sets s) ∷ []) (right (channel_sites w c) i)))
      action-good (Syntax.check c s) h u = sets-good _ (channel-good c (λ x i. h x (left (sets_sites s) i)) u) s (λ x i. h x (right (channel_sites w c) i))
      action-good (Syntax.hand_send c v) h u = values-good _ (channel-good c (λ x i. h x (left (values_sites v) i)) u) v (λ x i. h x (right (channel_sites w c) i))
      action-good (Syntax.hand_receive c s) h u = sets-good _ (channel-good c (λ x i. h x (left (sets_sites s) i)) u) s (λ x i. h x (right (channel_sites w c) i))
      action-good (Syntax.hand_bind c s ns) h u =
          sets-good _ (channel-good c (λ x i. h x (left (bound (tokens_of ns) (count_sets s) ∷ []) (left (sets_sites s) i))) u) s (λ x i. h x (left (bound (tokens_of ns) (count_sets s) ∷ []) (right (channel_sites w c) i)))

    -- a binding action binds as many names as it has sets, and they have room
    pub action-binds : (a : Syntax.Action) → n ≤ local_limit → AllFine w vs ds cs sc (action_sites w a) → (length (bindings a) ≡ names_bound (resolve_action w vs ds cs sc a)) × (n + length (bindings a) ≤ local_limit)
    unfolding action_sites bindings resolve_action names_bound
    action-binds (Syntax.wait k) l h = (refl, omega arith)
    action-binds (Syntax.launch c v) l h = (refl, omega arith)
    action-binds (Syntax.kill c v) l h = (refl, omega arith)
    action-binds (Syntax.receive c s) l h = (refl, omega arith)
    action-binds (Syntax.bind c s ns) l h =
        let f = h (bound (tokens_of ns) (count_sets s)) (right (channel_sites w c ++ sets_sites s) (head refl)) in (f.0 ∙ sym (sets-count s), omega (arith, f.1))
    action-binds (Syntax.check c s) l h = (refl, omega arith)
    action-binds (Syntax.hand_send c v) l h = (refl, omega arith)
    action-binds (Syntax.hand_receive c s) l h = (refl, omega arith)
    action-binds (Syntax.hand_bind c s ns) l h =
        let f = h (bound (tokens_of ns) (count_sets s)) (right (channel_sites w c ++ sets_sites s) (head refl)) in (f.0 ∙ sym (sets-count s), omega (arith, f.1))
