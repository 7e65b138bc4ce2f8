-- `walk::channel_fault` meets its contract: one item, two or three.
use Rattle.names.proofs.Settled.{root_in}
use Rattle.names.specs.Settings.{faults_at}
use Rattle.names.proofs.Acts.{one-item, two_items, three-items, more-items, two-hold, three-hold, one-judged, two-judged, three-judged}
use mathlib.Core.Path.{sym, ◌∙◌}
use native.Mathlib.Omega.{arith}
use Rattle.names.proofs.walk.channel_fault.Goals as goal

pub offset_bounds-context-root : goal.offset_bounds-context-root
offset_bounds-context-root c =
    omega (arith, root_in c.requires.0.0.setting.world, c.requires.1)

pub bounds-context-root : goal.bounds-context-root
bounds-context-root c =
    omega (arith, root_in c.requires.0.0.setting.world, c.requires.1)

pub item_fault-requires : goal.item_fault-requires
item_fault-requires c =
    (c.requires.0.0, c.requires.1)

pub returns-then-kind-lt-TWO_ITEMS : goal.returns-then-kind-lt-TWO_ITEMS
returns-then-kind-lt-TWO_ITEMS c =
    λ h x hx.
    let p = one-item c.args.context.now.nodes.now x c.args.from c.args.root (omega (arith, c.kind_of-kind.ensures, c.if-kind-lt-TWO_ITEMS.true)) hx in
    one-judged c.args.context.now.nodes.now h.setting.world.word (faults_at h.setting) x c.args.from c.args.root p c.item_fault.result (c.item_fault.ensures h p.item p.holds)

pub item_fault-first-requires : goal.item_fault-first-requires
item_fault-first-requires c =
    (c.requires.0.0, omega (arith, more-items c.args.context.now.nodes.now c.requires.0.1 c.args.from c.args.root (λ q. omega (arith, c.kind_of-kind.ensures, c.if-kind-lt-TWO_ITEMS.false)) c.requires.0.2, c.left_of-left.ensures, c.requires.1))

pub overflow_add-left : goal.overflow_add-left
overflow_add-left c =
    omega (arith, more-items c.args.context.now.nodes.now c.requires.0.1 c.args.from c.args.root (λ q. omega (arith, c.kind_of-kind.ensures, c.if-kind-lt-TWO_ITEMS.false)) c.requires.0.2, c.left_of-left.ensures, root_in c.requires.0.0.setting.world, c.requires.1)

pub overflow_sub-root : goal.overflow_sub-root
overflow_sub-root c =
    omega (arith, more-items c.args.context.now.nodes.now c.requires.0.1 c.args.from c.args.root (λ q. omega (arith, c.kind_of-kind.ensures, c.if-kind-lt-TWO_ITEMS.false)) c.requires.0.2)

pub item_fault-last-requires : goal.item_fault-last-requires
item_fault-last-requires c =
    (c.requires.0.0, omega (arith, c.requires.1))

pub returns-then-kind-eq-TWO_ITEMS : goal.returns-then-kind-eq-TWO_ITEMS
returns-then-kind-eq-TWO_ITEMS c =
    λ h x hx.
    let p = two_items c.args.context.now.nodes.now x c.args.from c.args.root (sym c.kind_of-kind.ensures ∙ c.if-kind-eq-TWO_ITEMS.true) hx in
    let q = two-hold c.args.context.now.nodes.now x c.args.from c.args.root p c.left_of-left.result c.left_of-left.ensures in
    two-judged c.args.context.now.nodes.now h.setting.world.word (faults_at h.setting) x c.args.from c.args.root p c.item_fault-first.result c.item_fault-last.result c.earlier.result (c.item_fault-first.ensures h p.first q.0) (c.item_fault-last.ensures h p.last q.1) c.earlier.ensures

pub overflow_add-left-2 : goal.overflow_add-left-2
overflow_add-left-2 c =
    omega (arith, more-items c.args.context.now.nodes.now c.requires.0.1 c.args.from c.args.root (λ q. omega (arith, c.kind_of-kind.ensures, c.if-kind-lt-TWO_ITEMS.false)) c.requires.0.2, c.left_of-left.ensures, root_in c.requires.0.0.setting.world, c.requires.1)

pub item_fault-second-requires : goal.item_fault-second-requires
item_fault-second-requires c =
    let p = three-items c.args.context.now.nodes.now c.requires.0.1 c.args.from c.args.root (λ q. omega (arith, c.kind_of-kind.ensures, c.if-kind-lt-TWO_ITEMS.false)) (λ q. c.if-kind-eq-TWO_ITEMS.false (c.kind_of-kind.ensures ∙ q)) c.requires.0.2 in
    (c.requires.0.0, omega (arith, p.above, c.third_of-mid.ensures, c.requires.1))

pub overflow_add-mid : goal.overflow_add-mid
overflow_add-mid c =
    let p = three-items c.args.context.now.nodes.now c.requires.0.1 c.args.from c.args.root (λ q. omega (arith, c.kind_of-kind.ensures, c.if-kind-lt-TWO_ITEMS.false)) (λ q. c.if-kind-eq-TWO_ITEMS.false (c.kind_of-kind.ensures ∙ q)) c.requires.0.2 in
    omega (arith, p.above, c.third_of-mid.ensures, root_in c.requires.0.0.setting.world, c.requires.1)

pub overflow_sub-root-2 : goal.overflow_sub-root-2
overflow_sub-root-2 c =
    let p = three-items c.args.context.now.nodes.now c.requires.0.1 c.args.from c.args.root (λ q. omega (arith, c.kind_of-kind.ensures, c.if-kind-lt-TWO_ITEMS.false)) (λ q. c.if-kind-eq-TWO_ITEMS.false (c.kind_of-kind.ensures ∙ q)) c.requires.0.2 in
    omega (arith, p.above)

pub item_fault-last-requires-2 : goal.item_fault-last-requires-2
item_fault-last-requires-2 c =
    (c.requires.0.0, omega (arith, c.requires.1))

pub returns : goal.returns
returns c =
    λ h x hx.
    let p = three-items c.args.context.now.nodes.now x c.args.from c.args.root (λ q. omega (arith, c.kind_of-kind.ensures, c.if-kind-lt-TWO_ITEMS.false)) (λ q. c.if-kind-eq-TWO_ITEMS.false (c.kind_of-kind.ensures ∙ q)) hx in
    let q = three-hold c.args.context.now.nodes.now x c.args.from c.args.root p c.left_of-left.result c.third_of-mid.result c.left_of-left.ensures c.third_of-mid.ensures in
    three-judged c.args.context.now.nodes.now h.setting.world.word (faults_at h.setting) x c.args.from c.args.root p c.item_fault-first.result c.item_fault-second.result c.item_fault-last-2.result c.earlier-2.result c.earlier-3.result (c.item_fault-first.ensures h p.first q.0) (c.item_fault-second.ensures h p.second q.1) (c.item_fault-last-2.ensures h p.last q.2) c.earlier-2.ensures c.earlier-3.ensures
