use Rattle.grammar.specs.Syntax
use Rattle.names.specs.Walks.{items}
use Rattle.names.proofs.Settled.{root_in}
use Rattle.names.proofs.Parts.{TwoKinds, two-first, two-last, split-of, split_at, inner_of, gated-of, stopped-of, dotted-of, called_of}
use Rattle.names.proofs.Walking.{inner-inside, split-room, split-judged, inner_room, inner-judged, ungated, gated-room, gated-judged, stopped-room, stopped-judged, dotted-room, inner-place, next-room, dotted-judged, called-judged}
use mathlib.Core.Path.{sym, ◌∙◌}
use native.Mathlib.Omega.{arith}
use Rattle.names.proofs.walk.+part_fault.Goals as goal
use Rattle.names.proofs.walk.+part_fault.Goals.{in-48-1, in_default+else-this-lt53+then-this-lt56, in_default-via-then-this-lt53, in_default-via-else-this-lt53+else-this-lt56}

pub offset_bounds-context-root : goal.offset_bounds-context-root
offset_bounds-context-root t c =
    omega (arith, root_in c.requires.0.0.setting.world, c.requires.1)

pub bounds-context-root : goal.bounds-context-root
bounds-context-root t c =
    omega (arith, root_in c.requires.0.0.setting.world, c.requires.1)

pub part_fault-requires : goal.part_fault-requires
part_fault-requires t c =
    let s = (inner_of c.args.context.now.nodes.now c.requires.0.1 c.args.part.from c.args.part.root (rw c.kind_of.ensures at c.in-49.is) c.requires.0.2) in
    (omega (arith, s.above, c.decreases), ((c.requires.0.0, s.part, s.holds, inner_room c.requires.0.0 c.args.part.before c.requires.0.1 c.args.part.from c.args.part.root s c.requires.0.3), omega (arith, s.above, c.requires.1)))

pub overflow_add-left : goal.overflow_add-left
overflow_add-left t c =
    omega (arith, (gated-of c.args.context.now.nodes.now c.requires.0.1 c.args.part.from c.args.part.root (sym c.kind_of.ensures ∙ c.in-47.is) c.requires.0.2).below, c.left_of-left.ensures, c.requires.1, root_in c.requires.0.0.setting.world)

pub leaves_fault-gate-requires : goal.leaves_fault-gate-requires
leaves_fault-gate-requires t c =
    (c.requires.0.0.setting, omega (arith, (gated-of c.args.context.now.nodes.now c.requires.0.1 c.args.part.from c.args.part.root (sym c.kind_of.ensures ∙ c.in-47.is) c.requires.0.2).below, c.left_of-left.ensures, c.requires.1))

pub part_fault-offer-requires : goal.part_fault-offer-requires
part_fault-offer-requires t c =
    let s = (gated-of c.args.context.now.nodes.now c.requires.0.1 c.args.part.from c.args.part.root (sym c.kind_of.ensures ∙ c.in-47.is) c.requires.0.2) in
    (omega (arith, s.below, c.decreases), ((c.requires.0.0, ungated c.requires.0.0 s, rw c.left_of-left.ensures s.holds, gated-room c.requires.0.0 c.args.part.before c.requires.0.1 c.args.part.from c.args.part.root s c.requires.0.3), omega (arith, s.below, c.requires.1)))

pub offer_fault-requires : goal.offer_fault-requires
offer_fault-requires t c =
    let s = (stopped-of c.args.context.now.nodes.now c.requires.0.1 c.args.part.from c.args.part.root (sym c.kind_of.ensures ∙ c.in-45.is) c.requires.0.2) in
    ((c.requires.0.0, s.action, s.holds-action, stopped-room c.requires.0.0 c.args.part.before c.requires.0.1 c.args.part.from c.args.part.root s c.requires.0.3), omega (arith, s.below, c.requires.1), omega (arith, s.below, c.requires.1))

pub offer_fault-offer-requires : goal.offer_fault-offer-requires
offer_fault-offer-requires t c =
    let s = (dotted-of c.args.context.now.nodes.now c.requires.0.1 c.args.part.from c.args.part.root (sym c.kind_of.ensures ∙ c.in-46.is) c.requires.0.2) in
    ((c.requires.0.0, s.action, s.holds-action, dotted-room c.requires.0.0 c.args.part.before c.requires.0.1 c.args.part.from c.args.part.root s c.requires.0.3), omega (arith, s.below.0, s.below.1, c.requires.1), omega (arith, s.below.1, c.requires.1, c.third_of-rate.ensures))

pub inner_scope-inner-requires : goal.inner_scope-inner-requires
inner_scope-inner-requires t c =
    let s = (dotted-of c.args.context.now.nodes.now c.requires.0.1 c.args.part.from c.args.part.root (sym c.kind_of.ensures ∙ c.in-46.is) c.requires.0.2) in
    (omega (arith, s.below.0, s.below.1, c.requires.1, c.left_of-left.ensures, root_in c.requires.0.0.setting.world), inner-inside c.requires.0.0.setting s.action c.args.part.from c.left_of-left.result (rw c.left_of-left.ensures s.holds-action) (omega (arith, s.below.0, s.below.1, c.requires.1, c.left_of-left.ensures)))

pub part_fault-next-requires : goal.part_fault-next-requires
part_fault-next-requires t c =
    rw c.within.ensures (let s = (dotted-of c.args.context.now.nodes.now c.requires.0.1 c.args.part.from c.args.part.root (sym c.kind_of.ensures ∙ c.in-46.is) c.requires.0.2) in
    (omega (arith, s.below.1, c.decreases), ((inner-place c.requires.0.0 c.args.part.before c.requires.0.1 c.args.part.from c.args.part.root (dotted-of c.args.context.now.nodes.now c.requires.0.1 c.args.part.from c.args.part.root (sym c.kind_of.ensures ∙ c.in-46.is) c.requires.0.2) (omega (arith, c.requires.1)) c.left_of-left.result c.left_of-left.ensures c.inner_scope-inner.result c.inner_scope-inner.ensures c.requires.0.3, items (Syntax.last_cont s.cont), rw c.third_of-rate.ensures s.holds, next-room c.requires.0.0 c.args.part.before c.requires.0.1 c.args.part.from c.args.part.root (dotted-of c.args.context.now.nodes.now c.requires.0.1 c.args.part.from c.args.part.root (sym c.kind_of.ensures ∙ c.in-46.is) c.requires.0.2) (omega (arith, c.requires.1)) c.left_of-left.result c.left_of-left.ensures c.inner_scope-inner.result c.inner_scope-inner.ensures c.requires.0.3), omega (arith, s.below.1, c.requires.1))))

pub calling_fault-requires : goal.calling_fault-requires
calling_fault-requires t c =
    let s = (called_of c.args.context.now.nodes.now c.requires.0.1 c.args.part.from c.args.part.root (λ e. c.in_default-1.rest.0.0.0.0.1 (c.kind_of.ensures ∙ e)) (λ l. elim c.in_default.branch [ in_default-via-then-this-lt53 w ↦ absurd (omega (arith, l, c.kind_of.ensures)) | in_default-via-else-this-lt53+else-this-lt56 w ↦ omega (arith, l, c.kind_of.ensures) ]) (λ e. c.in_default-1.rest.0.0.0.1 (rw (← c.kind_of.ensures) at e)) (λ e. c.in_default-1.rest.0.0.1 (c.kind_of.ensures ∙ e)) (λ e. c.in_default-1.rest.0.1 (c.kind_of.ensures ∙ e)) (λ e. c.in_default-1.rest.1 (c.kind_of.ensures ∙ e)) c.requires.0.2) in
    ((c.requires.0.0.setting, s.name, s.args, s.holds), omega (arith, c.requires.1))

pub part_fault-first-requires : goal.part_fault-first-requires
part_fault-first-requires t c =
    let two : TwoKinds c.args.context.now.nodes.now c.kind_of.result = elim c.in-48-1.branch [ in-48-1 w ↦ two-first c.args.context.now.nodes.now c.kind_of.result (omega arith) | in_default+else-this-lt53+then-this-lt56 w ↦ two-last c.args.context.now.nodes.now c.kind_of.result (omega arith) w.in_default-1.rest.0.0.0.1 ] in
    let s = (split-of c.args.context.now.nodes.now c.requires.0.1 c.args.part.from c.args.part.root (rw c.kind_of.ensures at two) c.requires.0.2) in
    (omega (arith, s.below, c.left_of-left.ensures, c.decreases), ((c.requires.0.0, s.first, (split_at c.args.context.now.nodes.now c.requires.0.1 c.args.part.from c.args.part.root s c.left_of-left.result c.left_of-left.ensures).0, (split-room c.requires.0.0 c.args.part.before c.requires.0.1 c.args.part.from c.args.part.root s c.requires.0.3).0), omega (arith, s.below, c.left_of-left.ensures, c.requires.1)))

pub part_fault-others-requires : goal.part_fault-others-requires
part_fault-others-requires t c =
    let two : TwoKinds c.args.context.now.nodes.now c.kind_of.result = elim c.in-48-1.branch [ in-48-1 w ↦ two-first c.args.context.now.nodes.now c.kind_of.result (omega arith) | in_default+else-this-lt53+then-this-lt56 w ↦ two-last c.args.context.now.nodes.now c.kind_of.result (omega arith) w.in_default-1.rest.0.0.0.1 ] in
    let s = (split-of c.args.context.now.nodes.now c.requires.0.1 c.args.part.from c.args.part.root (rw c.kind_of.ensures at two) c.requires.0.2) in
    (omega (arith, s.below, c.decreases), ((c.requires.0.0, s.second, (split_at c.args.context.now.nodes.now c.requires.0.1 c.args.part.from c.args.part.root s c.left_of-left.result c.left_of-left.ensures).1, (split-room c.requires.0.0 c.args.part.before c.requires.0.1 c.args.part.from c.args.part.root s c.requires.0.3).1), omega (arith, s.below, c.requires.1)))

pub returns-in-49 : goal.returns-in-49
returns-in-49 t c =
    λ h p o room. let s = (inner_of c.args.context.now.nodes.now p c.args.part.from c.args.part.root (rw c.kind_of.ensures at c.in-49.is) o) in
    inner-judged h c.args.part.before p c.args.part.from c.args.part.root s c.part_fault.result (c.part_fault.ensures h s.part s.holds (inner_room h c.args.part.before p c.args.part.from c.args.part.root s room))

pub returns-in-47 : goal.returns-in-47
returns-in-47 t c =
    λ h p o room. let s = (gated-of c.args.context.now.nodes.now p c.args.part.from c.args.part.root (sym c.kind_of.ensures ∙ c.in-47.is) o) in
    gated-judged h c.args.part.before p c.args.part.from c.args.part.root s c.left_of-left.result c.left_of-left.ensures c.leaves_fault-gate.result c.part_fault-offer.result c.earlier.result (c.leaves_fault-gate.ensures h.setting) (c.part_fault-offer.ensures h (ungated h s) (rw c.left_of-left.ensures s.holds) (gated-room h c.args.part.before p c.args.part.from c.args.part.root s room)) c.earlier.ensures

pub returns-in-45 : goal.returns-in-45
returns-in-45 t c =
    λ h p o room. let s = (stopped-of c.args.context.now.nodes.now p c.args.part.from c.args.part.root (sym c.kind_of.ensures ∙ c.in-45.is) o) in
    stopped-judged h c.args.part.before p c.args.part.from c.args.part.root s c.offer_fault.result (c.offer_fault.ensures h s.action s.rate s.holds-action s.holds-rate (stopped-room h c.args.part.before p c.args.part.from c.args.part.root s room))

pub returns-in-46 : goal.returns-in-46
returns-in-46 t c =
    λ h p o room. let s = (dotted-of c.args.context.now.nodes.now p c.args.part.from c.args.part.root (sym c.kind_of.ensures ∙ c.in-46.is) o) in
    dotted-judged h c.args.part.before p c.args.part.from c.args.part.root (dotted-of c.args.context.now.nodes.now p c.args.part.from c.args.part.root (sym c.kind_of.ensures ∙ c.in-46.is) o) (omega (arith, c.requires.1)) c.left_of-left.result c.left_of-left.ensures c.inner_scope-inner.result c.inner_scope-inner.ensures room c.offer_fault-offer.result c.part_fault-next.result c.earlier-in-46.result (c.offer_fault-offer.ensures h s.action s.rate s.holds-action (rw c.third_of-rate.ensures s.holds-rate) (dotted-room h c.args.part.before p c.args.part.from c.args.part.root s room)) ((rw c.within.ensures at c.part_fault-next.ensures) (inner-place h c.args.part.before p c.args.part.from c.args.part.root (dotted-of c.args.context.now.nodes.now p c.args.part.from c.args.part.root (sym c.kind_of.ensures ∙ c.in-46.is) o) (omega (arith, c.requires.1)) c.left_of-left.result c.left_of-left.ensures c.inner_scope-inner.result c.inner_scope-inner.ensures room) (items (Syntax.last_cont s.cont)) (rw c.third_of-rate.ensures s.holds) (next-room h c.args.part.before p c.args.part.from c.args.part.root (dotted-of c.args.context.now.nodes.now p c.args.part.from c.args.part.root (sym c.kind_of.ensures ∙ c.in-46.is) o) (omega (arith, c.requires.1)) c.left_of-left.result c.left_of-left.ensures c.inner_scope-inner.result c.inner_scope-inner.ensures room)) c.earlier-in-46.ensures

pub returns-in_default : goal.returns-in_default
returns-in_default t c =
    λ h p o room. let s = (called_of c.args.context.now.nodes.now p c.args.part.from c.args.part.root (λ e. c.in_default-1.rest.0.0.0.0.1 (c.kind_of.ensures ∙ e)) (λ l. elim c.in_default.branch [ in_default-via-then-this-lt53 w ↦ absurd (omega (arith, l, c.kind_of.ensures)) | in_default-via-else-this-lt53+else-this-lt56 w ↦ omega (arith, l, c.kind_of.ensures) ]) (λ e. c.in_default-1.rest.0.0.0.1 (rw (← c.kind_of.ensures) at e)) (λ e. c.in_default-1.rest.0.0.1 (c.kind_of.ensures ∙ e)) (λ e. c.in_default-1.rest.0.1 (c.kind_of.ensures ∙ e)) (λ e. c.in_default-1.rest.1 (c.kind_of.ensures ∙ e)) o) in
    called-judged h c.args.part.before p c.args.part.from c.args.part.root s c.calling_fault.result (c.calling_fault.ensures h.setting s.name s.args s.holds)

pub returns-in-48 : goal.returns-in-48
returns-in-48 t c =
    λ h p o room. let two : TwoKinds c.args.context.now.nodes.now c.kind_of.result = elim c.in-48-1.branch [ in-48-1 w ↦ two-first c.args.context.now.nodes.now c.kind_of.result (omega arith) | in_default+else-this-lt53+then-this-lt56 w ↦ two-last c.args.context.now.nodes.now c.kind_of.result (omega arith) w.in_default-1.rest.0.0.0.1 ] in
    let s = (split-of c.args.context.now.nodes.now p c.args.part.from c.args.part.root (rw c.kind_of.ensures at two) o) in
    split-judged h c.args.part.before p c.args.part.from c.args.part.root s c.part_fault-first.result c.part_fault-others.result c.earlier-in-48.result (c.part_fault-first.ensures h s.first (split_at c.args.context.now.nodes.now p c.args.part.from c.args.part.root s c.left_of-left.result c.left_of-left.ensures).0 (split-room h c.args.part.before p c.args.part.from c.args.part.root s room).0) (c.part_fault-others.ensures h s.second (split_at c.args.context.now.nodes.now p c.args.part.from c.args.part.root s c.left_of-left.result c.left_of-left.ensures).1 (split-room h c.args.part.before p c.args.part.from c.args.part.root s room).1) c.earlier-in-48.ensures

pub overflow_sub-inner : goal.overflow_sub-inner
overflow_sub-inner t c =
    omega (arith, (inner_of c.args.context.now.nodes.now c.requires.0.1 c.args.part.from c.args.part.root (rw c.kind_of.ensures at c.in-49.is) c.requires.0.2).above)

pub overflow_sub-rest : goal.overflow_sub-rest
overflow_sub-rest t c =
    omega (arith, (gated-of c.args.context.now.nodes.now c.requires.0.1 c.args.part.from c.args.part.root (sym c.kind_of.ensures ∙ c.in-47.is) c.requires.0.2).below)

pub overflow_sub-own : goal.overflow_sub-own
overflow_sub-own t c =
    omega (arith, (stopped-of c.args.context.now.nodes.now c.requires.0.1 c.args.part.from c.args.part.root (sym c.kind_of.ensures ∙ c.in-45.is) c.requires.0.2).below)

pub overflow_add-rest-in-46 : goal.overflow_add-rest-in-46
overflow_add-rest-in-46 t c =
    omega (arith, (dotted-of c.args.context.now.nodes.now c.requires.0.1 c.args.part.from c.args.part.root (sym c.kind_of.ensures ∙ c.in-46.is) c.requires.0.2).below.1, c.third_of-rate.ensures, c.requires.1, root_in c.requires.0.0.setting.world)

pub overflow_sub-rest-in-46 : goal.overflow_sub-rest-in-46
overflow_sub-rest-in-46 t c =
    omega (arith, (dotted-of c.args.context.now.nodes.now c.requires.0.1 c.args.part.from c.args.part.root (sym c.kind_of.ensures ∙ c.in-46.is) c.requires.0.2).below.1)

pub overflow_add-rest-in-48 : goal.overflow_add-rest-in-48
overflow_add-rest-in-48 t c =
    let two : TwoKinds c.args.context.now.nodes.now c.kind_of.result = elim c.in-48-1.branch [ in-48-1 w ↦ two-first c.args.context.now.nodes.now c.kind_of.result (omega arith) | in_default+else-this-lt53+then-this-lt56 w ↦ two-last c.args.context.now.nodes.now c.kind_of.result (omega arith) w.in_default-1.rest.0.0.0.1 ] in
    omega (arith, c.requires.1, (split-of c.args.context.now.nodes.now c.requires.0.1 c.args.part.from c.args.part.root (rw c.kind_of.ensures at two) c.requires.0.2).below, root_in c.requires.0.0.setting.world)

pub overflow_add-rest-in-48-2 : goal.overflow_add-rest-in-48-2
overflow_add-rest-in-48-2 t c =
    let two : TwoKinds c.args.context.now.nodes.now c.kind_of.result = elim c.in-48-1.branch [ in-48-1 w ↦ two-first c.args.context.now.nodes.now c.kind_of.result (omega arith) | in_default+else-this-lt53+then-this-lt56 w ↦ two-last c.args.context.now.nodes.now c.kind_of.result (omega arith) w.in_default-1.rest.0.0.0.1 ] in
    omega (arith, c.requires.1, (split-of c.args.context.now.nodes.now c.requires.0.1 c.args.part.from c.args.part.root (rw c.kind_of.ensures at two) c.requires.0.2).below, c.left_of-left.ensures, root_in c.requires.0.0.setting.world)

pub overflow_sub-rest-in-48 : goal.overflow_sub-rest-in-48
overflow_sub-rest-in-48 t c =
    let two : TwoKinds c.args.context.now.nodes.now c.kind_of.result = elim c.in-48-1.branch [ in-48-1 w ↦ two-first c.args.context.now.nodes.now c.kind_of.result (omega arith) | in_default+else-this-lt53+then-this-lt56 w ↦ two-last c.args.context.now.nodes.now c.kind_of.result (omega arith) w.in_default-1.rest.0.0.0.1 ] in
    omega (arith, (split-of c.args.context.now.nodes.now c.requires.0.1 c.args.part.from c.args.part.root (rw c.kind_of.ensures at two) c.requires.0.2).below)

pub overflow_add-rest : goal.overflow_add-rest
overflow_add-rest t c =
    omega (arith, (gated-of c.args.context.now.nodes.now c.requires.0.1 c.args.part.from c.args.part.root (sym c.kind_of.ensures ∙ c.in-47.is) c.requires.0.2).below, c.left_of-left.ensures, c.requires.1, root_in c.requires.0.0.setting.world)
