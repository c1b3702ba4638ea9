use Rattle.std.proofs.Common.{refl, sym, subst, ◌∙◌}
use Rattle.dynamo_record.proofs.Common.{err_from_is_err_and, into_iter_items}
use Rattle.dynamo_de.specs.declared.ignored_any.IgnoredAny.{IgnoredAny}
use Rattle.dynamo_record.specs.Held.{Holds}
use Rattle.dynamo_record.proofs.HeldStructs.{Leads, leads_on, leads_fails, leads_end, none_left}
use Rattle.dynamo_record.proofs.held.ignore_held.Goals as goal

pub loop-name-init : goal.loop-name-init
loop-name-init g c = λ es h. (es, subst (λ ps. Holds g.D.Reader.source ps es) (sym c.into_iter-name-iterator.ensures.into_iter_gives.0) h, refl)

pub loop-name-preserved : goal.loop-name-preserved
loop-name-preserved g c = λ es h.
    let left = into_iter_items c.next.new.self in
    let now = subst (λ ps. Leads g.D.Reader.source ps es) c.in-Some.ensures.steps.0 (c.loop-name.invariant es h) in
    leads_on g.D.Reader.source (c.in-Some._name, c.in-Some.value) left es IgnoredAny c.in_ok-deserialize.field-0 now c.in_ok-deserialize.ensures

pub returns-in_err-deserialize : goal.returns-in_err-deserialize
returns-in_err-deserialize g c = λ es h.
    let left = into_iter_items c.next.new.self in
    let now = subst (λ ps. Leads g.D.Reader.source ps es) c.in-Some.ensures.steps.0 (c.loop-name.invariant es h) in
    let p = err_from_is_err_and c.from_residual.result c.from_residual.ensures.1 in
    rw (p.1, p.2) (leads_fails g.D.Reader.source (c.in-Some._name, c.in-Some.value) left es IgnoredAny g.D.Error.Error.fault c.in_err-deserialize.field-0.0 now c.in_err-deserialize.ensures)

pub returns : goal.returns
returns g c = λ es h.
    let left = c.loop-name._name-iterator.rest in
    let none = none_left left.items (sym left.ok.0 ∙ c.in-None.ensures.steps.0) in
    leads_end g.D.Reader.source es (subst (λ ps. Leads g.D.Reader.source ps es) none (c.loop-name.invariant es h))
